-- What each act of a transaction asks of its row, and what it does there (Percolator, OSDI 2010, section 2.2).
use Rattle.std.specs.Prelude.{ℕ, [], ◌∷◌}
use Rattle.pcj_table.specs.declared.lock.Lock.{Lock}
use Rattle.pcj_table.specs.declared.version.Version.{Version}
use Rattle.pcj_table.specs.declared.write.Write.{Write}
use Rattle.pcj_table.specs.declared.cond.Cond.TheVariants.{NoLock, LockIs, NoVersionFrom}
use Rattle.pcj_table.specs.declared.update.Update.TheVariants.{SetLock, DropLock, AddVersion}
use Rattle.pcj_table.specs.Table.{Key}
use Rattle.pcj_mvcc.specs.declared.act.Act.{Act}

-- the lock of a write
abbrev pub lock_of : Write → ℕ → Key → Lock
lock_of write start primary = record { start = start; primary = primary; value = write.value }

-- what a lock becomes at a commit
abbrev pub version_of : Lock → ℕ → Version
version_of lock commit = record { commit = commit; start = lock.start; value = lock.value }

abbrev pub prewrite_act : Write → ℕ → Key → Act
prewrite_act write start primary = record {
  conds = NoLock ∷ NoVersionFrom start ∷ [];
  updates = SetLock (lock_of write start primary) ∷ [];
}

-- a version comes in place of the lock of its start
abbrev pub replace_lock_act : Version → Act
replace_lock_act version = record {
  conds = LockIs version.start ∷ [];
  updates = DropLock ∷ AddVersion version ∷ [];
}

abbrev pub commit_act : Write → ℕ → ℕ → Act
commit_act write start commit = replace_lock_act (record { commit = commit; start = start; value = write.value })

abbrev pub roll_forward_act : Lock → ℕ → Act
roll_forward_act lock commit = replace_lock_act (version_of lock commit)

abbrev pub roll_back_act : ℕ → Act
roll_back_act start = record { conds = LockIs start ∷ []; updates = DropLock ∷ [] }
