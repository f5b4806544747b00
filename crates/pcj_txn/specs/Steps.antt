-- What each event of a transaction tells of the rows that it met, and what it leaves (Percolator, OSDI 2010, section
-- 2.2).
use Rattle.std.specs.Prelude.{◌≡◌, ◌⊎◌, ℕ, Bool, true, false, nat_le, List, filter, Option, Some, None}
use Rattle.std.specs.Option.{option_map}
use Rattle.pcj_table.specs.declared.lock.Lock.{Lock}
use Rattle.pcj_table.specs.declared.version.Version.{Version}
use Rattle.pcj_table.specs.declared.row.Row.{Row}
use Rattle.pcj_table.specs.declared.write.Write.{Write}
use Rattle.pcj_table.specs.Row.{newest, is_locked_at}
use Rattle.pcj_table.specs.Table.{Key, Table, row_at}
use Rattle.pcj_oracle.specs.declared.block.Block.{Block}
use Rattle.pcj_oracle.specs.Clock.{next_number}
use Rattle.pcj_oracle.specs.Draw.{IsNumber, Grants}
use Rattle.pcj_mvcc.specs.declared.act.Act.{Act}
use Rattle.pcj_mvcc.specs.Acts.{prewrite_act, commit_act}
use Rattle.pcj_mvcc.specs.Reading.{acted, allows}
use Rattle.pcj_moves.specs.Transactions.{primary_of}
use Rattle.pcj_txn.specs.declared.event.TxnEvent.{TxnEvent}
use Rattle.pcj_txn.specs.declared.event.TxnEvent.TheVariants as event
use Rattle.pcj_txn.specs.Progress.{Progress, Due, Prewrite, Draw, CommitPrimary, CommitNone, CommitSecondary, End, due, one_prewritten, commit_drawn, none_committed, primary_committed, one_settled}

abbrev pub versions_from : ℕ → List Version → List Version
versions_from at versions = filter (λ version. nat_le at version.commit) versions

-- the commit of the newest version of this time or later
abbrev pub newest_from : ℕ → List Version → Option ℕ
newest_from at versions = option_map (λ version. version.commit) (newest (versions_from at versions))

-- the prewrite of a row: its lock names the first write's row
abbrev pub prewrite_of : Progress → Write → Act
prewrite_of progress write = prewrite_act write progress.start (primary_of progress.transaction)

-- the commit of a row
abbrev pub commit_of : Progress → Write → ℕ → Act
commit_of progress write commit = commit_act write progress.start commit

-- ---- which event a due step comes to

-- by the lock of the row, and the commit of its newest version of the start or later
abbrev pub prewrite_event : Key → Option Lock → Option ℕ → TxnEvent
prewrite_event key (Some lock) later = event.MetLock key lock
prewrite_event key None (Some commit) = event.Conflict key commit
prewrite_event key None None = event.Prewrote

-- by whether the primary's row has the lock of the start
abbrev pub primary_event : ℕ → Row → Bool → TxnEvent
primary_event commit row true = event.Committed commit
primary_event commit row false = event.PrimaryLost row

-- of each due step, by the start and by what is met
abbrev pub due_event : Due → ℕ → Option Block → Table → TxnEvent
due_event (Prewrite write) start oracle table = prewrite_event write.key (row_at table write.key).lock (newest_from start (row_at table write.key).versions)
due_event Draw start oracle table = event.DrewCommit (next_number oracle table)
due_event (CommitPrimary write commit) start oracle table = primary_event commit (row_at table write.key) (is_locked_at start (row_at table write.key).lock)
due_event (CommitNone commit) start oracle table = event.Committed commit
due_event (CommitSecondary write commit) start oracle table = event.SecondaryDone
due_event End start oracle table = event.Done

-- ---- what each event says

-- the next row allowed the prewrite, and has its lock
pub record Prewrites (old : Progress) (table : Table) (new : Progress) (table' : Table) : Type 0 where
  pub write : Write
  pub due : due old ≡ Prewrite write
  pub allowed : allows (prewrite_of old write) (row_at table write.key) ≡ true
  pub acts : row_at table' ≡ acted (row_at table) write.key (prewrite_of old write)
  pub next : new ≡ one_prewritten old

-- the next row has this lock
pub record MeetsLock (old : Progress) (table : Table) (key : Key) (lock : Lock) : Type 0 where
  pub write : Write
  pub due : due old ≡ Prewrite write
  pub of : key ≡ write.key
  pub locked : (row_at table key).lock ≡ Some lock

-- the next row has no lock, and a version of the start or later, the newest of which has this commit
pub record Conflicts (old : Progress) (table : Table) (key : Key) (commit : ℕ) : Type 0 where
  pub write : Write
  pub due : due old ≡ Prewrite write
  pub of : key ≡ write.key
  pub unlocked : (row_at table key).lock ≡ None
  pub later : newest_from old.start (row_at table key).versions ≡ Some commit

-- all rows are locked, and the next timestamp is the commit
pub record Draws (old : Progress) (oracle : Option Block) (table : Table) (commit : ℕ) (new : Progress) (oracle' : Option Block) (table' : Table) : Type 0 where
  pub due : due old ≡ Draw
  pub number : IsNumber commit oracle table oracle' table'
  pub grants : Grants oracle table commit oracle' table'
  pub next : new ≡ commit_drawn old commit

-- the primary's row had its lock, and has its version
pub record CommitsPrimary (old : Progress) (table : Table) (commit : ℕ) (new : Progress) (table' : Table) : Type 0 where
  pub write : Write
  pub due : due old ≡ CommitPrimary write commit
  pub allowed : allows (commit_of old write commit) (row_at table write.key) ≡ true
  pub acts : row_at table' ≡ acted (row_at table) write.key (commit_of old write commit)
  pub next : new ≡ primary_committed old

-- there is nothing to commit
pub record CommitsNone (old : Progress) (table : Table) (commit : ℕ) (new : Progress) (table' : Table) : Type 0 where
  pub due : due old ≡ CommitNone commit
  pub same : table' ≡ table
  pub next : new ≡ none_committed old

-- the primary's row is this one, and has no lock of the start
pub record LosesPrimary (old : Progress) (table : Table) (row : Row) : Type 0 where
  pub write : Write
  pub commit : ℕ
  pub due : due old ≡ CommitPrimary write commit
  pub is : row ≡ row_at table write.key
  pub unlocked : is_locked_at old.start row.lock ≡ false

-- another row had its lock, and has its version
pub record Settles (old : Progress) (table : Table) (table' : Table) : Type 0 where
  pub write : Write
  pub commit : ℕ
  pub due : due old ≡ CommitSecondary write commit
  pub allowed : allows (commit_of old write commit) (row_at table write.key) ≡ true
  pub acts : row_at table' ≡ acted (row_at table) write.key (commit_of old write commit)

-- another row has no lock of the start: its lock was made a version by whoever met it
pub record IsSettled (old : Progress) (table : Table) (table' : Table) : Type 0 where
  pub write : Write
  pub commit : ℕ
  pub due : due old ≡ CommitSecondary write commit
  pub unlocked : is_locked_at old.start (row_at table write.key).lock ≡ false
  pub same : table' ≡ table

-- ---- a step

-- the transaction and the table are as before
pub record Stays (old : Progress) (table : Table) (new : Progress) (table' : Table) : Type 0 where
  pub progress : new ≡ old
  pub rows : table' ≡ table

-- A step by what it tells.
abbrev pub Steps : Progress → Option Block → Table → TxnEvent → Progress → Option Block → Table → Type 0
Steps old oracle table event.Prewrote new oracle' table' = Prewrites old table new table' × (oracle' ≡ oracle)
Steps old oracle table (event.MetLock key lock) new oracle' table' = MeetsLock old table key lock × Stays old table new table' × (oracle' ≡ oracle)
Steps old oracle table (event.Conflict key commit) new oracle' table' = Conflicts old table key commit × Stays old table new table' × (oracle' ≡ oracle)
Steps old oracle table (event.DrewCommit commit) new oracle' table' = Draws old oracle table commit new oracle' table'
Steps old oracle table (event.Committed commit) new oracle' table' =
    (CommitsPrimary old table commit new table' ⊎ CommitsNone old table commit new table') × (oracle' ≡ oracle)
Steps old oracle table (event.PrimaryLost row) new oracle' table' = LosesPrimary old table row × Stays old table new table' × (oracle' ≡ oracle)
Steps old oracle table event.SecondaryDone new oracle' table' =
    (Settles old table table' ⊎ IsSettled old table table') × (new ≡ one_settled old) × (oracle' ≡ oracle)
Steps old oracle table event.Done new oracle' table' = (due old ≡ End) × Stays old table new table' × (oracle' ≡ oracle)

-- ---- the law

-- Each step tells the one event that what is due and what it meets allow.
abbrev pub OneEvent : Type 0
OneEvent = (old : Progress) (oracle : Option Block) (table : Table) (told : TxnEvent) (new : Progress) (oracle' : Option Block) (table' : Table) →
    Steps old oracle table told new oracle' table' → told ≡ due_event (due old) old.start oracle table
