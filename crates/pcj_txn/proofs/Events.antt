-- What is due, and what its event tells.
use Rattle.std.proofs.Common.{◌≡◌, ◌⊎◌, inl, inr, ℕ, Bool, true, false, cond, ◌&&◌, not, nat_le, nat_lt, is_some, List, [], ◌∷◌, slice_get, Option, Some, None, refl, ap, sym, subst, ◌∙◌}
use Rattle.std.proofs.lemmas.Bool.{lt-ltb, leb-false}
use Rattle.pcj_table.specs.declared.mutated.Mutated.{Mutated}
use Rattle.pcj_table.specs.declared.mutated.Mutated.TheVariants.{Applied, Rejected}
use Rattle.pcj_table.specs.declared.row.Row.{Row}
use Rattle.pcj_table.specs.declared.version.Version.{Version}
use Rattle.pcj_table.specs.declared.write.Write.{Write}
use Rattle.pcj_table.specs.declared.cond.Cond.TheVariants.{NoLock, NoVersionFrom}
use Rattle.pcj_table.specs.Row.{newest, are_below, conds_hold, is_locked_at}
use Rattle.pcj_table.specs.Table.{Table, row_at}
use Rattle.pcj_mvcc.specs.Acts.{commit_act}
use Rattle.pcj_mvcc.specs.Reading.{CarriesOut}
use Rattle.pcj_txn.specs.Progress.{Progress, CommitPrimary, CommitSecondary, due, due_of, due_last}
use Rattle.pcj_txn.specs.Steps.{versions_from, LosesPrimary, Settles, IsSettled}

and_true : (b : Bool) → (b && true) ≡ false → b ≡ false
and_true true e = e
and_true false e = refl

pub due_next : (old : Progress) (commit : ℕ) (write : Write) → old.transaction.commit ≡ Some commit → old.transaction.committed ≡ true →
    slice_get old.transaction.writes old.settled ≡ Some write → due old ≡ CommitSecondary write commit
due_next old commit write drawn committed is =
    ap (λ (c : Option ℕ). due_of old.transaction.writes old.transaction.prewritten c old.transaction.committed old.settled) drawn
    ∙ ap (λ (b : Bool). due_of old.transaction.writes old.transaction.prewritten (Some commit) b old.settled) committed
    ∙ ap (λ (w : Option Write). due_last w commit) is

-- the commit of a row after the primary's, whatever came of it
pub settled : (old : Progress) (table table' : Table) (commit : ℕ) (write : Write) (done : Mutated) → due old ≡ CommitSecondary write commit →
    CarriesOut table write.key (commit_act write old.start commit) done table' → Settles old table table' ⊎ IsSettled old table table'
settled old table table' commit write Applied is made = inl (record { write = write; commit = commit; due = is; allowed = made.0; acts = made.1 })
settled old table table' commit write (Rejected row) is left =
    inr (record { write = write; commit = commit; due = is; unlocked = and_true (is_locked_at old.start (row_at table write.key).lock) left.0; same = left.2 })

-- the primary's commit was turned away
pub loses : (old : Progress) (table table' : Table) (commit : ℕ) (write : Write) (row : Row) → due old ≡ CommitPrimary write commit →
    CarriesOut table write.key (commit_act write old.start commit) (Rejected row) table' → LosesPrimary old table row
loses old table table' commit write row is left = record {
  write = write;
  commit = commit;
  due = is;
  is = left.1;
  unlocked = subst (λ (r : Row). is_locked_at old.start r.lock ≡ false) (sym left.1) (and_true (is_locked_at old.start (row_at table write.key).lock) left.0);
}

newest_some : (version : Version) (versions : List Version) → newest (version ∷ versions) ≡ None → ⊥
newest_some version [] e = absurd cc
newest_some version (next ∷ versions) e = newest_some next versions e

below_none : (at : ℕ) (versions : List Version) → newest (versions_from at versions) ≡ None → are_below at versions ≡ true
below_none at [] e = refl
below_none at (version ∷ versions) e = by (nat_le at version.commit) refl (below_none at versions) e
  where
    by : (b : Bool) → nat_le at version.commit ≡ b → (newest (versions_from at versions) ≡ None → are_below at versions ≡ true) → newest (cond b (version ∷ versions_from at versions) (versions_from at versions)) ≡ None →
        (nat_lt version.commit at && are_below at versions) ≡ true
    by true is others none = absurd (newest_some version (versions_from at versions) none)
    by false is others none = rw (lt-ltb version.commit at (leb-false at version.commit is), others none) refl

-- a prewrite that is turned away met a lock, or a version of its start or later
pub refused : (start : ℕ) (row : Row) → conds_hold row (NoLock ∷ NoVersionFrom start ∷ []) ≡ false → row.lock ≡ None → newest (versions_from start row.versions) ≡ None → ⊥
refused start row turned unlocked none =
    let allowed : (not (is_some row.lock) && (are_below start row.versions && true)) ≡ true = rw (unlocked, below_none start row.versions none) refl in
    absurd (let both : true ≡ false = sym allowed ∙ turned in cc)
