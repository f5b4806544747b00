-- What each event of a recovery tells of the rows that it met, and what it leaves (Percolator, OSDI 2010, section 2.2).
use Rattle.std.specs.Prelude.{◌≡◌, ◌⊎◌, ℕ, true, false, Option, Some, None}
use Rattle.pcj_table.specs.declared.mutated.Mutated.{Mutated}
use Rattle.pcj_table.specs.Row.{is_locked_at}
use Rattle.pcj_table.specs.Table.{Key, Table, row_at}
use Rattle.pcj_mvcc.specs.Acts.{roll_forward_act, roll_back_act}
use Rattle.pcj_mvcc.specs.Reading.{Rows, acted, allows, committed, CarriesOut}
use Rattle.pcj_recover.specs.declared.event.RecoveryEvent.{RecoveryEvent}
use Rattle.pcj_recover.specs.declared.event.RecoveryEvent.TheVariants.{Working, RolledForward, RolledBack}
use Rattle.pcj_recover.specs.declared.primary.Primary.TheVariants.{Locked}
use Rattle.pcj_recover.specs.Progress.{Progress, Due, DropOwn, ReadPrimary, DropPrimary, RollForward, RollBack, due, primary_of, primary_seen, with_primary}

-- the commit of a recovery's transaction, where it is committed
abbrev pub commit_in : Rows → Progress → Option ℕ
commit_in rows progress = committed rows progress.recovery.lock.primary progress.recovery.lock.start

-- ---- what a step does

-- the primary has the lock of the start, which is taken away
pub record DropsLock (primary : Key) (start : ℕ) (table table' : Table) : Type 0 where
  pub allowed : allows (roll_back_act start) (row_at table primary) ≡ true
  pub acts : row_at table' ≡ acted (row_at table) primary (roll_back_act start)

-- the primary has no lock of the start
pub record FindsNoLock (primary : Key) (start : ℕ) (table table' : Table) : Type 0 where
  pub unlocked : is_locked_at start (row_at table primary).lock ≡ false
  pub same : table' ≡ table

-- The primary's lock is taken away, and there is no commit. Or it is gone, and the commit is that of the version of the
-- start, if there is one.
abbrev pub Drops : Key → ℕ → Table → Option ℕ → Table → Type 0
Drops primary start table commit table' =
    (DropsLock primary start table table' × (commit ≡ None)) ⊎ (FindsNoLock primary start table table' × (commit ≡ committed (row_at table) primary start))

-- the primary is read
pub record ReadsPrimary (old : Progress) (table : Table) (new : Progress) (table' : Table) : Type 0 where
  pub due : due old ≡ ReadPrimary
  pub found : new ≡ with_primary old (primary_seen (commit_in (row_at table) old) (is_locked_at old.recovery.lock.start (row_at table old.recovery.lock.primary).lock))
  pub same : table' ≡ table

-- the primary's lock is taken away
pub record DropsPrimary (old : Progress) (table : Table) (new : Progress) (table' : Table) : Type 0 where
  pub commit : Option ℕ
  pub due : due old ≡ DropPrimary
  pub drops : Drops old.recovery.lock.primary old.recovery.lock.start table commit table'
  pub found : new ≡ with_primary old (primary_of commit)

-- the row is its own primary, whose lock is taken away
pub record DropsOwn (old : Progress) (table : Table) (commit : Option ℕ) (table' : Table) : Type 0 where
  pub due : due old ≡ DropOwn
  pub drops : Drops old.recovery.lock.primary old.recovery.lock.start table commit table'

-- the lock becomes a version of the primary's commit, unless it is gone
pub record RollsForward (old : Progress) (table table' : Table) : Type 0 where
  pub commit : ℕ
  pub done : Mutated
  pub due : due old ≡ RollForward commit
  pub carried : CarriesOut table old.recovery.key (roll_forward_act old.recovery.lock commit) done table'

-- the lock is taken away, unless it is gone
pub record RollsBack (old : Progress) (table table' : Table) : Type 0 where
  pub done : Mutated
  pub due : due old ≡ RollBack
  pub carried : CarriesOut table old.recovery.key (roll_back_act old.recovery.lock.start) done table'

-- A step by what it tells.
abbrev pub Steps : Progress → Table → RecoveryEvent → Progress → Table → Type 0
Steps old table Working new table' = ReadsPrimary old table new table' ⊎ DropsPrimary old table new table'
Steps old table RolledForward new table' = (RollsForward old table table' ⊎ ((commit : ℕ) × DropsOwn old table (Some commit) table')) × (new ≡ old)
Steps old table RolledBack new table' = (RollsBack old table table' ⊎ DropsOwn old table None table') × (new ≡ old)

-- ---- what decides

abbrev pub event_of : Option ℕ → RecoveryEvent
event_of None = RolledBack
event_of (Some commit) = RolledForward

-- What decides is whether the primary has a version of the start at the last step that reads it or takes its lock away;
-- and a step that finds its lock decides nothing.
abbrev pub Decides : Due → Progress → Rows → RecoveryEvent → Progress → Type 0
Decides DropOwn old rows event new = event ≡ event_of (commit_in rows old)
Decides ReadPrimary old rows event new = (new ≡ with_primary old Locked) ⊎ (new ≡ with_primary old (primary_of (commit_in rows old)))
Decides DropPrimary old rows event new = new ≡ with_primary old (primary_of (commit_in rows old))
Decides (RollForward commit) old rows event new = event ≡ event_of (Some commit)
Decides RollBack old rows event new = event ≡ event_of None

-- ---- what stays

-- no plain value is changed, and so neither is the clock's number
abbrev pub KeepPlain : Table → Table → Type 0
KeepPlain old new = (key : Key) → (row_at new key).plain ≡ (row_at old key).plain
