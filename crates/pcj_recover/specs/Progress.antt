-- How far a recovery has come, and which step is due (Percolator, OSDI 2010, section 2.2).
use Rattle.std.specs.Prelude.{ℕ, Bool, true, false, Option, Some, None, if◌then◌else◌}
use Rattle.pcj_term.specs.Order.{same_bytes}
use Rattle.pcj_table.specs.declared.lock.Lock.{Lock}
use Rattle.pcj_table.specs.Table.{Key}
use Rattle.pcj_moves.specs.Recoveries.{Recovery}
use Rattle.pcj_recover.specs.declared.primary.Primary.{Primary}
use Rattle.pcj_recover.specs.declared.primary.Primary.TheVariants.{Unread, Locked, Gone, Committed}

-- A recovery, and whether its primary was found with the lock of the start, which is to be taken away next.
pub record Progress : Type 0 where
  pub recovery : Recovery
  pub locked : Bool

abbrev pub new_progress : Key → Lock → Progress
new_progress key lock = record { recovery = record { key = key; lock = lock; known = None }; locked = false }

-- ---- what is known of the primary

abbrev pub known_of : Primary → Option (Option ℕ)
known_of Unread = None
known_of Locked = None
known_of Gone = Some None
known_of (Committed commit) = Some (Some commit)

abbrev pub is_locked : Primary → Bool
is_locked Unread = false
is_locked Locked = true
is_locked Gone = false
is_locked (Committed commit) = false

-- where it has no lock of the start, by the commit of its version
abbrev pub primary_of : Option ℕ → Primary
primary_of None = Gone
primary_of (Some commit) = Committed commit

-- by the commit of its version, and by whether it has a lock of the start
abbrev pub primary_seen : Option ℕ → Bool → Primary
primary_seen None true = Locked
primary_seen None false = Gone
primary_seen (Some commit) locked = Committed commit

abbrev pub with_primary : Progress → Primary → Progress
with_primary progress primary = record {
  recovery = record { key = progress.recovery.key; lock = progress.recovery.lock; known = known_of primary };
  locked = is_locked primary;
}

-- ---- which step is due

-- The row is its own primary and its lock is taken away; the primary is read; its lock is taken away; the lock that was
-- met becomes a version of this commit, or is taken away.
pub data Due : Type 0 where
  DropOwn : Due
  ReadPrimary : Due
  DropPrimary : Due
  RollForward : (commit : ℕ) → Due
  RollBack : Due

abbrev pub due_other : Option (Option ℕ) → Bool → Due
due_other None false = ReadPrimary
due_other None true = DropPrimary
due_other (Some None) locked = RollBack
due_other (Some (Some commit)) locked = RollForward commit

abbrev pub due : Progress → Due
due progress =
    if same_bytes progress.recovery.key progress.recovery.lock.primary then DropOwn else due_other progress.recovery.known progress.locked

-- ---- how many steps are left

abbrev pub steps_of : Due → ℕ
steps_of DropOwn = 1
steps_of ReadPrimary = 3
steps_of DropPrimary = 2
steps_of (RollForward commit) = 1
steps_of RollBack = 1

-- the most steps that are left without an error: three, and one where the row is its own primary
abbrev pub steps_left : Progress → ℕ
steps_left progress = steps_of (due progress)
