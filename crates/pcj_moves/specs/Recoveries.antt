-- A recovery of a lock that another transaction left behind, and what rows have of that transaction (Percolator, OSDI
-- 2010, section 2.2).
use Rattle.std.specs.Prelude.{◌≡◌, ◌≢◌, ℕ, Bool, true, false, Option, Some, None, IfSome}
use Rattle.std.specs.Option.{option_map}
use Rattle.pcj_table.specs.declared.lock.Lock.{Lock}
use Rattle.pcj_table.specs.declared.row.Row.{Row}
use Rattle.pcj_table.specs.Row.{is_locked_at}
use Rattle.pcj_table.specs.Table.{Key}
use Rattle.pcj_mvcc.specs.Reading.{commit_of}
use Rattle.pcj_moves.specs.Traces.{Traces, no_trace}
use Rattle.pcj_moves.specs.Transactions.{Transaction, lock_at}

-- The row and the lock that is to go there, and what is known of the lock's primary: nothing yet (`None`), that it has
-- neither lock nor version of the start (`Some None`), or the commit of its version.
pub record Recovery : Type 0 where
  pub key : Key
  pub lock : Lock
  pub known : Option (Option ℕ)

-- where the primary is known, it is another row, and has what it was seen to have
abbrev pub Knows : Recovery → Traces → Option (Option ℕ) → Type 0
Knows recovery at None = Unit {0}
Knows recovery at (Some None) = (recovery.key ≢ recovery.lock.primary) × (at recovery.lock.primary ≡ no_trace)
Knows recovery at (Some (Some commit)) =
    (recovery.key ≢ recovery.lock.primary) × (option_map (λ version. version.commit) (at recovery.lock.primary).version ≡ Some commit)

-- All locks of its start name its primary, a lock of that start on its row is the one that it holds, and the primary
-- has what is known.
pub record Recovers (recovery : Recovery) (at : Traces) : Type 0 where
  pub names : (key : Key) (lock : Lock) → (at key).lock ≡ Some lock → lock.primary ≡ recovery.lock.primary
  pub holds : (lock : Lock) → (at recovery.key).lock ≡ Some lock → lock ≡ recovery.lock
  pub knows : Knows recovery at recovery.known

-- a recovery of this start is of a row that was prewritten, and holds the lock of its write
abbrev pub IsOfWrite : ℕ → Transaction → Option Recovery → Type 0
IsOfWrite start transaction recovery = IfSome recovery (λ recovery. recovery.lock.start ≡ start → lock_at start transaction recovery.key ≡ Some recovery.lock)

-- ---- how it goes on

-- nothing is known of the primary
abbrev pub new_recovery : Key → Lock → Recovery
new_recovery key lock = record { key = key; lock = lock; known = None }

abbrev pub with_known : Recovery → Option (Option ℕ) → Recovery
with_known recovery known = record { key = recovery.key; lock = recovery.lock; known = known }

-- What the primary's row tells: that its transaction is committed, or that it never will be. A lock that stands tells
-- nothing.
abbrev pub told_by : Option ℕ → Bool → Option (Option ℕ)
told_by (Some commit) locked = Some (Some commit)
told_by None true = None
told_by None false = Some None

abbrev pub told : ℕ → Row → Option (Option ℕ)
told start row = told_by (commit_of start row.versions) (is_locked_at start row.lock)
