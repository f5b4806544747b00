-- A transaction, and what rows have of it (Percolator, OSDI 2010, section 2.2).
use Rattle.std.specs.Prelude.{◌≡◌, ◌⊎◌, ◌<◌, ◌≤◌, ℕ, suc, Bool, true, false, not, is_some, ◌&&◌, List, [], ◌∷◌, length, take, Option, Some, None}
use Rattle.std.specs.List.{find, slice_get}
use Rattle.std.specs.Option.{option_map}
use Rattle.pcj_term.specs.Order.{same_bytes}
use Rattle.pcj_table.specs.Table.{Key}
use Rattle.pcj_table.specs.declared.lock.Lock.{Lock}
use Rattle.pcj_table.specs.declared.version.Version.{Version}
use Rattle.pcj_table.specs.declared.write.Write.{Write}
use Rattle.pcj_mvcc.specs.Acts.{lock_of, version_of}
use Rattle.pcj_moves.specs.Traces.{Traces, lock_trace, no_trace, version_trace}

-- What is written, how many of the writes are prewritten, the commit once it is drawn, and whether the primary's row
-- is committed. The first write's row is the primary.
pub record Transaction : Type 0 where
  pub writes : List Write
  pub prewritten : ℕ
  pub commit : Option ℕ
  pub committed : Bool

-- ---- what it has written

abbrev pub first_key : List Write → Key
first_key [] = []
first_key (write ∷ writes) = write.key

abbrev pub primary_of : Transaction → Key
primary_of transaction = first_key transaction.writes

-- the write of a row, if it is among these
abbrev pub write_at : List Write → Key → Option Write
write_at writes key = find (λ write. same_bytes key write.key) writes

-- no two of these are of one row
abbrev pub are_distinct : List Write → Bool
are_distinct [] = true
are_distinct (write ∷ writes) = not (is_some (write_at writes write.key)) && are_distinct writes

-- the lock that a row has from its prewrite on
abbrev pub lock_at : ℕ → Transaction → Key → Option Lock
lock_at start transaction key = option_map (λ write. lock_of write start (primary_of transaction)) (write_at (take transaction.prewritten transaction.writes) key)

-- what a lock becomes at a commit
abbrev pub as_version : ℕ → Option Lock → Option Version
as_version commit lock = option_map (λ lock. version_of lock commit) lock

-- ---- what rows have of it

-- Each row that was prewritten has its lock, and no other row has anything of it: `s`, `p`, `o` have lock@1.
abbrev pub IsHeld : (Key → Option Lock) → Traces → Type 0
IsHeld locks at = (key : Key) → at key ≡ lock_trace (locks key)

-- Its primary's lock was taken away, and others may have been: `s` has nothing, `p` has lock@1, `o` has nothing.
pub record IsLost (primary : Key) (locks : Key → Option Lock) (at : Traces) : Type 0 where
  pub some : is_some (locks primary) ≡ true
  pub primary_gone : at primary ≡ no_trace
  pub each : (key : Key) → (at key ≡ lock_trace (locks key)) ⊎ (at key ≡ no_trace)

-- Its primary has its version, and each other row its lock or its version: `s` has commit 2, `p` has lock@1, `o` has
-- commit 2.
pub record IsWon (primary : Key) (locks : Key → Option Lock) (commit : ℕ) (at : Traces) : Type 0 where
  pub primary_there : at primary ≡ version_trace (as_version commit (locks primary))
  pub each : (key : Key) → (at key ≡ lock_trace (locks key)) ⊎ (at key ≡ version_trace (as_version commit (locks key)))

-- Its rows are distinct. Until it is committed its locks stand, or its primary's was taken away. A commit is drawn where
-- all is prewritten, and is above the start. Once it is committed its primary has its version.
pub record Transacts (start : ℕ) (transaction : Transaction) (at : Traces) : Type 0 where
  pub distinct : are_distinct transaction.writes ≡ true
  pub within : transaction.prewritten ≤ length transaction.writes
  pub undone : transaction.committed ≡ false → IsHeld (lock_at start transaction) at ⊎ IsLost (primary_of transaction) (lock_at start transaction) at
  pub all : (commit : ℕ) → transaction.commit ≡ Some commit → transaction.prewritten ≡ length transaction.writes
  pub later : (commit : ℕ) → transaction.commit ≡ Some commit → start < commit
  pub won : transaction.committed ≡ true → (commit : ℕ) × (transaction.commit ≡ Some commit) × IsWon (primary_of transaction) (lock_at start transaction) commit at

-- it may be committed with this
pub record IsRipe (start : ℕ) (transaction : Transaction) (at : Traces) (commit : ℕ) : Type 0 where
  pub drawn : transaction.commit ≡ Some commit
  pub undone : transaction.committed ≡ false
  pub locked : is_some (at (primary_of transaction)).lock ≡ true

-- ---- how it goes on

-- nothing is prewritten yet
abbrev pub new_transaction : List Write → Transaction
new_transaction writes = record { writes = writes; prewritten = 0; commit = None; committed = false }

-- one more is prewritten
abbrev pub with_next : Transaction → Transaction
with_next transaction = record { writes = transaction.writes; prewritten = suc transaction.prewritten; commit = transaction.commit; committed = transaction.committed }

abbrev pub with_commit : Transaction → ℕ → Transaction
with_commit transaction commit = record { writes = transaction.writes; prewritten = transaction.prewritten; commit = Some commit; committed = transaction.committed }

abbrev pub as_committed : Transaction → Transaction
as_committed transaction = record { writes = transaction.writes; prewritten = transaction.prewritten; commit = transaction.commit; committed = true }

-- the next write, of a row that was not yet prewritten
pub record IsNext (transaction : Transaction) (write : Write) : Type 0 where
  pub is : slice_get transaction.writes transaction.prewritten ≡ Some write
  pub new : write_at (take transaction.prewritten transaction.writes) write.key ≡ None
  pub commit : transaction.commit ≡ None
  pub committed : transaction.committed ≡ false
