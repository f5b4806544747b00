-- The writes of a transaction whose rows are distinct.
use Rattle.std.specs.Prelude.{◌≡◌, ◌≢◌, ◌<◌, ℕ, true, false, List, take, Some, None}
use Rattle.std.specs.List.{slice_get}
use Rattle.pcj_table.specs.declared.write.Write.{Write}
use Rattle.pcj_moves.specs.Traces.{Traces}
use Rattle.pcj_moves.specs.Transactions.{IsNext, Transaction, Transacts, are_distinct, first_key, write_at}

-- the write at a place is of a row that none before it is of
abbrev pub DistinctAreNew : Type 0
DistinctAreNew = (writes : List Write) (place : ℕ) (write : Write) → are_distinct writes ≡ true → slice_get writes place ≡ Some write →
    write_at (take place writes) write.key ≡ None

-- it is the write of its row
abbrev pub DistinctAreThere : Type 0
DistinctAreThere = (writes : List Write) (place : ℕ) (write : Write) → are_distinct writes ≡ true → slice_get writes place ≡ Some write →
    write_at writes write.key ≡ Some write

-- and from the second on that isn't the primary's
abbrev pub DistinctAreSecondary : Type 0
DistinctAreSecondary = (writes : List Write) (place : ℕ) (write : Write) → are_distinct writes ≡ true → 0 < place → slice_get writes place ≡ Some write →
    write.key ≢ first_key writes

-- The next write of a transaction that has drawn no commit is of a row that is still to be prewritten, and the transaction
-- isn't committed.
abbrev pub NextIsNew : Type 0
NextIsNew = (start : ℕ) (transaction : Transaction) (at : Traces) (write : Write) → Transacts start transaction at → slice_get transaction.writes transaction.prewritten ≡ Some write →
    transaction.commit ≡ None → IsNext transaction write

abbrev pub UndrawnIsUndone : Type 0
UndrawnIsUndone = (start : ℕ) (transaction : Transaction) (at : Traces) → Transacts start transaction at → transaction.commit ≡ None → transaction.committed ≡ false
