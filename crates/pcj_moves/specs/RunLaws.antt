-- The whole run of one transaction, with any moves of any others between its own.
use Rattle.std.specs.Prelude.{◌≡◌, ◌<◌, ℕ, true, false, List, ◌∷◌, Some, None}
use Rattle.std.specs.List.{Contains}
use Rattle.std.specs.Option.{option_map}
use Rattle.pcj_table.specs.Table.{Key}
use Rattle.pcj_table.specs.declared.write.Write.{Write}
use Rattle.pcj_mvcc.specs.Reading.{Rows, seen}
use Rattle.pcj_moves.specs.Transactions.{new_transaction, write_at}
use Rattle.pcj_moves.specs.Actors.{Actor}
use Rattle.pcj_moves.specs.Moves.{IsConsistent, Runs, State, Step}
use Rattle.pcj_moves.specs.StandingLaws.{version_read, version_written}

-- Before the run nothing is read of the transaction; after it each row that it writes is read with its value and one
-- commit, and no other row has anything of it: first `s`, `p` and `o` have nothing, and at last each has commit 2 of start
-- 1, though another may have rolled `o` forward.
pub record IsCommitted (start commit : ℕ) (writes : List Write) (before after : Rows) : Type 0 where
  pub later : start < commit
  pub nothing : (key : Key) → version_read start before key ≡ None
  pub all : (key : Key) → version_read start after key ≡ version_written start writes commit key
  pub seen_then : (key : Key) (write : Write) → write_at writes key ≡ Some write → seen after key commit ≡ option_map (λ value. (value, commit)) write.value

-- An actor has its writes, of which none is prewritten. Wherever it is committed after steps of any actors, all its rows
-- stand with one commit.
abbrev pub TransactionRuns : Type 0
TransactionRuns = (before : State) (steps : List Step) (after : State) (actor done : Actor) (write : Write) (rest : List Write) → IsConsistent before → Runs before steps after →
    Contains before.actors actor → actor.transaction ≡ new_transaction (write ∷ rest) → Contains after.actors done → done.start ≡ actor.start → done.transaction.committed ≡ true →
    (commit : ℕ) × (done.transaction.commit ≡ Some commit) × IsCommitted actor.start commit (write ∷ rest) before.rows after.rows

-- And wherever it isn't, nothing is read of it.
abbrev pub TransactionWaits : Type 0
TransactionWaits = (before : State) (steps : List Step) (after : State) (actor : Actor) → IsConsistent before → Runs before steps after → Contains after.actors actor →
    actor.transaction.committed ≡ false → (key : Key) → version_read actor.start after.rows key ≡ None
