-- All rows of a transaction stand, with one commit, or none does.
use Rattle.std.specs.Prelude.{◌≡◌, ◌<◌, ℕ, true, false, ◌==◌, List, ◌∷◌, Option, Some, None}
use Rattle.std.specs.List.{find}
use Rattle.std.specs.Option.{option_map}
use Rattle.pcj_table.specs.Table.{Key}
use Rattle.pcj_table.specs.declared.version.Version.{Version}
use Rattle.pcj_table.specs.declared.write.Write.{Write}
use Rattle.pcj_mvcc.specs.Acts.{lock_of, version_of}
use Rattle.pcj_mvcc.specs.Laws.{IsWritten, SameStanding}
use Rattle.pcj_mvcc.specs.Reading.{Rows, SameReading, seen, versions_read}
use Rattle.pcj_mvcc.specs.Times.{TimesInOrder}
use Rattle.pcj_moves.specs.Traces.{traces}
use Rattle.pcj_moves.specs.Transactions.{Transaction, Transacts, first_key, write_at}
use Rattle.pcj_moves.specs.Actors.{Actor}
use Rattle.pcj_moves.specs.Moves.{CommitPrimary, IsAllowed, IsConsistent, Move, rows_after}

-- what is read of the transaction of a start in a row: its version, or its lock's where it is committed
abbrev pub version_read : ℕ → Rows → Key → Option Version
version_read start rows key = find (λ version. version.start == start) (versions_read rows key)

-- the version that it is to write there
abbrev pub version_written : ℕ → List Write → ℕ → Key → Option Version
version_written start writes commit key = option_map (λ write. version_of (lock_of write start (first_key writes)) commit) (write_at writes key)

-- ---- at one moment

-- until it is committed nothing is read of it
abbrev pub NoneStands : Type 0
NoneStands = (rows : Rows) (start : ℕ) (transaction : Transaction) → TimesInOrder rows → Transacts start transaction (traces start rows) → transaction.committed ≡ false →
    (key : Key) → version_read start rows key ≡ None

-- from then on all that it writes, and nothing else
abbrev pub AllStand : Type 0
AllStand = (rows : Rows) (start : ℕ) (transaction : Transaction) (commit : ℕ) → TimesInOrder rows → Transacts start transaction (traces start rows) → transaction.committed ≡ true →
    transaction.commit ≡ Some commit → (key : Key) → version_read start rows key ≡ version_written start transaction.writes commit key

-- and each value that it wrote is seen at its commit
abbrev pub AllAreSeen : Type 0
AllAreSeen = (rows : Rows) (start : ℕ) (transaction : Transaction) (commit : ℕ) → TimesInOrder rows → Transacts start transaction (traces start rows) → transaction.committed ≡ true →
    transaction.commit ≡ Some commit → (key : Key) (write : Write) → write_at transaction.writes key ≡ Some write → seen rows key commit ≡ option_map (λ value. (value, commit)) write.value

-- ---- what a move changes

-- What is written stands from this commit on, in all its rows at once; in all others the same stands, and nothing that
-- is seen before the commit changes.
pub record StandsWhole (writes : List Write) (commit : ℕ) (before after : Rows) : Type 0 where
  pub earlier : (key : Key) (at : ℕ) → at < commit → seen after key at ≡ seen before key at
  pub written : (key : Key) (write : Write) → write_at writes key ≡ Some write → IsWritten after key write.value commit
  pub others : (key : Key) → write_at writes key ≡ None → SameStanding before after key

-- the commit of a primary makes all rows of its transaction stand, and every other move leaves each row's reading
abbrev pub Changes : Move → Actor → Rows → Rows → Type 0
Changes (CommitPrimary write commit) actor before after = StandsWhole actor.transaction.writes commit before after
Changes _ actor before after = SameReading before after

abbrev pub OneMoveChanges : Type 0
OneMoveChanges = (number : ℕ) (rows : Rows) (actor : Actor) (others : List Actor) (move : Move) → IsAllowed move number rows actor →
    IsConsistent (record { number = number; rows = rows; actors = actor ∷ others }) → Changes move actor rows (rows_after move actor rows)
