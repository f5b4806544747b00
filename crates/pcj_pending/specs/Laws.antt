-- Where nothing is pending, and what moves of actors add to what is.
use Rattle.std.specs.Prelude.{◌≡◌, ◌↔◌, ◌≤◌, ◌+◌, ℕ, true, false, List, None}
use Rattle.pcj_table.specs.Row.{is_put, newest}
use Rattle.pcj_table.specs.Table.{Key, Table, row_at}
use Rattle.pcj_mvcc.specs.Reading.{Rows}
use Rattle.pcj_moves.specs.Actors.{Actor}
use Rattle.pcj_moves.specs.Moves.{CommitPrimary, CommitSecondary, DropPrimary, IsAllowed, Makes, Move, Prewrite, RollBack, RollForward, rows_after}
use Rattle.pcj_pending.specs.Pending.{IsQuiet, is_of_task, locks_of, notifications_of}

-- no row has a lock, and no task stands
pub record HasNothingPending (rows : Rows) : Type 0 where
  pub locks : (key : Key) → (rows key).lock ≡ None
  pub tasks : (key : Key) → is_of_task key ≡ true → is_put (newest (rows key).versions) ≡ false

abbrev pub QuietTablesHaveNothing : Type 0
QuietTablesHaveNothing = (table : Table) → IsQuiet table ↔ HasNothingPending (row_at table)

-- at most so many locks and so many notifications are added
pub record AddsAtMost (most : ℕ) (before after : Table) : Type 0 where
  pub locks : locks_of after ≤ locks_of before + most
  pub notifications : notifications_of after ≤ notifications_of before + most

-- a prewrite adds one lock, which may be that of a notification, and no other move adds any
abbrev pub most_added : Move → ℕ
most_added (Prewrite write) = 1
most_added _ = 0

abbrev pub MovesAddAtMost : Type 0
MovesAddAtMost = (number : ℕ) (actor : Actor) (move : Move) (before after : Table) → IsAllowed move number (row_at before) actor → row_at after ≡ rows_after move actor (row_at before) →
    AddsAtMost (most_added move) before after

-- So several moves of an actor add no more than it has prewritten by them.
abbrev pub StepsAddAtMost : Type 0
StepsAddAtMost = (moves : List Move) (number : ℕ) (actor : Actor) (before : Table) (number' : ℕ) (actor' : Actor) (after : Table) (most : ℕ) →
    Makes moves number (row_at before) actor number' (row_at after) actor' → actor'.transaction.prewritten ≤ actor.transaction.prewritten + most → AddsAtMost most before after

-- the locks that a move takes away: a commit of a row, and what ends a recovery
abbrev pub locks_freed : Move → ℕ
locks_freed (CommitPrimary write commit) = 1
locks_freed (CommitSecondary write commit) = 1
locks_freed (DropPrimary recovery) = 1
locks_freed (RollBack recovery) = 1
locks_freed (RollForward recovery commit) = 1
locks_freed _ = 0

-- A lock that is set is one more, and one that is taken away is one fewer.
abbrev pub MovesCountLocks : Type 0
MovesCountLocks = (number : ℕ) (actor : Actor) (move : Move) (before after : Table) → IsAllowed move number (row_at before) actor → row_at after ≡ rows_after move actor (row_at before) →
    locks_of after + locks_freed move ≡ locks_of before + most_added move
