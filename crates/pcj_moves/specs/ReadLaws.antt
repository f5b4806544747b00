-- What was read at a time stays what is seen there, whoever moves next and however often.
use Rattle.std.specs.Prelude.{◌≡◌, ◌<◌, ℕ, List, [], ◌∷◌, ◌++◌, Some, None}
use Rattle.std.specs.List.{Contains}
use Rattle.std.specs.Option.{option_map}
use Rattle.pcj_table.specs.Row.{newest, versions_up_to}
use Rattle.pcj_table.specs.Table.{Key, Table, first_row, is_next_at, row_at}
use Rattle.pcj_table.specs.declared.found.Found.{Found}
use Rattle.pcj_mvcc.specs.Reading.{Put, Rows, lock_up_to, put_of}
use Rattle.pcj_mvcc.specs.Times.{AllVersions, starts_first}
use Rattle.pcj_moves.specs.Traces.{traces}
use Rattle.pcj_moves.specs.declared.answer.Answer.{Answer}
use Rattle.pcj_moves.specs.declared.answer.Answer.TheVariants.{OfRange, OfRow}
use Rattle.pcj_moves.specs.Reads.{IsHidden, IsRead, Reads}
use Rattle.pcj_moves.specs.Actors.{Actor, AreSound, Each}
use Rattle.pcj_moves.specs.Moves.{IsAllowed, IsConsistent, Makes, Move, Runs, State, Step, actor_after, rows_after}

-- ---- what a read gives

-- the value of the newest version up to the time, where no lock of that time stands
abbrev pub RowIsRead : Type 0
RowIsRead = (rows : Rows) (key : Key) (time : ℕ) → AllVersions starts_first rows → lock_up_to time (rows key).lock ≡ None →
    IsRead rows time (OfRow key (option_map (λ put. put.0) (put_of (newest (versions_up_to time (rows key).versions)))))

-- a walk that comes to no row, and to a row with a put; it passes over rows in which nothing is seen then
abbrev pub EmptyRangeIsRead : Type 0
EmptyRangeIsRead = (table : Table) (after end : Key) (time : ℕ) → AllVersions starts_first (row_at table) → first_row (is_next_at after end time) table ≡ None →
    IsRead (row_at table) time (OfRange after end None)

abbrev pub NextRowIsRead : Type 0
NextRowIsRead = (table : Table) (after end : Key) (time : ℕ) (first : Found) (found : Put) → AllVersions starts_first (row_at table) → first_row (is_next_at after end time) table ≡ Some first →
    lock_up_to time first.row.lock ≡ None → put_of (newest (versions_up_to time first.row.versions)) ≡ Some found →
    IsRead (row_at table) time (OfRange after end (Some (record { key = first.key; value = found.0 })))

-- ---- what stays

-- The answers are what is seen at a time, and no actor that may be committed at or below it writes a row that they cover.
pub record StaysRead (rows : Rows) (actors : List Actor) (time : ℕ) (answers : List Answer) : Type 0 where
  pub reads : Reads rows time answers
  pub hidden : Each (λ actor. IsHidden actor.start actor.transaction (traces actor.start rows) time answers) actors

abbrev pub AnswerStaysRead : Type 0
AnswerStaysRead = (rows : Rows) (actors : List Actor) (time : ℕ) (answer : Answer) (answers : List Answer) → AreSound rows actors → IsRead rows time answer →
    StaysRead rows actors time answers → StaysRead rows actors time (answers ++ (answer ∷ []))

-- nothing read is what is seen
abbrev pub NothingStaysRead : Type 0
NothingStaysRead = (rows : Rows) (actors : List Actor) (time : ℕ) → StaysRead rows actors time []

-- so are the answers that an actor holds
abbrev pub HeldStaysRead : Type 0
HeldStaysRead = (rows : Rows) (actors : List Actor) (actor : Actor) → AreSound rows actors → Contains actors actor → StaysRead rows actors actor.start actor.answers

-- a time is one below the next number, as each start is
abbrev pub MoveLeavesRead : Type 0
MoveLeavesRead = (number : ℕ) (rows : Rows) (actor : Actor) (others : List Actor) (move : Move) (time : ℕ) (answers : List Answer) → IsAllowed move number rows actor →
    IsConsistent (record { number = number; rows = rows; actors = actor ∷ others }) → time < number → StaysRead rows (actor ∷ others) time answers →
    StaysRead (rows_after move actor rows) (actor_after move rows actor ∷ others) time answers

abbrev pub MovesLeaveRead : Type 0
MovesLeaveRead = (moves : List Move) (number : ℕ) (rows : Rows) (actor : Actor) (number' : ℕ) (rows' : Rows) (actor' : Actor) (others : List Actor) (time : ℕ) (answers : List Answer) →
    Makes moves number rows actor number' rows' actor' → IsConsistent (record { number = number; rows = rows; actors = actor ∷ others }) → time < number →
    StaysRead rows (actor ∷ others) time answers → StaysRead rows' (actor' ∷ others) time answers

abbrev pub RunLeavesRead : Type 0
RunLeavesRead = (before : State) (steps : List Step) (after : State) (time : ℕ) (answers : List Answer) → IsConsistent before → Runs before steps after → time < before.number →
    StaysRead before.rows before.actors time answers → StaysRead after.rows after.actors time answers
