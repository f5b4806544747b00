-- What every move keeps, and what it changes, with any others.
use Rattle.std.specs.Prelude.{◌≡◌, ◌≤◌, ℕ, List, [], ◌∷◌, ◌++◌, None}
use Rattle.pcj_table.specs.Table.{Key}
use Rattle.pcj_mvcc.specs.Reading.{Rows}
use Rattle.pcj_moves.specs.Actors.{Actor, AreSound}
use Rattle.pcj_moves.specs.Moves.{Happens, IsAllowed, IsConsistent, Makes, Move, Runs, State, Step, actor_after, number_after, rows_after}

-- ---- the order of the actors

abbrev pub ActorComesFirst : Type 0
ActorComesFirst = (rows : Rows) (front : List Actor) (actor : Actor) (back : List Actor) → AreSound rows (front ++ (actor ∷ back)) → AreSound rows (actor ∷ (front ++ back))

abbrev pub ActorGoesBack : Type 0
ActorGoesBack = (rows : Rows) (front : List Actor) (actor : Actor) (back : List Actor) → AreSound rows (actor ∷ (front ++ back)) → AreSound rows (front ++ (actor ∷ back))

-- ---- what is kept

-- rows without locks and versions, and no actor
abbrev pub EmptyIsConsistent : Type 0
EmptyIsConsistent = (number : ℕ) (rows : Rows) → ((key : Key) → ((rows key).lock ≡ None) × ((rows key).versions ≡ [])) →
    IsConsistent (record { number = number; rows = rows; actors = [] })

-- a move of one actor, whoever the others are
abbrev pub MoveIsConsistent : Type 0
MoveIsConsistent = (number : ℕ) (rows : Rows) (actor : Actor) (others : List Actor) (move : Move) → IsAllowed move number rows actor →
    IsConsistent (record { number = number; rows = rows; actors = actor ∷ others }) →
    IsConsistent (record { number = number_after move number; rows = rows_after move actor rows; actors = actor_after move rows actor ∷ others })

-- some moves of one actor
abbrev pub MovesAreConsistent : Type 0
MovesAreConsistent = (moves : List Move) (number : ℕ) (rows : Rows) (actor : Actor) (number' : ℕ) (rows' : Rows) (actor' : Actor) (others : List Actor) →
    Makes moves number rows actor number' rows' actor' →
    IsConsistent (record { number = number; rows = rows; actors = actor ∷ others }) → IsConsistent (record { number = number'; rows = rows'; actors = actor' ∷ others })

-- numbers are lost
abbrev pub HigherIsConsistent : Type 0
HigherIsConsistent = (number more : ℕ) (rows : Rows) (actors : List Actor) → number ≤ more → IsConsistent (record { number = number; rows = rows; actors = actors }) →
    IsConsistent (record { number = more; rows = rows; actors = actors })

abbrev pub StepIsConsistent : Type 0
StepIsConsistent = (before : State) (step : Step) (after : State) → IsConsistent before → Happens before step after → IsConsistent after

abbrev pub RunIsConsistent : Type 0
RunIsConsistent = (before : State) (steps : List Step) (after : State) → IsConsistent before → Runs before steps after → IsConsistent after
