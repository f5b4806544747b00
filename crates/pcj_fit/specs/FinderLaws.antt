-- Workers that look for their next task: each is looked at beside those that have numbers, and none is in another's way.
use Rattle.std.specs.Prelude.{◌≡◌, ◌≤◌, ℕ, List, [], ◌∷◌}
use Rattle.pcj_mvcc.specs.Reading.{Rows}
use Rattle.pcj_moves.specs.Transactions.{new_transaction}
use Rattle.pcj_moves.specs.Actors.{Actor, Each, new_actor}
use Rattle.pcj_moves.specs.Moves.{DropPrimary, EndRecovery, IsAllowed, Learn, Meet, Move, RollBack, RollForward, actor_after, rows_after}
use Rattle.pcj_fit.specs.Laws.{state_of}
use Rattle.pcj_fit.specs.Sound.{Sound}

-- it has no number yet, has read nothing and writes nothing
pub record IsFinder (actor : Actor) : Type 0 where
  pub start : actor.start ≡ 0
  pub answers : actor.answers ≡ []
  pub transaction : actor.transaction ≡ new_transaction []

-- those beside it have numbers
abbrev pub HaveNumbers : List Actor → Type 0
HaveNumbers = Each (λ actor. 1 ≤ actor.start)

-- the moves with which it takes locks away
abbrev pub IsFinderMove : Move → Type 0
IsFinderMove (Meet key lock) = Unit {0}
IsFinderMove (Learn recovery) = Unit {0}
IsFinderMove (DropPrimary recovery) = Unit {0}
IsFinderMove (RollBack recovery) = Unit {0}
IsFinderMove (RollForward recovery commit) = Unit {0}
IsFinderMove EndRecovery = Unit {0}
IsFinderMove _ = ⊥

-- it begins without a number from the oracle
abbrev pub FinderBegins : Type 0
FinderBegins = (number : ℕ) (rows : Rows) (actors : List Actor) → 1 ≤ number → HaveNumbers actors → Sound (state_of number rows actors) → Sound (state_of number rows (new_actor 0 ∷ actors))

-- those moves leave it one
abbrev pub FinderStays : Type 0
FinderStays = (number : ℕ) (rows : Rows) (finder : Actor) (move : Move) → IsFinderMove move → IsFinder finder → IsFinder (actor_after move rows finder)

-- and keep all sound beside each other finder
abbrev pub FindersLeaveEachOther : Type 0
FindersLeaveEachOther = (number : ℕ) (rows : Rows) (finder other : Actor) (actors : List Actor) (move : Move) → IsFinderMove move → IsFinder finder → IsFinder other → IsAllowed move number rows finder →
    Sound (state_of number rows (finder ∷ actors)) → Sound (state_of number rows (other ∷ actors)) → Sound (state_of number (rows_after move finder rows) (other ∷ actors))
