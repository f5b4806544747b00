-- What one who reads does to a table beside others: an actor that writes nothing of its own (Percolator, OSDI 2010, section
-- 2.2: `Get`).
use Rattle.std.specs.Prelude.{◌≡◌, ℕ, List, [], ◌∷◌, ◌++◌, None}
use Rattle.pcj_mvcc.specs.Reading.{Rows}
use Rattle.pcj_moves.specs.declared.answer.Answer.{Answer}
use Rattle.pcj_moves.specs.Actors.{Actor}
use Rattle.pcj_moves.specs.Moves.{CommitNothing, CommitPrimary, CommitSecondary, Draw, DropPrimary, EndRecovery, Learn, Makes, Meet, Move, Plan, Prewrite, Read, RollBack, RollForward, WritePlain}
use Rattle.pcj_moves.specs.Transactions.{new_transaction}
use Rattle.pcj_fit.specs.Laws.{state_of}
use Rattle.pcj_fit.specs.Sound.{IsClockPlain, Sound}

-- It reads, and takes away the locks that it meets; the clock's row is raised where its start is drawn.
abbrev pub IsReaderMove : Move → Type 0
IsReaderMove (Plan writes) = ⊥
IsReaderMove (Prewrite write) = ⊥
IsReaderMove (Draw commit) = ⊥
IsReaderMove (CommitPrimary write commit) = ⊥
IsReaderMove (CommitSecondary write commit) = ⊥
IsReaderMove (CommitNothing commit) = ⊥
IsReaderMove (Read answer) = Unit {0}
IsReaderMove (Meet key lock) = Unit {0}
IsReaderMove (Learn recovery) = Unit {0}
IsReaderMove (DropPrimary recovery) = Unit {0}
IsReaderMove (RollBack recovery) = Unit {0}
IsReaderMove (RollForward recovery commit) = Unit {0}
IsReaderMove EndRecovery = Unit {0}
IsReaderMove (WritePlain key plain) = IsClockPlain key plain

abbrev pub AreReaderMoves : List Move → Type 0
AreReaderMoves [] = Unit {0}
AreReaderMoves (move ∷ moves) = IsReaderMove move × AreReaderMoves moves

-- an actor of this start that writes nothing, and has no lock to take away
pub record IsReader (start : ℕ) (actor : Actor) : Type 0 where
  pub is : actor.start ≡ start
  pub nothing : actor.transaction ≡ new_transaction []
  pub free : actor.recovery ≡ None

abbrev pub with_answers : Actor → List Answer → Actor
with_answers actor answers = record { start = actor.start; answers = actor.answers ++ answers; transaction = actor.transaction; recovery = actor.recovery }

-- Whoever else is at work, a reader of this start makes such moves from some rows to others, and then has these answers more.
abbrev pub ReadsOn : ℕ → Rows → List Answer → Rows → Type 0
ReadsOn start rows answers rows' = (number : ℕ) (actor : Actor) (others : List Actor) → IsReader start actor → Sound (state_of number rows (actor ∷ others)) →
    (moves : List Move) × AreReaderMoves moves × Makes moves number rows actor number rows' (with_answers actor answers)

-- Or it stops on the way.
abbrev pub ReadsInPart : ℕ → Rows → Rows → Type 0
ReadsInPart start rows rows' = (number : ℕ) (actor : Actor) (others : List Actor) → IsReader start actor → Sound (state_of number rows (actor ∷ others)) →
    (moves : List Move) × AreReaderMoves moves × (stopped : Actor) × Makes moves number rows actor number rows' stopped
