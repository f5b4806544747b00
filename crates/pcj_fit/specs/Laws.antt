-- What every move keeps of a table and of all who are at work on it, and which triples it leaves.
use Rattle.std.specs.Prelude.{◌≡◌, ◌≤◌, ℕ, suc, true, false, List, [], ◌∷◌, ◌++◌}
use Rattle.pcj_term.specs.declared.triple.Triple.{Triple}
use Rattle.pcj_table.specs.Row.{no_row}
use Rattle.pcj_table.specs.Table.{Key}
use Rattle.pcj_table.specs.declared.write.Write.{Write}
use Rattle.pcj_oracle.specs.Clock.{clock_key}
use Rattle.pcj_mvcc.specs.Reading.{Rows}
use Rattle.pcj_moves.specs.Actors.{Actor, new_actor}
use Rattle.pcj_moves.specs.Moves.{CommitPrimary, IsAllowed, Makes, Move, Plan, State, WritePlain, actor_after, number_after, rows_after}
use Rattle.pcj_choices.specs.UnderChoice.{is_primary_commit, is_steady}
use Rattle.pcj_fit.specs.Fit.{Fit}
use Rattle.pcj_rows.specs.Plans.{IsLoadPlan}
use Rattle.pcj_rows.specs.Rows.{IsClockRow}
use Rattle.pcj_fit.specs.Sound.{IsClockPlain, IsPlanned, MayWritePlain, Sound}
use Rattle.pcj_rows.specs.Triples.{HasTriples}
use Rattle.pcj_nodes.specs.Commits.{HasWritten}
use Rattle.pcj_duties.specs.Observers.{EndsNoExport}

abbrev pub state_of : ℕ → Rows → List Actor → State
state_of number rows actors = record { number = number; rows = rows; actors = actors }

-- ---- moves

-- a plain value that is written is the clock's, and no export's task is to be written
abbrev pub WritesClock : Move → Type 0
WritesClock (WritePlain key plain) = IsClockPlain key plain
WritesClock (Plan writes) = EndsNoExport writes
WritesClock _ = Unit {0}

-- or an exported line, which stands before its task is to be ended
abbrev pub WritesLine : Rows → Actor → Move → Type 0
WritesLine rows actor (WritePlain key plain) = MayWritePlain actor.start actor.answers (rows key).plain key plain
WritesLine rows actor (Plan writes) = HasWritten actor.start writes rows
WritesLine rows actor _ = Unit {0}

-- a move of one actor, whoever the others are
abbrev pub MoveIsSound : Type 0
MoveIsSound = (number : ℕ) (rows : Rows) (actor : Actor) (others : List Actor) (move : Move) → IsAllowed move number rows actor → WritesLine rows actor move →
    IsPlanned (actor_after move rows actor) → Sound (state_of number rows (actor ∷ others)) →
    Sound (state_of (number_after move number) (rows_after move actor rows) (actor_after move rows actor ∷ others))

-- ---- actors that begin and end

-- with a number that the oracle grants
abbrev pub BeginIsSound : Type 0
BeginIsSound = (number start : ℕ) (rows : Rows) (actors : List Actor) → number ≤ start → Sound (state_of number rows actors) → Sound (state_of (suc start) rows (new_actor start ∷ actors))

-- one that ends, or is crashed, wherever it is
abbrev pub EndIsSound : Type 0
EndIsSound = (number : ℕ) (rows : Rows) (actor : Actor) (others : List Actor) → Sound (state_of number rows (actor ∷ others)) → Sound (state_of number rows others)

-- numbers that are lost with an oracle
abbrev pub HigherIsSound : Type 0
HigherIsSound = (number more : ℕ) (rows : Rows) (actors : List Actor) → number ≤ more → Sound (state_of number rows actors) → Sound (state_of more rows actors)

-- the order of the actors is nothing
abbrev pub FirstIsSound : Type 0
FirstIsSound = (number : ℕ) (rows : Rows) (front : List Actor) (actor : Actor) (back : List Actor) → Sound (state_of number rows (front ++ (actor ∷ back))) → Sound (state_of number rows (actor ∷ (front ++ back)))

abbrev pub BackIsSound : Type 0
BackIsSound = (number : ℕ) (rows : Rows) (front : List Actor) (actor : Actor) (back : List Actor) → Sound (state_of number rows (actor ∷ (front ++ back))) → Sound (state_of number rows (front ++ (actor ∷ back)))

-- ---- fit tables

-- a fit table that nobody is at work on, as an earlier run may have left it
abbrev pub FitIsSound : Type 0
FitIsSound = (number : ℕ) (rows : Rows) → Fit number rows → Sound (state_of number rows [])

-- and back, whoever is at work
abbrev pub SoundIsFit : Type 0
SoundIsFit = (number : ℕ) (rows : Rows) (actors : List Actor) → Sound (state_of number rows actors) → Fit number rows

abbrev pub FitGrows : Type 0
FitGrows = (number more : ℕ) (rows : Rows) → number ≤ more → Fit number rows → Fit more rows

-- no row holds anything but the clock's
pub record HasClockAlone (rows : Rows) : Type 0 where
  pub clock : IsClockRow (rows clock_key)
  pub others : (key : Key) → (key ≡ clock_key → ⊥) → rows key ≡ no_row

abbrev pub ClockAloneIsFit : Type 0
ClockAloneIsFit = (number : ℕ) (rows : Rows) → HasClockAlone rows → Fit number rows × HasTriples rows []

-- ---- triples

-- every move but the commit of a primary leaves the triples
abbrev pub MovesLeaveTriples : Type 0
MovesLeaveTriples = (number : ℕ) (rows : Rows) (actor : Actor) (others : List Actor) (move : Move) (known : List Triple) → is_primary_commit move ≡ false → IsAllowed move number rows actor →
    Sound (state_of number rows (actor ∷ others)) → HasTriples rows known → HasTriples (rows_after move actor rows) known

-- that of a load adds its own
abbrev pub LoadsAddTriples : Type 0
LoadsAddTriples = (number : ℕ) (rows : Rows) (actor : Actor) (others : List Actor) (write : Write) (commit : ℕ) (triples known : List Triple) → IsLoadPlan actor.start actor.answers actor.transaction.writes triples →
    IsAllowed (CommitPrimary write commit) number rows actor → Sound (state_of number rows (actor ∷ others)) → HasTriples rows known → HasTriples (rows_after (CommitPrimary write commit) actor rows) (known ++ triples)

-- and so does that of a load which found all of them
abbrev pub FoundAreThere : Type 0
FoundAreThere = (number : ℕ) (rows : Rows) (actor : Actor) (others : List Actor) (triples known : List Triple) → IsLoadPlan actor.start actor.answers [] triples →
    Sound (state_of number rows (actor ∷ others)) → HasTriples rows known → HasTriples rows (known ++ triples)

-- ---- moves of a step

-- moves that leave what was read and is to be written, and no plain value but the clock's
abbrev pub AreSteady : List Move → Type 0
AreSteady [] = Unit {0}
AreSteady (move ∷ moves) = (is_steady move ≡ true) × WritesClock move × AreSteady moves

abbrev pub StepIsSound : Type 0
StepIsSound = (moves : List Move) (number : ℕ) (rows : Rows) (actor : Actor) (number' : ℕ) (rows' : Rows) (actor' : Actor) (others : List Actor) → AreSteady moves →
    Makes moves number rows actor number' rows' actor' → Sound (state_of number rows (actor ∷ others)) → Sound (state_of number' rows' (actor' ∷ others))

-- they leave the triples where they don't commit the actor's transaction
abbrev pub StepLeavesTriples : Type 0
StepLeavesTriples = (moves : List Move) (number : ℕ) (rows : Rows) (actor : Actor) (number' : ℕ) (rows' : Rows) (actor' : Actor) (others : List Actor) (known : List Triple) → AreSteady moves →
    Makes moves number rows actor number' rows' actor' → Sound (state_of number rows (actor ∷ others)) → actor'.transaction.committed ≡ actor.transaction.committed → HasTriples rows known → HasTriples rows' known

-- and add those of a load where they do
abbrev pub StepAddsTriples : Type 0
StepAddsTriples = (moves : List Move) (number : ℕ) (rows : Rows) (actor : Actor) (number' : ℕ) (rows' : Rows) (actor' : Actor) (others : List Actor) (triples known : List Triple) → AreSteady moves →
    Makes moves number rows actor number' rows' actor' → Sound (state_of number rows (actor ∷ others)) → IsLoadPlan actor.start actor.answers actor.transaction.writes triples →
    actor.transaction.committed ≡ false → actor'.transaction.committed ≡ true → HasTriples rows known → HasTriples rows' (known ++ triples)
