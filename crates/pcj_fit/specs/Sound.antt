-- What holds of a table with all who are at work on it.
use Rattle.std.specs.Prelude.{◌≡◌, ◌⊎◌, ◌≤◌, ℕ, List, [], Option, Some, IfSome}
use Rattle.pcj_table.specs.Table.{Key}
use Rattle.pcj_table.specs.declared.plain.Plain.{Plain}
use Rattle.pcj_oracle.specs.Clock.{clock_key}
use Rattle.pcj_mvcc.specs.Choices.{Choice, IsChoice, under}
use Rattle.pcj_mvcc.specs.Reading.{Rows}
use Rattle.pcj_moves.specs.declared.answer.Answer.{Answer}
use Rattle.pcj_moves.specs.Actors.{Actor, Each}
use Rattle.pcj_moves.specs.ChoiceLaws.{IsRipeAt}
use Rattle.pcj_moves.specs.Moves.{IsConsistent, State}
use Rattle.pcj_fit.specs.Fit.{Fit}
use Rattle.pcj_rows.specs.OwnRows.{AreOwnFrom}
use Rattle.pcj_rows.specs.Workers.{IsExport}
use Rattle.pcj_nodes.specs.Commits.{HasWritten}
use Rattle.pcj_duties.specs.Observers.{HasPurpose}

-- the actor writes what it is at work for
abbrev pub IsPlanned : Actor → Type 0
IsPlanned actor = HasPurpose actor.start actor.answers actor.transaction.writes

-- and where it ends an export's task it has written the line
abbrev pub HasExported : Rows → Actor → Type 0
HasExported rows actor = HasWritten actor.start actor.transaction.writes rows

-- a plain value of the clock's row
abbrev pub IsClockPlain : Key → Plain → Type 0
IsClockPlain key plain = (key ≡ clock_key) × (plain.value ≡ Some [])

-- which plain values an actor writes: the clock's, and exported lines
abbrev pub MayWritePlain : ℕ → List Answer → Option Plain → Key → Plain → Type 0
MayWritePlain start answers old key plain = IsClockPlain key plain ⊎ IsExport start answers old key plain

-- a number that was granted is from `low` on; a worker that has none yet has 0
abbrev pub IsFrom : ℕ → Actor → Type 0
IsFrom low actor = (actor.start ≡ 0) ⊎ (low ≤ actor.start)

-- the lock that an actor takes away is of a number that was granted
abbrev pub HasMetGranted : Actor → Type 0
HasMetGranted actor = IfSome actor.recovery (λ recovery. 1 ≤ recovery.lock.start)

-- All is as it has to be of each actor and of each two; the rows are fit whichever of the transactions that may be
-- committed next are committed; and each actor writes what it is at work for. No actor started below `low`, and from it on a
-- registration's row has nothing but what the transaction whose start is its number wrote there.
pub record Sound (state : State) : Type 0 where
  pub consistent : IsConsistent state
  pub fit : (choice : Choice) → IsChoice (IsRipeAt state.rows state.actors) choice → Fit state.number (under choice state.rows)
  pub planned : Each IsPlanned state.actors
  pub exported : Each (HasExported state.rows) state.actors
  pub low : ℕ
  pub since : low ≤ state.number
  pub own : AreOwnFrom low state.rows
  pub later : Each (IsFrom low) state.actors
  pub met : Each HasMetGranted state.actors
