-- Oracles that share a table, and the numbers that they grant in turn.
use Rattle.std.specs.Prelude.{◌≡◌, ℕ, ◌+◌, ◌≤◌, ◌==◌, if◌then◌else◌, List, [], ◌∷◌, Option, None}
use Rattle.pcj_table.specs.Table.{Table}
use Rattle.pcj_oracle.specs.declared.block.Block.{Block}
use Rattle.pcj_oracle.specs.Clock.{IsClock, stored_number}
use Rattle.pcj_oracle.specs.Draw.{Grants, Keeps}

-- what an oracle does, which is named by a number: it grants a number, it refuses one, it crashes, or it stands by
-- while other rows of the table are written
pub data Event : Type 0 where
  Granted : (who number : ℕ) → Event
  Refused : (who : ℕ) → Event
  Crashed : (who : ℕ) → Event
  StoodBy : (who : ℕ) → Event

abbrev pub oracle_of : Event → ℕ
oracle_of (Granted who number) = who
oracle_of (Refused who) = who
oracle_of (Crashed who) = who
oracle_of (StoodBy who) = who

-- an event, by its oracle and the table before and after it: an oracle draws where it fits the table
abbrev pub Happens : Event → Option Block → Table → Option Block → Table → Type 0
Happens (Granted who number) oracle table oracle' table' = IsClock oracle table × Grants oracle table number oracle' table'
Happens (Refused who) oracle table oracle' table' = IsClock oracle table × IsClock oracle' table' × Keeps oracle table oracle' table'
Happens (Crashed who) oracle table oracle' table' = (oracle' ≡ None) × (table' ≡ table)
Happens (StoodBy who) oracle table oracle' table' = (oracle' ≡ oracle) × (stored_number table' ≡ stored_number table)

abbrev pub Oracles : Type 0
Oracles = ℕ → Option Block

abbrev pub with_oracle : Oracles → ℕ → Option Block → Oracles
with_oracle oracles who oracle other = if other == who then oracle else oracles other

-- events, one after the other
abbrev pub Run : Oracles → Table → List Event → Type 0
Run oracles table [] = Unit {0}
Run oracles table (event ∷ events) = (oracle' : Option Block) × (table' : Table) ×
    Happens event (oracles (oracle_of event)) table oracle' table' × Run (with_oracle oracles (oracle_of event) oracle') table' events

-- the numbers that were granted
abbrev pub numbers : List Event → List ℕ
numbers [] = []
numbers (Granted who number ∷ events) = number ∷ numbers events
numbers (Refused who ∷ events) = numbers events
numbers (Crashed who ∷ events) = numbers events
numbers (StoodBy who ∷ events) = numbers events

-- each number is above all before it, and the first is at least this one
abbrev pub RiseFrom : ℕ → List ℕ → Type 0
RiseFrom from [] = Unit {0}
RiseFrom from (number ∷ numbers) = (from ≤ number) × RiseFrom (number + 1) numbers
