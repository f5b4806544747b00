-- What was read of a script.
use Rattle.std.specs.Prelude.{◌≡◌, ◌≤◌, ℕ, Bool, true, false, List, ◌++◌, length, take, Option, Some, None}
use Rattle.pcj_io.specs.Faults.{Rose}
use Rattle.pcj_script.specs.Lines.{Line, lines_given}
use Rattle.pcj_script.specs.Script.{Stop, is_too_long, script_limit}
use Rattle.pcj_script.specs.Script.{Stop as stops}
use Rattle.pcj_replay.specs.declared.input.Input.{Input}
use Rattle.pcj_replay.specs.declared.input.InputEnd.{InputEnd}
use Rattle.pcj_replay.specs.declared.input.InputEnd.TheVariants.{AtEnd, AtLimit, AtFault}

-- All that a source had left is these bytes, or they are its front; or the source tells nothing of it.
abbrev pub IsFrontOf : Option (List ℕ) → Bool → List ℕ → Type 0
IsFrontOf None all bytes = Unit {0}
IsFrontOf (Some left) true bytes = left ≡ bytes
IsFrontOf (Some left) false bytes = (more : List ℕ) × (left ≡ bytes ++ more)

-- the bytes of the script up to the limit, and where they stop
abbrev pub HoldsUpTo : InputEnd → Option (List ℕ) → List ℕ → Type 0
HoldsUpTo AtEnd left bytes = (length bytes ≤ script_limit) × IsFrontOf left true bytes
HoldsUpTo AtLimit left bytes = (script : List ℕ) × (is_too_long script ≡ true) × (bytes ≡ take script_limit script) × IsFrontOf left false script
HoldsUpTo AtFault left bytes = (length bytes ≤ script_limit) × IsFrontOf left false bytes

abbrev pub IsReadFrom : Option (List ℕ) → Input → Type 0
IsReadFrom left input = HoldsUpTo input.end left input.bytes.items

-- a fault is told only where the source's count rose
abbrev pub TellsSourceFault : ℕ → ℕ → Input → Type 0
TellsSourceFault before now input = input.end ≡ AtFault → Rose before now

-- ---- its lines

abbrev pub stop_of : InputEnd → Stop
stop_of AtEnd = stops.AtEnd
stop_of AtLimit = stops.AtLimit
stop_of AtFault = stops.Elsewhere

abbrev pub is_ended : InputEnd → Bool
is_ended AtEnd = true
is_ended AtLimit = false
is_ended AtFault = false

-- the lines that can be looked at
abbrev pub lines_up_to : InputEnd → List ℕ → List Line
lines_up_to end bytes = lines_given (is_ended end) bytes
