-- What is told of the front of a script's bytes.
use Rattle.std.specs.Prelude.{◌≡◌, ◌⊎◌, ℕ, ◌+◌, ◌<◌, ◌≤◌, Bool, true, false, List}
use Rattle.pcj_script.specs.declared.error.ScriptKind.{ScriptKind}
use Rattle.pcj_script.specs.declared.error.ScriptKind.TheVariants.{MissingEnd}
use Rattle.pcj_script.specs.declared.front.Front.{Front as Told}
use Rattle.pcj_script.specs.declared.front.Front.TheVariants as told
use Rattle.pcj_script.specs.Lines.{Line, lines_given, IsUsed}
use Rattle.pcj_script.specs.Commands.{command_of}
use Rattle.pcj_script.specs.Front.{HasFront}
use Rattle.pcj_script.specs.Front.Front.{NoLine, Skipped, Whole, Open, Refused}

-- a line is refused, the first one having this number: one that is refused whatever follows, or that of a command whose
-- text has no end where nothing follows
abbrev pub RefusesLine : Bool → ℕ → List Line → ℕ → ScriptKind → Type 0
RefusesLine ended line lines number kind =
    ((before : ℕ) × HasFront lines (Refused before kind) × (number ≡ line + before))
    ⊎ ((ended ≡ true) × HasFront lines Open × (kind ≡ MissingEnd) × (number ≡ line))

abbrev pub IsTold : Bool → ℕ → List Line → Told → Type 0
IsTold ended line lines (told.Got command used count) = HasFront lines (Whole (command_of command) count) × IsUsed lines count used
IsTold ended line lines (told.Skipped used) = HasFront lines Skipped × IsUsed lines 1 used
IsTold ended line lines told.More = (ended ≡ false) × (HasFront lines NoLine ⊎ HasFront lines Open)
IsTold ended line lines (told.Refused error) = RefusesLine ended line lines error.line error.kind
IsTold ended line lines told.End = (ended ≡ true) × HasFront lines NoLine

-- what is told of the front of some bytes, the first of which begin the line with this number
abbrev pub StandsAtFront : Bool → ℕ → List ℕ → Told → Type 0
StandsAtFront ended line bytes found = IsTold ended line (lines_given ended bytes) found

-- something is used of so many bytes, and each line of it has a byte
abbrev pub UsesSome : ℕ → Told → Type 0
UsesSome size (told.Got command used lines) = (0 < lines) × (lines ≤ used) × (used ≤ size)
UsesSome size (told.Skipped used) = (0 < used) × (used ≤ size)
UsesSome size told.More = Unit {0}
UsesSome size (told.Refused error) = Unit {0}
UsesSome size told.End = Unit {0}
