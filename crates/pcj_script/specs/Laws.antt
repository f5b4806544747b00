-- Each script has exactly one reading, and what stands at its front doesn't change when more of it comes.
use Rattle.std.specs.Prelude.{◌≡◌, ◌⊎◌, ℕ, Bool, false, List, ◌++◌, drop}
use Rattle.pcj_script.specs.Lines.{Line, lines_given, script_lines, all_written, IsUsed}
use Rattle.pcj_script.specs.Commands.{Command}
use Rattle.pcj_script.specs.Front.{Front, HasFront}
use Rattle.pcj_script.specs.Front.Front.{NoLine, Skipped, Whole, Open, Refused}
use Rattle.pcj_script.specs.Script.{Ending, IsRead}
use Rattle.pcj_script.specs.Script.Ending.{CutOff}

-- ---- one front

abbrev pub HasOneFront : Type 0
HasOneFront = (lines : List Line) (front other : Front) → HasFront lines front → HasFront lines other → front ≡ other

abbrev pub HasSomeFront : Type 0
HasSomeFront = (lines : List Line) → (front : Front) × HasFront lines front

-- ---- pieces

-- whether what stands at the front is whole, or refused
abbrev pub IsSettled : Front → Type 0
IsSettled NoLine = ⊥
IsSettled Skipped = Unit {0}
IsSettled (Whole command lines) = Unit {0}
IsSettled Open = ⊥
IsSettled (Refused before kind) = Unit {0}

-- what stands at the front of bytes that go on stands there whatever follows
abbrev pub StandsWhateverFollows : Type 0
StandsWhateverFollows = (ended : Bool) (bytes more : List ℕ) (front : Front) → IsSettled front →
    HasFront (lines_given false bytes) front → HasFront (lines_given ended (bytes ++ more)) front

-- behind the bytes of so many lines stand the lines that follow them
abbrev pub GoesOnBehind : Type 0
GoesOnBehind = (ended : Bool) (bytes : List ℕ) (count used : ℕ) → IsUsed (lines_given ended bytes) count used →
    lines_given ended (drop used bytes) ≡ drop count (lines_given ended bytes)

-- the lines are the bytes, and none is left out
abbrev pub IsWrittenBack : Type 0
IsWrittenBack = (bytes : List ℕ) → all_written (script_lines bytes) ≡ bytes

-- ---- one reading

abbrev pub HasOneReading : Type 0
HasOneReading = (all : Bool) (bytes : List ℕ) (commands others : List Command) (ending other : Ending) →
    IsRead all bytes commands ending → IsRead all bytes others other → (commands ≡ others) × (ending ≡ other)

abbrev pub HasReading : Type 0
HasReading = (all : Bool) (bytes : List ℕ) → (commands : List Command) × (ending : Ending) × IsRead all bytes commands ending

-- the same commands and ending, or else more commands where the first ones were cut off
abbrev pub GoesOnFrom : List Command → Ending → List Command → Ending → Type 0
GoesOnFrom commands ending others other =
    ((commands ≡ others) × (ending ≡ other)) ⊎ ((later : List Command) × (ending ≡ CutOff) × (others ≡ commands ++ later))

-- the commands of the bytes that were read first are those with which each reading of more bytes begins, and a line that is
-- refused in them is refused there
abbrev pub CommandsStand : Type 0
CommandsStand = (all : Bool) (bytes more : List ℕ) (commands others : List Command) (ending other : Ending) →
    IsRead false bytes commands ending → IsRead all (bytes ++ more) others other → GoesOnFrom commands ending others other
