-- What a reader of a text answers.
use Rattle.std.specs.Prelude.{ℕ, ◌<◌, ◌≤◌, Bool, List, length}
use Rattle.pcj_script.specs.declared.text.TextEnd.{TextEnd}
use Rattle.pcj_script.specs.declared.text.TextEnd.TheVariants.{Ended, TooLong, Open}
use Rattle.pcj_script.specs.Lines.{lines_given, IsUsed}
use Rattle.pcj_script.specs.Front.{GoesOn, EndsText, PassesLimit}

abbrev pub HasTextEnd : Bool → List ℕ → TextEnd → Type 0
HasTextEnd ended bytes (Ended text used lines) = EndsText (lines_given ended bytes) text.now lines × IsUsed (lines_given ended bytes) lines used
HasTextEnd ended bytes (TooLong before) = PassesLimit (lines_given ended bytes) before
HasTextEnd ended bytes Open = GoesOn (lines_given ended bytes)

-- each line has a byte, and no number is above that of the bytes
abbrev pub IsWithin : List ℕ → TextEnd → Type 0
IsWithin bytes (Ended text used lines) = (lines ≤ used) × (used ≤ length bytes)
IsWithin bytes (TooLong before) = before < length bytes
IsWithin bytes Open = Unit {0}
