-- The commands of a script, or of what was read of one, and its end or the line that is refused.
use Rattle.std.specs.Prelude.{◌≡◌, ◌⊎◌, ℕ, ◌+◌, Bool, true, false, List, [], ◌∷◌, length, take, drop, nat_lt, if◌then◌else◌}
use Rattle.pcj_script.specs.declared.error.ScriptKind.{ScriptKind}
use Rattle.pcj_script.specs.declared.error.ScriptKind.TheVariants.{MissingEnd, TooMuch}
use Rattle.pcj_script.specs.Lines.{Line, lines_given}
use Rattle.pcj_script.specs.Commands.{Command}
use Rattle.pcj_script.specs.Front.{HasFront}
use Rattle.pcj_script.specs.Front.Front.{NoLine, Skipped, Whole, Open, Refused}

-- the most bytes that a script may have: 64 MiB
abbrev pub script_limit : ℕ
script_limit = 67108864

-- Where some lines stop: at the end of the script, or before the line of the first byte past the limit, or somewhere else,
-- since no more was read.
pub data Stop : Type 0 where
  AtEnd : Stop
  AtLimit : Stop
  Elsewhere : Stop

-- a script was read to its end; or its line of this number is refused; or else no more of it was read
pub data Ending : Type 0 where
  End : Ending
  RefusedAt : (line : ℕ) (kind : ScriptKind) → Ending
  CutOff : Ending

-- The lines, the first of which has this number, are these commands and then this ending. Where no more was read, a line that
-- is refused whatever follows is the ending, and a command whose text has no end in the lines is none yet.
pub data Spells (stop : Stop) : ℕ → List Line → List Command → Ending → Type 0 where
  skips : {line : ℕ} {lines : List Line} {commands : List Command} {ending : Ending} →
      HasFront lines Skipped → Spells stop (line + 1) (drop 1 lines) commands ending → Spells stop line lines commands ending
  takes : {line count : ℕ} {lines : List Line} {command : Command} {later : List Command} {ending : Ending} →
      HasFront lines (Whole command count) → Spells stop (line + count) (drop count lines) later ending → Spells stop line lines (command ∷ later) ending
  refuses : {line before : ℕ} {lines : List Line} {kind : ScriptKind} →
      HasFront lines (Refused before kind) → Spells stop line lines [] (RefusedAt (line + before) kind)
  is_over : {line : ℕ} {lines : List Line} → stop ≡ AtEnd → HasFront lines NoLine → Spells stop line lines [] End
  has_no_end : {line : ℕ} {lines : List Line} → stop ≡ AtEnd → HasFront lines Open → Spells stop line lines [] (RefusedAt line MissingEnd)
  passes_limit : {line : ℕ} {lines : List Line} → stop ≡ AtLimit → HasFront lines NoLine ⊎ HasFront lines Open →
      Spells stop line lines [] (RefusedAt (line + length lines) TooMuch)
  goes_on : {line : ℕ} {lines : List Line} → stop ≡ Elsewhere → HasFront lines NoLine ⊎ HasFront lines Open → Spells stop line lines [] CutOff

abbrev pub is_too_long : List ℕ → Bool
is_too_long bytes = nat_lt script_limit (length bytes)

-- where the lines of some bytes stop, which are all bytes of the script or not
abbrev pub stop_at : Bool → List ℕ → Stop
stop_at all bytes = if is_too_long bytes then AtLimit else if all then AtEnd else Elsewhere

-- The lines of these bytes of a script. Where they aren't all of it, they are those that have their LF; and where they are too
-- many, those that end within the limit.
abbrev pub readable_lines : Bool → List ℕ → List Line
readable_lines all bytes = if is_too_long bytes then lines_given false (take script_limit bytes) else lines_given all bytes

-- The bytes that were read of a script, all of them or not, are these commands, and then its end, a refused line, or what no
-- command can be told of.
abbrev pub IsRead : Bool → List ℕ → List Command → Ending → Type 0
IsRead all bytes commands ending = Spells (stop_at all bytes) 1 (readable_lines all bytes) commands ending

-- the bytes are a script of these commands, and then of its end or a refused line
abbrev pub IsScript : List ℕ → List Command → Ending → Type 0
IsScript bytes commands ending = IsRead true bytes commands ending
