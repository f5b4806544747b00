-- The lines of a script.
use Rattle.std.specs.Prelude.{◌≡◌, ℕ, Bool, true, false, ◌==◌, List, [], ◌∷◌, ◌++◌, length, take, if◌then◌else◌}
use Rattle.std.specs.List.{filter, flat_map}

-- a line: its bytes, and whether an LF follows them
pub record Line : Type 0 where
  pub bytes : List ℕ
  pub is_ended : Bool

abbrev pub onto_line : ℕ → List Line → List Line
onto_line byte [] = record { bytes = byte ∷ []; is_ended = false } ∷ []
onto_line byte (line ∷ lines) = record { bytes = byte ∷ line.bytes; is_ended = line.is_ended } ∷ lines

-- the lines of some bytes; the last LF may be missing, and nothing has no line
abbrev pub script_lines : List ℕ → List Line
script_lines [] = []
script_lines (byte ∷ bytes) = if byte == 10 then record { bytes = []; is_ended = true } ∷ script_lines bytes else onto_line byte (script_lines bytes)

-- the lines that can be looked at: where the bytes may go on, those that have their LF
abbrev pub lines_given : Bool → List ℕ → List Line
lines_given ended bytes = if ended then script_lines bytes else filter (λ line. line.is_ended) (script_lines bytes)

-- a line as it stands, with its LF
abbrev pub written : Line → List ℕ
written line = if line.is_ended then line.bytes ++ 10 ∷ [] else line.bytes

-- lines as they stand, one after another
abbrev pub all_written : List Line → List ℕ
all_written lines = flat_map written lines

-- the bytes without the CR at their end, if they have one there
abbrev pub without_return : List ℕ → List ℕ
without_return [] = []
without_return (byte ∷ []) = if byte == 13 then [] else byte ∷ []
without_return (byte ∷ next ∷ bytes) = byte ∷ without_return (next ∷ bytes)

-- what a line says: its bytes without the CR that stands directly before its LF
abbrev pub said : Line → List ℕ
said line = if line.is_ended then without_return line.bytes else line.bytes

-- so many lines at the front have so many bytes
abbrev pub IsUsed : List Line → ℕ → ℕ → Type 0
IsUsed lines count used = used ≡ length (all_written (take count lines))
