-- The lines of a document.
use Rattle.std.specs.Prelude.{ℕ, List, [], ◌∷◌, ◌==◌, ◌&&◌, drop, if◌then◌else◌}
use Rattle.std.specs.List.{onto_first}
use Rattle.pcj_term.specs.Reading.{begins_with}

-- LF, CR or CR LF ends a line: a CR right before a LF belongs to the end that the LF makes.
-- The last line's end may be missing, and an empty document has no line.
abbrev pub document_lines : List ℕ → List (List ℕ)
document_lines [] = []
document_lines (byte ∷ bytes) =
    if byte == 10 then [] ∷ document_lines bytes else
    if byte == 13 then (if begins_with 10 bytes then document_lines bytes else [] ∷ document_lines bytes) else
    onto_first byte (document_lines bytes)

-- what follows the end of a line that stands at the front
abbrev pub after_end : List ℕ → List ℕ
after_end [] = []
after_end (byte ∷ bytes) = if byte == 13 && begins_with 10 bytes then drop 1 bytes else bytes
