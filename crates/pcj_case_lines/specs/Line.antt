-- The line of an answer: what stands behind what, and how bytes are written as a field.
use Rattle.std.specs.Prelude.{ℕ, List, [], ◌∷◌, ◌++◌, ◌+◌, ◌/◌, ◌%◌, if◌then◌else◌, ◌==◌, nat_lt, nat_le, ◌&&◌, codes}
use Rattle.std.specs.List.{flat_map}
use Rattle.std.specs.Str.{is_utf8}
use Rattle.pcj_case_lines.specs.declared.answer.Answer.{Answer}

-- an answer with more behind it
abbrev pub behind : Answer → List ℕ → Answer
behind answer more = record { alloc = answer.alloc; separator = answer.separator; text = answer.text ++ more }

-- an answer with a field behind it
abbrev pub with_field : Answer → List ℕ → Answer
with_field answer field = behind answer (answer.separator ∷ field)

-- the digit of a number below 16
abbrev pub hexadecimal : ℕ → ℕ
hexadecimal number = if nat_lt number 10 then 48 + number else 87 + number

-- a byte as it is written: the printable ones of ASCII as they are but for the backslash, the others by an escape
abbrev pub escaped_byte : ℕ → List ℕ
escaped_byte byte =
    if byte == 9 then codes "\\t" else
    if byte == 10 then codes "\\n" else
    if byte == 13 then codes "\\r" else
    if byte == 92 then codes "\\\\" else
    if nat_le 32 byte && nat_le byte 126 then byte ∷ [] else
    codes "\\x" ++ hexadecimal (byte / 16) ∷ hexadecimal (byte % 16) ∷ []

-- bytes as a field; no bytes are an escape too, so that the field can be seen
abbrev pub field_of : List ℕ → List ℕ
field_of [] = codes "\\e"
field_of (byte ∷ bytes) = flat_map escaped_byte (byte ∷ bytes)

-- what a field is as a word: a text as it is, and nothing where it is no text
abbrev pub word_of : List ℕ → List ℕ
word_of field = if is_utf8 field then field else []
