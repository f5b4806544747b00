-- Reading what stands between two marks from left to right.
use Rattle.std.specs.Prelude.{ℕ, zero, suc, ◌+◌, ◌*◌, ◌-◌, ◌&&◌, ◌==◌, nat_lt, List, [], ◌∷◌, ◌++◌, length, Option, Some, None, Result, Ok, Err, if◌then◌else◌}
use Rattle.std.specs.Char.{digit_value}
use Rattle.std.specs.Str.{all_scalars}
use Rattle.pcj_ntriples.specs.declared.kind.NtKind.{NtKind}
use Rattle.pcj_ntriples.specs.declared.kind.NtKind.TheVariants.{IriChar, BadEscape}
use Rattle.pcj_ntriples.specs.declared.enclosure.Enclosure.{Enclosure}
use Rattle.pcj_ntriples.specs.Text.{closing_of, allows_character, unclosed_of, short_escape_of, is_hexadecimal, digits_after}

-- n hexadecimal digits after those of number, which stay below the greatest character, and what follows
abbrev pub digits_at : ℕ → ℕ → List ℕ → Option (ℕ × List ℕ)
digits_at zero number characters = Some (number, characters)
digits_at (suc n) number [] = None
digits_at (suc n) number (digit ∷ characters) =
    if is_hexadecimal digit && nat_lt (number * 16 + digit_value digit) 0x110000
    then digits_at n (number * 16 + digit_value digit) characters
    else None

-- a number that is a character's
abbrev pub scalar_at : Option (ℕ × List ℕ) → Option (ℕ × List ℕ)
scalar_at None = None
scalar_at (Some found) = if all_scalars (found.0 ∷ []) then Some found else None

abbrev pub letter_at : Option ℕ → List ℕ → Option (ℕ × List ℕ)
letter_at None characters = None
letter_at (Some character) characters = Some (character, characters)

abbrev pub escape_by : Option ℕ → Option ℕ → List ℕ → Option (ℕ × List ℕ)
escape_by None short characters = letter_at short characters
escape_by (Some n) short characters = scalar_at (digits_at n 0 characters)

-- the character that an escape stands for, after its backslash, and what follows
unfoldable pub escape_at : Enclosure → List ℕ → Option (ℕ × List ℕ)
escape_at enclosure [] = None
escape_at enclosure (letter ∷ characters) = escape_by (digits_after letter) (short_escape_of enclosure letter) characters

abbrev pub with_front : List ℕ → Result (List ℕ × List ℕ) NtKind → Result (List ℕ × List ℕ) NtKind
with_front front (Ok found) = Ok (front ++ found.0, found.1)
with_front front (Err kind) = Err kind

abbrev pub with_character : Enclosure → ℕ → Result (List ℕ × List ℕ) NtKind → Result (List ℕ × List ℕ) NtKind
with_character enclosure character found = if allows_character enclosure character then with_front (character ∷ []) found else Err IriChar

-- what follows a backslash: the text from its escape on, where the text from n characters on is known
abbrev pub after_escape : Enclosure → (ℕ → Result (List ℕ × List ℕ) NtKind) → ℕ → Option (ℕ × List ℕ) → Result (List ℕ × List ℕ) NtKind
after_escape enclosure from total None = Err BadEscape
after_escape enclosure from total (Some found) = with_character enclosure found.0 (from (total - length found.1))

-- the text up to the mark at its end, and what follows; the first n characters belong to an escape that has been read
unfoldable pub text_from : Enclosure → ℕ → List ℕ → Result (List ℕ × List ℕ) NtKind
text_from enclosure n [] = Err (unclosed_of enclosure)
text_from enclosure (suc n) (character ∷ characters) = text_from enclosure n characters
text_from enclosure zero (character ∷ characters) =
    if character == closing_of enclosure then Ok ([], characters) else
    if character == 92 then after_escape enclosure (λ n. text_from enclosure n characters) (length characters) (escape_at enclosure characters) else
    with_character enclosure character (text_from enclosure zero characters)

abbrev pub allowed_at : Enclosure → ℕ → List ℕ → Result (Option ℕ × List ℕ) NtKind
allowed_at enclosure character rest = if allows_character enclosure character then Ok (Some character, rest) else Err IriChar

abbrev pub escaped_at : Enclosure → Option (ℕ × List ℕ) → Result (Option ℕ × List ℕ) NtKind
escaped_at enclosure None = Err BadEscape
escaped_at enclosure (Some found) = allowed_at enclosure found.0 found.1

-- the next character of a text, or None at the mark at its end, and what follows
abbrev pub character_at : Enclosure → List ℕ → Result (Option ℕ × List ℕ) NtKind
character_at enclosure [] = Err (unclosed_of enclosure)
character_at enclosure (character ∷ characters) =
    if character == closing_of enclosure then Ok (None, characters) else
    if character == 92 then escaped_at enclosure (escape_at enclosure characters) else
    allowed_at enclosure character characters
