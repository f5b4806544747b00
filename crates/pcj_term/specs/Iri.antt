use Rattle.std.specs.Prelude.{ℕ, Bool, false, List, [], ◌∷◌, ◌==◌, nat_le, nat_lt, ◌&&◌, ◌||◌, not, codes}
use Rattle.std.specs.List.{list_all, list_any}
use Rattle.std.specs.Str.{is_utf8}

-- the byte lies between two others, both included
abbrev pub lies_between : ℕ → ℕ → ℕ → Bool
lies_between low high byte = nat_le low byte && nat_le byte high

abbrev pub is_letter : ℕ → Bool
is_letter byte = lies_between 65 90 byte || lies_between 97 122 byte

abbrev pub is_digit : ℕ → Bool
is_digit byte = lies_between 48 57 byte

abbrev pub is_letter_or_digit : ℕ → Bool
is_letter_or_digit byte = is_letter byte || is_digit byte

-- what may follow the first letter of a scheme
abbrev pub is_scheme_byte : ℕ → Bool
is_scheme_byte byte = is_letter_or_digit byte || byte == 43 || byte == 45 || byte == 46

-- the printable characters that N-Triples forbids in an IRI
abbrev pub is_iri_mark : ℕ → Bool
is_iri_mark byte = list_any (λ other. other == byte) (codes "<>\"{}|^`\\")

-- printable ASCII without what N-Triples forbids in an IRI
abbrev pub is_iri_byte : ℕ → Bool
is_iri_byte byte = lies_between 33 126 byte && not (is_iri_mark byte)

-- a scheme's bytes after its first, and then a colon
abbrev pub ends_scheme : List ℕ → Bool
ends_scheme [] = false
ends_scheme (byte ∷ bytes) = byte == 58 || (is_scheme_byte byte && ends_scheme bytes)

-- it begins with a scheme (RFC 3986, section 3.1) and a colon
abbrev pub is_absolute : List ℕ → Bool
is_absolute [] = false
is_absolute (byte ∷ bytes) = is_letter byte && ends_scheme bytes

-- what may stand between the brackets of an IRI, in printable ASCII
abbrev pub is_iri_text : List ℕ → Bool
is_iri_text bytes = list_all is_iri_byte bytes && is_absolute bytes

-- A character that N-Triples allows in an IRI (RDF 1.1 N-Triples, `IRIREF`). What it forbids is ASCII, so that
-- a byte of UTF-8 may stand in an IRI just where its character may.
abbrev pub is_iri_character : ℕ → Bool
is_iri_character character = nat_lt 32 character && not (is_iri_mark character)

-- an absolute IRI in UTF-8, without brackets and escapes
abbrev pub is_absolute_iri : List ℕ → Bool
is_absolute_iri bytes = is_utf8 bytes && list_all is_iri_character bytes && is_absolute bytes
