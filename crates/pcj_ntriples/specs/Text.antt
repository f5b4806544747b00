-- Characters between two marks, as they are written (RDF 1.1 N-Triples, `IRIREF`, `STRING_LITERAL_QUOTE`, `UCHAR`, `ECHAR`).
-- A line has no LF and no CR in it, so that a string need not forbid them.
use Rattle.std.specs.Prelude.{◌≡◌, ℕ, Bool, true, false, not, ◌&&◌, ◌==◌, nat_lt, List, [], ◌∷◌, ◌++◌, length, map, Option, Some, None, if◌then◌else◌, ◌⊎◌}
use Rattle.std.specs.Char.{digit_value, IsScalar}
use Rattle.std.specs.List.{list_all, flat_map, AllByRecursion}
use Rattle.std.specs.Str.Parse.{digits_value}
use Rattle.pcj_term.specs.Iri.{is_iri_character}
use Rattle.pcj_ntriples.specs.declared.kind.NtKind.{NtKind}
use Rattle.pcj_ntriples.specs.declared.kind.NtKind.TheVariants.{IriOpen, StringOpen}
use Rattle.pcj_ntriples.specs.declared.enclosure.Enclosure.{Enclosure}
use Rattle.pcj_ntriples.specs.declared.enclosure.Enclosure.TheVariants as enclosures

-- the mark at the end: `>` or `"`
abbrev pub closing_of : Enclosure → ℕ
closing_of enclosures.Iri = 62
closing_of enclosures.String = 34

-- what may stand there, raw or by an escape
abbrev pub allows_character : Enclosure → ℕ → Bool
allows_character enclosures.Iri character = is_iri_character character
allows_character enclosures.String character = true

-- the fault of a line that ends inside
abbrev pub unclosed_of : Enclosure → NtKind
unclosed_of enclosures.Iri = IriOpen
unclosed_of enclosures.String = StringOpen

-- the character that a backslash and this letter stand for in a string
abbrev pub short_escape : ℕ → Option ℕ
short_escape letter =
    if letter == 116 then Some 9 else
    if letter == 98 then Some 8 else
    if letter == 110 then Some 10 else
    if letter == 114 then Some 13 else
    if letter == 102 then Some 12 else
    if letter == 34 then Some 34 else
    if letter == 39 then Some 39 else
    if letter == 92 then Some 92 else
    None

abbrev pub short_escape_of : Enclosure → ℕ → Option ℕ
short_escape_of enclosures.Iri letter = None
short_escape_of enclosures.String letter = short_escape letter

abbrev pub is_hexadecimal : ℕ → Bool
is_hexadecimal character = nat_lt (digit_value character) 16

-- how many hexadecimal digits follow the letter of an escape by number: `u` or `U`
abbrev pub digits_after : ℕ → Option ℕ
digits_after letter =
    if letter == 117 then Some 4 else
    if letter == 85 then Some 8 else
    None

-- an escape by the number of a character, without its backslash
abbrev pub IsNumericEscape : List ℕ → ℕ → Type 0
IsNumericEscape [] character = ⊥
IsNumericEscape (letter ∷ digits) character =
    (digits_after letter ≡ Some (length digits)) × (list_all is_hexadecimal digits ≡ true) × (digits_value 16 digits ≡ character) × IsScalar character

-- an escape by a letter, without its backslash
abbrev pub IsShortEscape : Enclosure → List ℕ → ℕ → Type 0
IsShortEscape enclosure [] character = ⊥
IsShortEscape enclosure (letter ∷ more) character = (more ≡ []) × (short_escape_of enclosure letter ≡ Some character)

abbrev pub IsEscape : Enclosure → List ℕ → ℕ → Type 0
IsEscape enclosure escape character = IsNumericEscape escape character ⊎ IsShortEscape enclosure escape character

-- what begins no escape, after a backslash
abbrev pub BeginsNoEscape : Enclosure → List ℕ → Type 0
BeginsNoEscape enclosure characters = (escape rest : List ℕ) (character : ℕ) → characters ≡ escape ++ rest → IsEscape enclosure escape character → ⊥

-- a character between the marks, and how it is written there
pub record Piece : Type 0 where
  pub written : List ℕ
  pub character : ℕ

-- a character that stands for itself: neither the mark at the end nor a backslash
abbrev pub stands_raw : Enclosure → ℕ → Bool
stands_raw enclosure character = not (character == closing_of enclosure) && not (character == 92)

abbrev pub IsRaw : Enclosure → Piece → Type 0
IsRaw enclosure piece = (piece.written ≡ piece.character ∷ []) × (stands_raw enclosure piece.character ≡ true)

abbrev pub IsEscaped : Enclosure → Piece → Type 0
IsEscaped enclosure piece = (escape : List ℕ) × (piece.written ≡ 92 ∷ escape) × IsEscape enclosure escape piece.character

-- raw or by an escape, and allowed
abbrev pub IsPiece : Enclosure → Piece → Type 0
IsPiece enclosure piece = (allows_character enclosure piece.character ≡ true) × (IsRaw enclosure piece ⊎ IsEscaped enclosure piece)

abbrev pub written_by : List Piece → List ℕ
written_by pieces = flat_map (λ piece. piece.written) pieces

abbrev pub spelled_by : List Piece → List ℕ
spelled_by pieces = map (λ piece. piece.character) pieces

-- The characters after the opening mark spell this text so far, and rest follows.
pub record Within (enclosure : Enclosure) (inner text rest : List ℕ) : Type 0 where
  pub pieces : List Piece
  pub good : AllByRecursion (IsPiece enclosure) pieces
  pub written : inner ≡ written_by pieces ++ rest
  pub spelled : text ≡ spelled_by pieces

-- The characters after the opening mark spell this text, and rest follows the mark at its end.
abbrev pub Closes : Enclosure → List ℕ → List ℕ → List ℕ → Type 0
Closes enclosure inner text rest = Within enclosure inner text (closing_of enclosure ∷ rest)

-- what stands at the front isn't allowed there: raw, or by an escape
abbrev pub IsForbiddenRaw : Enclosure → List ℕ → Type 0
IsForbiddenRaw enclosure [] = ⊥
IsForbiddenRaw enclosure (character ∷ rest) = (stands_raw enclosure character ≡ true) × (allows_character enclosure character ≡ false)

abbrev pub IsForbiddenEscape : Enclosure → List ℕ → Type 0
IsForbiddenEscape enclosure characters =
    (escape rest : List ℕ) × (character : ℕ) × (characters ≡ 92 ∷ escape ++ rest) × IsEscape enclosure escape character × (allows_character enclosure character ≡ false)

abbrev pub HoldsForbidden : Enclosure → List ℕ → Type 0
HoldsForbidden enclosure inner = (text rest : List ℕ) × Within enclosure inner text rest × (IsForbiddenRaw enclosure rest ⊎ IsForbiddenEscape enclosure rest)

-- the line ends between the marks
abbrev pub IsUnclosed : Enclosure → List ℕ → Type 0
IsUnclosed enclosure inner = (text : List ℕ) × Within enclosure inner text []

-- a backslash between the marks begins no escape
abbrev pub HasBadEscape : Enclosure → List ℕ → Type 0
HasBadEscape enclosure inner = (text rest : List ℕ) × Within enclosure inner text (92 ∷ rest) × BeginsNoEscape enclosure rest
