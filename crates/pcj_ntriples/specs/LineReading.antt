-- Reading a line from left to right.
use Rattle.std.specs.Prelude.{ℕ, ◌-◌, Bool, true, false, ◌&&◌, ◌||◌, ◌==◌, nat_lt, List, [], ◌∷◌, length, map, drop, Option, Some, None, Result, Ok, Err, if◌then◌else◌, chars, encode_utf8_all}
use Rattle.std.specs.Char.{to_ascii_lowercase}
use Rattle.std.specs.Str.{is_utf8}
use Rattle.pcj_term.specs.declared.kind.Kind.{Kind}
use Rattle.pcj_term.specs.declared.kind.Kind.TheVariants.{Plain, Lang, Typed}
use Rattle.pcj_term.specs.declared.term.Term.{Term}
use Rattle.pcj_term.specs.declared.term.Term.TheVariants.{Iri, Blank, Literal}
use Rattle.pcj_term.specs.declared.triple.Triple.{Triple}
use Rattle.pcj_term.specs.Iri.{is_absolute, is_letter, is_digit}
use Rattle.pcj_term.specs.Label.{is_label_character}
use Rattle.pcj_term.specs.Reading.{begins_with}
use Rattle.pcj_term.specs.Valid.{xsd_string}
use Rattle.pcj_term.specs.Order.{same_bytes}
use Rattle.pcj_ntriples.specs.declared.enclosure.Enclosure.{Enclosure}
use Rattle.pcj_ntriples.specs.declared.enclosure.Enclosure.TheVariants as enclosures
use Rattle.pcj_ntriples.specs.declared.place.Place.{Place}
use Rattle.pcj_ntriples.specs.declared.place.Place.TheVariants as places
use Rattle.pcj_ntriples.specs.declared.kind.NtKind.{NtKind}
use Rattle.pcj_ntriples.specs.declared.kind.NtKind.TheVariants.{NotUtf8, ObjectExpected, DotExpected, BadTag, RelativeIri, TrailingText, TermTooLong}
use Rattle.pcj_ntriples.specs.Term.{is_blank, begins_datatype, begins_node, takes_nodes, takes_literals, expected_at, term_limit}
use Rattle.pcj_ntriples.specs.Line.{ends_line}
use Rattle.pcj_ntriples.specs.TextReading.{text_from}

infixl 10 ◌>>=◌
abbrev pub ◌>>=◌ : {A B : Type 0} → Result A NtKind → (A → Result B NtKind) → Result B NtKind
(Ok x) >>= f = f x
(Err kind) >>= f = Err kind

abbrev pub skip_blanks : List ℕ → List ℕ
skip_blanks [] = []
skip_blanks (character ∷ characters) = if is_blank character then skip_blanks characters else character ∷ characters

abbrev pub encoded : Result (List ℕ × List ℕ) NtKind → Result (List ℕ × List ℕ) NtKind
encoded (Ok found) = Ok (encode_utf8_all found.0, found.1)
encoded (Err kind) = Err kind

-- the bytes of a text up to the mark at its end, and what follows
abbrev pub text_at : Enclosure → List ℕ → Result (List ℕ × List ℕ) NtKind
text_at enclosure characters = encoded (text_from enclosure 0 characters)

-- an IRI's bytes after its `<`, and what follows its `>`
unfoldable pub iri_at : List ℕ → Result (List ℕ × List ℕ) NtKind
iri_at characters = text_at enclosures.Iri characters >>= (λ found. if is_absolute found.0 then Ok found else Err RelativeIri)

-- a name with one more label character at its front, unless that is a dot at its end; after follows the name, and rest the character
abbrev pub onto_name : ℕ → List ℕ → List ℕ → List ℕ → List ℕ × List ℕ
onto_name character [] after rest = if character == 46 then ([], character ∷ rest) else (character ∷ [], after)
onto_name character (next ∷ name) after rest = (character ∷ next ∷ name, after)

-- the label characters at the front, without the dots at their end, and what follows
unfoldable pub name_at : List ℕ → List ℕ × List ℕ
name_at [] = ([], [])
name_at (character ∷ characters) =
    if is_label_character character
    then onto_name character (name_at characters).0 (name_at characters).1 characters
    else ([], character ∷ characters)

-- a label's bytes, and what follows it
abbrev pub label_at : List ℕ → List ℕ × List ℕ
label_at characters = (encode_utf8_all (name_at characters).0, (name_at characters).1)

abbrev pub node_at : ℕ → List ℕ → Result (Term × List ℕ) NtKind
node_at load characters = Ok (Blank load (label_at characters).0, (label_at characters).1)

abbrev pub onto_tag : ℕ → Option (List ℕ × List ℕ) → Option (List ℕ × List ℕ)
onto_tag character None = None
onto_tag character (Some found) = Some (character ∷ found.0, found.1)

-- A tag from here on, and what follows: whether digits may stand here, since it is not in the first subtag, and whether
-- this subtag has a character yet. None where it ends in a hyphen or is empty.
unfoldable pub tag_from : Bool → Bool → List ℕ → Option (List ℕ × List ℕ)
tag_from digits some [] = if some then Some ([], []) else None
tag_from digits some (character ∷ characters) =
    if is_letter character || (digits && is_digit character) then onto_tag character (tag_from digits true characters) else
    if character == 45 && some then onto_tag character (tag_from true false characters) else
    if some then Some ([], character ∷ characters) else
    None

abbrev pub lowered : Option (List ℕ × List ℕ) → Result (List ℕ × List ℕ) NtKind
lowered None = Err BadTag
lowered (Some found) = Ok (encode_utf8_all (map to_ascii_lowercase found.0), found.1)

-- a tag's bytes in lower case, and what follows it
abbrev pub tag_at : List ℕ → Result (List ℕ × List ℕ) NtKind
tag_at characters = lowered (tag_from false false characters)

abbrev pub lang_of : Option (List ℕ × List ℕ) → Result (Kind × List ℕ) NtKind
lang_of found = lowered found >>= (λ tag. Ok (Lang tag.0, tag.1))

abbrev pub lang_at : List ℕ → Result (Kind × List ℕ) NtKind
lang_at characters = tag_at characters >>= (λ tag. Ok (Lang tag.0, tag.1))

-- the kind of a datatype
abbrev pub kind_of_datatype : List ℕ → Kind
kind_of_datatype datatype = if same_bytes datatype xsd_string then Plain else Typed datatype

-- a datatype after `^^` and blanks
abbrev pub datatype_at : List ℕ → Result (Kind × List ℕ) NtKind
datatype_at characters =
    if begins_with 60 characters
    then (iri_at (drop 1 characters) >>= (λ found. Ok (kind_of_datatype found.0, found.1)))
    else Err ObjectExpected

-- a literal's kind after its string and blanks; whole is what follows the string
unfoldable pub kind_at : List ℕ → List ℕ → Result (Kind × List ℕ) NtKind
kind_at whole characters =
    if begins_with 64 characters then lang_at (drop 1 characters) else
    if begins_datatype characters then datatype_at (skip_blanks (drop 2 characters)) else
    Ok (Plain, whole)

unfoldable pub literal_at : List ℕ → Result (Term × List ℕ) NtKind
literal_at characters =
    text_at enclosures.String characters >>= (λ text.
    kind_at text.1 (skip_blanks text.1) >>= (λ kind.
    Ok (Literal text.0 kind.0, kind.1)))

-- a term of any length
unfoldable pub any_term_at : ℕ → Place → List ℕ → Result (Term × List ℕ) NtKind
any_term_at load place characters =
    if begins_with 60 characters then (iri_at (drop 1 characters) >>= (λ found. Ok (Iri found.0, found.1))) else
    if takes_nodes place && begins_node characters then node_at load (drop 2 characters) else
    if takes_literals place && begins_with 34 characters then literal_at (drop 1 characters) else
    Err (expected_at place)

-- the bytes from one place in a line to another
abbrev pub bytes_between : List ℕ → List ℕ → ℕ
bytes_between characters rest = length (encode_utf8_all characters) - length (encode_utf8_all rest)

unfoldable pub term_at : ℕ → Place → List ℕ → Result (Term × List ℕ) NtKind
term_at load place characters =
    any_term_at load place characters >>= (λ found. if nat_lt term_limit (bytes_between characters found.1) then Err TermTooLong else Ok found)

unfoldable pub end_at : Triple → List ℕ → Result (Option Triple) NtKind
end_at triple characters = if ends_line characters then Ok (Some triple) else Err TrailingText

unfoldable pub dot_at : Triple → List ℕ → Result (Option Triple) NtKind
dot_at triple characters = if begins_with 46 characters then end_at triple (skip_blanks (drop 1 characters)) else Err DotExpected

unfoldable pub object_at : ℕ → Term → Term → List ℕ → Result (Option Triple) NtKind
object_at load subject predicate characters =
    term_at load places.Object characters >>= (λ found. dot_at (record { subject = subject; predicate = predicate; object = found.0 }) (skip_blanks found.1))

unfoldable pub predicate_at : ℕ → Term → List ℕ → Result (Option Triple) NtKind
predicate_at load subject characters =
    term_at load places.Predicate characters >>= (λ found. object_at load subject found.0 (skip_blanks found.1))

unfoldable pub subject_at : ℕ → List ℕ → Result (Option Triple) NtKind
subject_at load characters =
    if ends_line characters then Ok None else
    (term_at load places.Subject characters >>= (λ found. predicate_at load found.0 (skip_blanks found.1)))

-- what a line's characters say
abbrev pub said_by : ℕ → List ℕ → Result (Option Triple) NtKind
said_by load characters = subject_at load (skip_blanks characters)

-- what a line says
unfoldable pub said_at : ℕ → List ℕ → Result (Option Triple) NtKind
said_at load line = if is_utf8 line then said_by load (chars line) else Err NotUtf8

-- whether a tag goes on with this character
abbrev pub is_tag_character : Bool → Bool → ℕ → Bool
is_tag_character digits some character = is_letter character || (digits && is_digit character) || (character == 45 && some)

abbrev pub begins_tag_character : Bool → Bool → List ℕ → Bool
begins_tag_character digits some [] = false
begins_tag_character digits some (character ∷ characters) = is_tag_character digits some character

abbrev pub begins_label_character : List ℕ → Bool
begins_label_character [] = false
begins_label_character (character ∷ characters) = is_label_character character
