-- What a line says, and what is wrong with it: some whole items from the left, with blanks between, and a rest.
use Rattle.std.specs.Prelude.{◌≡◌, ℕ, Bool, true, false, List, [], ◌∷◌, ◌++◌, ◌==◌, Option, Some, None, ◌⊎◌, chars, encode_utf8_all}
use Rattle.std.specs.Str.{is_utf8}
use Rattle.pcj_term.specs.declared.term.Term.{Term}
use Rattle.pcj_term.specs.declared.triple.Triple.{Triple}
use Rattle.pcj_term.specs.Iri.{is_absolute}
use Rattle.pcj_term.specs.Reading.{begins_with}
use Rattle.pcj_term.specs.Tag.{is_language_tag}
use Rattle.pcj_ntriples.specs.declared.enclosure.Enclosure.TheVariants as enclosures
use Rattle.pcj_ntriples.specs.declared.place.Place.TheVariants as places
use Rattle.pcj_ntriples.specs.declared.kind.NtKind.{NtKind}
use Rattle.pcj_ntriples.specs.declared.kind.NtKind.TheVariants.{NotUtf8, SubjectExpected, PredicateExpected, ObjectExpected, DotExpected, IriChar, IriOpen, StringOpen, BadEscape, BadTag, RelativeIri, TrailingText, TermTooLong, TooMany}
use Rattle.pcj_ntriples.specs.Text.{Closes, HoldsForbidden, IsUnclosed, HasBadEscape}
pub use Rattle.pcj_ntriples.specs.Term.{Skips, IsLongest, BeforeDatatype, TakesTerm, TakesLongTerm, begins_term}

-- the line's end, or a comment up to it
abbrev pub ends_line : List ℕ → Bool
ends_line [] = true
ends_line (character ∷ characters) = character == 35

-- ---- what is left of a line after some whole items and blanks; load is the number of the document's load

abbrev pub BeforeSubject : List ℕ → List ℕ → Type 0
BeforeSubject line rest = Skips line rest

abbrev pub BeforePredicate : ℕ → List ℕ → Term → List ℕ → Type 0
BeforePredicate load line subject rest =
    (from to : List ℕ) × BeforeSubject line from × TakesTerm load places.Subject from subject to × Skips to rest

abbrev pub BeforeObject : ℕ → List ℕ → Term → Term → List ℕ → Type 0
BeforeObject load line subject predicate rest =
    (from to : List ℕ) × BeforePredicate load line subject from × TakesTerm load places.Predicate from predicate to × Skips to rest

abbrev pub BeforeDot : ℕ → List ℕ → Triple → List ℕ → Type 0
BeforeDot load line triple rest =
    (from to : List ℕ) × BeforeObject load line triple.subject triple.predicate from × TakesTerm load places.Object from triple.object to × Skips to rest

abbrev pub AfterDot : ℕ → List ℕ → Triple → List ℕ → Type 0
AfterDot load line triple rest = (after : List ℕ) × BeforeDot load line triple (46 ∷ after) × Skips after rest

-- ---- within terms

-- the characters after the quote of a string
abbrev pub AtString : ℕ → List ℕ → List ℕ → Type 0
AtString load line inner = (subject predicate : Term) × BeforeObject load line subject predicate (34 ∷ inner)

-- what follows a string's last quote
abbrev pub AfterString : ℕ → List ℕ → List ℕ → Type 0
AfterString load line after = (inner text : List ℕ) × AtString load line inner × Closes enclosures.String inner text after

-- what follows a string, its `^^` and the blanks there
abbrev pub AtDatatype : ℕ → List ℕ → List ℕ → Type 0
AtDatatype load line rest = (after : List ℕ) × AfterString load line after × BeforeDatatype after rest

-- the characters after the `@` of a tag
abbrev pub AtTag : ℕ → List ℕ → List ℕ → Type 0
AtTag load line inner = (after : List ℕ) × AfterString load line after × Skips after (64 ∷ inner)

-- the characters after the `<` of an IRI: of a term, or of a datatype
abbrev pub AtIri : ℕ → List ℕ → List ℕ → Type 0
AtIri load line inner =
    BeforeSubject line (60 ∷ inner)
    ⊎ ((subject : Term) × BeforePredicate load line subject (60 ∷ inner))
    ⊎ ((subject predicate : Term) × BeforeObject load line subject predicate (60 ∷ inner))
    ⊎ AtDatatype load line (60 ∷ inner)

-- no tag follows an `@`, or one that a `-` follows
abbrev pub IsNoTag : List ℕ → Type 0
IsNoTag inner = (written rest : List ℕ) → inner ≡ written ++ rest → is_language_tag written ≡ true → ⊥

abbrev pub IsCutTag : List ℕ → Type 0
IsCutTag inner = (written rest : List ℕ) × (inner ≡ written ++ 45 ∷ rest) × IsLongest is_language_tag written (45 ∷ rest)

abbrev pub IsRelative : List ℕ → Type 0
IsRelative inner = (text rest : List ℕ) × Closes enclosures.Iri inner text rest × (is_absolute (encode_utf8_all text) ≡ false)

abbrev pub IsTooLong : ℕ → List ℕ → Type 0
IsTooLong load line =
    ((from rest : List ℕ) × (subject : Term) × BeforeSubject line from × TakesLongTerm load places.Subject from subject rest)
    ⊎ ((from rest : List ℕ) × (subject predicate : Term) × BeforePredicate load line subject from × TakesLongTerm load places.Predicate from predicate rest)
    ⊎ ((from rest : List ℕ) × (triple : Triple) × BeforeObject load line triple.subject triple.predicate from × TakesLongTerm load places.Object from triple.object rest)

-- ---- what is wrong with a line in UTF-8, kind by kind

abbrev pub IsFaulty : ℕ → List ℕ → NtKind → Type 0
IsFaulty load line NotUtf8 = ⊥
IsFaulty load line SubjectExpected = (rest : List ℕ) × BeforeSubject line rest × (ends_line rest ≡ false) × (begins_term places.Subject rest ≡ false)
IsFaulty load line PredicateExpected = (rest : List ℕ) × (subject : Term) × BeforePredicate load line subject rest × (begins_term places.Predicate rest ≡ false)
IsFaulty load line ObjectExpected =
    ((rest : List ℕ) × (subject predicate : Term) × BeforeObject load line subject predicate rest × (begins_term places.Object rest ≡ false))
    ⊎ ((rest : List ℕ) × AtDatatype load line rest × (begins_with 60 rest ≡ false))
IsFaulty load line DotExpected = (rest : List ℕ) × (triple : Triple) × BeforeDot load line triple rest × (begins_with 46 rest ≡ false)
IsFaulty load line IriChar = (inner : List ℕ) × AtIri load line inner × HoldsForbidden enclosures.Iri inner
IsFaulty load line IriOpen = (inner : List ℕ) × AtIri load line inner × IsUnclosed enclosures.Iri inner
IsFaulty load line StringOpen = (inner : List ℕ) × AtString load line inner × IsUnclosed enclosures.String inner
IsFaulty load line BadEscape =
    ((inner : List ℕ) × AtIri load line inner × HasBadEscape enclosures.Iri inner)
    ⊎ ((inner : List ℕ) × AtString load line inner × HasBadEscape enclosures.String inner)
IsFaulty load line BadTag = (inner : List ℕ) × AtTag load line inner × (IsNoTag inner ⊎ IsCutTag inner)
IsFaulty load line RelativeIri = (inner : List ℕ) × AtIri load line inner × IsRelative inner
IsFaulty load line TrailingText = (rest : List ℕ) × (triple : Triple) × AfterDot load line triple rest × (ends_line rest ≡ false)
IsFaulty load line TermTooLong = IsTooLong load line
IsFaulty load line TooMany = ⊥

-- ---- lines

-- What a line says: nothing where it is empty but for blanks and a comment, or a triple.
abbrev pub Says : ℕ → List ℕ → Option Triple → Type 0
Says load line None = (rest : List ℕ) × BeforeSubject line rest × (ends_line rest ≡ true)
Says load line (Some triple) = (rest : List ℕ) × AfterDot load line triple rest × (ends_line rest ≡ true)

abbrev pub Good : ℕ → List ℕ → Option Triple → Type 0
Good load line said = (is_utf8 line ≡ true) × Says load (chars line) said

-- a line that says something, be it nothing
abbrev pub IsGood : ℕ → List ℕ → Type 0
IsGood load line = (said : Option Triple) × Good load line said

-- Why a line says nothing at all. Whether it isn't UTF-8 comes before all else. The load makes no difference.
abbrev pub Bad : List ℕ → NtKind → Type 0
Bad line kind = ((is_utf8 line ≡ false) × (kind ≡ NotUtf8)) ⊎ ((is_utf8 line ≡ true) × ((load : ℕ) × IsFaulty load (chars line) kind))
