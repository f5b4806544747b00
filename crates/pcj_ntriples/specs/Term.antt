-- Terms as a line writes them (RDF 1.1 N-Triples, section 7).
use Rattle.std.specs.Prelude.{◌≡◌, ◌≢◌, ℕ, Bool, true, false, ◌&&◌, ◌||◌, ◌==◌, ◌≤◌, ◌<◌, List, [], ◌∷◌, ◌++◌, length, map, ◌⊎◌, encode_utf8_all}
use Rattle.std.specs.Char.{to_ascii_lowercase}
use Rattle.std.specs.List.{list_all}
use Rattle.pcj_term.specs.declared.kind.Kind.{Kind}
use Rattle.pcj_term.specs.declared.kind.Kind.TheVariants.{Plain, Lang, Typed}
use Rattle.pcj_term.specs.declared.term.Term.{Term}
use Rattle.pcj_term.specs.declared.term.Term.TheVariants.{Iri, Blank, Literal}
use Rattle.pcj_term.specs.Iri.{is_absolute}
use Rattle.pcj_term.specs.Label.{is_label, is_label_start}
use Rattle.pcj_term.specs.Tag.{is_language_tag}
use Rattle.pcj_term.specs.Reading.{begins_with}
use Rattle.pcj_term.specs.Valid.{xsd_string}
use Rattle.pcj_ntriples.specs.declared.enclosure.Enclosure.TheVariants as enclosures
use Rattle.pcj_ntriples.specs.declared.place.Place.{Place}
use Rattle.pcj_ntriples.specs.declared.place.Place.TheVariants as places
use Rattle.pcj_ntriples.specs.declared.kind.NtKind.{NtKind}
use Rattle.pcj_ntriples.specs.declared.kind.NtKind.TheVariants.{SubjectExpected, PredicateExpected, ObjectExpected}
use Rattle.pcj_ntriples.specs.Text.{Closes}

-- space and TAB
abbrev pub is_blank : ℕ → Bool
is_blank character = character == 32 || character == 9

abbrev pub begins_blank : List ℕ → Bool
begins_blank [] = false
begins_blank (character ∷ characters) = is_blank character

-- rest is what follows the blanks at the front
abbrev pub Skips : List ℕ → List ℕ → Type 0
Skips characters rest = (blanks : List ℕ) × (list_all is_blank blanks ≡ true) × (characters ≡ blanks ++ rest) × (begins_blank rest ≡ false)

-- no longer front of what is written passes the test
abbrev pub IsLongest : (List ℕ → Bool) → List ℕ → List ℕ → Type 0
IsLongest test front rest = (test front ≡ true) × ((more further : List ℕ) → rest ≡ more ++ further → test (front ++ more) ≡ true → more ≡ [])

-- The characters after a `<` write this absolute IRI, and rest follows its `>`.
abbrev pub TakesIri : List ℕ → List ℕ → List ℕ → Type 0
TakesIri inner iri rest = (text : List ℕ) × Closes enclosures.Iri inner text rest × (iri ≡ encode_utf8_all text) × (is_absolute iri ≡ true)

abbrev pub is_label_of : List ℕ → Bool
is_label_of characters = is_label (encode_utf8_all characters)

-- The characters after a `_:` begin with this label, the longest there.
abbrev pub TakesLabel : List ℕ → List ℕ → List ℕ → Type 0
TakesLabel inner label rest = (name : List ℕ) × (inner ≡ name ++ rest) × IsLongest is_label_of name rest × (label ≡ encode_utf8_all name)

-- The characters after a `@` begin with this tag, the longest there, which no `-` follows. The tag is in lower case.
abbrev pub TakesTag : List ℕ → List ℕ → List ℕ → Type 0
TakesTag inner tag rest =
    (written : List ℕ) × (inner ≡ written ++ rest) × IsLongest is_language_tag written rest × (begins_with 45 rest ≡ false) × (tag ≡ encode_utf8_all (map to_ascii_lowercase written))

-- After a string and blanks stands a `^^`, and after further blanks rest.
abbrev pub BeforeDatatype : List ℕ → List ℕ → Type 0
BeforeDatatype after rest = (marked : List ℕ) × Skips after (94 ∷ 94 ∷ marked) × Skips marked rest

abbrev pub TakesDatatype : List ℕ → List ℕ → List ℕ → Type 0
TakesDatatype after datatype rest = (inner : List ℕ) × BeforeDatatype after (60 ∷ inner) × TakesIri inner datatype rest

abbrev pub begins_datatype : List ℕ → Bool
begins_datatype [] = false
begins_datatype (first ∷ []) = false
begins_datatype (first ∷ next ∷ characters) = first == 94 && next == 94

-- what begins a tag or a datatype
abbrev pub begins_suffix : List ℕ → Bool
begins_suffix characters = begins_with 64 characters || begins_datatype characters

-- What follows a string gives it this kind. A datatype xsd:string gives the plain kind, as no suffix does.
abbrev pub TakesKind : List ℕ → Kind → List ℕ → Type 0
TakesKind after Plain rest =
    ((rest ≡ after) × ((next : List ℕ) × Skips after next × (begins_suffix next ≡ false))) ⊎ TakesDatatype after xsd_string rest
TakesKind after (Lang tag) rest = (inner : List ℕ) × Skips after (64 ∷ inner) × TakesTag inner tag rest
TakesKind after (Typed datatype) rest = TakesDatatype after datatype rest × (datatype ≢ xsd_string)

-- The characters begin with this term, whole, and rest follows. load is the number of the document's load.
abbrev pub Takes : ℕ → List ℕ → Term → List ℕ → Type 0
Takes load characters (Iri iri) rest = (inner : List ℕ) × (characters ≡ 60 ∷ inner) × TakesIri inner iri rest
Takes load characters (Blank node_load label) rest = (inner : List ℕ) × (characters ≡ 95 ∷ 58 ∷ inner) × TakesLabel inner label rest × (node_load ≡ load)
Takes load characters (Literal text kind) rest =
    (inner spelled after : List ℕ) × (characters ≡ 34 ∷ inner) × Closes enclosures.String inner spelled after × (text ≡ encode_utf8_all spelled) × TakesKind after kind rest

-- how many bytes a term may have, as it is written
abbrev pub term_limit : ℕ
term_limit = 16384

-- the bytes between two places in a line, as they are written
abbrev pub WritesBytes : List ℕ → List ℕ → ℕ → Type 0
WritesBytes characters rest count = (written : List ℕ) × (characters ≡ written ++ rest) × (count ≡ length (encode_utf8_all written))

-- what a term may be at its place in a line
abbrev pub takes_nodes : Place → Bool
takes_nodes places.Subject = true
takes_nodes places.Predicate = false
takes_nodes places.Object = true

abbrev pub takes_literals : Place → Bool
takes_literals places.Subject = false
takes_literals places.Predicate = false
takes_literals places.Object = true

abbrev pub IsAllowed : Place → Term → Type 0
IsAllowed place (Iri iri) = Unit {0}
IsAllowed place (Blank load label) = takes_nodes place ≡ true
IsAllowed place (Literal text kind) = takes_literals place ≡ true

-- the fault of a line that has no term there
abbrev pub expected_at : Place → NtKind
expected_at places.Subject = SubjectExpected
expected_at places.Predicate = PredicateExpected
expected_at places.Object = ObjectExpected

-- `_:` and a label's first character
abbrev pub begins_node : List ℕ → Bool
begins_node [] = false
begins_node (first ∷ []) = false
begins_node (first ∷ second ∷ []) = false
begins_node (first ∷ second ∷ third ∷ characters) = first == 95 && second == 58 && is_label_start third

abbrev pub begins_term : Place → List ℕ → Bool
begins_term place characters =
    begins_with 60 characters || (takes_nodes place && begins_node characters) || (takes_literals place && begins_with 34 characters)

-- a whole term of its place, that is not too long
abbrev pub TakesTerm : ℕ → Place → List ℕ → Term → List ℕ → Type 0
TakesTerm load place characters term rest =
    IsAllowed place term × Takes load characters term rest × ((count : ℕ) × WritesBytes characters rest count × (count ≤ term_limit))

-- a whole term of its place, that is too long
abbrev pub TakesLongTerm : ℕ → Place → List ℕ → Term → List ℕ → Type 0
TakesLongTerm load place characters term rest =
    IsAllowed place term × Takes load characters term rest × ((count : ℕ) × WritesBytes characters rest count × (term_limit < count))
