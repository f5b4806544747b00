-- The terms that an N-Triples document can hold.
use Rattle.std.specs.Prelude.{◌≡◌, ◌≢◌, ℕ, true, List, ◌<◌, ◌^◌, codes}
use Rattle.std.specs.Str.{is_utf8}
use Rattle.pcj_term.specs.declared.kind.Kind.{Kind}
use Rattle.pcj_term.specs.declared.kind.Kind.TheVariants.{Plain, Lang, Typed}
use Rattle.pcj_term.specs.declared.term.Term.{Term}
use Rattle.pcj_term.specs.declared.term.Term.TheVariants.{Iri, Blank, Literal}
use Rattle.pcj_term.specs.Iri.{is_absolute_iri}
use Rattle.pcj_term.specs.Label.{is_label}
use Rattle.pcj_term.specs.Tag.{is_language_tag, is_lower_case}

abbrev pub xsd_string : List ℕ
xsd_string = codes "http://www.w3.org/2001/XMLSchema#string"

-- A tag is in lower case, and a literal of datatype xsd:string is of the plain kind.
abbrev pub IsValidKind : Kind → Type 0
IsValidKind Plain = Unit {0}
IsValidKind (Lang tag) = (is_language_tag tag ≡ true) × (is_lower_case tag ≡ true)
IsValidKind (Typed datatype) = (is_absolute_iri datatype ≡ true) × (datatype ≢ xsd_string)

abbrev pub IsValid : Term → Type 0
IsValid (Iri iri) = is_absolute_iri iri ≡ true
IsValid (Blank load label) = (load < 2 ^ 64) × (is_label label ≡ true)
IsValid (Literal text kind) = (is_utf8 text ≡ true) × IsValidKind kind
