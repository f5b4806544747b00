use Rattle.std.specs.Prelude.{ℕ, List, [], ◌∷◌, ◌++◌, codes, if◌then◌else◌, ◌==◌}
use Rattle.std.specs.List.{flat_map}
use Rattle.std.specs.Fmt.{decimal}
use Rattle.pcj_term.specs.declared.kind.Kind.{Kind}
use Rattle.pcj_term.specs.declared.kind.Kind.TheVariants.{Plain, Lang, Typed}
use Rattle.pcj_term.specs.declared.term.Term.{Term}
use Rattle.pcj_term.specs.declared.term.Term.TheVariants.{Iri, Blank, Literal}

-- an IRI in its brackets
abbrev pub bracketed : List ℕ → List ℕ
bracketed iri = 60 ∷ [] ++ iri ++ 62 ∷ []

-- a blank node by its load's number and its label
abbrev pub node_name : ℕ → List ℕ → List ℕ
node_name load label = codes "_:t" ++ decimal load ++ codes "x" ++ label

-- a byte of a literal's text as it is printed: TAB, LF, CR, the quote and the backslash by an escape
abbrev pub escape_of : ℕ → List ℕ
escape_of byte =
    if byte == 9 then codes "\\t" else
    if byte == 10 then codes "\\n" else
    if byte == 13 then codes "\\r" else
    if byte == 34 then codes "\\\"" else
    if byte == 92 then codes "\\\\" else
    byte ∷ []

abbrev pub escaped : List ℕ → List ℕ
escaped text = flat_map escape_of text

-- a text in its quotes
abbrev pub quoted : List ℕ → List ℕ
quoted text = 34 ∷ [] ++ escaped text ++ 34 ∷ []

-- what follows a literal's text
abbrev pub suffix_of : Kind → List ℕ
suffix_of Plain = []
suffix_of (Lang tag) = 64 ∷ tag
suffix_of (Typed datatype) = codes "^^" ++ bracketed datatype

-- the printed form of a term (RDF 1.1 N-Triples, section 2)
abbrev pub printed : Term → List ℕ
printed (Iri iri) = bracketed iri
printed (Blank load label) = node_name load label
printed (Literal text kind) = quoted text ++ suffix_of kind
