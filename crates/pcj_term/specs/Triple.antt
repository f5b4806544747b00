-- Terms and triples that are the same, and lists of triples.
use Rattle.std.specs.Prelude.{◌↔◌, ◌⊎◌, Bool, true, false, not, ◌&&◌, List, [], ◌∷◌, filter, nat_eq}
use Rattle.std.specs.List.{Contains}
use Rattle.pcj_term.specs.declared.kind.Kind.{Kind}
use Rattle.pcj_term.specs.declared.kind.Kind.TheVariants.{Plain, Lang, Typed}
use Rattle.pcj_term.specs.declared.term.Term.{Term}
use Rattle.pcj_term.specs.declared.term.Term.TheVariants.{Iri, Blank, Literal}
use Rattle.pcj_term.specs.declared.triple.Triple.{Triple}
use Rattle.pcj_term.specs.Order.{same_bytes}

abbrev pub same_kind : Kind → Kind → Bool
same_kind Plain Plain = true
same_kind Plain (Lang tag) = false
same_kind Plain (Typed datatype) = false
same_kind (Lang tag) Plain = false
same_kind (Lang tag) (Lang other) = same_bytes tag other
same_kind (Lang tag) (Typed datatype) = false
same_kind (Typed datatype) Plain = false
same_kind (Typed datatype) (Lang tag) = false
same_kind (Typed datatype) (Typed other) = same_bytes datatype other

-- whether two terms are one
abbrev pub same_term : Term → Term → Bool
same_term (Iri iri) (Iri other) = same_bytes iri other
same_term (Iri iri) (Blank load label) = false
same_term (Iri iri) (Literal text kind) = false
same_term (Blank load label) (Iri iri) = false
same_term (Blank load label) (Blank load' label') = nat_eq load load' && same_bytes label label'
same_term (Blank load label) (Literal text kind) = false
same_term (Literal text kind) (Iri iri) = false
same_term (Literal text kind) (Blank load label) = false
same_term (Literal text kind) (Literal text' kind') = same_bytes text text' && same_kind kind kind'

-- whether two triples are one
abbrev pub same_triple : Triple → Triple → Bool
same_triple triple other =
    same_term triple.subject other.subject && same_term triple.predicate other.predicate && same_term triple.object other.object

-- each triple once, in the order of first appearance
abbrev pub distinct : List Triple → List Triple
distinct [] = []
distinct (triple ∷ triples) = triple ∷ filter (λ other. not (same_triple triple other)) (distinct triples)

-- the triples of a load join those that were there
abbrev pub Joins : List Triple → List Triple → List Triple → Type 0
Joins old new loaded = (triple : Triple) → Contains new triple ↔ (Contains old triple ⊎ Contains loaded triple)
