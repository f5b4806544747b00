-- What holds of the triples of every document.
use Rattle.std.specs.Prelude.{ℕ, ◌≡◌, ◌<◌, ◌^◌, List}
use Rattle.std.specs.List.{All}
use Rattle.pcj_term.specs.declared.term.Term.{Term}
use Rattle.pcj_term.specs.declared.term.Term.TheVariants.{Iri, Blank, Literal}
use Rattle.pcj_term.specs.declared.triple.Triple.{Triple}
use Rattle.pcj_term.specs.Valid.{IsValid}
use Rattle.pcj_ntriples.specs.Document.{Document}

-- a subject of RDF (RDF 1.1 Concepts, section 3.1): an IRI or a blank node
abbrev pub IsSubject : Term → Type 0
IsSubject (Iri iri) = Unit {0}
IsSubject (Blank load label) = Unit {0}
IsSubject (Literal text kind) = ⊥

-- a predicate of RDF: an IRI
abbrev pub IsPredicate : Term → Type 0
IsPredicate (Iri iri) = Unit {0}
IsPredicate (Blank load label) = ⊥
IsPredicate (Literal text kind) = ⊥

-- Where it is a blank node, it carries this load's number.
abbrev pub CarriesLoad : ℕ → Term → Type 0
CarriesLoad load (Iri iri) = Unit {0}
CarriesLoad load (Blank node_load label) = node_load ≡ load
CarriesLoad load (Literal text kind) = Unit {0}

-- a triple of RDF, of valid terms, whose blank nodes carry this load's number
pub record IsTripleOf (load : ℕ) (triple : Triple) : Type 0 where
  pub subject : IsSubject triple.subject
  pub predicate : IsPredicate triple.predicate
  pub valid : IsValid triple.subject × IsValid triple.predicate × IsValid triple.object
  pub carries : CarriesLoad load triple.subject × CarriesLoad load triple.predicate × CarriesLoad load triple.object

-- Each triple of a document is one, where the load's number is a u64.
abbrev pub HasValidTriples : Type 0
HasValidTriples = (text : List ℕ) (load : ℕ) (triples : List Triple) → load < 2 ^ 64 → Document text load triples → All (IsTripleOf load) triples
