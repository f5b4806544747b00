-- A document that is read under a number that was drawn may be loaded.
use Rattle.std.proofs.Common.{◌≡◌, ◌≤◌, ℕ, List, Option, Some, None, sym, subst, arith}
use Rattle.std.specs.List.{IsDistinct}
use Rattle.std.proofs.lemmas.List.Elements.{All-weaker}
use Rattle.pcj_term.specs.declared.term.Term.{Term}
use Rattle.pcj_term.specs.declared.term.Term.TheVariants.{Iri, Blank, Literal}
use Rattle.pcj_term.specs.declared.triple.Triple.{Triple}
use Rattle.pcj_term.specs.Triple.{same_triple}
use Rattle.pcj_ntriples.specs.Document.{Document}
use Rattle.pcj_ntriples.specs.Valid.{IsTripleOf, CarriesLoad}
use Rattle.pcj_ntriples.proofs.Valid.{has_valid_triples}
use Rattle.pcj_table.specs.Table.{Table}
use Rattle.pcj_encode.specs.Name.{IsTriple}
use Rattle.pcj_oracle.specs.declared.block.Block.{Block}
use Rattle.pcj_oracle.specs.Clock.{IsClock, next_number}
use Rattle.pcj_oracle.specs.Draw.{IsNumber}
use Rattle.pcj_rows.specs.Plans.{IsLoad, IsOfLoad, IsTripleOfLoad}
use Rattle.pcj_bench.proofs.Distinct.{distinct_are_once}

next_from_one : (oracle : Option Block) (table : Table) → IsClock oracle table → 1 ≤ next_number oracle table
next_from_one None table clock = clock.first
next_from_one (Some block) table clock = clock.attached.first

term_is_own : (load : ℕ) (term : Term) → CarriesLoad load term → IsOfLoad load term
term_is_own load (Iri iri) carries = tt
term_is_own load (Blank number label) carries = carries
term_is_own load (Literal text kind) carries = tt

triple_is_own : (load : ℕ) (triple : Triple) → IsTripleOf load triple → IsTripleOfLoad load triple
triple_is_own load triple is = record {
  subject = term_is_own load triple.subject is.carries.0;
  predicate = term_is_own load triple.predicate is.carries.1;
  object = term_is_own load triple.object is.carries.2;
}

pub document_is_load : (load : ℕ) (text : List ℕ) (triples : List Triple) (oracle oracle' : Option Block) (table table' : Table) → IsClock oracle table →
    IsNumber load oracle table oracle' table' → Document text load triples → IsLoad load triples
document_is_load load text triples oracle oracle' table table' clock drawn document =
    let next = next_from_one oracle table clock in
    let is = drawn.is in
    let below = drawn.below in
    let each = has_valid_triples text load triples (omega (arith, below)) document in
    record {
      first = omega (arith, next, is);
      valid = All-weaker (IsTripleOf load) IsTriple (λ triple t. t.valid) triples each;
      once = subst (IsDistinct same_triple) (sym document.kept) (distinct_are_once _);
      own = All-weaker (IsTripleOf load) (IsTripleOfLoad load) (triple_is_own load) triples each;
    }
