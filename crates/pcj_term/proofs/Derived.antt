-- The `==` that is derived for a triple is `same_triple`.
use Rattle.std.proofs.Common.{◌≡◌, Bool, true, false, ◌&&◌, cond, List, [], ◌∷◌, ◌++◌, refl, ap, ◌∙◌}
use Rattle.std.specs.List.{list_any}
use Rattle.pcj_term.specs.declared.kind.Kind.{Kind}
use Rattle.pcj_term.specs.declared.kind.Kind.TheVariants.{Plain, Lang, Typed}
use Rattle.pcj_term.specs.declared.term.Term.{Term}
use Rattle.pcj_term.specs.declared.term.Term.TheVariants.{Iri, Blank, Literal}
use Rattle.pcj_term.specs.declared.triple.Triple.{Triple}
use Rattle.pcj_term.specs.Triple.{same_kind, same_term, same_triple}
use Rattle.pcj_term.specs.contracts.kind.KindPartialEq.TheImpl as kinds
use Rattle.pcj_term.specs.contracts.term.TermPartialEq.TheImpl as terms
use Rattle.pcj_term.specs.contracts.triple.TriplePartialEq.TheImpl as triples
use Rattle.pcj_term.specs.Order.{same_bytes}

kind_eq : (a b : Kind) → (kinds.eq-value).it a b ≡ same_kind a b
kind_eq Plain Plain = refl
kind_eq Plain (Lang b) = refl
kind_eq Plain (Typed b) = refl
kind_eq (Lang a) Plain = refl
kind_eq (Lang a) (Lang b) = refl
kind_eq (Lang a) (Typed b) = refl
kind_eq (Typed a) Plain = refl
kind_eq (Typed a) (Lang b) = refl
kind_eq (Typed a) (Typed b) = refl

term_eq : (a b : Term) → (terms.eq-value).it a b ≡ same_term a b
term_eq (Iri a) (Iri b) = refl
term_eq (Iri a) (Blank m b) = refl
term_eq (Iri a) (Literal b l) = refl
term_eq (Blank n a) (Iri b) = refl
term_eq (Blank n a) (Blank m b) = refl
term_eq (Blank n a) (Literal b l) = refl
term_eq (Literal a k) (Iri b) = refl
term_eq (Literal a k) (Blank m b) = refl
term_eq (Literal a k) (Literal b l) = ap (λ v. same_bytes a b && v) (kind_eq k l)

regroup : (x y z : Bool) → x && (y && z) ≡ x && y && z
regroup true y z = refl
regroup false y z = refl

pub triple_eq : (a b : Triple) → (triples.eq-value).it a b ≡ same_triple a b
triple_eq a b =
    ap (λ v. v && ((terms.eq-value).it a.predicate b.predicate && (terms.eq-value).it a.object b.object)) (term_eq a.subject b.subject)
    ∙ ap (λ v. same_term a.subject b.subject && (v && (terms.eq-value).it a.object b.object)) (term_eq a.predicate b.predicate)
    ∙ ap (λ v. same_term a.subject b.subject && (same_term a.predicate b.predicate && v)) (term_eq a.object b.object)
    ∙ regroup (same_term a.subject b.subject) (same_term a.predicate b.predicate) (same_term a.object b.object)

-- what `insert` leaves of a set's keys
pub inserted : (keys : List Triple) (t : Triple) → cond (list_any ((triples.eq-value).it t) keys) keys (keys ++ t ∷ []) ≡ cond (list_any (same_triple t) keys) keys (keys ++ t ∷ [])
inserted keys t = ap (λ (test : Triple → Bool). cond (list_any test keys) keys (keys ++ t ∷ [])) (λ i x. triple_eq t x i)
