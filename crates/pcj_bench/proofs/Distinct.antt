-- The triples of a list that keeps each once.
use Rattle.std.proofs.Common.{◌≡◌, Bool, true, false, not, List, [], ◌∷◌, filter}
use Rattle.std.specs.List.{IsDistinct, AllByRecursion}
use Rattle.std.proofs.lemmas.Bool.{cond_both, not-true}
use Rattle.pcj_term.specs.declared.triple.Triple.{Triple}
use Rattle.pcj_term.specs.Triple.{same_triple, distinct}

all_filtered : {X : Type 0} (P : X → Type 0) (test : X → Bool) (xs : List X) → AllByRecursion P xs → AllByRecursion P (filter test xs)
all_filtered P test [] all = tt
all_filtered P test (x ∷ xs) all = cond_both (test x) (x ∷ filter test xs) (filter test xs) (λ ys. AllByRecursion P ys) (λ e. (all.0, all_filtered P test xs all.1)) (λ e. all_filtered P test xs all.1)

once_filtered : {X : Type 0} (same : X → X → Bool) (test : X → Bool) (xs : List X) → IsDistinct same xs → IsDistinct same (filter test xs)
unfolding IsDistinct
once_filtered same test [] once = tt
once_filtered same test (x ∷ xs) once = cond_both (test x) (x ∷ filter test xs) (filter test xs) (λ ys. IsDistinct same ys)
    (λ e. (all_filtered (λ y. same x y ≡ false) test xs once.0, once_filtered same test xs once.1)) (λ e. once_filtered same test xs once.1)

-- those that aren't the same as one
others_differ : {X : Type 0} (same : X → Bool) (xs : List X) → AllByRecursion (λ x. same x ≡ false) (filter (λ x. not (same x)) xs)
others_differ same [] = tt
others_differ same (x ∷ xs) = cond_both (not (same x)) (x ∷ filter (λ y. not (same y)) xs) (filter (λ y. not (same y)) xs) (λ ys. AllByRecursion (λ y. same y ≡ false) ys)
    (λ e. (not-true (same x) e, others_differ same xs)) (λ e. others_differ same xs)

pub distinct_are_once : (triples : List Triple) → IsDistinct same_triple (distinct triples)
unfolding IsDistinct
distinct_are_once [] = tt
distinct_are_once (triple ∷ triples) = (
  others_differ (same_triple triple) (distinct triples),
  once_filtered same_triple (λ other. not (same_triple triple other)) (distinct triples) (distinct_are_once triples),
)
