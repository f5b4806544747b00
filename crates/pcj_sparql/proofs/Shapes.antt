-- The last item of SELECT and those before it.
use Rattle.std.proofs.Common.{◌≡◌, List, [], ◌∷◌, ◌++◌, Some, refl, ap, sym, subst}
use Rattle.pcj_sparql.specs.declared.said.Said.{Said}
use Rattle.pcj_sparql.specs.Query.{Parts, all_but_last, last_item, is_grouping, is_grouping_by, shape_of, shape_by}

before_last : (items : List Said) (last : Said) → all_but_last (items ++ last ∷ []) ≡ items
before_last [] last = refl
before_last (first ∷ []) last = refl
before_last (first ∷ next ∷ items) last = ap (λ (rest : List Said). first ∷ rest) (before_last (next ∷ items) last)

the_last : (items : List Said) (last : Said) → last_item (items ++ last ∷ []) ≡ Some last
the_last [] last = refl
the_last (first ∷ []) last = refl
the_last (first ∷ next ∷ items) last = the_last (next ∷ items) last

pub grouping_by_last : (p : Parts) (items : List Said) (last : Said) → p.items ≡ items ++ last ∷ [] → is_grouping_by p items (Some last) ≡ is_grouping p
grouping_by_last p items last e =
    subst (λ (all : List Said). is_grouping_by p items (Some last) ≡ is_grouping_by p (all_but_last all) (last_item all)) (sym e) (λ i. is_grouping_by p (sym (before_last items last) i) (sym (the_last items last) i))

pub shape_by_last : (p : Parts) (items : List Said) (last : Said) → p.items ≡ items ++ last ∷ [] → shape_by p.scope p.items items (Some last) ≡ shape_of p
shape_by_last p items last e =
    subst (λ (all : List Said). shape_by p.scope p.items items (Some last) ≡ shape_by p.scope p.items (all_but_last all) (last_item all)) (sym e) (λ i. shape_by p.scope p.items (sym (before_last items last) i) (sym (the_last items last) i))
