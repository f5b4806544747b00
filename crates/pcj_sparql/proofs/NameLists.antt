-- Lists of names and their sets.
use Rattle.std.proofs.Common.{◌≡◌, ℕ, ◌+◌, ◌≤◌, ◌<◌, Bool, true, false, not, ◌&&◌, nat_eq, if◌then◌else◌, List, [], ◌∷◌, ◌++◌, length, take, get_or, refl, ap, sym, subst, ◌∙◌, append-nil, arith}
use Rattle.std.specs.List.{list_all}
use Rattle.std.proofs.lemmas.List.{take_more}
use Rattle.pcj_translate.specs.Variables.{has_variable, distinct_variables}
use Rattle.pcj_translate.specs.Names.{with_name, IsSetOf}
use Rattle.pcj_translate.proofs.SetsOfNames.{set_last}
use Rattle.pcj_sparql.specs.Query.{are_distinct, same_names}

pub set_more : (names : List (List ℕ)) (i : ℕ) (name : List ℕ) (set new : List (List ℕ)) → i < length names → name ≡ get_or names i name → new ≡ with_name set name → IsSetOf (take i names) set → IsSetOf (take (i + 1) names) new
set_more names i name set new within is added h =
    let taken : take (i + 1) names ≡ take i names ++ name ∷ [] = take_more names i name within ∙ ap (λ (k : List ℕ). take i names ++ k ∷ []) (sym is) in
    subst (λ (k : List (List ℕ)). IsSetOf k new) (sym taken) (subst (λ (k : List (List ℕ)). IsSetOf (take i names ++ name ∷ []) k) (sym added) (set_last (take i names) set name h))

pub set_whole : (names set : List (List ℕ)) → IsSetOf (names ++ []) set → IsSetOf names set
set_whole names set h = subst (λ (k : List (List ℕ)). IsSetOf k set) (append-nil names) h

-- ---- whether no name stands twice

distinct_few : (names : List (List ℕ)) → length (distinct_variables names) ≤ length names
distinct_few [] = omega arith
distinct_few (name ∷ names) = by_case (has_variable names name) (distinct_few names)
  where
    by_case : (v : Bool) → length (distinct_variables names) ≤ length names → length (if v then distinct_variables names else name ∷ distinct_variables names) ≤ length (name ∷ names)
    by_case true few = omega (arith, few)
    by_case false few = omega (arith, few)

unequal : (n m : ℕ) → n < m → nat_eq n m ≡ false
unequal n m less = grind arith

shifted : (n m : ℕ) → nat_eq (n + 1) (m + 1) ≡ nat_eq n m
shifted n m = grind arith

pub distinct_count : (names : List (List ℕ)) → nat_eq (length (distinct_variables names)) (length names) ≡ are_distinct names
distinct_count [] = refl
distinct_count (name ∷ names) = by_case (has_variable names name) (distinct_few names) (distinct_count names)
  where
    by_case : (v : Bool) → length (distinct_variables names) ≤ length names → nat_eq (length (distinct_variables names)) (length names) ≡ are_distinct names
        → nat_eq (length (if v then distinct_variables names else name ∷ distinct_variables names)) (length (name ∷ names)) ≡ (not v && are_distinct names)
    by_case true few same = unequal (length (distinct_variables names)) (length (name ∷ names)) (omega (arith, few))
    by_case false few same =
        ap (λ (n : ℕ). nat_eq n (length (name ∷ names))) (let one : length (name ∷ distinct_variables names) ≡ length (distinct_variables names) + 1 = omega arith in one)
        ∙ ap (λ (n : ℕ). nat_eq (length (distinct_variables names) + 1) n) (let one : length (name ∷ names) ≡ length names + 1 = omega arith in one)
        ∙ shifted (length (distinct_variables names)) (length names) ∙ same

-- ---- whether two lists have the same names

pub all_members : (xs names set : List (List ℕ)) → IsSetOf names set → list_all (has_variable set) xs ≡ list_all (has_variable names) xs
all_members xs names set h = λ i. list_all (λ name. h.members name i) xs

pub same_read : (names others set other_set : List (List ℕ)) → IsSetOf names set → IsSetOf others other_set → (list_all (has_variable other_set) names && list_all (has_variable set) others) ≡ same_names names others
same_read names others set other_set h k = ap (λ (v : Bool). v && list_all (has_variable set) others) (all_members names others other_set k) ∙ ap (λ (v : Bool). list_all (has_variable others) names && v) (all_members others names set h)
