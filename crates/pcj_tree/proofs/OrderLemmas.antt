-- The chosen names in two runs are an order.
use Rattle.std.proofs.Common.{◌≡◌, ℕ, Bool, true, false, List, [], ◌++◌, refl, ap}
use Rattle.std.specs.Bool.{beq}
use Rattle.std.specs.List.{Contains}
use Rattle.std.specs.List.Sorted.{IsStrictlySortedBy}
use Rattle.std.proofs.lemmas.Cmp.{nat_list_eq_equiv}
use Rattle.std.proofs.lemmas.List.Kept.{IsStrictlySortedBy-filter}
use Rattle.std.proofs.lemmas.Map.Views.{Contains-from_any, list_any-from_Contains}
use Rattle.pcj_term.specs.Order.{bytes_cmp}
use Rattle.pcj_term.proofs.ByteLemmas.{same_bytes_are}
use Rattle.pcj_algebra.specs.Variables.{AreNames}
use Rattle.pcj_solutions.proofs.Contained.{in_filter, into_filter}
use Rattle.pcj_tree.specs.Order.{IsOrder, has_name, chosen}

-- no names are those of nothing
pub no_names : AreNames [] []
unfolding IsStrictlySortedBy
no_names = record { ascend = tt; each = λ name. (λ there. there, λ there. there) }

pub found_there : (names : List (List ℕ)) (name : List ℕ) → has_name names name ≡ true → Contains names name
found_there names name e = Contains-from_any same_bytes_are name names e

pub there_found : (names : List (List ℕ)) (name : List ℕ) → Contains names name → has_name names name ≡ true
there_found names name there = list_any-from_Contains nat_list_eq_equiv name names there

is_not : (has : Bool) → (has ≡ true → ⊥) → has ≡ false
is_not true never = absurd (never refl)
is_not false never = refl

same_test : (has wanted : Bool) → beq has wanted ≡ true → has ≡ wanted
same_test true true e = refl
same_test true false e = absurd cc
same_test false true e = absurd cc
same_test false false e = refl

-- the names of a sibling decide, whatever list they are in
pub are_ordered : (all among names others order : List (List ℕ)) → AreNames names all → AreNames others among → order ≡ chosen true others names ++ chosen false others names → IsOrder all among order
are_ordered all among names others order own sibling is = record {
  shared = chosen true others names;
  others = chosen false others names;
  is_order = is;
  are_shared = record {
    ascend = IsStrictlySortedBy-filter bytes_cmp (λ name. beq (has_name others name) true) names own.ascend;
    each = λ name. (
      λ there. (let passed = in_filter (λ n. beq (has_name others n) true) names name there in
          ((own.each name).0 passed.0, (sibling.each name).0 (found_there others name (same_test (has_name others name) true passed.1)))),
      λ both. into_filter (λ n. beq (has_name others n) true) names name ((own.each name).1 both.0)
          (ap (λ has. beq has true) (there_found others name ((sibling.each name).1 both.1))),
    );
  };
  are_others = record {
    ascend = IsStrictlySortedBy-filter bytes_cmp (λ name. beq (has_name others name) false) names own.ascend;
    each = λ name. (
      λ there. (let passed = in_filter (λ n. beq (has_name others n) false) names name there in (
        (own.each name).0 passed.0,
        λ there. absurd (
            let had : has_name others name ≡ true = there_found others name ((sibling.each name).1 there) in
            let not : has_name others name ≡ false = same_test (has_name others name) false passed.1 in cc),
      )),
      λ both. into_filter (λ n. beq (has_name others n) false) names name ((own.each name).1 both.0)
          (ap (λ has. beq has false) (is_not (has_name others name) (λ e. both.1 ((sibling.each name).0 (found_there others name e))))),
    );
  };
}
