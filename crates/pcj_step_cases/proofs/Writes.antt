-- Writes of distinct rows, and one more before them.
use Rattle.std.proofs.Common.{◌≡◌, Bool, true, false, cond, ◌||◌, List, [], ◌∷◌, Some, is_some, refl, sym, ap, ◌∙◌, ◌&&◌, not}
use Rattle.pcj_term.specs.Order.{same_bytes}
use Rattle.pcj_table.specs.declared.write.Write.{Write}
use Rattle.pcj_moves.specs.Transactions.{are_distinct}
use Rattle.std.specs.List.{list_any, find}

pub any_is_found : {X : Type 0} (p : X → Bool) (xs : List X) → list_any p xs ≡ is_some (find p xs)
any_is_found p [] = refl
any_is_found {X} p (x ∷ xs) = by (p x) (any_is_found p xs)
  where
    by : (b : Bool) → list_any p xs ≡ is_some (find p xs) → (b || list_any p xs) ≡ is_some (cond b (Some x) (find p xs))
    by true e = refl
    by false e = e

pub more_distinct : (write : Write) (writes : List Write) → are_distinct writes ≡ true → list_any (λ (other : Write). same_bytes write.key other.key) writes ≡ false → are_distinct (write ∷ writes) ≡ true
more_distinct write writes distinct none =
    ap (λ (b : Bool). not b && are_distinct writes) (sym (any_is_found (λ (other : Write). same_bytes write.key other.key) writes) ∙ none) ∙ distinct
