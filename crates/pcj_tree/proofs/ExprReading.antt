-- What is read of three parts is the condition that is stored so.
use Rattle.std.proofs.Common.{◌≡◌, ◌≢◌, ℕ, zero, suc, ◌-◌, ◌<◌, ◌≤◌, Bool, List, [], ◌∷◌, length, Option, Some, None, Result, Ok, IfOk, refl, ap, sym, subst, ◌∙◌, arith}
use Rattle.std.proofs.Math.ListN.{get_or}
use Rattle.pcj_term.specs.Reading.{◌>>=◌}
use Rattle.pcj_expr.specs.declared.expr.Expr.{Expr}
use Rattle.pcj_tree.specs.Reading.{split_of, test_of, pair_of, both, two_sided, operation_of, expr_of}

pub at_ok : {T E : Type 0} (P : T → Type 0) (r : Result T E) (x : T) → r ≡ Ok x → IfOk r P → P x
at_ok P r x e is = subst (λ s. IfOk s P) e is

pub three_parts : (xs : List (List ℕ)) (a b c : List ℕ) → 3 ≤ length xs → length xs < 4 → a ≡ get_or xs 0 a → b ≡ get_or xs 1 b → c ≡ get_or xs 2 c → xs ≡ a ∷ b ∷ c ∷ []
three_parts [] a b c least most e f g = absurd (omega (arith, least))
three_parts (x ∷ []) a b c least most e f g = absurd (omega (arith, least))
three_parts (x ∷ y ∷ []) a b c least most e f g = absurd (omega (arith, least))
three_parts (x ∷ y ∷ z ∷ []) a b c least most e f g =
    ap (λ (p : List ℕ). p ∷ y ∷ z ∷ []) (sym e) ∙ ap (λ (p : List ℕ). a ∷ p ∷ z ∷ []) (sym f) ∙ ap (λ (p : List ℕ). a ∷ b ∷ p ∷ []) (sym g)
three_parts (x ∷ y ∷ z ∷ w ∷ xs) a b c least most e f g = absurd (omega (arith, most))

opened : (levels : ℕ) (bytes sign left right : List ℕ) → levels ≢ 0 → split_of bytes ≡ Some (sign ∷ left ∷ right ∷ []) → expr_of levels bytes ≡ two_sided (expr_of (levels - 1)) sign left right (pair_of sign)
unfolding expr_of
opened zero bytes sign left right some split = absurd (some refl)
opened (suc levels) bytes sign left right some split =
    let same : suc levels - 1 ≡ levels = omega arith in
    ap (λ (found : Option (List (List ℕ))). found >>= operation_of (expr_of levels)) split
    ∙ ap (λ (n : ℕ). two_sided (expr_of n) sign left right (pair_of sign)) (sym same)

pub read_pair : (levels : ℕ) (bytes sign left right : List ℕ) (is_or : Bool) (l r found : Option Expr) → levels ≢ 0 → split_of bytes ≡ Some (sign ∷ left ∷ right ∷ []) → pair_of sign ≡ Some is_or → l ≡ expr_of (levels - 1) left → r ≡ expr_of (levels - 1) right → found ≡ both is_or l r → found ≡ expr_of levels bytes
read_pair levels bytes sign left right is_or l r found some split pair first second is =
    is ∙ ap (λ (x : Option Expr). both is_or x r) first ∙ ap (λ (x : Option Expr). both is_or (expr_of (levels - 1) left) x) second
    ∙ ap (two_sided (expr_of (levels - 1)) sign left right) (sym pair) ∙ sym (opened levels bytes sign left right some split)

pub read_test : (levels : ℕ) (bytes sign left right : List ℕ) (found : Option Expr) → levels ≢ 0 → split_of bytes ≡ Some (sign ∷ left ∷ right ∷ []) → pair_of sign ≡ None → found ≡ test_of sign left right → found ≡ expr_of levels bytes
read_test levels bytes sign left right found some split none is =
    is ∙ ap (two_sided (expr_of (levels - 1)) sign left right) (sym none) ∙ sym (opened levels bytes sign left right some split)
