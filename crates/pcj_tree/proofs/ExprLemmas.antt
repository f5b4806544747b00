-- A condition that isn't too deep is read as it is stored.
use Rattle.std.proofs.Common.{◌≡◌, ℕ, zero, suc, ◌+◌, ◌≤◌, max, Bool, true, false, cond, List, [], ◌∷◌, ◌++◌, Option, Some, None, refl, ap, sym, subst, ◌∙◌, codes, arith, option_map}
use Rattle.std.specs.List.{All, Contains}
use Rattle.std.proofs.Math.Nat.{le-max_left, le-max_right, max-le}
use Rattle.std.proofs.lemmas.List.Elements.{All-nil, All-cons, All-append, All-contains, Contains-get_or, Contains-append_left, Contains-append_right}
use Rattle.std.proofs.lemmas.Option.{same_Some}
use Rattle.pcj_term.specs.Order.{same_bytes}
use Rattle.pcj_term.specs.Reading.{◌>>=◌}
use Rattle.pcj_term.proofs.ByteLemmas.{same_bytes_are}
use Rattle.pcj_term.proofs.OptionLemmas.{map_some, bind_some}
use Rattle.pcj_key.specs.Key.{key_of}
use Rattle.pcj_expr.specs.declared.compare.Compare.{Compare}
use Rattle.pcj_expr.specs.declared.compare.Compare.TheVariants as compare
use Rattle.pcj_expr.specs.declared.operand.Operand.{Operand}
use Rattle.pcj_expr.specs.declared.expr.Expr.{Expr, Expr-F, map-Expr}
use Rattle.pcj_expr.specs.declared.expr.Expr.TheOpen as open_expr
use Rattle.pcj_expr.specs.declared.expr.Expr.TheVariants as expr
use Rattle.pcj_expr.specs.declared.expr.Expr.TheVariants.{rolls-Or, rolls-And, rolls-Not, rolls-Test}
use Rattle.pcj_expr.specs.declared.expr.Expr.TheFolds.{ind-Expr, fold-roll-Expr}
use Rattle.pcj_expr.specs.declared.expr.Expr.TheViews.{roll-Expr}
use Rattle.pcj_tree.specs.Stored.{operand_part, compare_part, expr_step, stored_expr}
use Rattle.pcj_tree.specs.Read.{IsOperand, operands_step, operands_of, depth_step, depth_of, IsExpr}
use Rattle.pcj_tree.specs.Reading.{split_of, test_of, pair_of, paired, both, two_sided, operation_of, expr_of, compare_of, operand_of}
use Rattle.pcj_tree.proofs.SlotLemmas.{operand_takes, operand_again, compare_takes, compare_again}
use Rattle.pcj_tree.proofs.SplitLemmas.{split_takes, split_again}

-- ---- what is said of a list

all_from : {X : Type 0} (P : X → Type 0) (xs : List X) → ((x : X) → Contains xs x → P x) → All P xs
all_from P xs each k d within = each _ (Contains-get_or xs k d within)

pub all_left : {X : Type 0} (P : X → Type 0) (xs ys : List X) → All P (xs ++ ys) → All P xs
all_left P xs ys all = all_from P xs (λ x there. All-contains P (xs ++ ys) x all (Contains-append_left xs ys x there))

pub all_right : {X : Type 0} (P : X → Type 0) (xs ys : List X) → All P (xs ++ ys) → All P ys
all_right P xs ys all = all_from P ys (λ x there. All-contains P (xs ++ ys) x all (Contains-append_right xs ys x there))

-- ---- what is said of a condition, by its outermost operator

stored_pair : (is_or : Bool) (a b : Expr) → stored_expr (paired is_or a b) ≡ key_of (cond is_or (codes "|") (codes "&") ∷ stored_expr a ∷ stored_expr b ∷ [])
stored_pair true a b = ap stored_expr (sym (rolls-Or a b)) ∙ fold-roll-Expr (List ℕ) expr_step (open_expr.Or a b)
stored_pair false a b = ap stored_expr (sym (rolls-And a b)) ∙ fold-roll-Expr (List ℕ) expr_step (open_expr.And a b)

stored_not : (a : Expr) → stored_expr (expr.Not a) ≡ key_of (codes "!" ∷ stored_expr a ∷ [])
stored_not a = ap stored_expr (sym (rolls-Not a)) ∙ fold-roll-Expr (List ℕ) expr_step (open_expr.Not a)

stored_test : (c : Compare) (l r : Operand) → stored_expr (expr.Test c l r) ≡ key_of (compare_part c ∷ operand_part l ∷ operand_part r ∷ [])
stored_test c l r = ap stored_expr (sym (rolls-Test c l r)) ∙ fold-roll-Expr (List ℕ) expr_step (open_expr.Test c l r)

depth_pair : (is_or : Bool) (a b : Expr) → depth_of (paired is_or a b) ≡ max (depth_of a) (depth_of b) + 1
depth_pair true a b = ap depth_of (sym (rolls-Or a b)) ∙ fold-roll-Expr ℕ depth_step (open_expr.Or a b)
depth_pair false a b = ap depth_of (sym (rolls-And a b)) ∙ fold-roll-Expr ℕ depth_step (open_expr.And a b)

depth_not : (a : Expr) → depth_of (expr.Not a) ≡ depth_of a + 1
depth_not a = ap depth_of (sym (rolls-Not a)) ∙ fold-roll-Expr ℕ depth_step (open_expr.Not a)

depth_test : (c : Compare) (l r : Operand) → depth_of (expr.Test c l r) ≡ 1
depth_test c l r = ap depth_of (sym (rolls-Test c l r)) ∙ fold-roll-Expr ℕ depth_step (open_expr.Test c l r)

operands_pair : (is_or : Bool) (a b : Expr) → operands_of (paired is_or a b) ≡ operands_of a ++ operands_of b
operands_pair true a b = ap operands_of (sym (rolls-Or a b)) ∙ fold-roll-Expr (List Operand) operands_step (open_expr.Or a b)
operands_pair false a b = ap operands_of (sym (rolls-And a b)) ∙ fold-roll-Expr (List Operand) operands_step (open_expr.And a b)

operands_not : (a : Expr) → operands_of (expr.Not a) ≡ operands_of a
operands_not a = ap operands_of (sym (rolls-Not a)) ∙ fold-roll-Expr (List Operand) operands_step (open_expr.Not a)

operands_test : (c : Compare) (l r : Operand) → operands_of (expr.Test c l r) ≡ l ∷ r ∷ []
operands_test c l r = ap operands_of (sym (rolls-Test c l r)) ∙ fold-roll-Expr (List Operand) operands_step (open_expr.Test c l r)

-- ---- what is read was stored

abbrev Stores : ℕ → List ℕ → Expr → Type 0
Stores levels bytes e = IsExpr levels e × (stored_expr e ≡ bytes)

abbrev Takes : ℕ → (List ℕ → Option Expr) → Type 0
Takes levels inner = (bytes : List ℕ) (e : Expr) → inner bytes ≡ Some e → Stores levels bytes e

pair_stores : (levels : ℕ) (is_or : Bool) (left right : List ℕ) (a b : Expr) → Stores levels left a → Stores levels right b → Stores (suc levels) (key_of (cond is_or (codes "|") (codes "&") ∷ left ∷ right ∷ [])) (paired is_or a b)
pair_stores levels is_or left right a b first second =
    let most = max-le (first.0).0 (second.0).0 in (
      (
        subst (λ (n : ℕ). n ≤ suc levels) (sym (depth_pair is_or a b)) (omega (arith, most)),
        subst (All IsOperand) (sym (operands_pair is_or a b)) (All-append IsOperand (operands_of a) (operands_of b) (first.0).1 (second.0).1),
      ),
      stored_pair is_or a b ∙ ap (λ (l : List ℕ). key_of (cond is_or (codes "|") (codes "&") ∷ l ∷ stored_expr b ∷ [])) first.1 ∙ ap (λ (r : List ℕ). key_of (cond is_or (codes "|") (codes "&") ∷ left ∷ r ∷ [])) second.1,
    )

not_stores : (levels : ℕ) (side : List ℕ) (a : Expr) → Stores levels side a → Stores (suc levels) (key_of (codes "!" ∷ side ∷ [])) (expr.Not a)
not_stores levels side a inner =
    let fits = (inner.0).0 in (
      (
        subst (λ (n : ℕ). n ≤ suc levels) (sym (depth_not a)) (omega (arith, fits)),
        subst (All IsOperand) (sym (operands_not a)) (inner.0).1,
      ),
      stored_not a ∙ ap (λ (s : List ℕ). key_of (codes "!" ∷ s ∷ [])) inner.1,
    )

test_stores : (levels : ℕ) (sign left right : List ℕ) (e : Expr) → test_of sign left right ≡ Some e → Stores (suc levels) (key_of (sign ∷ left ∷ right ∷ [])) e
test_stores levels sign left right e read =
    let first = bind_some (compare_of sign) _ e read in
    let second = bind_some (operand_of left) _ e first.2 in
    let third = map_some _ (operand_of right) e second.2 in
    let l = operand_takes left second.0 second.1 in
    let r = operand_takes right third.0 third.1 in
    subst (Stores (suc levels) (key_of (sign ∷ left ∷ right ∷ []))) third.2 (
      (
        subst (λ (n : ℕ). n ≤ suc levels) (sym (depth_test first.0 second.0 third.0)) (omega arith),
        subst (All IsOperand) (sym (operands_test first.0 second.0 third.0)) (All-cons IsOperand second.0 (third.0 ∷ []) l.0 (All-cons IsOperand third.0 [] r.0 (All-nil IsOperand))),
      ),
      stored_test first.0 second.0 third.0 ∙ ap (λ (s : List ℕ). key_of (s ∷ operand_part second.0 ∷ operand_part third.0 ∷ [])) (compare_takes sign first.0 first.1)
          ∙ ap (λ (s : List ℕ). key_of (sign ∷ s ∷ operand_part third.0 ∷ [])) l.1 ∙ ap (λ (s : List ℕ). key_of (sign ∷ left ∷ s ∷ [])) r.1,
    )

pair_takes : (sign : List ℕ) (is_or : Bool) → pair_of sign ≡ Some is_or → sign ≡ cond is_or (codes "|") (codes "&")
pair_takes sign is_or e = by (same_bytes sign (codes "|")) (same_bytes sign (codes "&")) refl refl e
  where
    by : (or and : Bool) → same_bytes sign (codes "|") ≡ or → same_bytes sign (codes "&") ≡ and → cond or (Some true) (cond and (Some false) None) ≡ Some is_or → sign ≡ cond is_or (codes "|") (codes "&")
    by true and p q e = same_bytes_are sign (codes "|") p ∙ ap (λ (b : Bool). cond b (codes "|") (codes "&")) (same_Some true is_or e)
    by false true p q e = same_bytes_are sign (codes "&") q ∙ ap (λ (b : Bool). cond b (codes "|") (codes "&")) (same_Some false is_or e)
    by false false p q e = absurd cc

operation_stores : (levels : ℕ) (inner : List ℕ → Option Expr) → Takes levels inner → (parts : List (List ℕ)) (e : Expr) → operation_of inner parts ≡ Some e → Stores (suc levels) (key_of parts) e
operation_stores levels inner takes [] e read = absurd cc
operation_stores levels inner takes (sign ∷ []) e read = absurd cc
operation_stores levels inner takes (sign ∷ side ∷ []) e read = by (same_bytes sign (codes "!")) refl read
  where
    by : (is_not : Bool) → same_bytes sign (codes "!") ≡ is_not → cond is_not (option_map expr.Not (inner side)) None ≡ Some e → Stores (suc levels) (key_of (sign ∷ side ∷ [])) e
    by true is read =
        let found = map_some expr.Not (inner side) e read in
        subst (λ (s : List ℕ). Stores (suc levels) (key_of (s ∷ side ∷ [])) e) (sym (same_bytes_are sign (codes "!") is))
        (subst (Stores (suc levels) (key_of (codes "!" ∷ side ∷ []))) found.2 (not_stores levels side found.0 (takes side found.0 found.1)))
    by false is read = absurd cc
operation_stores levels inner takes (sign ∷ left ∷ right ∷ []) e read = by (pair_of sign) refl read
  where
    by : (pair : Option Bool) → pair_of sign ≡ pair → two_sided inner sign left right pair ≡ Some e → Stores (suc levels) (key_of (sign ∷ left ∷ right ∷ [])) e
    by (Some is_or) is read =
        let first = bind_some (inner left) _ e read in
        let second = map_some (paired is_or first.0) (inner right) e first.2 in
        subst (λ (s : List ℕ). Stores (suc levels) (key_of (s ∷ left ∷ right ∷ [])) e) (sym (pair_takes sign is_or is))
        (subst (Stores (suc levels) (key_of (cond is_or (codes "|") (codes "&") ∷ left ∷ right ∷ []))) second.2
        (pair_stores levels is_or left right first.0 second.0 (takes left first.0 first.1) (takes right second.0 second.1)))
    by None is read = test_stores levels sign left right e read
operation_stores levels inner takes (sign ∷ left ∷ right ∷ part ∷ parts) e read = absurd cc

pub expr_takes : (levels : ℕ) → Takes levels (expr_of levels)
unfolding expr_of
expr_takes zero bytes e read = absurd cc
expr_takes (suc levels) bytes e read =
    let parts = bind_some (split_of bytes) _ e read in
    subst (λ (b : List ℕ). Stores (suc levels) b e) (split_takes bytes parts.0 parts.1)
    (operation_stores levels (expr_of levels) (expr_takes levels) parts.0 e parts.2)

-- ---- what is stored is read

abbrev Again : Expr → Type 0
Again e = (levels : ℕ) → IsExpr levels e → expr_of levels (stored_expr e) ≡ Some e

-- what is read of a key
opens : (levels : ℕ) (e : Expr) (parts : List (List ℕ)) → stored_expr e ≡ key_of parts → expr_of (suc levels) (stored_expr e) ≡ operation_of (expr_of levels) parts
unfolding expr_of
opens levels e parts is = ap (λ (found : Option (List (List ℕ))). found >>= operation_of (expr_of levels)) (ap split_of is ∙ split_again parts)

pair_again : (is_or : Bool) (a b : Expr) → Again a → Again b → Again (paired is_or a b)
pair_again is_or a b first second zero is = absurd (let deep = depth_pair is_or a b in let fits = is.0 in omega (arith, deep, fits))
pair_again true a b first second (suc levels) is =
    let deep = depth_pair true a b in
    let fits = is.0 in
    let l = le-max_left (depth_of a) (depth_of b) in
    let r = le-max_right (depth_of a) (depth_of b) in
    let all = subst (All IsOperand) (operands_pair true a b) is.1 in
    let left = first levels (omega (arith, deep, fits, l), all_left IsOperand (operands_of a) (operands_of b) all) in
    let right = second levels (omega (arith, deep, fits, r), all_right IsOperand (operands_of a) (operands_of b) all) in
    opens levels (expr.Or a b) (codes "|" ∷ stored_expr a ∷ stored_expr b ∷ []) (stored_pair true a b)
    ∙ ap (λ (x : Option Expr). both true x (expr_of levels (stored_expr b))) left ∙ ap (λ (x : Option Expr). both true (Some a) x) right
pair_again false a b first second (suc levels) is =
    let deep = depth_pair false a b in
    let fits = is.0 in
    let l = le-max_left (depth_of a) (depth_of b) in
    let r = le-max_right (depth_of a) (depth_of b) in
    let all = subst (All IsOperand) (operands_pair false a b) is.1 in
    let left = first levels (omega (arith, deep, fits, l), all_left IsOperand (operands_of a) (operands_of b) all) in
    let right = second levels (omega (arith, deep, fits, r), all_right IsOperand (operands_of a) (operands_of b) all) in
    opens levels (expr.And a b) (codes "&" ∷ stored_expr a ∷ stored_expr b ∷ []) (stored_pair false a b)
    ∙ ap (λ (x : Option Expr). both false x (expr_of levels (stored_expr b))) left ∙ ap (λ (x : Option Expr). both false (Some a) x) right

not_again : (a : Expr) → Again a → Again (expr.Not a)
not_again a inner zero is = absurd (let deep = depth_not a in let fits = is.0 in omega (arith, deep, fits))
not_again a inner (suc levels) is =
    let deep = depth_not a in
    let fits = is.0 in
    let side = inner levels (omega (arith, deep, fits), subst (All IsOperand) (operands_not a) is.1) in
    opens levels (expr.Not a) (codes "!" ∷ stored_expr a ∷ []) (stored_not a) ∙ ap (λ (x : Option Expr). option_map expr.Not x) side

no_pair : (c : Compare) → pair_of (compare_part c) ≡ None
no_pair compare.Eq = refl
no_pair compare.Ne = refl
no_pair compare.Lt = refl
no_pair compare.Gt = refl
no_pair compare.Le = refl
no_pair compare.Ge = refl

test_again : (c : Compare) (l r : Operand) → Again (expr.Test c l r)
test_again c l r zero is = absurd (let deep = depth_test c l r in let fits = is.0 in omega (arith, deep, fits))
test_again c l r (suc levels) is =
    let all = subst (All IsOperand) (operands_test c l r) is.1 in
    let left : IsOperand l = all 0 l (omega arith) in
    let right : IsOperand r = all 1 r (omega arith) in
    opens levels (expr.Test c l r) (compare_part c ∷ operand_part l ∷ operand_part r ∷ []) (stored_test c l r)
    ∙ ap (two_sided (expr_of levels) (compare_part c) (operand_part l) (operand_part r)) (no_pair c)
    ∙ ap (λ (x : Option Compare). x >>= (λ of. operand_of (operand_part l) >>= (λ s. option_map (expr.Test of s) (operand_of (operand_part r))))) (compare_again c)
    ∙ ap (λ (x : Option Operand). x >>= (λ s. option_map (expr.Test c s) (operand_of (operand_part r)))) (operand_again l left)
    ∙ ap (λ (x : Option Operand). option_map (expr.Test c l) x) (operand_again r right)

again_layer : (layer : Expr-F ((e : Expr) × Again e)) → Again (roll-Expr (map-Expr ((e : Expr) × Again e) Expr (λ e. e.0) layer))
again_layer (open_expr.Or left right) = subst Again (sym (rolls-Or left.0 right.0)) (pair_again true left.0 right.0 left.1 right.1)
again_layer (open_expr.And left right) = subst Again (sym (rolls-And left.0 right.0)) (pair_again false left.0 right.0 left.1 right.1)
again_layer (open_expr.Not inner) = subst Again (sym (rolls-Not inner.0)) (not_again inner.0 inner.1)
again_layer (open_expr.Test c l r) = subst Again (sym (rolls-Test c l r)) (test_again c l r)

pub expr_again : (e : Expr) → Again e
expr_again e = ind-Expr Again (λ x y is. subst (λ (z : Expr-F Expr). Again (roll-Expr z)) is (again_layer y)) e
