use Rattle.std.proofs.Common.{◌≡◌, ◌-◌, ◌∙◌, ◌∷◌, [], ℕ, List, Option, Some, None, sym, ap}
use Rattle.std.proofs.lemmas.Result.{IfOk-weaker}
use Rattle.pcj_expr.specs.declared.expr.Expr.{Expr}
use Rattle.pcj_tree.specs.Reading.{pair_of, expr_of, split_of, test_of}
use Rattle.pcj_tree.proofs.ExprReading.{at_ok, three_parts, read_pair, read_test}
use Rattle.pcj_tree.proofs.reading_expr.+expr_of.Goals as goal

pub returns-in-Some-pair_of : goal.returns-in-Some-pair_of
returns-in-Some-pair_of t c =
    let levels = c.args.levels in
    let sign = c.sign-item-then-this-lt4.result in
    let left = c.left-item.result in
    let right = c.right-item.result in
    let parts = three_parts c.as_slice.result.now sign left right c.in-len3.len_at_least c.in-len3.len_below c.sign-item-then-this-lt4.is c.left-item.is c.right-item.is in
    let split : split_of c.args.bytes.now ≡ Some (sign ∷ left ∷ right ∷ []) = sym (c.in_ok-parts.ensures {u = tt}) ∙ c.in-Some.is ∙ ap (λ (ps : List (List ℕ)). Some ps) (sym c.as_slice.ensures ∙ parts) in
    let pair : pair_of sign ≡ Some c.in-Some-pair_of.is_or = ap pair_of (sym c.as_slice-in-len3.ensures) ∙ sym c.pair_of.ensures ∙ c.in-Some-pair_of.is in
    let first = at_ok (λ (found : Option Expr). found ≡ expr_of (levels - 1) c.as_slice-in-Some-pair_of.result.now) c.expr_of-in-Some-pair_of.result c.in_ok-left-in-Some-pair_of.left (c.in_ok-left-in-Some-pair_of.ensures {u = tt}) c.expr_of-in-Some-pair_of.ensures in
    let second = at_ok (λ (found : Option Expr). found ≡ expr_of (levels - 1) c.as_slice-in-Some-pair_of-2.result.now) c.expr_of-in-Some-pair_of-2.result c.in_ok-right-in-Some-pair_of.right (c.in_ok-right-in-Some-pair_of.ensures {u = tt}) c.expr_of-in-Some-pair_of-2.ensures in
    read_pair levels c.args.bytes.now sign left right c.in-Some-pair_of.is_or c.in_ok-left-in-Some-pair_of.left c.in_ok-right-in-Some-pair_of.right c.both.result c.if-levels-eq0.false
    split pair (first ∙ ap (expr_of (levels - 1)) c.as_slice-in-Some-pair_of.ensures) (second ∙ ap (expr_of (levels - 1)) c.as_slice-in-Some-pair_of-2.ensures) c.both.ensures

pub returns-in-len3 : goal.returns-in-len3
returns-in-len3 t c =
    let sign = c.sign-item-then-this-lt4.result in
    let left = c.left-item.result in
    let right = c.right-item.result in
    let parts = three_parts c.as_slice.result.now sign left right c.in-len3.len_at_least c.in-len3.len_below c.sign-item-then-this-lt4.is c.left-item.is c.right-item.is in
    let split : split_of c.args.bytes.now ≡ Some (sign ∷ left ∷ right ∷ []) = sym (c.in_ok-parts.ensures {u = tt}) ∙ c.in-Some.is ∙ ap (λ (ps : List (List ℕ)). Some ps) (sym c.as_slice.ensures ∙ parts) in
    let none : pair_of sign ≡ None = ap pair_of (sym c.as_slice-in-len3.ensures) ∙ sym c.pair_of.ensures ∙ c.in-None.is in
    IfOk-weaker c.test_of.result _ _ (λ found is. read_test c.args.levels c.args.bytes.now sign left right found c.if-levels-eq0.false split none
    (is ∙ ap (λ (s : List ℕ). test_of s c.as_slice-in-None-2.result.now c.as_slice-in-None-3.result.now) (c.as_slice-in-None.ensures)
    ∙ ap (λ (s : List ℕ). test_of sign s c.as_slice-in-None-3.result.now) c.as_slice-in-None-2.ensures ∙ ap (test_of sign left) c.as_slice-in-None-3.ensures)) c.test_of.ensures
