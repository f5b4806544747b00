-- The conditions of derivations: of valid terms, and no deeper than they have tokens.
use Rattle.std.proofs.Common.{◌≡◌, ℕ, ◌+◌, ◌-◌, ◌≤◌, max, List, [], ◌∷◌, ◌++◌, length, ap, sym, subst, ◌∙◌, arith}
use Rattle.std.specs.List.{All, AllByRecursion}
use Rattle.std.proofs.Math.Nat.{max-le}
use Rattle.std.proofs.lemmas.List.Elements.{All-nil, All-cons, All-append}
use Rattle.pcj_expr.specs.declared.compare.Compare.{Compare}
use Rattle.pcj_expr.specs.declared.operand.Operand.{Operand}
use Rattle.pcj_expr.specs.declared.expr.Expr.{Expr}
use Rattle.pcj_expr.specs.declared.expr.Expr.TheOpen as open_expr
use Rattle.pcj_expr.specs.declared.expr.Expr.TheVariants.{Or, And, Not, Test, rolls-Or, rolls-And, rolls-Not, rolls-Test}
use Rattle.pcj_expr.specs.declared.expr.Expr.TheFolds.{fold-roll-Expr}
use Rattle.pcj_grammar.specs.declared.lexeme.Lexeme.{Lexeme}
use Rattle.pcj_grammar.specs.declared.terminal.Terminal.{Terminal}
use Rattle.pcj_grammar.specs.Grammar.{Form, word, name, maybe, many, ◌▹◌, ◌or◌, Derives, is, by, one_after, left, right, without, with_it, end, again}
use Rattle.pcj_grammar.specs.Grammar as g
use Rattle.pcj_translate.specs.Term.{Scope}
use Rattle.pcj_translate.specs.Triples.{value_by}
use Rattle.pcj_translate.specs.Filter.{operand_of, compare_by, expr_by, more_or, all_by, more_and, one_by}
use Rattle.pcj_translate.specs.Testing.{ors_form, ands_form}
use Rattle.pcj_tree.specs.Read.{IsOperand, operands_step, operands_of, depth_step, depth_of}
use Rattle.pcj_stored.proofs.TermLemmas.{IsGood, behind, value_valid, slot_operand}

-- ---- how many tokens are taken

pub word_takes : {k : Terminal} {x y : List Lexeme} → Derives (word k) x y → length x ≡ length y + 1
word_takes (is e) = omega arith

pub fewer : {f : Form} {x y : List Lexeme} → Derives f x y → length y ≤ length x
fewer (is {x = rest} e) = omega arith
fewer (by d) = fewer d
fewer (one_after d e) = omega (arith, fewer d, fewer e)
fewer (left d) = fewer d
fewer (right d) = fewer d
fewer without = omega arith
fewer (with_it d) = fewer d
fewer end = omega arith
fewer (again d more) = omega (arith, fewer d, fewer more)

op_takes : {x y : List Lexeme} → Derives (name g.Op) x y → length x ≡ length y + 1
op_takes (by (left d)) = word_takes d
op_takes (by (right (left d))) = word_takes d
op_takes (by (right (right (left d)))) = word_takes d
op_takes (by (right (right (right (left d))))) = word_takes d
op_takes (by (right (right (right (right (left d)))))) = word_takes d
op_takes (by (right (right (right (right (right d)))))) = word_takes d

-- ---- depths and operands

depth_or : (a b : Expr) → depth_of (Or a b) ≡ max (depth_of a) (depth_of b) + 1
depth_or a b = ap depth_of (sym (rolls-Or a b)) ∙ fold-roll-Expr ℕ depth_step (open_expr.Or a b)

depth_and : (a b : Expr) → depth_of (And a b) ≡ max (depth_of a) (depth_of b) + 1
depth_and a b = ap depth_of (sym (rolls-And a b)) ∙ fold-roll-Expr ℕ depth_step (open_expr.And a b)

depth_not : (a : Expr) → depth_of (Not a) ≡ depth_of a + 1
depth_not a = ap depth_of (sym (rolls-Not a)) ∙ fold-roll-Expr ℕ depth_step (open_expr.Not a)

depth_test : (c : Compare) (l r : Operand) → depth_of (Test c l r) ≡ 1
depth_test c l r = ap depth_of (sym (rolls-Test c l r)) ∙ fold-roll-Expr ℕ depth_step (open_expr.Test c l r)

operands_or : (a b : Expr) → operands_of (Or a b) ≡ operands_of a ++ operands_of b
operands_or a b = ap operands_of (sym (rolls-Or a b)) ∙ fold-roll-Expr (List Operand) operands_step (open_expr.Or a b)

operands_and : (a b : Expr) → operands_of (And a b) ≡ operands_of a ++ operands_of b
operands_and a b = ap operands_of (sym (rolls-And a b)) ∙ fold-roll-Expr (List Operand) operands_step (open_expr.And a b)

operands_not : (a : Expr) → operands_of (Not a) ≡ operands_of a
operands_not a = ap operands_of (sym (rolls-Not a)) ∙ fold-roll-Expr (List Operand) operands_step (open_expr.Not a)

operands_test : (c : Compare) (l r : Operand) → operands_of (Test c l r) ≡ l ∷ r ∷ []
operands_test c l r = ap operands_of (sym (rolls-Test c l r)) ∙ fold-roll-Expr (List Operand) operands_step (open_expr.Test c l r)

-- ---- conditions, with how many tokens are still to come

-- its depth and the tokens to come are so many at most
pub record Fits (n rest : ℕ) (e : Expr) : Type 0 where
  pub depth : depth_of e + rest ≤ n
  pub operands : All IsOperand (operands_of e)

pub fits_less : (n k j : ℕ) (e : Expr) → j ≤ k → Fits n k e → Fits n j e
fits_less n k j e less f = record { depth = omega (arith, f.depth, less); operands = f.operands }

pair_bound : (n x v u a b : ℕ) → a + x ≤ n → b + u ≤ v → v + 1 ≤ x → max a b + 1 + u ≤ n
pair_bound n x v u a b first second less =
    let most : max a b ≤ n - 1 - u = max-le (omega (arith, first, second, less)) (omega (arith, first, second, less)) in
    omega (arith, most, first, second, less)

pub or_fits : (n x v u : ℕ) (a b : Expr) → Fits n x a → Fits v u b → v + 1 ≤ x → Fits n u (Or a b)
or_fits n x v u a b first second less = record {
  depth = subst (λ (d : ℕ). d + u ≤ n) (sym (depth_or a b)) (pair_bound n x v u (depth_of a) (depth_of b) first.depth second.depth less);
  operands = subst (All IsOperand) (sym (operands_or a b)) (All-append IsOperand (operands_of a) (operands_of b) first.operands second.operands);
}

pub and_fits : (n x v u : ℕ) (a b : Expr) → Fits n x a → Fits v u b → v + 1 ≤ x → Fits n u (And a b)
and_fits n x v u a b first second less = record {
  depth = subst (λ (d : ℕ). d + u ≤ n) (sym (depth_and a b)) (pair_bound n x v u (depth_of a) (depth_of b) first.depth second.depth less);
  operands = subst (All IsOperand) (sym (operands_and a b)) (All-append IsOperand (operands_of a) (operands_of b) first.operands second.operands);
}

not_fits : (n x v u : ℕ) (a : Expr) → Fits v u a → v + 1 ≤ x → x ≤ n → Fits n u (Not a)
not_fits n x v u a inner less within = record {
  depth = subst (λ (d : ℕ). d + u ≤ n) (sym (depth_not a)) (omega (arith, inner.depth, less, within));
  operands = subst (All IsOperand) (sym (operands_not a)) inner.operands;
}

test_fits : (n u : ℕ) (c : Compare) (l r : Operand) → IsOperand l → IsOperand r → u + 1 ≤ n → Fits n u (Test c l r)
test_fits n u c l r first second within = record {
  depth = subst (λ (d : ℕ). d + u ≤ n) (sym (depth_test c l r)) (omega (arith, within));
  operands = subst (All IsOperand) (sym (operands_test c l r)) (All-cons IsOperand l (r ∷ []) first (All-cons IsOperand r [] second (All-nil IsOperand)));
}

-- ---- derivations

mutual
  pub expr_fits : {x y : List Lexeme} (scope : Scope) (d : Derives (name g.Expr) x y) → AllByRecursion (IsGood scope) x → Fits (length x) (length y) (expr_by scope d)
  expr_fits {x = x} scope (by (one_after a more)) all = ors_fit (length x) scope (all_by scope a) more (all_fits scope a all) (behind (IsGood scope) a all)

  ors_fit : {x y : List Lexeme} (n : ℕ) (scope : Scope) (first : Expr) (d : Derives ors_form x y) → Fits n (length x) first → AllByRecursion (IsGood scope) x → Fits n (length y) (more_or scope first d)
  ors_fit n scope first end f all = f
  ors_fit {x = x} n scope first (again {y = u} (one_after {y = v} w a) more) f all =
      let past = behind (IsGood scope) w all in
      let one = or_fits n (length x) (length v) (length u) first (all_by scope a) f (all_fits scope a past) (omega (arith, word_takes w)) in
      ors_fit n scope (Or first (all_by scope a)) more one (behind (IsGood scope) a past)

  all_fits : {x y : List Lexeme} (scope : Scope) (d : Derives (name g.All) x y) → AllByRecursion (IsGood scope) x → Fits (length x) (length y) (all_by scope d)
  all_fits {x = x} scope (by (one_after o more)) all = ands_fit (length x) scope (one_by scope o) more (one_fits scope o all) (behind (IsGood scope) o all)

  ands_fit : {x y : List Lexeme} (n : ℕ) (scope : Scope) (first : Expr) (d : Derives ands_form x y) → Fits n (length x) first → AllByRecursion (IsGood scope) x → Fits n (length y) (more_and scope first d)
  ands_fit n scope first end f all = f
  ands_fit {x = x} n scope first (again {y = u} (one_after {y = v} w o) more) f all =
      let past = behind (IsGood scope) w all in
      let one = and_fits n (length x) (length v) (length u) first (one_by scope o) f (one_fits scope o past) (omega (arith, word_takes w)) in
      ands_fit n scope (And first (one_by scope o)) more one (behind (IsGood scope) o past)

  one_fits : {x y : List Lexeme} (scope : Scope) (d : Derives (name g.One) x y) → AllByRecursion (IsGood scope) x → Fits (length x) (length y) (one_by scope d)
  one_fits {x = x} {y = y} scope (by (left (one_after {y = a} n (one_after {y = b} p (one_after {y = v} e c))))) all =
      let past = behind (IsGood scope) p (behind (IsGood scope) n all) in
      let inner = not_fits (length x) (length x) (length b) (length v) (expr_by scope e) (expr_fits scope e past) (omega (arith, word_takes n, word_takes p)) (omega arith) in
      fits_less (length x) (length v) (length y) (Not (expr_by scope e)) (omega (arith, word_takes c)) inner
  one_fits {x = x} {y = y} scope (by (right (left (one_after {y = b} p (one_after {y = v} e c))))) all =
      let inner = expr_fits scope e (behind (IsGood scope) p all) in
      record { depth = omega (arith, inner.depth, word_takes p, word_takes c); operands = inner.operands }
  one_fits {x = x} {y = y} scope (by (right (right (one_after {y = u} v (one_after {y = z} o w))))) all =
      let past = behind (IsGood scope) v all in
      test_fits (length x) (length y) (compare_by o) (operand_of (value_by scope v)) (operand_of (value_by scope w))
      (slot_operand (value_by scope v) (value_valid scope v all)) (slot_operand (value_by scope w) (value_valid scope w (behind (IsGood scope) o past)))
      (omega (arith, fewer v, op_takes o, fewer w))
