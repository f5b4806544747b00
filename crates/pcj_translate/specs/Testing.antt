-- Reading comparisons from the front of some tokens.
use Rattle.std.specs.Prelude.{◌≡◌, ℕ, zero, suc, Bool, true, false, List, [], ◌∷◌}
use Rattle.pcj_expr.specs.declared.expr.Expr.{Expr}
use Rattle.pcj_expr.specs.declared.expr.Expr.TheVariants.{Test}
use Rattle.pcj_expr.specs.declared.compare.Compare.{Compare}
use Rattle.pcj_expr.specs.declared.compare.Compare.TheVariants.{Eq, Ne, Lt, Gt, Le, Ge}
use Rattle.pcj_grammar.specs.declared.lexeme.Lexeme.{Lexeme}
use Rattle.pcj_grammar.specs.declared.terminal.Terminal.{Terminal}
use Rattle.pcj_grammar.specs.declared.terminal.Terminal.TheVariants as t
use Rattle.pcj_grammar.specs.Grammar.{Form, word, name, many, ◌▹◌, Derives, by, one_after, left, right, end, again}
use Rattle.pcj_grammar.specs.Grammar as g
use Rattle.pcj_translate.specs.Term.{Scope}
use Rattle.pcj_translate.specs.Triples.{value_by}
use Rattle.pcj_translate.specs.Filter.{operand_of, compare_by, expr_by, all_by, one_by}

abbrev pub compare_of : Terminal → Compare
compare_of t.Unequal = Ne
compare_of t.Less = Lt
compare_of t.Greater = Gt
compare_of t.AtMost = Le
compare_of t.AtLeast = Ge
compare_of _ = Eq

abbrev pub compare_at : List Lexeme → Compare
compare_at [] = Eq
compare_at (l ∷ x) = compare_of l.terminal

-- a token that may follow a comparison
abbrev pub ends_test : Terminal → Bool
ends_test t.And = true
ends_test t.Or = true
ends_test t.CloseParen = true
ends_test _ = false

abbrev pub IsPastTest : List Lexeme → Type 0
IsPastTest [] = Unit {0}
IsPastTest (l ∷ x) = ends_test l.terminal ≡ true

abbrev pub test_form : Form
test_form = name g.Value ▹ name g.Op ▹ name g.Value

abbrev pub test_by : {x y : List Lexeme} → Scope → Derives test_form x y → Expr
test_by scope (one_after v (one_after o w)) = Test (compare_by o) (operand_of (value_by scope v)) (operand_of (value_by scope w))

abbrev pub ReadsTest : Scope → List Lexeme → List Lexeme → Expr → Type 0
ReadsTest scope x z expr = (y : List Lexeme) (d : Derives test_form x y) → IsPastTest y → (z ≡ y) × (expr ≡ test_by scope d)

-- ---- conditions

abbrev pub ors_form : Form
ors_form = many (word t.Or ▹ name g.All)

abbrev pub ands_form : Form
ands_form = many (word t.And ▹ name g.One)

abbrev pub inner_form : Form
inner_form = word t.OpenParen ▹ name g.Expr ▹ word t.CloseParen

-- no more than so many parentheses are open at once
abbrev mutual
  pub IsWithinExpr : {x y : List Lexeme} → ℕ → Derives (name g.Expr) x y → Type 0
  IsWithinExpr n (by (one_after a more)) = IsWithinAll n a × IsWithinOr n more

  pub IsWithinOr : {x y : List Lexeme} → ℕ → Derives ors_form x y → Type 0
  IsWithinOr n end = Unit {0}
  IsWithinOr n (again (one_after d a) more) = IsWithinAll n a × IsWithinOr n more

  pub IsWithinAll : {x y : List Lexeme} → ℕ → Derives (name g.All) x y → Type 0
  IsWithinAll n (by (one_after o more)) = IsWithinOne n o × IsWithinAnd n more

  pub IsWithinAnd : {x y : List Lexeme} → ℕ → Derives ands_form x y → Type 0
  IsWithinAnd n end = Unit {0}
  IsWithinAnd n (again (one_after d o) more) = IsWithinOne n o × IsWithinAnd n more

  pub IsWithinOne : {x y : List Lexeme} → ℕ → Derives (name g.One) x y → Type 0
  IsWithinOne n (by (left (one_after m d))) = IsWithinInner n d
  IsWithinOne n (by (right (left d))) = IsWithinInner n d
  IsWithinOne n (by (right (right d))) = Unit {0}

  pub IsWithinInner : {x y : List Lexeme} → ℕ → Derives inner_form x y → Type 0
  IsWithinInner zero d = ⊥
  IsWithinInner (suc n) (one_after p (one_after e c)) = IsWithinExpr n e

abbrev pub inner_by : {x y : List Lexeme} → Scope → Derives inner_form x y → Expr
inner_by scope (one_after p (one_after e c)) = expr_by scope e

abbrev pub is_and : Terminal → Bool
is_and t.And = true
is_and _ = false

abbrev pub begins_and : List Lexeme → Bool
begins_and [] = false
begins_and (l ∷ x) = is_and l.terminal

abbrev pub is_or : Terminal → Bool
is_or t.Or = true
is_or _ = false

abbrev pub begins_or : List Lexeme → Bool
begins_or [] = false
begins_or (l ∷ x) = is_or l.terminal

abbrev pub ends_all : Terminal → Bool
ends_all t.Or = true
ends_all t.CloseParen = true
ends_all _ = false

abbrev pub IsPastAll : List Lexeme → Type 0
IsPastAll [] = Unit {0}
IsPastAll (l ∷ x) = ends_all l.terminal ≡ true

abbrev pub ends_expr : Terminal → Bool
ends_expr t.CloseParen = true
ends_expr _ = false

abbrev pub IsPastExpr : List Lexeme → Type 0
IsPastExpr [] = Unit {0}
IsPastExpr (l ∷ x) = ends_expr l.terminal ≡ true

abbrev pub ReadsInner : Scope → ℕ → List Lexeme → List Lexeme → Expr → Type 0
ReadsInner scope n x z expr = (y : List Lexeme) (d : Derives inner_form x y) → IsWithinInner n d → (z ≡ y) × (expr ≡ inner_by scope d)

abbrev pub ReadsOne : Scope → ℕ → List Lexeme → List Lexeme → Expr → Type 0
ReadsOne scope n x z expr = (y : List Lexeme) (d : Derives (name g.One) x y) → IsPastTest y → IsWithinOne n d → (z ≡ y) × (expr ≡ one_by scope d)

abbrev pub ReadsAll : Scope → ℕ → List Lexeme → List Lexeme → Expr → Type 0
ReadsAll scope n x z expr = (y : List Lexeme) (d : Derives (name g.All) x y) → IsPastAll y → IsWithinAll n d → (z ≡ y) × (expr ≡ all_by scope d)

abbrev pub ReadsExpr : Scope → ℕ → List Lexeme → List Lexeme → Expr → Type 0
ReadsExpr scope n x z expr = (y : List Lexeme) (d : Derives (name g.Expr) x y) → IsPastExpr y → IsWithinExpr n d → (z ≡ y) × (expr ≡ expr_by scope d)

abbrev pub is_not : Terminal → Bool
is_not t.Not = true
is_not _ = false

abbrev pub begins_not : List Lexeme → Bool
begins_not [] = false
begins_not (l ∷ x) = is_not l.terminal

abbrev pub is_paren : Terminal → Bool
is_paren t.OpenParen = true
is_paren _ = false

abbrev pub begins_paren : List Lexeme → Bool
begins_paren [] = false
begins_paren (l ∷ x) = is_paren l.terminal
