-- Conditions of derivations (SPARQL 1.1 Query, section 17): `&&` binds closer than `||`, and both join from the left.
use Rattle.std.specs.Prelude.{List}
use Rattle.pcj_algebra.specs.declared.triple_pattern.Slot.{Slot}
use Rattle.pcj_algebra.specs.declared.triple_pattern.Slot.TheVariants as slots
use Rattle.pcj_expr.specs.declared.expr.Expr.{Expr}
use Rattle.pcj_expr.specs.declared.expr.Expr.TheVariants.{Or, And, Not, Test}
use Rattle.pcj_expr.specs.declared.compare.Compare.{Compare}
use Rattle.pcj_expr.specs.declared.compare.Compare.TheVariants.{Eq, Ne, Lt, Gt, Le, Ge}
use Rattle.pcj_expr.specs.declared.operand.Operand.{Operand}
use Rattle.pcj_expr.specs.declared.operand.Operand.TheVariants as operands
use Rattle.pcj_grammar.specs.declared.lexeme.Lexeme.{Lexeme}
use Rattle.pcj_grammar.specs.declared.terminal.Terminal.TheVariants as t
use Rattle.pcj_grammar.specs.Grammar.{Form, word, name, maybe, many, ◌▹◌, ◌or◌, Derives, is, by, one_after, left, right, without, with_it, end, again}
use Rattle.pcj_grammar.specs.Grammar as g
use Rattle.pcj_translate.specs.Term.{Scope}
use Rattle.pcj_translate.specs.Triples.{value_by}

abbrev pub operand_of : Slot → Operand
operand_of (slots.Var variable) = operands.Var variable
operand_of (slots.Value term) = operands.Value term

abbrev pub compare_by : {x y : List Lexeme} → Derives (name g.Op) x y → Compare
compare_by (by (left d)) = Eq
compare_by (by (right (left d))) = Ne
compare_by (by (right (right (left d)))) = Lt
compare_by (by (right (right (right (left d))))) = Gt
compare_by (by (right (right (right (right (left d)))))) = Le
compare_by (by (right (right (right (right (right d)))))) = Ge

abbrev mutual
  pub expr_by : {x y : List Lexeme} → Scope → Derives (name g.Expr) x y → Expr
  expr_by scope (by (one_after a more)) = more_or scope (all_by scope a) more

  pub more_or : {x y : List Lexeme} → Scope → Expr → Derives (many (word t.Or ▹ name g.All)) x y → Expr
  more_or scope first end = first
  more_or scope first (again (one_after d a) more) = more_or scope (Or first (all_by scope a)) more

  pub all_by : {x y : List Lexeme} → Scope → Derives (name g.All) x y → Expr
  all_by scope (by (one_after o more)) = more_and scope (one_by scope o) more

  pub more_and : {x y : List Lexeme} → Scope → Expr → Derives (many (word t.And ▹ name g.One)) x y → Expr
  more_and scope first end = first
  more_and scope first (again (one_after d o) more) = more_and scope (And first (one_by scope o)) more

  pub one_by : {x y : List Lexeme} → Scope → Derives (name g.One) x y → Expr
  one_by scope (by (left (one_after n (one_after p (one_after e c))))) = Not (expr_by scope e)
  one_by scope (by (right (left (one_after p (one_after e c))))) = expr_by scope e
  one_by scope (by (right (right (one_after v (one_after o w))))) = Test (compare_by o) (operand_of (value_by scope v)) (operand_of (value_by scope w))
