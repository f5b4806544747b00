-- What a condition says of a mapping (SPARQL 1.1 Query, sections 17.2 and 18.1.8).
use Rattle.std.specs.Prelude.{ℕ, List, Option, Some, None}
use Rattle.std.specs.List.{find}
use Rattle.std.specs.Option.{option_map}
use Rattle.pcj_term.specs.declared.term.Term.{Term}
use Rattle.pcj_term.specs.Order.{same_bytes}
use Rattle.pcj_expr.specs.declared.expr.Expr.{Expr, Expr-F, fold-Expr}
use Rattle.pcj_expr.specs.declared.expr.Expr.TheOpen.{Or, And, Not, Test}
use Rattle.pcj_expr.specs.declared.mapping.Mapping.{Mapping}
use Rattle.pcj_expr.specs.declared.compare.Compare.{Compare}
use Rattle.pcj_expr.specs.declared.operand.Operand.{Operand}
use Rattle.pcj_expr.specs.declared.operand.Operand.TheVariants.{Var, Value}
use Rattle.pcj_expr.specs.declared.truth_value.Truth.{Truth}
use Rattle.pcj_expr.specs.declared.truth_value.Truth.TheVariants.{True, False, Error}
use Rattle.pcj_expr.specs.Compare.{comparison, not_of}

abbrev pub or_of : Truth → Truth → Truth
or_of True True = True
or_of True False = True
or_of True Error = True
or_of False True = True
or_of False False = False
or_of False Error = Error
or_of Error True = True
or_of Error False = Error
or_of Error Error = Error

abbrev pub and_of : Truth → Truth → Truth
and_of True True = True
and_of True False = False
and_of True Error = Error
and_of False True = False
and_of False False = False
and_of False Error = False
and_of Error True = Error
and_of Error False = False
and_of Error Error = Error

-- the term that a mapping gives a variable
abbrev pub bound : Mapping → List ℕ → Option Term
bound mapping name = option_map (λ binding. binding.term) (find (λ binding. same_bytes binding.name name) mapping.bindings)

-- the term that an operand is under a mapping
abbrev pub value_of : Mapping → Operand → Option Term
value_of mapping (Var name) = bound mapping name
value_of mapping (Value term) = Some term

-- what a comparison says of what two operands are: where a variable is unbound, Error
abbrev pub comparison_of : Compare → Option Term → Option Term → Truth
comparison_of compare (Some term) (Some other) = comparison compare term other
comparison_of compare (Some term) None = Error
comparison_of compare None (Some other) = Error
comparison_of compare None None = Error

-- what a condition says of a mapping, where it is known what its parts say
abbrev pub truth_step : Mapping → Expr-F Truth → Truth
truth_step mapping (Or left right) = or_of left right
truth_step mapping (And left right) = and_of left right
truth_step mapping (Not inner) = not_of inner
truth_step mapping (Test compare left right) = comparison_of compare (value_of mapping left) (value_of mapping right)

abbrev pub truth_of : Expr → Mapping → Truth
truth_of expr mapping = fold-Expr Truth (truth_step mapping) expr
