-- How a tree is stored: as the key of its nodes, which are keys of their parts.
use Rattle.std.specs.Prelude.{ℕ, List, [], ◌∷◌, map, codes}
use Rattle.pcj_term.specs.Term.{printed}
use Rattle.pcj_key.specs.Key.{key_of}
use Rattle.pcj_encode.specs.Name.{node_part}
use Rattle.pcj_expr.specs.declared.compare.Compare.{Compare}
use Rattle.pcj_expr.specs.declared.compare.Compare.TheVariants as compare
use Rattle.pcj_expr.specs.declared.expr.Expr.{Expr, Expr-F, fold-Expr}
use Rattle.pcj_expr.specs.declared.expr.Expr.TheOpen as open_expr
use Rattle.pcj_expr.specs.declared.operand.Operand.{Operand}
use Rattle.pcj_expr.specs.declared.operand.Operand.TheVariants as operand
use Rattle.pcj_algebra.specs.declared.query.Aggregate.{Aggregate}
use Rattle.pcj_algebra.specs.declared.query.Aggregate.TheVariants as aggregate
use Rattle.pcj_algebra.specs.declared.triple_pattern.Slot.{Slot}
use Rattle.pcj_algebra.specs.declared.triple_pattern.Slot.TheVariants as slot
use Rattle.pcj_tree.specs.declared.node.Node.{Node}
use Rattle.pcj_tree.specs.declared.node.NodeKind.{NodeKind}
use Rattle.pcj_tree.specs.declared.node.NodeKind.TheVariants as kind
use Rattle.pcj_tree.specs.declared.tree.Tree.{Tree}

-- a variable: a question mark and its name; and a term as it is printed
abbrev pub slot_part : Slot → List ℕ
slot_part (slot.Var name) = 63 ∷ name
slot_part (slot.Value term) = printed term

abbrev pub operand_part : Operand → List ℕ
operand_part (operand.Var name) = 63 ∷ name
operand_part (operand.Value term) = printed term

abbrev pub compare_part : Compare → List ℕ
compare_part compare.Eq = codes "="
compare_part compare.Ne = codes "!="
compare_part compare.Lt = codes "<"
compare_part compare.Gt = codes ">"
compare_part compare.Le = codes "<="
compare_part compare.Ge = codes ">="

-- a condition: its operator and what stands on its sides, where those are stored
abbrev pub expr_step : Expr-F (List ℕ) → List ℕ
expr_step (open_expr.Or left right) = key_of (codes "|" ∷ left ∷ right ∷ [])
expr_step (open_expr.And left right) = key_of (codes "&" ∷ left ∷ right ∷ [])
expr_step (open_expr.Not inner) = key_of (codes "!" ∷ inner ∷ [])
expr_step (open_expr.Test of left right) = key_of (compare_part of ∷ operand_part left ∷ operand_part right ∷ [])

abbrev pub stored_expr : Expr → List ℕ
stored_expr expr = fold-Expr (List ℕ) expr_step expr

abbrev pub aggregate_part : Aggregate → List ℕ
aggregate_part aggregate.Count = codes "c"
aggregate_part aggregate.Sum = codes "s"
aggregate_part aggregate.Min = codes "l"
aggregate_part aggregate.Max = codes "h"

-- the letter of a node's kind, or of its aggregate
abbrev pub kind_part : NodeKind → List ℕ
kind_part (kind.Pattern of) = codes "p"
kind_part (kind.Join left right) = codes "j"
kind_part (kind.Filter child expr) = codes "f"
kind_part (kind.Union left right) = codes "u"
kind_part (kind.Project child) = codes "d"
kind_part (kind.Group child aggregate var) = aggregate_part aggregate

-- what a node has beside its parent and its order
abbrev pub kind_fields : NodeKind → List (List ℕ)
kind_fields (kind.Pattern of) = slot_part of.subject ∷ slot_part of.predicate ∷ slot_part of.object ∷ []
kind_fields (kind.Join left right) = node_part left ∷ node_part right ∷ []
kind_fields (kind.Filter child expr) = node_part child ∷ stored_expr expr ∷ []
kind_fields (kind.Union left right) = node_part left ∷ node_part right ∷ []
kind_fields (kind.Project child) = node_part child ∷ []
kind_fields (kind.Group child aggregate var) = node_part child ∷ var ∷ []

abbrev pub stored_node : Node → List ℕ
stored_node node = key_of (kind_part node.kind ∷ node_part node.parent ∷ key_of node.order ∷ kind_fields node.kind)

-- the stored form of a tree
abbrev pub stored_tree : Tree → List ℕ
stored_tree tree = key_of (map stored_node tree.nodes)
