-- What reading a stored tree gives.
use Rattle.std.specs.Prelude.{◌≡◌, ◌≤◌, ◌+◌, ℕ, max, List, [], ◌∷◌, ◌++◌, Option, Some, None}
use Rattle.std.specs.List.{All}
use Rattle.pcj_term.specs.Valid.{IsValid}
use Rattle.pcj_encode.specs.Name.{IsNode}
use Rattle.pcj_expr.specs.declared.expr.Expr.{Expr, Expr-F, fold-Expr}
use Rattle.pcj_expr.specs.declared.expr.Expr.TheOpen as open_expr
use Rattle.pcj_expr.specs.declared.operand.Operand.{Operand}
use Rattle.pcj_expr.specs.declared.operand.Operand.TheVariants as operand
use Rattle.pcj_algebra.specs.declared.triple_pattern.Slot.{Slot}
use Rattle.pcj_algebra.specs.declared.triple_pattern.Slot.TheVariants as slot
use Rattle.pcj_tree.specs.declared.node.Node.{Node}
use Rattle.pcj_tree.specs.declared.node.NodeKind.{NodeKind}
use Rattle.pcj_tree.specs.declared.node.NodeKind.TheVariants as kind
use Rattle.pcj_tree.specs.declared.tree.Tree.{Tree}
use Rattle.pcj_tree.specs.Stored.{stored_tree}

abbrev pub IsSlot : Slot → Type 0
IsSlot (slot.Var name) = Unit {0}
IsSlot (slot.Value term) = IsValid term

abbrev pub IsOperand : Operand → Type 0
IsOperand (operand.Var name) = Unit {0}
IsOperand (operand.Value term) = IsValid term

abbrev pub operands_step : Expr-F (List Operand) → List Operand
operands_step (open_expr.Or left right) = left ++ right
operands_step (open_expr.And left right) = left ++ right
operands_step (open_expr.Not inner) = inner
operands_step (open_expr.Test of left right) = left ∷ right ∷ []

-- what a condition compares
abbrev pub operands_of : Expr → List Operand
operands_of expr = fold-Expr (List Operand) operands_step expr

abbrev pub depth_step : Expr-F ℕ → ℕ
depth_step (open_expr.Or left right) = max left right + 1
depth_step (open_expr.And left right) = max left right + 1
depth_step (open_expr.Not inner) = inner + 1
depth_step (open_expr.Test of left right) = 1

-- how many operators stand within one another, at most
abbrev pub depth_of : Expr → ℕ
depth_of expr = fold-Expr ℕ depth_step expr

-- A condition of valid terms that is so deep at most.
abbrev pub IsExpr : ℕ → Expr → Type 0
IsExpr levels expr = (depth_of expr ≤ levels) × All IsOperand (operands_of expr)

-- Numbers of nodes are of two bytes. A query text has 65,536 bytes at most, and each operator is one of them at least.
abbrev pub IsKind : NodeKind → Type 0
IsKind (kind.Pattern of) = IsSlot of.subject × IsSlot of.predicate × IsSlot of.object
IsKind (kind.Join left right) = IsNode left × IsNode right
IsKind (kind.Filter child expr) = IsNode child × IsExpr 65536 expr
IsKind (kind.Union left right) = IsNode left × IsNode right
IsKind (kind.Project child) = IsNode child
IsKind (kind.Group child aggregate var) = IsNode child

abbrev pub IsTreeNode : Node → Type 0
IsTreeNode node = IsKind node.kind × IsNode node.parent

-- a tree that can be stored
abbrev pub IsStorable : Tree → Type 0
IsStorable tree = All IsTreeNode tree.nodes

-- the tree whose stored form the bytes are, or that there is none
abbrev pub ReadsTree : List ℕ → Option Tree → Type 0
ReadsTree bytes (Some tree) = IsStorable tree × (stored_tree tree ≡ bytes)
ReadsTree bytes None = (tree : Tree) → IsStorable tree → stored_tree tree ≡ bytes → ⊥
