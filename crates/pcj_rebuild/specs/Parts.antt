-- What the nodes of a tree are for, by their numbers.
use Rattle.std.specs.Prelude.{◌≡◌, ◌<◌, ◌+◌, ℕ, Bool, true, false, List, [], Option, Some, None}
use Rattle.std.specs.Option.{option_map}
use Rattle.pcj_expr.specs.declared.expr.Expr.{Expr}
use Rattle.pcj_algebra.specs.declared.pattern.Pattern.{Pattern}
use Rattle.pcj_algebra.specs.declared.pattern.Pattern.TheVariants as pattern
use Rattle.pcj_algebra.specs.declared.query.Query.{Query}
use Rattle.pcj_algebra.specs.declared.query.Shape.{Shape}
use Rattle.pcj_algebra.specs.declared.query.Shape.TheVariants.{Distinct, Group}
use Rattle.pcj_algebra.specs.declared.triple_pattern.TriplePattern.{TriplePattern}
use Rattle.pcj_tree.specs.declared.node.Node.{Node}
use Rattle.pcj_tree.specs.declared.node.NodeKind.{NodeKind}
use Rattle.pcj_tree.specs.declared.node.NodeKind.TheVariants as kind
use Rattle.pcj_tree.specs.Meaning.{numbered}
use Rattle.pcj_tree.specs.Tree.{AreNodes, size_of, top_node}

-- ---- parts

-- the kind of the node with a number
abbrev pub kind_at : List Node → ℕ → Option NodeKind
kind_at nodes number = option_map (λ (node : Node). node.kind) (numbered nodes number)

-- the part that the node with a number is for, which is over the nodes of lower numbers
pub data IsPart : List Node → ℕ → Pattern → Type 0 where
  triple : {nodes : List Node} {number : ℕ} (of : TriplePattern) → kind_at nodes number ≡ Some (kind.Pattern of) → IsPart nodes number (pattern.Triple of)
  joined : {nodes : List Node} {number first second : ℕ} (left right : Pattern) → kind_at nodes number ≡ Some (kind.Join first second) → first < number → second < number →
      IsPart nodes first left → IsPart nodes second right → IsPart nodes number (pattern.Join left right)
  filtered : {nodes : List Node} {number child : ℕ} (condition : Expr) (inner : Pattern) → kind_at nodes number ≡ Some (kind.Filter child condition) → child < number →
      IsPart nodes child inner → IsPart nodes number (pattern.Filter condition inner)
  united : {nodes : List Node} {number first second : ℕ} (left right : Pattern) → kind_at nodes number ≡ Some (kind.Union first second) → first < number → second < number →
      IsPart nodes first left → IsPart nodes second right → IsPart nodes number (pattern.Union left right)

pub record HasPart (nodes : List Node) (number : ℕ) : Type 0 where
  pub part : Pattern
  pub is : IsPart nodes number part

-- ---- the last node

-- it is over the whole pattern
abbrev pub is_top : NodeKind → Bool
is_top (kind.Project child) = true
is_top (kind.Group child aggregate var) = true
is_top _ = false

abbrev pub child_at : NodeKind → ℕ
child_at (kind.Project child) = child
child_at (kind.Group child aggregate var) = child
child_at _ = 0

abbrev pub shape_by : NodeKind → List (List ℕ) → Shape
shape_by (kind.Group child aggregate var) order = Group order aggregate var []
shape_by _ order = Distinct order

abbrev pub shape_at : Node → Shape
shape_at top = shape_by top.kind top.order

-- the nodes of a query's parts, and the last one
pub record IsQueryOver (query : Query) (parts : List Node) (top : Node) : Type 0 where
  pub are_parts : AreNodes query.pattern 0 (size_of query.pattern + 1) None parts
  pub is_top : top ≡ top_node query.shape (size_of query.pattern)

pub record HasQueryOver (parts : List Node) (top : Node) : Type 0 where
  pub query : Query
  pub is : IsQueryOver query parts top
