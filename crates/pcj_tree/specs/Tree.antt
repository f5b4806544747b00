-- The tree of a query: a node for each part of its pattern, and a last one for its shape.
use Rattle.std.specs.Prelude.{◌≡◌, ◌+◌, ℕ, List, [], ◌∷◌, ◌++◌, Option, Some, None}
use Rattle.pcj_expr.specs.declared.expr.Expr.{Expr}
use Rattle.pcj_algebra.specs.declared.pattern.Pattern.{Pattern, Pattern-F, fold-Pattern}
use Rattle.pcj_algebra.specs.declared.pattern.Pattern.TheOpen as open_pattern
use Rattle.pcj_algebra.specs.declared.pattern.Pattern.TheVariants as pattern
use Rattle.pcj_algebra.specs.declared.query.Query.{Query}
use Rattle.pcj_algebra.specs.declared.query.Shape.{Shape}
use Rattle.pcj_algebra.specs.declared.query.Shape.TheVariants.{Distinct, Group}
use Rattle.pcj_algebra.specs.declared.triple_pattern.TriplePattern.{TriplePattern}
use Rattle.pcj_algebra.specs.Variables.{pattern_names}
use Rattle.pcj_tree.specs.declared.node.Node.{Node}
use Rattle.pcj_tree.specs.declared.node.NodeKind.{NodeKind}
use Rattle.pcj_tree.specs.declared.node.NodeKind.TheVariants as kind
use Rattle.pcj_tree.specs.declared.tree.Tree.{Tree}
use Rattle.pcj_tree.specs.Order.{IsOrder}

abbrev pub size_step : Pattern-F ℕ → ℕ
size_step (open_pattern.Triple of) = 1
size_step (open_pattern.Join left right) = left + right + 1
size_step (open_pattern.Filter condition inner) = inner + 1
size_step (open_pattern.Union left right) = left + right + 1

-- how many parts a pattern has, itself among them: each triple pattern, join, filter and union is one
abbrev pub size_of : Pattern → ℕ
size_of of = fold-Pattern ℕ size_step of

abbrev pub node_of : NodeKind → ℕ → List (List ℕ) → Node
node_of of parent order = record { kind = of; parent = parent; order = order }

-- the variables of a join's other child, where there is one
abbrev pub other_names : Option Pattern → List (List ℕ)
other_names None = []
other_names (Some other) = pattern_names other

-- the order of the variables of a part: behind those that it shares with the other child of a join, where it is a child of one
abbrev pub HasOrder : Pattern → Option Pattern → List (List ℕ) → Type 0
HasOrder of sibling order = IsOrder (pattern_names of) (other_names sibling) order

-- The nodes of a pattern's parts, numbered from the number after `before` on: children before parents, and those of the left
-- child before those of the right one. The pattern's own node is the last of them, a child of `parent`. Where that is a join,
-- `sibling` is its other child.
pub data AreNodes : Pattern → ℕ → ℕ → Option Pattern → List Node → Type 0 where
  triple : {before parent : ℕ} {sibling : Option Pattern} {order : List (List ℕ)} (of : TriplePattern) →
      HasOrder (pattern.Triple of) sibling order →
      AreNodes (pattern.Triple of) before parent sibling (node_of (kind.Pattern of) parent order ∷ [])
  joined : {before parent left_last last : ℕ} {sibling : Option Pattern} {order : List (List ℕ)} {lefts rights : List Node} (left right : Pattern) →
      left_last ≡ before + size_of left → last ≡ left_last + size_of right →
      AreNodes left before (last + 1) (Some right) lefts → AreNodes right left_last (last + 1) (Some left) rights →
      HasOrder (pattern.Join left right) sibling order →
      AreNodes (pattern.Join left right) before parent sibling (lefts ++ (rights ++ node_of (kind.Join left_last last) parent order ∷ []))
  filtered : {before parent last : ℕ} {sibling : Option Pattern} {order : List (List ℕ)} {inners : List Node} (condition : Expr) (inner : Pattern) →
      last ≡ before + size_of inner →
      AreNodes inner before (last + 1) None inners →
      HasOrder (pattern.Filter condition inner) sibling order →
      AreNodes (pattern.Filter condition inner) before parent sibling (inners ++ node_of (kind.Filter last condition) parent order ∷ [])
  united : {before parent left_last last : ℕ} {sibling : Option Pattern} {order : List (List ℕ)} {lefts rights : List Node} (left right : Pattern) →
      left_last ≡ before + size_of left → last ≡ left_last + size_of right →
      AreNodes left before (last + 1) None lefts → AreNodes right left_last (last + 1) None rights →
      HasOrder (pattern.Union left right) sibling order →
      AreNodes (pattern.Union left right) before parent sibling (lefts ++ (rights ++ node_of (kind.Union left_last last) parent order ∷ []))

-- the last node, whose parent is 0, over the node of the whole pattern: its order is the list of SELECT, or that of the keys
abbrev pub top_node : Shape → ℕ → Node
top_node (Distinct names) child = node_of (kind.Project child) 0 names
top_node (Group keys aggregate var as_name) child = node_of (kind.Group child aggregate var) 0 keys

-- the tree of a query
pub record IsTree (query : Query) (tree : Tree) : Type 0 where
  pub parts : List Node
  pub are_parts : AreNodes query.pattern 0 (size_of query.pattern + 1) None parts
  pub nodes : tree.nodes ≡ parts ++ top_node query.shape (size_of query.pattern) ∷ []

-- ---- what is added to the nodes before

-- the node of a part
abbrev pub AddsNode : NodeKind → Pattern → ℕ → Option Pattern → List Node → List Node → Type 0
AddsNode of part parent sibling old new = (order : List (List ℕ)) × HasOrder part sibling order × (new ≡ old ++ node_of of parent order ∷ [])

-- the nodes of all parts of a pattern
abbrev pub AddsNodes : Pattern → ℕ → ℕ → Option Pattern → List Node → List Node → Type 0
AddsNodes of before parent sibling old new = (added : List Node) × (new ≡ old ++ added) × AreNodes of before parent sibling added
