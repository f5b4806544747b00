-- Which part of a query a node is for, and which rows it has over a set of triples (SPARQL 1.1 Query, section 18.5).
use Rattle.std.specs.Prelude.{◌≡◌, ◌↔◌, ◌⊎◌, ℕ, zero, suc, List, [], ◌∷◌, ◌++◌, Option, Some, None}
use Rattle.pcj_term.specs.declared.triple.Triple.{Triple}
use Rattle.pcj_expr.specs.declared.mapping.Mapping.{Mapping}
use Rattle.pcj_expr.specs.declared.truth_value.Truth.TheVariants.{True}
use Rattle.pcj_expr.specs.Truth.{truth_of}
use Rattle.pcj_algebra.specs.declared.pattern.Pattern.{Pattern, Pattern-F, fold-Pattern}
use Rattle.pcj_algebra.specs.declared.pattern.Pattern.TheOpen as open_pattern
use Rattle.pcj_algebra.specs.declared.pattern.Pattern.TheVariants as pattern
use Rattle.pcj_algebra.specs.declared.query.Query.{Query}
use Rattle.pcj_solutions.specs.Joining.{AreCompatible, IsUnion}
use Rattle.pcj_solutions.specs.Solutions.{IsSolution, IsMatchIn}
use Rattle.pcj_answers.specs.Rows.{Row, terms_of}
use Rattle.pcj_tree.specs.declared.node.Node.{Node}
use Rattle.pcj_tree.specs.declared.node.NodeKind.{NodeKind}
use Rattle.pcj_tree.specs.declared.node.NodeKind.TheVariants as kind
use Rattle.pcj_tree.specs.declared.tree.Tree.{Tree}
use Rattle.pcj_tree.specs.Tree.{IsTree}

-- what has this number, counted from 1
abbrev pub numbered : {X : Type 0} → List X → ℕ → Option X
numbered [] number = None
numbered (x ∷ xs) zero = None
numbered (x ∷ xs) (suc zero) = Some x
numbered (x ∷ xs) (suc (suc number)) = numbered xs (suc number)

abbrev pub parts_step : Pattern-F (Pattern × List Pattern) → Pattern × List Pattern
parts_step (open_pattern.Triple of) = (pattern.Triple of, pattern.Triple of ∷ [])
parts_step (open_pattern.Join left right) = (pattern.Join left.0 right.0, left.1 ++ (right.1 ++ pattern.Join left.0 right.0 ∷ []))
parts_step (open_pattern.Filter condition inner) = (pattern.Filter condition inner.0, inner.1 ++ pattern.Filter condition inner.0 ∷ [])
parts_step (open_pattern.Union left right) = (pattern.Union left.0 right.0, left.1 ++ (right.1 ++ pattern.Union left.0 right.0 ∷ []))

-- a pattern, and its parts
abbrev pub with_parts : Pattern → Pattern × List Pattern
with_parts of = fold-Pattern (Pattern × List Pattern) parts_step of

-- The parts of a pattern, each before what it is a part of, and those of the left child before those of the right one: the last
-- of them is the pattern itself.
abbrev pub parts_of : Pattern → List Pattern
parts_of of = (with_parts of).1

-- the patterns whose solutions the nodes of a query's tree have: each part of the query's pattern, and at last all of it
abbrev pub patterns_of : Query → List Pattern
patterns_of query = parts_of query.pattern ++ query.pattern ∷ []

-- a solution, over the triples, of the part that has this number
abbrev pub IsSolutionAt : List Triple → Query → ℕ → Mapping → Type 0
IsSolutionAt triples query number mapping = (part : Pattern) × (numbered (patterns_of query) number ≡ Some part) × IsSolution triples part mapping

-- A row of a node, over the triples: what a solution of its part gives its variables. So a node for a part has a row for each
-- solution, as they bind just its variables; the last one has a row for each that the selected variables have, or a key.
abbrev pub IsRowAt : List Triple → Query → ℕ → Node → Row → Type 0
IsRowAt triples query number node row = (mapping : Mapping) × IsSolutionAt triples query number mapping × (row ≡ terms_of node.order mapping)

-- what a node of this kind says of the solutions at it, by those at its children
abbrev pub Means : List Triple → Query → NodeKind → Mapping → Type 0
Means triples query (kind.Pattern of) mapping = IsMatchIn triples of mapping
Means triples query (kind.Join left right) mapping =
    (first : Mapping) × (second : Mapping) × IsSolutionAt triples query left first × IsSolutionAt triples query right second × AreCompatible first second × IsUnion first second mapping
Means triples query (kind.Filter child condition) mapping = IsSolutionAt triples query child mapping × (truth_of condition mapping ≡ True)
Means triples query (kind.Union left right) mapping = IsSolutionAt triples query left mapping ⊎ IsSolutionAt triples query right mapping
Means triples query (kind.Project child) mapping = IsSolutionAt triples query child mapping
Means triples query (kind.Group child aggregate var) mapping = IsSolutionAt triples query child mapping

-- Each node of a query's tree is for the part that has its number: the part's solutions, over all triples, are what the node says.
abbrev pub NodesMeanParts : Type 0
NodesMeanParts = (query : Query) (tree : Tree) (triples : List Triple) (number : ℕ) (node : Node) (mapping : Mapping) → IsTree query tree → numbered tree.nodes number ≡ Some node →
    IsSolutionAt triples query number mapping ↔ Means triples query node.kind mapping
