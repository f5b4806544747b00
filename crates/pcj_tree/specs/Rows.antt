-- Which rows the nodes have: how many there are, and what those of the last one are.
use Rattle.std.specs.Prelude.{◌≡◌, ◌↔◌, ◌+◌, ℕ, List, Some}
use Rattle.pcj_term.specs.declared.triple.Triple.{Triple}
use Rattle.pcj_expr.specs.declared.mapping.Mapping.{Mapping}
use Rattle.pcj_algebra.specs.declared.pattern.Pattern.{Pattern}
use Rattle.pcj_algebra.specs.declared.query.Query.{Query}
use Rattle.pcj_algebra.specs.declared.query.Shape.{Shape}
use Rattle.pcj_algebra.specs.declared.query.Shape.TheVariants.{Distinct, Group}
use Rattle.pcj_solutions.specs.Solutions.{IsSolution}
use Rattle.pcj_answers.specs.Answers.{IsProjected}
use Rattle.pcj_answers.specs.Rows.{Row, terms_of}
use Rattle.pcj_tree.specs.declared.node.Node.{Node}
use Rattle.pcj_tree.specs.declared.tree.Tree.{Tree}
use Rattle.pcj_tree.specs.Tree.{IsTree, size_of}
use Rattle.pcj_tree.specs.Meaning.{numbered, parts_of, IsRowAt}

-- No two solutions of a part give the variables of its node the same: it has as many rows as the part has solutions.
abbrev pub HaveOneRowEach : Type 0
HaveOneRowEach = (query : Query) (tree : Tree) (triples : List Triple) (number : ℕ) (part : Pattern) (node : Node) (first second : Mapping) →
    IsTree query tree → numbered (parts_of query.pattern) number ≡ Some part → numbered tree.nodes number ≡ Some node →
    IsSolution triples part first → IsSolution triples part second → terms_of node.order first ≡ terms_of node.order second → first ≡ second

-- the selected variables, or those of GROUP BY in the order of SELECT
abbrev pub selected : Shape → List (List ℕ)
selected (Distinct names) = names
selected (Group keys aggregate var as_name) = keys

-- The rows of the last node are what the solutions of the whole pattern give these variables: the rows of the answer, or the keys.
abbrev pub LastRowsAreProjected : Type 0
LastRowsAreProjected = (query : Query) (tree : Tree) (triples : List Triple) (node : Node) (row : Row) →
    IsTree query tree → numbered tree.nodes (size_of query.pattern + 1) ≡ Some node →
    IsRowAt triples query (size_of query.pattern + 1) node row ↔ IsProjected triples query.pattern (selected query.shape) row
