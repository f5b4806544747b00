-- What holds of all trees and their stored forms.
use Rattle.std.specs.Prelude.{◌≡◌, ◌<◌, ◌+◌, ◌^◌, List, [], ◌∷◌, ◌++◌, Option, Some}
use Rattle.std.specs.List.{All}
use Rattle.pcj_expr.specs.declared.expr.Expr.{Expr}
use Rattle.pcj_algebra.specs.declared.pattern.Pattern.{Pattern, Pattern-F, fold-Pattern}
use Rattle.pcj_algebra.specs.declared.pattern.Pattern.TheOpen as open_pattern
use Rattle.pcj_algebra.specs.declared.query.Query.{Query}
use Rattle.pcj_algebra.specs.declared.triple_pattern.TriplePattern.{TriplePattern}
use Rattle.pcj_solutions.specs.Solutions.{triple_patterns}
use Rattle.pcj_tree.specs.declared.tree.Tree.{Tree}
use Rattle.pcj_tree.specs.Tree.{IsTree, size_of}
use Rattle.pcj_tree.specs.Stored.{stored_tree}
use Rattle.pcj_tree.specs.Read.{IsSlot, IsExpr, IsStorable, ReadsTree}

-- what is stored of a tree is read as that tree
abbrev pub ReadsBack : Type 0
ReadsBack = (tree : Tree) (found : Option Tree) → IsStorable tree → ReadsTree (stored_tree tree) found → found ≡ Some tree

-- no two trees have one stored form
abbrev pub StoresOneTree : Type 0
StoresOneTree = (tree other : Tree) → IsStorable tree → IsStorable other → stored_tree tree ≡ stored_tree other → tree ≡ other

abbrev pub conditions_step : Pattern-F (List Expr) → List Expr
conditions_step (open_pattern.Triple of) = []
conditions_step (open_pattern.Join left right) = left ++ right
conditions_step (open_pattern.Filter condition inner) = inner ++ condition ∷ []
conditions_step (open_pattern.Union left right) = left ++ right

-- the conditions of a pattern's filters
abbrev pub conditions_of : Pattern → List Expr
conditions_of of = fold-Pattern (List Expr) conditions_step of

abbrev pub IsTriplePattern : TriplePattern → Type 0
IsTriplePattern of = IsSlot of.subject × IsSlot of.predicate × IsSlot of.object

-- a query of valid terms, whose conditions are no deeper than a text has bytes, and whose nodes can be numbered
pub record HasStorableTree (query : Query) : Type 0 where
  pub numbers : size_of query.pattern + 1 < 2 ^ 16
  pub triple_patterns : All IsTriplePattern (triple_patterns query.pattern)
  pub conditions : All (IsExpr 65536) (conditions_of query.pattern)

-- the tree of such a query can be stored
abbrev pub CanBeStored : Type 0
CanBeStored = (query : Query) (tree : Tree) → HasStorableTree query → IsTree query tree → IsStorable tree
