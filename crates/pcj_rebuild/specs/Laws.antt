-- Queries with one tree.
use Rattle.std.specs.Prelude.{◌≡◌, ℕ, List}
use Rattle.pcj_term.specs.declared.triple.Triple.{Triple}
use Rattle.pcj_algebra.specs.declared.query.Query.{Query}
use Rattle.pcj_answers.specs.Answers.{AreLines}
use Rattle.pcj_tree.specs.declared.tree.Tree.{Tree}
use Rattle.pcj_tree.specs.Tree.{IsTree}
use Rattle.pcj_rebuild.specs.Query.{unnamed}

-- the tree of a query is that of the query without the name behind AS
abbrev pub HaveOneTree : Type 0
HaveOneTree = (query : Query) (tree : Tree) → IsTree query tree → IsTree (unnamed query) tree

-- queries with one tree differ in that name alone
abbrev pub HaveOneQuery : Type 0
HaveOneQuery = (query other : Query) (tree : Tree) → IsTree query tree → IsTree other tree → unnamed query ≡ unnamed other

-- so the lines of one are those of the other
abbrev pub HaveSameLines : Type 0
HaveSameLines = (query other : Query) (tree : Tree) (triples : List Triple) (lines : List (List ℕ)) → IsTree query tree → IsTree other tree → AreLines query triples lines → AreLines other triples lines
