-- What holds of the query of each text.
use Rattle.std.specs.Prelude.{ℕ, ◌+◌, ◌≤◌, List}
use Rattle.pcj_algebra.specs.declared.query.Query.{Query}
use Rattle.pcj_sparql.specs.Query.{QueryText}
use Rattle.pcj_tree.specs.Tree.{size_of}
use Rattle.pcj_tree.specs.Laws.{HasStorableTree}

-- its tree can be stored: its terms are valid, its conditions no deeper than the text has bytes, and its nodes have numbers
abbrev pub QueriesCanBeStored : Type 0
QueriesCanBeStored = (text : List ℕ) (query : Query) → QueryText text query → HasStorableTree query

-- its tree has 128 nodes at most, its last one among them
abbrev pub QueriesHaveFewNodes : Type 0
QueriesHaveFewNodes = (text : List ℕ) (query : Query) → QueryText text query → size_of query.pattern + 1 ≤ 128
