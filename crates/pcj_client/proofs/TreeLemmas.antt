-- The tree of a registration's query.
use Rattle.std.proofs.Common.{◌<◌, ◌^◌, length, arith}
use Rattle.pcj_algebra.specs.declared.query.Query.{Query}
use Rattle.pcj_tree.specs.declared.tree.Tree.{Tree}
use Rattle.pcj_tree.specs.Laws.{HasStorableTree}
use Rattle.pcj_tree.specs.Tree.{IsTree}
use Rattle.pcj_rows.specs.Registrations.{IsQueryTree}
use Rattle.pcj_rows.proofs.RegisterLemmas.{tree_fits}

-- the tree of a query that can be stored
pub query_tree : (query : Query) (tree : Tree) → HasStorableTree query → IsTree query tree → IsQueryTree tree
query_tree query tree storable is = record { query = query; storable = storable; is = is }

pub nodes_fit : (query : Query) (tree : Tree) → HasStorableTree query → IsTree query tree → length tree.nodes < 2 ^ 16
nodes_fit query tree storable is = let fits = tree_fits tree (query_tree query tree storable is) in omega (arith, fits)
