use Rattle.std.proofs.Common.{◌≡◌, ◌++◌, drop, map}
use Rattle.pcj_tree.specs.Stored.{stored_node}
use Rattle.pcj_tree.proofs.storing.store_tree.Given as goal

abbrev pub invariant-loop-node : goal.invariant-loop-node
invariant-loop-node l = l.nodes.items ++ map stored_node (drop l.node-index l.tree.nodes) ≡ map stored_node l.tree.nodes
