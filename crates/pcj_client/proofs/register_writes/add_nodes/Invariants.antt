use Rattle.std.proofs.Common.{◌≡◌, suc, ◌++◌, drop}
use Rattle.pcj_rows.specs.Plans.{nodes_writes}
use Rattle.pcj_client.proofs.register_writes.add_nodes.Given as goal

-- with the nodes that are left, all is there
abbrev pub invariant-loop-node : goal.invariant-loop-node
invariant-loop-node l = (l.number ≡ l.node-index) × (l.writes.items ++ nodes_writes l.registration (suc l.node-index) (drop l.node-index l.nodes) ≡ l.fn.writes.items ++ nodes_writes l.registration 1 l.nodes)
