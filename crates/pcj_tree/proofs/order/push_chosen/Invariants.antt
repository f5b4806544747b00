use Rattle.std.proofs.Common.{◌≡◌, ◌++◌, drop}
use Rattle.pcj_tree.specs.Order.{chosen}
use Rattle.pcj_tree.proofs.order.push_chosen.Given as goal

abbrev pub invariant-loop-name : goal.invariant-loop-name
invariant-loop-name l = l.order ++ chosen l.is_shared l.sibling (drop l.name-index l.names) ≡ l.fn.order ++ chosen l.is_shared l.sibling l.names
