use Rattle.pcj_tree.proofs.BuildLemmas.{built}
use Rattle.pcj_tree.proofs.building.build.Goals as goal

pub returns : goal.returns
returns c = built c.args.query.now c.size_of-size.result c.new-nodes.result.items c.push_nodes.new.nodes.items c.push.new.self.items c.in_ok-top_node.field-0
    (record { nodes = c.from_vec.result }) c.new-nodes.ensures.items c.size_of-size.ensures (c.in_ok-push_nodes.ensures {u = tt}) (c.in_ok-top_node.ensures {u = tt})
    (c.in_ok-push.ensures {u = tt}).items c.from_vec.ensures
