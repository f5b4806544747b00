use Rattle.std.proofs.Common.{ap, ◌+◌}
use Rattle.std.specs.Option.{option_copied}
use Rattle.std.proofs.lemmas.Result.{on_ok_weaker}
use Rattle.pcj_tree.proofs.BuildLemmas.{adds_triple, adds_join, adds_filter, adds_union}
use Rattle.pcj_tree.proofs.building.+push_nodes.Goals as goal

pub returns-in_ok-try_clone-in-Triple : goal.returns-in_ok-try_clone-in-Triple
returns-in_ok-try_clone-in-Triple t c =
    on_ok_weaker c.push_node.result (adds_triple c.in_ok-try_clone-in-Triple.field-0 c.args.pattern.now c.args.before c.args.parent (option_copied c.args.sibling) c.args.nodes.now.items c.push_node.new.nodes.items
    (rw ((c.in_ok-try_clone-in-Triple).ensures {u = tt}) c.in-Triple.is)) c.push_node.ensures

pub returns-in_ok-push_nodes-in-Join-2 : goal.returns-in_ok-push_nodes-in-Join-2
returns-in_ok-push_nodes-in-Join-2 t c =
    on_ok_weaker c.push_node-in-Join.result (adds_join c.in-Join.left c.in-Join.right c.get-left.result.now c.get-right.result.now c.args.pattern.now c.args.before c.args.parent
    (c.args.before + c.size_of.result) (c.args.before + c.size_of.result + c.size_of-in-Join.result) (option_copied c.args.sibling)
    c.args.nodes.now.items c.push_nodes.new.nodes.items c.push_nodes-in-Join.new.nodes.items c.push_node-in-Join.new.nodes.items
    c.in-Join.is c.get-left.ensures c.get-right.ensures (ap (λ n. c.args.before + n) c.size_of.ensures) (ap (λ n. c.args.before + c.size_of.result + n) c.size_of-in-Join.ensures)
    (c.in_ok-push_nodes-in-Join.ensures {u = tt}) (c.in_ok-push_nodes-in-Join-2.ensures {u = tt})) c.push_node-in-Join.ensures

pub returns-in_ok-try_clone-in-Filter : goal.returns-in_ok-try_clone-in-Filter
returns-in_ok-try_clone-in-Filter t c =
    on_ok_weaker c.push_node-in-Filter.result (adds_filter c.in-Filter.condition c.in_ok-try_clone-in-Filter.field-0 c.in-Filter.inner c.get-inner.result.now c.args.pattern.now c.args.before c.args.parent
    (c.args.before + c.size_of-in-Filter.result) (option_copied c.args.sibling)
    c.args.nodes.now.items c.push_nodes-in-Filter.new.nodes.items c.push_node-in-Filter.new.nodes.items
    c.in-Filter.is c.get-inner.ensures (c.in_ok-try_clone-in-Filter.ensures {u = tt}) (ap (λ n. c.args.before + n) c.size_of-in-Filter.ensures)
    (c.in_ok-push_nodes-in-Filter.ensures {u = tt})) c.push_node-in-Filter.ensures

pub returns-in_ok-push_nodes-in-Union-2 : goal.returns-in_ok-push_nodes-in-Union-2
returns-in_ok-push_nodes-in-Union-2 t c =
    on_ok_weaker c.push_node-in-Union.result (adds_union c.in-Union.left c.in-Union.right c.get-left-in-Union.result.now c.get-right-in-Union.result.now c.args.pattern.now c.args.before c.args.parent
    (c.args.before + c.size_of-in-Union.result) (c.args.before + c.size_of-in-Union.result + c.size_of-in-Union-2.result) (option_copied c.args.sibling)
    c.args.nodes.now.items c.push_nodes-in-Union.new.nodes.items c.push_nodes-in-Union-2.new.nodes.items c.push_node-in-Union.new.nodes.items
    c.in-Union.is c.get-left-in-Union.ensures c.get-right-in-Union.ensures (ap (λ n. c.args.before + n) c.size_of-in-Union.ensures) (ap (λ n. c.args.before + c.size_of-in-Union.result + n) c.size_of-in-Union-2.ensures)
    (c.in_ok-push_nodes-in-Union.ensures {u = tt}) (c.in_ok-push_nodes-in-Union-2.ensures {u = tt})) c.push_node-in-Union.ensures
