use Rattle.pcj_rebuild.proofs.PartLemmas.{filter_part, join_part, union_part}
use Rattle.pcj_rebuild.proofs.parts.+part_of.Goals as goal

pub returns-in_ok-right-in-Join : goal.returns-in_ok-right-in-Join
returns-in_ok-right-in-Join t c =
    join_part c.args.nodes.now c.args.number c.in-Join.left c.in-Join.right c.requires.part c.in_ok-left-in-Join.left c.in_ok-right-in-Join.right c.kind_at.result.now c.part_of.result c.part_of-in-Join.result
    c.requires.is c.kind_at.ensures c.in-Join.is (c.in_ok-left-in-Join.ensures {u = tt}) c.part_of.ensures (c.in_ok-right-in-Join.ensures {u = tt}) c.part_of-in-Join.ensures

pub returns-in_ok-try_clone-in-Filter : goal.returns-in_ok-try_clone-in-Filter
returns-in_ok-try_clone-in-Filter t c =
    filter_part c.args.nodes.now c.args.number c.in-Filter.child c.in-Filter.expr c.in_ok-try_clone-in-Filter.field-0 c.requires.part c.in_ok-inner-in-Filter.inner c.kind_at.result.now c.part_of-in-Filter.result
    c.requires.is c.kind_at.ensures c.in-Filter.is (c.in_ok-inner-in-Filter.ensures {u = tt}) c.part_of-in-Filter.ensures (c.in_ok-try_clone-in-Filter.ensures {u = tt})

pub returns-in_ok-right-in-Union : goal.returns-in_ok-right-in-Union
returns-in_ok-right-in-Union t c =
    union_part c.args.nodes.now c.args.number c.in-Union.left c.in-Union.right c.requires.part c.in_ok-left-in-Union.left c.in_ok-right-in-Union.right c.kind_at.result.now c.part_of-in-Union.result c.part_of-in-Union-2.result
    c.requires.is c.kind_at.ensures c.in-Union.is (c.in_ok-left-in-Union.ensures {u = tt}) c.part_of-in-Union.ensures (c.in_ok-right-in-Union.ensures {u = tt}) c.part_of-in-Union-2.ensures
