use Rattle.pcj_rebuild.proofs.QueryLemmas.{has_part, rebuilt}
use Rattle.pcj_rebuild.proofs.query.query_over.Goals as goal

pub part_of-requires : goal.part_of-requires
part_of-requires c = has_part c.args.parts.now c.args.top.now c.child_of.result c.requires c.child_of.ensures

pub returns : goal.returns
returns c = λ query over. rebuilt c.args.parts.now c.args.top.now c.child_of.result c.in_ok-shape.shape c.in_ok-pattern.pattern query c.child_of.ensures (c.in_ok-shape.ensures {u = tt}) (c.in_ok-pattern.ensures {u = tt}) over
