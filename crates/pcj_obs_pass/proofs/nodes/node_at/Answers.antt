use Rattle.std.proofs.Common.{◌≤◌, ◌-◌, length, refl, arith}
use Rattle.std.proofs.lemmas.Option.{slice_get_read}
use Rattle.pcj_obs_pass.proofs.NumberLemmas.{at_most, counted_from_1, numbered_at}
use Rattle.pcj_obs_pass.proofs.nodes.node_at.Goals as goal

pub overflow_sub-from : goal.overflow_sub-from
overflow_sub-from c = let some = counted_from_1 c.args.nodes.now c.args.number c.requires in omega (arith, some, c.from.ensures)

pub unreachable-requires : goal.unreachable-requires
unreachable-requires c =
    let some = counted_from_1 c.args.nodes.now c.args.number c.requires in
    let fits = at_most c.args.nodes.now c.args.number c.requires in
    let past : length c.args.nodes.now ≤ c.from.result - 1 = (c.in-None.ensures {u = tt}).lookup.3 in
    omega (arith, some, fits, past, c.from.ensures)

pub returns : goal.returns
returns c =
    let found = (c.in-Some.ensures {u = tt}).lookup in
    numbered_at c.args.nodes.now c.args.number c.from.result c.in-Some.node.now (counted_from_1 c.args.nodes.now c.args.number c.requires) c.from.ensures
    (slice_get_read c.args.nodes.now (length c.args.nodes.now) (c.from.result - 1) c.in-Some.node.now refl found.3.0 found.1)
