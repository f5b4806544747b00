use Rattle.pcj_obs_pattern.proofs.RowLemmas.{parts_split, no_parts}
use Rattle.pcj_obs_pattern.proofs.row.read_value.Goals as goal

pub read_parts-requires : goal.read_parts-requires
read_parts-requires c =
    (c.requires.0, c.requires.1, parts_split c.args.value.now c.requires.0 c.requires.1 c.in_ok-parts.field-0 c.in-Some.parts c.as_slice.result.now c.requires.2 (c.in_ok-parts.ensures {u = tt}) c.in-Some.is c.as_slice.ensures)

pub unreachable-requires : goal.unreachable-requires
unreachable-requires c = no_parts c.args.value.now c.requires.0 c.requires.1 c.in_ok-parts.field-0 c.requires.2 (c.in_ok-parts.ensures {u = tt}) c.in-None.is

pub returns : goal.returns
returns c of order is =
    c.read_parts.ensures of order (parts_split c.args.value.now of order c.in_ok-parts.field-0 c.in-Some.parts c.as_slice.result.now is (c.in_ok-parts.ensures {u = tt}) c.in-Some.is c.as_slice.ensures)
