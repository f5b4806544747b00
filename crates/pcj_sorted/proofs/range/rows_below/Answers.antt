use Rattle.std.proofs.Common.{◌∙◌}
use Rattle.pcj_sorted.proofs.Ranges.{below_row, below_gap}
use Rattle.pcj_sorted.proofs.range.rows_below.Goals as goal

pub returns-in-Ok : goal.returns-in-Ok
returns-in-Ok c =
    c.split_at.ensures.front ∙ below_row c.args.key.now c.args.rows.now c.in-Ok.at c.requires c.in-Ok.ensures.place

pub returns-in-Err : goal.returns-in-Err
returns-in-Err c = c.split_at-in-Err.ensures.front ∙ below_gap c.args.key.now c.args.rows.now c.in-Err.at c.requires c.in-Err.ensures.place
