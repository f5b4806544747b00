use Rattle.std.proofs.Common.{◌≡◌, ◌+◌, suc, drop, ap, ◌∙◌, arith}
use Rattle.pcj_sorted.proofs.Ranges.{above_row, above_gap}
use Rattle.pcj_sorted.proofs.range.rows_above.Goals as goal

pub returns-in-Ok : goal.returns-in-Ok
returns-in-Ok c =
    let next : c.in-Ok.at + 1 ≡ suc c.in-Ok.at = omega arith in
    c.split_at.ensures.back ∙ ap (λ k. drop k c.args.rows.now) next ∙ above_row c.args.key.now c.args.rows.now c.in-Ok.at c.requires c.in-Ok.ensures.place

pub returns-in-Err : goal.returns-in-Err
returns-in-Err c = c.split_at-in-Err.ensures.back ∙ above_gap c.args.key.now c.args.rows.now c.in-Err.at c.requires c.in-Err.ensures.place
