use Rattle.std.proofs.Common.{◌∙◌, not}
use Rattle.pcj_table.specs.Row.{is_counted}
use Rattle.pcj_table.specs.Table.{is_before}
use Rattle.pcj_sorted.proofs.Ranges.{rises_where, counted_between}
use Rattle.pcj_sorted.proofs.walk.count_between.Goals as goal

pub rows_below-requires : goal.rows_below-requires
rows_below-requires c = rw c.rows_from.ensures (rises_where (λ key. not (is_before key c.args.first.now)) c.args.rows.now c.requires)

pub returns : goal.returns
returns c =
    c.count.ensures ∙ counted_between (λ key. not (is_before key c.args.first.now)) (λ key. is_before key c.args.end.now) is_counted c.args.rows.now c.rows_from.result.now c.rows_below.result.now c.requires c.rows_from.ensures c.rows_below.ensures
