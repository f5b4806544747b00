use Rattle.std.proofs.Common.{◌∙◌}
use Rattle.pcj_table.specs.Row.{is_seen_at}
use Rattle.pcj_table.specs.Table.{is_before}
use Rattle.pcj_sorted.proofs.Ranges.{rises_where, found_between}
use Rattle.pcj_sorted.proofs.walk.next_seen.Goals as goal

pub rows_below-requires : goal.rows_below-requires
rows_below-requires c = rw c.rows_above.ensures (rises_where (λ key. is_before c.args.after.now key) c.args.rows.now c.requires)

pub returns : goal.returns
returns c =
    let found = found_between (λ key. is_before c.args.after.now key) (λ key. is_before key c.args.end.now) (is_seen_at c.args.at) c.args.rows.now c.rows_above.result.now c.rows_below.result.now c.requires c.rows_above.ensures c.rows_below.ensures in
    c.first_seen.ensures ∙ found
