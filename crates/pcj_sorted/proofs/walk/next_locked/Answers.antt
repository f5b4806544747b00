use Rattle.std.proofs.Common.{◌∙◌, is_some}
use Rattle.pcj_table.specs.Table.{is_before}
use Rattle.pcj_sorted.proofs.Ranges.{found_where}
use Rattle.pcj_sorted.proofs.walk.next_locked.Goals as goal

pub returns : goal.returns
returns c =
    let found = found_where (λ key. is_before c.args.after.now key) (λ row. is_some row.lock) c.args.rows.now c.rows_above.result.now c.requires c.rows_above.ensures in
    c.first_locked.ensures ∙ found
