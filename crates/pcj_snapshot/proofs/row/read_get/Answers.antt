use Rattle.std.proofs.Common.{◌≡◌, Some, ap, sym, ◌∙◌}
use Rattle.pcj_table.specs.declared.row.Row.{Row}
use Rattle.pcj_table.specs.Table.{Key, row_at, shown}
use Rattle.pcj_snapshot.specs.Reads.{row_event}
use Rattle.pcj_snapshot.proofs.Shown.{shown_row}
use Rattle.pcj_snapshot.proofs.row.read_get.Goals as goal

pub returns-in_ok-read_row-in-Some-clause-told : goal.returns-in_ok-read_row-in-Some-clause-told
returns-in_ok-read_row-in-Some-clause-told g c =
    let table = g.T.RowTable.rows c.args.table.now in
    let there : shown (row_at table c.args.key.now) ≡ Some c.in-Some.row = ap (λ (k : Key). shown (row_at table k)) (sym c.as_slice.ensures) ∙ sym (c.in_ok-get.ensures {u = tt}).found ∙ c.in-Some.is in
    c.in_ok-read_row-in-Some.ensures {u = tt}
    ∙ ap (λ (k : Key). row_event c.args.at k c.in-Some.row) (c.in_ok-try_clone-in-Some.ensures {u = tt})
    ∙ ap (λ (r : Row). row_event c.args.at c.args.key.now r) (sym (shown_row (row_at table c.args.key.now) c.in-Some.row there))
