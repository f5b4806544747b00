use Rattle.std.proofs.Common.{◌∙◌, sym, ap}
use Rattle.pcj_table.specs.declared.row.Row.{Row}
use Rattle.pcj_table.specs.Table.{row_at}
use Rattle.pcj_oracle.specs.Clock.{clock_key, clock_number}
use Rattle.pcj_oracle.proofs.Numbers.{row_shown}
use Rattle.pcj_oracle.proofs.clock.stored_number.Goals as goal

pub returns-in-Some-clause-number : goal.returns-in-Some-clause-number
returns-in-Some-clause-number g c =
    let row = row_shown (row_at (g.T.RowTable.rows c.args.table.now) clock_key) c.in-Some.row (sym c.in_ok-get.ensures.found ∙ c.in-Some.is) in
    c.number_of.ensures ∙ ap (λ (r : Row). clock_number r.plain) row
