use Rattle.std.proofs.Common.{◌≡◌, ◌∙◌, Result, Ok, ap}
use Rattle.pcj_term.specs.declared.memory.Memory.{Memory}
use Rattle.pcj_table.specs.declared.row.Row.{Row}
use Rattle.pcj_table.specs.Row.{conds_hold}
use Rattle.pcj_sorted.specs.declared.row_change.RowChange.{RowChange}
use Rattle.pcj_sorted.specs.declared.row_change.RowChange.TheVariants.{DropsLock, Becomes}
use Rattle.pcj_sorted.proofs.mutation.create.Goals as goal

apart : {P : Type 0} (result : Result RowChange Memory) (change : RowChange) (row : Row) → result ≡ Ok change → change ≡ Becomes row → result ≡ Ok DropsLock → P
apart result change row e f g = absurd cc

pub returns-in_err-add_row-in-Becomes-clause-drops : goal.returns-in_err-add_row-in-Becomes-clause-drops
returns-in_err-add_row-in-Becomes-clause-drops c updates holds =
    let drops = c.of.ensures.drops updates (ap (λ r. conds_hold r c.args.conds.now) c.new.ensures ∙ holds) in
    apart c.of.result c.in_ok-row.field-0 c.in-Becomes.row c.in_ok-row.was c.in-Becomes.is drops
