-- A table whose clock's row was set to a number.
use Rattle.std.proofs.Common.{◌≡◌, ℕ, [], ◌∷◌, Some, ap, ◌∙◌}
use Rattle.pcj_table.specs.declared.mutated.Mutated.TheVariants.{Applied}
use Rattle.pcj_table.specs.declared.update.Update.TheVariants.{SetPlain}
use Rattle.pcj_table.specs.Table.{Table, Mutates}
use Rattle.pcj_oracle.specs.Clock.{clock_key, stored_number}
use Rattle.pcj_oracle.specs.Clock.{clock_number}
use Rattle.pcj_table.specs.declared.row.Row.{Row}
use Rattle.pcj_table.specs.Row.{updated}
use Rattle.pcj_table.specs.Table.{row_at}
use Rattle.pcj_mvcc.proofs.Rows.{put_same, with_row_puts}

pub clock_set : (old new : Table) (number : ℕ) → Mutates old clock_key [] (SetPlain (record { seq = number; value = Some [] }) ∷ []) Applied new → stored_number new ≡ number
clock_set old new number mutates = ap (λ (r : Row). clock_number r.plain) here
  where
    row : Row
    row = updated (row_at old clock_key) (SetPlain (record { seq = number; value = Some [] }))

    here : row_at new clock_key ≡ row
    here = ap (λ (table : Table). row_at table clock_key) mutates.1 ∙ with_row_puts old clock_key row clock_key ∙ put_same (row_at old) clock_key row
