use Rattle.std.proofs.Common.{List, [], ◌∷◌, ℕ, Some, subst}
use Rattle.pcj_table.specs.declared.mutated.Mutated.{Mutated}
use Rattle.pcj_table.specs.declared.update.Update.TheVariants.{SetPlain}
use Rattle.pcj_table.specs.Table.{Mutates}
use Rattle.pcj_oracle.specs.Clock.{clock_key}
use Rattle.pcj_step_cases.proofs.ClockSet.{clock_set}
use Rattle.pcj_step_cases.proofs.clock.set_number.Goals as goal

pub returns-clause-ok : goal.returns-clause-ok
returns-clause-ok g c =
    let old = g.T.RowTable.rows c.args.table.now in
    let new = g.T.RowTable.rows c.mutate.new.self in
    let empty = subst (λ (value : List ℕ). Mutates old clock_key [] (SetPlain (record { seq = c.args.number; value = Some value }) ∷ []) c.in_ok-mutate.field-0 new) c.new.ensures (c.in_ok-mutate.ensures {u = tt}).done in
    clock_set old new c.args.number (subst (λ (m : Mutated). Mutates old clock_key [] (SetPlain (record { seq = c.args.number; value = Some [] }) ∷ []) m new) c.in-Applied.is empty)
