use Rattle.std.proofs.Common.{◌≡◌, ◌∙◌, sym, ap, true, false}
use Rattle.pcj_table.specs.declared.found.Found.{Found}
use Rattle.pcj_table.specs.Row.{has_nothing}
use Rattle.pcj_sorted.proofs.Edits.{remove_is, set_is}
use Rattle.pcj_sorted.proofs.mutation.put_row.Goals as goal

pub returns-then-has_nothing : goal.returns-then-has_nothing
returns-then-has_nothing c =
    let none : has_nothing c.args.row ≡ true = sym c.has_nothing.ensures ∙ c.if-has_nothing.true in
    c.remove.ensures.items ∙ remove_is c.args.rows.now.items c.args.at c.args.row c.requires none

pub returns-else-has_nothing : goal.returns-else-has_nothing
returns-else-has_nothing c =
    let some : has_nothing c.args.row ≡ false = sym c.has_nothing.ensures ∙ c.if-has_nothing.false in
    set_is c.args.rows.now.items c.args.at c.index_mut.result.now.key c.args.row c.index_mut.result.now c.requires some (ap (λ (f : Found). f.key) c.index_mut.ensures.value)
