use Rattle.std.proofs.Common.{◌≡◌, ◌∙◌, sym, ap}
use Rattle.pcj_table.specs.declared.found.Found.{Found}
use Rattle.pcj_table.specs.declared.row.Row.{Row}
use Rattle.pcj_table.specs.declared.update.Update.TheVariants.{DropLock}
use Rattle.pcj_table.specs.Row.{has_nothing, updated}
use Rattle.pcj_sorted.specs.Edits.{row_in, with_row_at}
use Rattle.pcj_sorted.proofs.Edits.{row_in_is, remove_is, set_is}
use Rattle.pcj_sorted.proofs.mutation.drop_lock.Goals as goal

pub returns-then-has_nothing_but_a_lock : goal.returns-then-has_nothing_but_a_lock
returns-then-has_nothing_but_a_lock c =
    let row : row_in c.args.rows.now.items c.args.at ≡ c.index.result.now.row =
    row_in_is c.args.rows.now.items c.args.at c.index.result.now c.requires ∙ ap (λ (f : Found). f.row) (sym c.index.ensures) in
    let none = ap (λ (r : Row). has_nothing (updated r DropLock)) row ∙ sym c.has_nothing_but_a_lock.ensures ∙ c.if-has_nothing_but_a_lock.true in
    c.remove.ensures.items ∙ remove_is c.args.rows.now.items c.args.at _ c.requires none

pub returns-else-has_nothing_but_a_lock : goal.returns-else-has_nothing_but_a_lock
returns-else-has_nothing_but_a_lock c =
    let row : row_in c.args.rows.now.items c.args.at ≡ c.index.result.now.row =
    row_in_is c.args.rows.now.items c.args.at c.index.result.now c.requires ∙ ap (λ (f : Found). f.row) (sym c.index.ensures) in
    let lent : row_in c.args.rows.now.items c.args.at ≡ c.index_mut.result.now.row =
    row_in_is c.args.rows.now.items c.args.at c.index_mut.result.now c.requires ∙ ap (λ (f : Found). f.row) (sym c.index_mut.ensures.value) in
    let some = ap (λ (r : Row). has_nothing (updated r DropLock)) (sym lent ∙ row) ∙ sym c.has_nothing_but_a_lock.ensures ∙ c.if-has_nothing_but_a_lock.false in
    let key = ap (λ (f : Found). f.key) c.index_mut.ensures.value in
    set_is c.args.rows.now.items c.args.at c.index_mut.result.now.key (updated c.index_mut.result.now.row DropLock) c.index_mut.result.now c.requires some key
    ∙ ap (λ r. with_row_at c.args.rows.now.items c.args.at (updated r DropLock)) (sym lent)
