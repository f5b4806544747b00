use Rattle.std.proofs.Common.{◌≡◌, ◌∙◌, sym, ap, refl}
use Rattle.pcj_table.specs.declared.found.Found.{Found}
use Rattle.pcj_table.specs.Row.{updated_all, conds_hold}
use Rattle.pcj_sorted.specs.Edits.{row_in, with_row_at}
use Rattle.pcj_sorted.proofs.Edits.{row_in_is}
use Rattle.pcj_sorted.proofs.mutation.change.Goals as goal

pub returns-in-Rejected-clause-done : goal.returns-in-Rejected-clause-done
returns-in-Rejected-clause-done c =
    let row : row_in c.args.rows.now.items c.args.at ≡ c.index.result.now.row =
    row_in_is c.args.rows.now.items c.args.at c.index.result.now c.requires ∙ ap (λ (f : Found). f.row) (sym c.index.ensures) in
    let change = rw c.in-Rejected.is at c.in_ok-row.ensures.change in
    (ap (λ r. conds_hold r c.args.conds.now) row ∙ change.0, change.1 ∙ sym row, refl)

pub returns-in-DropsLock-clause-done : goal.returns-in-DropsLock-clause-done
returns-in-DropsLock-clause-done c =
    let row : row_in c.args.rows.now.items c.args.at ≡ c.index.result.now.row =
    row_in_is c.args.rows.now.items c.args.at c.index.result.now c.requires ∙ ap (λ (f : Found). f.row) (sym c.index.ensures) in
    let change = rw c.in-DropsLock.is at c.in_ok-row.ensures.change in
    (ap (λ r. conds_hold r c.args.conds.now) row ∙ change.0, c.drop_lock.ensures ∙ ap (λ us. with_row_at c.args.rows.now.items c.args.at (updated_all (row_in c.args.rows.now.items c.args.at) us)) (sym change.1))

pub returns-in-Becomes-clause-done : goal.returns-in-Becomes-clause-done
returns-in-Becomes-clause-done c =
    let row : row_in c.args.rows.now.items c.args.at ≡ c.index.result.now.row =
    row_in_is c.args.rows.now.items c.args.at c.index.result.now c.requires ∙ ap (λ (f : Found). f.row) (sym c.index.ensures) in
    let change = rw c.in-Becomes.is at c.in_ok-row.ensures.change in
    (ap (λ r. conds_hold r c.args.conds.now) row ∙ change.0, c.put_row.ensures ∙ ap (with_row_at c.args.rows.now.items c.args.at) (change.1 ∙ ap (λ r. updated_all r c.args.updates.now) (sym row)))

pub returns-in_err-row-clause-drops : goal.returns-in_err-row-clause-drops
returns-in_err-row-clause-drops c updates holds =
    let row : row_in c.args.rows.now.items c.args.at ≡ c.index.result.now.row =
    row_in_is c.args.rows.now.items c.args.at c.index.result.now c.requires ∙ ap (λ (f : Found). f.row) (sym c.index.ensures) in
    let fine = c.of.ensures.drops updates (ap (λ r. conds_hold r c.args.conds.now) (sym row) ∙ holds) in
    let failed = c.in_err-row.was in
    let wrong = rw failed at fine in
    absurd cc
