use Rattle.std.proofs.Common.{◌<◌, ◌+◌, ◌∙◌, set, length, ap, sym, subst, arith}
use Rattle.pcj_table.specs.Row.{conds_hold}
use Rattle.std.proofs.lemmas.List.{length-set}
use Rattle.pcj_sorted.specs.Edits.{row_in, Changes}
use Rattle.pcj_pages.specs.Pages.{rows_of, AreSized}
use Rattle.pcj_pages.specs.Search.{page_rows, rows_before}
use Rattle.pcj_pages.proofs.Places.{page_rows_is, row_in_page, changes_all, changes_shrink, emptied, no_more, sized_at, sized_without}
use Rattle.pcj_pages.proofs.mutation.change_row.Goals as goal

pub change-requires : goal.change-requires
change-requires c =
    let page = page_rows_is c.args.pages.now.items c.args.at c.index_mut.result.now c.requires.page ∙ sym c.index_mut.ensures.value in
    subst (λ rows. c.args.place < length rows) page c.requires.place

pub returns-in_err-done-clause-drops : goal.returns-in_err-done-clause-drops
returns-in_err-done-clause-drops c updates holds =
    let page = page_rows_is c.args.pages.now.items c.args.at c.index_mut.result.now c.requires.page ∙ sym c.index_mut.ensures.value in
    let row = row_in_page c.args.pages.now.items c.args.at c.args.place c.requires.place ∙ ap (λ rows. row_in rows c.args.place) page in
    let fine = c.change.ensures.drops updates (ap (λ r. conds_hold r c.args.conds.now) (sym row) ∙ holds) in
    let failed = c.in_err-done.was in
    let wrong = rw failed at fine in
    absurd cc

pub returns-clause-done : goal.returns-clause-done
returns-clause-done c =
    let page = page_rows_is c.args.pages.now.items c.args.at c.index_mut.result.now c.requires.page ∙ sym c.index_mut.ensures.value in
    let made = subst (λ rows. Changes rows c.args.place c.args.conds.now c.args.updates.now c.in_ok-done.done c.change.new.self) (sym page) c.in_ok-done.ensures.done in
    let all = changes_all c.args.pages.now.items c.args.at c.args.place c.args.conds.now c.args.updates.now c.change.new.self c.requires.page c.requires.place c.in_ok-done.done made in
    let left = ap rows_of c.drop_empty.ensures ∙ emptied (set c.args.pages.now.items c.args.at c.change.new.self) c.args.at in
    subst (Changes (rows_of c.args.pages.now.items) (rows_before c.args.pages.now.items c.args.at + c.args.place) c.args.conds.now c.args.updates.now c.in_ok-done.done) (sym left) all

pub returns-clause-sized : goal.returns-clause-sized
returns-clause-sized c =
    let page = page_rows_is c.args.pages.now.items c.args.at c.index_mut.result.now c.requires.page ∙ sym c.index_mut.ensures.value in
    let made = subst (λ rows. Changes rows c.args.place c.args.conds.now c.args.updates.now c.in_ok-done.done c.change.new.self) (sym page) c.in_ok-done.ensures.done in
    let less = changes_shrink (page_rows c.args.pages.now.items c.args.at) c.change.new.self c.args.place c.args.conds.now c.args.updates.now c.requires.place c.in_ok-done.done made in
    let size = sized_at c.args.pages.now.items c.args.at c.requires.sized c.requires.page in
    subst AreSized (sym c.drop_empty.ensures) (sized_without c.args.pages.now.items c.args.at c.change.new.self c.requires.sized (omega (arith, less, size.1)))

pub returns-clause-few : goal.returns-clause-few
returns-clause-few c =
    let less = no_more (set c.args.pages.now.items c.args.at c.change.new.self) c.args.at in
    let many = length-set c.args.pages.now.items c.args.at c.change.new.self in
    let left = ap length c.drop_empty.ensures in
    omega (arith, less, many, left)
