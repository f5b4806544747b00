use Rattle.std.proofs.Common.{◌≡◌, ◌∙◌, ◌+◌, true, drop, ap, sym, subst}
use Rattle.pcj_table.specs.Table.{is_next_lock}
use Rattle.pcj_sorted.specs.Entries.{keys_rise}
use Rattle.pcj_pages.specs.Pages.{rows_of}
use Rattle.pcj_pages.specs.Walk.{first_in}
use Rattle.pcj_pages.proofs.Orders.{rise_drop, rise_front}
use Rattle.pcj_pages.proofs.Walks.{next_page, first_or, stops, goes_on}
use Rattle.pcj_pages.proofs.read.locked_in.Goals as goal

pub locked_of-found-requires : goal.locked_of-found-requires
locked_of-found-requires c =
    let next = next_page c.args.pages.now c.loop-page.page-index c.page-item.result c.loop-page-test.true c.page-item.is in
    let rise = subst (λ rows. keys_rise rows ≡ true) next (rise_drop c.args.pages.now c.loop-page.page-index c.requires) in
    rise_front c.page-item.result (rows_of (drop (c.loop-page.page-index + 1) c.args.pages.now)) rise

pub returns-then-is_some : goal.returns-then-is_some
returns-then-is_some c =
    let next = next_page c.args.pages.now c.loop-page.page-index c.page-item.result c.loop-page-test.true c.page-item.is in
    let rest = rows_of (drop (c.loop-page.page-index + 1) c.args.pages.now) in
    let some = sym c.is_some.ensures ∙ c.if-is_some.true in
    c.locked_of-found.ensures ∙ stops (λ row. row.now) c.locked_of-found.result (first_in (is_next_lock c.args.after.now) c.page-item.result) (first_in (is_next_lock c.args.after.now) rest) c.locked_of-found.ensures some
    ∙ sym (first_or (is_next_lock c.args.after.now) c.page-item.result rest) ∙ ap (first_in (is_next_lock c.args.after.now)) (sym next) ∙ c.loop-page.invariant

pub loop-page-preserved : goal.loop-page-preserved
loop-page-preserved c =
    let next = next_page c.args.pages.now c.loop-page.page-index c.page-item.result c.loop-page-test.true c.page-item.is in
    let rest = rows_of (drop (c.loop-page.page-index + 1) c.args.pages.now) in
    let none = sym c.is_some.ensures ∙ c.if-is_some.false in
    sym (goes_on (λ row. row.now) c.locked_of-found.result (first_in (is_next_lock c.args.after.now) c.page-item.result) (first_in (is_next_lock c.args.after.now) rest) c.locked_of-found.ensures none)
    ∙ sym (first_or (is_next_lock c.args.after.now) c.page-item.result rest) ∙ ap (first_in (is_next_lock c.args.after.now)) (sym next) ∙ c.loop-page.invariant
