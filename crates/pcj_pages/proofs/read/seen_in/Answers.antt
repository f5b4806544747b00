use Rattle.std.proofs.Common.{◌≡◌, ◌≤◌, ◌∙◌, ◌+◌, true, ◌++◌, drop, length, ap, sym, subst}
use Rattle.pcj_table.specs.Table.{is_next_at}
use Rattle.pcj_sorted.specs.Entries.{keys_rise}
use Rattle.pcj_pages.specs.Pages.{rows_of}
use Rattle.pcj_pages.specs.Walk.{first_in}
use Rattle.pcj_pages.proofs.Orders.{rise_drop, rise_front}
use Rattle.pcj_pages.proofs.Places.{page_rows_is, sized_at}
use Rattle.pcj_pages.proofs.Walks.{next_page, first_or, stops, goes_on, none_first, none_from, next_ends}
use Rattle.pcj_pages.proofs.read.seen_in.Goals as goal

pub seen_of-found-requires : goal.seen_of-found-requires
seen_of-found-requires c =
    let next = next_page c.args.pages.now c.loop-page.page-index c.page-item.result c.loop-page-test.true c.page-item.is in
    let rise = subst (λ rows. keys_rise rows ≡ true) next (rise_drop c.args.pages.now c.loop-page.page-index c.requires.rise) in
    rise_front c.page-item.result (rows_of (drop (c.loop-page.page-index + 1) c.args.pages.now)) rise

pub returns-then-is_some : goal.returns-then-is_some
returns-then-is_some c =
    let next = next_page c.args.pages.now c.loop-page.page-index c.page-item.result c.loop-page-test.true c.page-item.is in
    let rest = rows_of (drop (c.loop-page.page-index + 1) c.args.pages.now) in
    let some = sym c.is_some.ensures ∙ c.if-is_some.true in
    c.seen_of-found.ensures ∙ stops (λ row. row.now) c.seen_of-found.result (first_in (is_next_at c.args.after.now c.args.end.now c.args.at) c.page-item.result) (first_in (is_next_at c.args.after.now c.args.end.now c.args.at) rest) c.seen_of-found.ensures some
    ∙ sym (first_or (is_next_at c.args.after.now c.args.end.now c.args.at) c.page-item.result rest) ∙ ap (first_in (is_next_at c.args.after.now c.args.end.now c.args.at)) (sym next) ∙ c.loop-page.invariant

pub loop-page-preserved : goal.loop-page-preserved
loop-page-preserved c =
    let next = next_page c.args.pages.now c.loop-page.page-index c.page-item.result c.loop-page-test.true c.page-item.is in
    let rest = rows_of (drop (c.loop-page.page-index + 1) c.args.pages.now) in
    let none = sym c.is_some.ensures ∙ c.if-is_some.false in
    sym (goes_on (λ row. row.now) c.seen_of-found.result (first_in (is_next_at c.args.after.now c.args.end.now c.args.at) c.page-item.result) (first_in (is_next_at c.args.after.now c.args.end.now c.args.at) rest) c.seen_of-found.ensures none)
    ∙ sym (first_or (is_next_at c.args.after.now c.args.end.now c.args.at) c.page-item.result rest) ∙ ap (first_in (is_next_at c.args.after.now c.args.end.now c.args.at)) (sym next) ∙ c.loop-page.invariant

pub returns-then-not-starts_before : goal.returns-then-not-starts_before
returns-then-not-starts_before c =
    let next = next_page c.args.pages.now c.loop-page.page-index c.page-item.result c.loop-page-test.true c.page-item.is in
    let rise = subst (λ rows. keys_rise rows ≡ true) next (rise_drop c.args.pages.now c.loop-page.page-index c.requires.rise) in
    let page = page_rows_is c.args.pages.now c.loop-page.page-index c.page-item.result c.loop-page-test.true ∙ sym c.page-item.is in
    let some = subst (λ rows. 1 ≤ length rows) page (sized_at c.args.pages.now c.loop-page.page-index c.requires.sized c.loop-page-test.true).0 in
    let rest = rows_of (drop (c.loop-page.page-index + 1) c.args.pages.now) in
    let out = sym c.starts_before.ensures ∙ c.if-not-starts_before.true in
    sym (none_first (is_next_at c.args.after.now c.args.end.now c.args.at) (c.page-item.result ++ rest)
    (none_from (is_next_at c.args.after.now c.args.end.now c.args.at) c.args.end.now c.page-item.result rest (next_ends c.args.after.now c.args.end.now c.args.at) rise some out))
    ∙ ap (first_in (is_next_at c.args.after.now c.args.end.now c.args.at)) (sym next) ∙ c.loop-page.invariant
