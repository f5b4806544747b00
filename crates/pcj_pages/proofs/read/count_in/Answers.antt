use Rattle.std.proofs.Common.{◌≡◌, ◌≤◌, ◌∙◌, ◌+◌, ◌++◌, true, drop, length, ap, sym, subst, arith}
use Rattle.pcj_table.specs.Table.{is_counted_between}
use Rattle.pcj_sorted.specs.Entries.{keys_rise}
use Rattle.pcj_pages.specs.Pages.{rows_of}
use Rattle.pcj_pages.specs.Walk.{count_in}
use Rattle.pcj_pages.proofs.Orders.{rise_drop, rise_front}
use Rattle.pcj_pages.proofs.Places.{page_rows_is, sized_at}
use Rattle.pcj_pages.proofs.Walks.{next_page, count_parts, count_few, rows_few, none_counts, none_from, count_ends}
use Rattle.pcj_pages.proofs.read.count_in.Goals as goal

pub counted-count-requires : goal.counted-count-requires
counted-count-requires c =
    let next = next_page c.args.pages.now c.loop-page.page-index c.page-item.result c.loop-page-test.true c.page-item.is in
    let rise = subst (λ rows. keys_rise rows ≡ true) next (rise_drop c.args.pages.now c.loop-page.page-index c.requires.rise) in
    rise_front c.page-item.result (rows_of (drop (c.loop-page.page-index + 1) c.args.pages.now)) rise

pub overflow_add-count : goal.overflow_add-count
overflow_add-count c =
    let next = next_page c.args.pages.now c.loop-page.page-index c.page-item.result c.loop-page-test.true c.page-item.is in
    let rest = rows_of (drop (c.loop-page.page-index + 1) c.args.pages.now) in
    let all = ap (count_in (is_counted_between c.args.from.now c.args.end.now)) next in
    let parts = count_parts (is_counted_between c.args.from.now c.args.end.now) c.page-item.result rest in
    let few = count_few (is_counted_between c.args.from.now c.args.end.now) (rows_of c.args.pages.now) in
    let rows = rows_few c.args.pages.now c.requires.sized in
    omega (arith, all, parts, few, rows, c.loop-page.invariant, c.counted-count.ensures, c.requires.few)

pub loop-page-preserved : goal.loop-page-preserved
loop-page-preserved c =
    let next = next_page c.args.pages.now c.loop-page.page-index c.page-item.result c.loop-page-test.true c.page-item.is in
    let rest = rows_of (drop (c.loop-page.page-index + 1) c.args.pages.now) in
    let all = ap (count_in (is_counted_between c.args.from.now c.args.end.now)) next in
    let parts = count_parts (is_counted_between c.args.from.now c.args.end.now) c.page-item.result rest in
    omega (arith, all, parts, c.loop-page.invariant, c.counted-count.ensures)

pub returns-then-not-starts_before : goal.returns-then-not-starts_before
returns-then-not-starts_before c =
    let next = next_page c.args.pages.now c.loop-page.page-index c.page-item.result c.loop-page-test.true c.page-item.is in
    let rise = subst (λ rows. keys_rise rows ≡ true) next (rise_drop c.args.pages.now c.loop-page.page-index c.requires.rise) in
    let page = page_rows_is c.args.pages.now c.loop-page.page-index c.page-item.result c.loop-page-test.true ∙ sym c.page-item.is in
    let some = subst (λ rows. 1 ≤ length rows) page (sized_at c.args.pages.now c.loop-page.page-index c.requires.sized c.loop-page-test.true).0 in
    let rest = rows_of (drop (c.loop-page.page-index + 1) c.args.pages.now) in
    let out = sym c.starts_before.ensures ∙ c.if-not-starts_before.true in
    let none = none_counts (is_counted_between c.args.from.now c.args.end.now) (c.page-item.result ++ rest) (none_from (is_counted_between c.args.from.now c.args.end.now) c.args.end.now c.page-item.result rest (count_ends c.args.from.now c.args.end.now) rise some out) in
    let all = ap (count_in (is_counted_between c.args.from.now c.args.end.now)) next in
    omega (arith, none, all, c.loop-page.invariant)
