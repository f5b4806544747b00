use Rattle.std.proofs.Common.{◌≡◌, ◌∙◌, true, ap, sym, subst}
use Rattle.pcj_table.specs.Table.{is_counted_between}
use Rattle.pcj_sorted.specs.Entries.{keys_rise}
use Rattle.pcj_pages.specs.Pages.{rows_of, AreSized}
use Rattle.pcj_pages.specs.Walk.{count_in}
use Rattle.pcj_pages.proofs.Orders.{rise_drop}
use Rattle.pcj_pages.proofs.Places.{sized_drop}
use Rattle.pcj_pages.proofs.Walks.{count_from, rows_that_are, count_skips}
use Rattle.pcj_pages.proofs.read.count.Goals as goal

pub count_in-requires-clause-rise : goal.count_in-requires-clause-rise
count_in-requires-clause-rise c = subst (λ pages. keys_rise (rows_of pages) ≡ true) (sym c.split_at.ensures.back) (rise_drop c.args.pages.now c.page_of-first.result c.requires.rise)

pub count_in-requires-clause-sized : goal.count_in-requires-clause-sized
count_in-requires-clause-sized c = subst AreSized (sym c.split_at.ensures.back) (sized_drop c.args.pages.now c.page_of-first.result c.requires.sized)

pub returns : goal.returns
returns c =
    let found = c.count_in.ensures ∙ ap (λ pages. count_in (is_counted_between c.args.from.now c.args.end.now) (rows_of pages)) c.split_at.ensures.back
    ∙ count_from (is_counted_between c.args.from.now c.args.end.now) c.args.from.now c.args.pages.now c.page_of-first.result (count_skips c.args.from.now c.args.end.now) c.page_of-first.ensures.page
    ∙ sym (rows_that_are (is_counted_between c.args.from.now c.args.end.now) (rows_of c.args.pages.now) c.requires.rise) in
    found
