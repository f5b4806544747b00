use Rattle.std.proofs.Common.{◌≡◌, ◌∙◌, true, ap, sym, subst}
use Rattle.std.proofs.lemmas.Result.{IfOk-weaker}
use Rattle.pcj_table.specs.Table.{is_next_at}
use Rattle.pcj_sorted.specs.Entries.{keys_rise}
use Rattle.pcj_pages.specs.Pages.{rows_of, AreSized}
use Rattle.pcj_pages.specs.Walk.{first_in}
use Rattle.pcj_pages.proofs.Orders.{rise_drop}
use Rattle.pcj_pages.proofs.Places.{sized_drop}
use Rattle.pcj_pages.proofs.Walks.{first_from, first_row_is, next_skips}
use Rattle.pcj_pages.proofs.read.first_seen.Goals as goal

pub seen_in-found-requires-clause-rise : goal.seen_in-found-requires-clause-rise
seen_in-found-requires-clause-rise c = subst (λ pages. keys_rise (rows_of pages) ≡ true) (sym c.split_at.ensures.back) (rise_drop c.args.pages.now c.page_of-from.result c.requires.rise)

pub seen_in-found-requires-clause-sized : goal.seen_in-found-requires-clause-sized
seen_in-found-requires-clause-sized c = subst AreSized (sym c.split_at.ensures.back) (sized_drop c.args.pages.now c.page_of-from.result c.requires.sized)

pub returns : goal.returns
returns c =
    let found = c.seen_in-found.ensures ∙ ap (λ pages. first_in (is_next_at c.args.after.now c.args.end.now c.args.at) (rows_of pages)) c.split_at.ensures.back
    ∙ first_from (is_next_at c.args.after.now c.args.end.now c.args.at) c.args.after.now c.args.pages.now c.page_of-from.result (next_skips c.args.after.now c.args.end.now c.args.at) c.page_of-from.ensures.page
    ∙ sym (first_row_is (is_next_at c.args.after.now c.args.end.now c.args.at) (rows_of c.args.pages.now) c.requires.rise) in
    IfOk-weaker c.copied.result _ _ (λ copy same. same ∙ found) c.copied.ensures
