use Rattle.std.proofs.Common.{◌≡◌, ◌∙◌, true, ap, sym, subst}
use Rattle.std.proofs.lemmas.Result.{IfOk-weaker}
use Rattle.pcj_table.specs.Table.{is_next_lock}
use Rattle.pcj_sorted.specs.Entries.{keys_rise}
use Rattle.pcj_pages.specs.Pages.{rows_of}
use Rattle.pcj_pages.specs.Walk.{first_in}
use Rattle.pcj_pages.proofs.Orders.{rise_drop}
use Rattle.pcj_pages.proofs.Walks.{first_from, first_row_is, lock_skips}
use Rattle.pcj_pages.proofs.read.first_locked.Goals as goal

pub locked_in-found-requires : goal.locked_in-found-requires
locked_in-found-requires c = subst (λ pages. keys_rise (rows_of pages) ≡ true) (sym c.split_at.ensures.back) (rise_drop c.args.pages.now c.page_of-from.result c.requires.rise)

pub returns : goal.returns
returns c =
    let found = c.locked_in-found.ensures ∙ ap (λ pages. first_in (is_next_lock c.args.after.now) (rows_of pages)) c.split_at.ensures.back
    ∙ first_from (is_next_lock c.args.after.now) c.args.after.now c.args.pages.now c.page_of-from.result (lock_skips c.args.after.now) c.page_of-from.ensures.page
    ∙ sym (first_row_is (is_next_lock c.args.after.now) (rows_of c.args.pages.now) c.requires.rise) in
    IfOk-weaker c.copied.result _ _ (λ copy same. same ∙ found) c.copied.ensures
