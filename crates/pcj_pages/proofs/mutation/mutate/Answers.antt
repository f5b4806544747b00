use Rattle.std.proofs.Common.{◌∙◌, ◌+◌, ap, sym, subst, arith}
use Rattle.std.proofs.lemmas.Result.{IfOk-weaker}
use Rattle.pcj_table.specs.Row.{conds_hold}
use Rattle.pcj_sorted.specs.Place.{IsRowAt, IsGapAt}
use Rattle.pcj_sorted.proofs.Tables.{row_found, row_missing, changes_mutate, changes_rise, creates_mutate, creates_rise, rise_after}
use Rattle.pcj_pages.specs.Pages.{rows_of}
use Rattle.pcj_pages.specs.Search.{rows_before}
use Rattle.pcj_pages.proofs.mutation.mutate.Goals as goal

pub returns-in-Ok-clause-done : goal.returns-in-Ok-clause-done
returns-in-Ok-clause-done c =
    let place = subst (λ pages. IsRowAt c.args.key.now (rows_of pages) (rows_before pages c.page_of-at.result + c.in-Ok.place)) c.deref-2.ensures.value c.in-Ok.ensures.place in
    IfOk-weaker c.change_row.result _ _ (changes_mutate c.args.key.now (rows_of c.args.pages.now.items) (rows_of c.change_row.new.pages.items) (rows_before c.args.pages.now.items c.page_of-at.result + c.in-Ok.place) c.args.conds.now c.args.updates.now c.requires.rise place) c.change_row.ensures.done

pub returns-in-Ok-clause-pages : goal.returns-in-Ok-clause-pages
returns-in-Ok-clause-pages c =
    let place = subst (λ pages. IsRowAt c.args.key.now (rows_of pages) (rows_before pages c.page_of-at.result + c.in-Ok.place)) c.deref-2.ensures.value c.in-Ok.ensures.place in
    record {
      rise = rise_after c.change_row.result (rows_of c.args.pages.now.items) (rows_of c.change_row.new.pages.items) c.requires.rise
          (changes_rise c.args.key.now (rows_of c.args.pages.now.items) (rows_of c.change_row.new.pages.items) (rows_before c.args.pages.now.items c.page_of-at.result + c.in-Ok.place) c.args.conds.now c.args.updates.now c.requires.rise place)
          c.change_row.ensures.done c.change_row.ensures.err;
      sized = c.change_row.ensures.sized;
      few = omega (arith, c.change_row.ensures.few, c.requires.few);
    }

pub returns-in-Ok-clause-drops : goal.returns-in-Ok-clause-drops
returns-in-Ok-clause-drops c updates holds =
    let place = subst (λ pages. IsRowAt c.args.key.now (rows_of pages) (rows_before pages c.page_of-at.result + c.in-Ok.place)) c.deref-2.ensures.value c.in-Ok.ensures.place in
    c.change_row.ensures.drops updates (ap (λ r. conds_hold r c.args.conds.now) (sym (row_found c.args.key.now (rows_of c.args.pages.now.items) (rows_before c.args.pages.now.items c.page_of-at.result + c.in-Ok.place) c.requires.rise place)) ∙ holds)

pub returns-in-Err-clause-done : goal.returns-in-Err-clause-done
returns-in-Err-clause-done c =
    let place = subst (λ pages. IsGapAt c.args.key.now (rows_of pages) (rows_before pages c.page_of-at.result + c.in-Err.place)) c.deref-2.ensures.value c.in-Err.ensures.place in
    IfOk-weaker c.create_row.result _ _ (creates_mutate c.args.key.now (rows_of c.args.pages.now.items) (rows_of c.create_row.new.pages.items) (rows_before c.args.pages.now.items c.page_of-at.result + c.in-Err.place) c.args.conds.now c.args.updates.now c.requires.rise place) c.create_row.ensures.done

pub returns-in-Err-clause-pages : goal.returns-in-Err-clause-pages
returns-in-Err-clause-pages c =
    let place = subst (λ pages. IsGapAt c.args.key.now (rows_of pages) (rows_before pages c.page_of-at.result + c.in-Err.place)) c.deref-2.ensures.value c.in-Err.ensures.place in
    record {
      rise = rise_after c.create_row.result (rows_of c.args.pages.now.items) (rows_of c.create_row.new.pages.items) c.requires.rise
          (creates_rise c.args.key.now (rows_of c.args.pages.now.items) (rows_of c.create_row.new.pages.items) (rows_before c.args.pages.now.items c.page_of-at.result + c.in-Err.place) c.args.conds.now c.args.updates.now c.requires.rise place)
          c.create_row.ensures.done c.create_row.ensures.err;
      sized = c.create_row.ensures.sized;
      few = c.create_row.ensures.few;
    }

pub returns-in-Err-clause-drops : goal.returns-in-Err-clause-drops
returns-in-Err-clause-drops c updates holds =
    let place = subst (λ pages. IsGapAt c.args.key.now (rows_of pages) (rows_before pages c.page_of-at.result + c.in-Err.place)) c.deref-2.ensures.value c.in-Err.ensures.place in
    c.create_row.ensures.drops updates (ap (λ r. conds_hold r c.args.conds.now) (sym (row_missing c.args.key.now (rows_of c.args.pages.now.items) (rows_before c.args.pages.now.items c.page_of-at.result + c.in-Err.place) c.requires.rise place)) ∙ holds)
