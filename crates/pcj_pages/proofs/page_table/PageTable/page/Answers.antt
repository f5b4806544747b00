use Rattle.std.proofs.Common.{Some, length, ap, sym, subst, ◌∙◌, arith}
use Rattle.std.specs.Option.{option_map}
use Rattle.std.proofs.lemmas.Bool.{ltb-true, ltb-false}
use Rattle.pcj_pages.specs.declared.page_view.PageView.{PageView}
use Rattle.pcj_pages.specs.Pages.{Kept, page_at, AreSized}
use Rattle.pcj_pages.specs.Summary.{view_of}
use Rattle.pcj_pages.proofs.Places.{page_there, page_absent, page_rows_is, sized_at}
use Rattle.pcj_pages.proofs.page_table.PageTable.page.Goals as goal

pub returns-in-Some-clause-view : goal.returns-in-Some-clause-view
returns-in-Some-clause-view c =
    let within = ltb-true _ _ (sym c.in-Some.ensures.lookup.0) in
    let pages = ap (λ (kept : Kept). kept.pages) (sym c.self.view_is) ∙ sym c.deref.ensures.value in
    let page = ap (λ pages. page_at pages c.args.at) pages ∙ page_there c.deref.result.now c.args.at c.in-Some.page.now within ∙ ap Some (sym c.in-Some.ensures.lookup.1) in
    ap Some c.view.ensures ∙ ap (option_map view_of) (sym page)

pub returns-in-Some-clause-size : goal.returns-in-Some-clause-size
returns-in-Some-clause-size c =
    let within = ltb-true _ _ (sym c.in-Some.ensures.lookup.0) in
    let size = sized_at c.deref.result.now c.args.at (subst AreSized (sym c.deref.ensures.value) c.self.invariant.sized) within in
    let page = page_rows_is c.deref.result.now c.args.at c.in-Some.page.now within ∙ sym c.in-Some.ensures.lookup.1 in
    let rows = ap (λ (view : PageView). view.rows) c.view.ensures in
    let many = ap length page in
    (omega (arith, size.0, rows, many), omega (arith, size.1, rows, many))

pub returns-in-None-clause-view : goal.returns-in-None-clause-view
returns-in-None-clause-view c =
    let beyond = ltb-false _ _ (sym c.in-None.ensures.lookup.0) in
    let pages = ap (λ (kept : Kept). kept.pages) (sym c.self.view_is) ∙ sym c.deref.ensures.value in
    ap (option_map view_of) (sym (ap (λ pages. page_at pages c.args.at) pages ∙ page_absent c.deref.result.now c.args.at beyond))
