use Rattle.std.proofs.Common.{◌∙◌, ◌<◌, ◌+◌, length, ap, sym, subst}
use Rattle.std.proofs.lemmas.Result.{IfOk-weaker}
use Rattle.pcj_table.specs.Table.{shown}
use Rattle.pcj_sorted.specs.Edits.{row_in}
use Rattle.pcj_sorted.proofs.Tables.{row_found, row_missing}
use Rattle.pcj_pages.specs.Pages.{rows_of}
use Rattle.pcj_pages.specs.Search.{rows_before}
use Rattle.pcj_pages.proofs.Places.{page_rows_is, row_in_page}
use Rattle.pcj_pages.proofs.read.row_of.Goals as goal

pub shown_at-requires : goal.shown_at-requires
shown_at-requires c =
    let page = page_rows_is c.args.pages.now c.page_of-at.result c.index-pages-at.result c.in-Ok.ensures.row.0 ∙ sym c.index-pages-at.is ∙ sym c.rows.ensures in
    subst (λ rows. c.in-Ok.place < length rows) page c.in-Ok.ensures.row.1

pub returns-in-Ok : goal.returns-in-Ok
returns-in-Ok c =
    let page = page_rows_is c.args.pages.now c.page_of-at.result c.index-pages-at.result c.in-Ok.ensures.row.0 ∙ sym c.index-pages-at.is ∙ sym c.rows.ensures in
    let found = row_found c.args.key.now (rows_of c.args.pages.now) (rows_before c.args.pages.now c.page_of-at.result + c.in-Ok.place) c.requires.rise c.in-Ok.ensures.place
    ∙ row_in_page c.args.pages.now c.page_of-at.result c.in-Ok.place c.in-Ok.ensures.row.1 ∙ ap (λ rows. row_in rows c.in-Ok.place) page in
    IfOk-weaker c.shown_at.result _ _ (λ copy same. same ∙ ap shown (sym found)) c.shown_at.ensures

pub returns-in-Err : goal.returns-in-Err
returns-in-Err c = ap shown (sym (row_missing c.args.key.now (rows_of c.args.pages.now) (rows_before c.args.pages.now c.page_of-at.result + c.in-Err.field-0) c.requires.rise c.in-Err.ensures.place))
