use Rattle.std.proofs.Common.{◌≤◌, ◌∙◌, set, length, ap, sym, subst}
use Rattle.std.specs.List.{insert}
use Rattle.std.proofs.lemmas.List.{length-set}
use Rattle.std.proofs.lemmas.Result.{on_ok_weaker, on_err_weaker}
use Rattle.pcj_pages.specs.Pages.{rows_of}
use Rattle.pcj_pages.proofs.Places.{page_rows_is, insert_in_page, same_page, sized_after}
use Rattle.pcj_pages.proofs.mutation.insert_at.Goals as goal

pub insert-requires : goal.insert-requires
insert-requires c =
    let page = page_rows_is c.args.pages.now.items c.args.at c.index_mut.result.now c.requires.page ∙ sym c.index_mut.ensures.value in
    record { place = subst (λ rows. c.args.place ≤ length rows) page c.requires.place }

pub returns-clause-ok : goal.returns-clause-ok
returns-clause-ok c =
    let page = page_rows_is c.args.pages.now.items c.args.at c.index_mut.result.now c.requires.page ∙ sym c.index_mut.ensures.value in
    on_ok_weaker c.insert.result (λ made.
    ap (λ rows. rows_of (set c.args.pages.now.items c.args.at rows)) (made ∙ ap (λ rows. insert rows c.args.place c.args.found) (sym page))
    ∙ sym (insert_in_page c.args.pages.now.items c.args.at c.args.place c.args.found c.requires.page c.requires.place)) c.insert.ensures.ok

pub returns-clause-err : goal.returns-clause-err
returns-clause-err c =
    let page = page_rows_is c.args.pages.now.items c.args.at c.index_mut.result.now c.requires.page ∙ sym c.index_mut.ensures.value in
    on_err_weaker c.insert.result (λ same. ap (set c.args.pages.now.items c.args.at) (same ∙ sym page) ∙ same_page c.args.pages.now.items c.args.at c.requires.page) c.insert.ensures.err

pub returns-clause-sized : goal.returns-clause-sized
returns-clause-sized c =
    let page = page_rows_is c.args.pages.now.items c.args.at c.index_mut.result.now c.requires.page ∙ sym c.index_mut.ensures.value in
    let made = on_ok_weaker c.insert.result (λ made. made ∙ ap (λ rows. insert rows c.args.place c.args.found) (sym page)) c.insert.ensures.ok in
    let same = on_err_weaker c.insert.result (λ same. same ∙ sym page) c.insert.ensures.err in
    sized_after c.insert.result c.args.pages.now.items c.args.at c.args.place c.args.found c.insert.new.self c.requires.sized c.requires.page c.requires.place c.requires.room made same

pub returns-clause-few : goal.returns-clause-few
returns-clause-few c = length-set c.args.pages.now.items c.args.at c.insert.new.self
