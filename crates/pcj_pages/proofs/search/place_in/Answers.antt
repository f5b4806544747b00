use Rattle.std.proofs.Common.{◌≡◌, ◌∙◌, true, length, sym, subst}
use Rattle.std.proofs.lemmas.Bool.{ltb-true}
use Rattle.std.specs.List.Sorted.{IsSearchInRange}
use Rattle.pcj_sorted.specs.Entries.{keys_rise}
use Rattle.pcj_sorted.specs.Place.{IsPlace}
use Rattle.pcj_pages.specs.Search.{page_rows}
use Rattle.pcj_pages.proofs.Orders.{rise_page}
use Rattle.pcj_pages.proofs.Places.{page_rows_is}
use Rattle.pcj_pages.proofs.Lifted.{place_of_all, ok_in_range, err_in_range}
use Rattle.pcj_pages.proofs.search.place_in.Goals as goal

pub place_of-requires : goal.place_of-requires
place_of-requires c =
    let within = ltb-true _ _ (sym c.in-Some.ensures.lookup.0) in
    let page = page_rows_is c.args.pages.now c.args.at c.in-Some.page.now within ∙ sym c.in-Some.ensures.lookup.1 ∙ sym c.rows.ensures in
    subst (λ rows. keys_rise rows ≡ true) page (rise_page c.args.pages.now c.args.at c.requires.rise)

pub returns-in-Some-clause-place : goal.returns-in-Some-clause-place
returns-in-Some-clause-place c =
    let within = ltb-true _ _ (sym c.in-Some.ensures.lookup.0) in
    let page = page_rows_is c.args.pages.now c.args.at c.in-Some.page.now within ∙ sym c.in-Some.ensures.lookup.1 ∙ sym c.rows.ensures in
    place_of_all c.args.key.now c.args.pages.now c.args.at c.place_of.result within c.requires.page (subst (λ rows. IsPlace c.args.key.now rows c.place_of.result) (sym page) c.place_of.ensures.place)

pub returns-in-Some-clause-row : goal.returns-in-Some-clause-row
returns-in-Some-clause-row c =
    let within = ltb-true _ _ (sym c.in-Some.ensures.lookup.0) in
    let page = page_rows_is c.args.pages.now c.args.at c.in-Some.page.now within ∙ sym c.in-Some.ensures.lookup.1 ∙ sym c.rows.ensures in
    ok_in_range c.place_of.result (length (page_rows c.args.pages.now c.args.at)) c.args.at (length c.args.pages.now) (subst (λ rows. IsSearchInRange c.place_of.result (length rows)) (sym page) c.place_of.ensures.bound) within

pub returns-in-Some-clause-gap : goal.returns-in-Some-clause-gap
returns-in-Some-clause-gap c =
    let within = ltb-true _ _ (sym c.in-Some.ensures.lookup.0) in
    let page = page_rows_is c.args.pages.now c.args.at c.in-Some.page.now within ∙ sym c.in-Some.ensures.lookup.1 ∙ sym c.rows.ensures in
    err_in_range c.place_of.result (length (page_rows c.args.pages.now c.args.at)) (subst (λ rows. IsSearchInRange c.place_of.result (length rows)) (sym page) c.place_of.ensures.bound)
