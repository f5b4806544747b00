use Rattle.std.proofs.Common.{rules, tests, sym, ◌∙◌}
use Rattle.std.proofs.lemmas.Iterator.{YieldsList-from_slice}
use Rattle.std.proofs.lemmas.Iterator.Search.{position_from_yields_List}
use Rattle.pcj_term.specs.Order.{same_bytes}
use Rattle.pcj_obs_pass.proofs.CellLemmas.{cell_placed, cell_unplaced}
use Rattle.pcj_obs_pass.proofs.cells.cell_at.Goals as goal

pub returns-in-Some : goal.returns-in-Some
returns-in-Some c =
    let place = position_from_yields_List (λ first. same_bytes first c.args.name.now) _ _ c.position.result c.position.ensures.ran (YieldsList-from_slice c.args.order.now cc) (λ x b q k. search (rules, tests)) in
    c.nth.ensures ∙ cell_placed c.args.order.now c.args.cells.now c.args.name.now c.in-Some.place (sym place ∙ c.in-Some.is)

pub returns-in-None : goal.returns-in-None
returns-in-None c =
    let place = position_from_yields_List (λ first. same_bytes first c.args.name.now) _ _ c.position.result c.position.ensures.ran (YieldsList-from_slice c.args.order.now cc) (λ x b q k. search (rules, tests)) in
    cell_unplaced c.args.order.now c.args.cells.now c.args.name.now (sym place ∙ c.in-None.is)
