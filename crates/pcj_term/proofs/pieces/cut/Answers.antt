use Rattle.std.proofs.Common.{rules, tests, sym, ◌∙◌, nat_eq}
use Rattle.std.proofs.lemmas.Iterator.{YieldsList-from_slice}
use Rattle.std.proofs.lemmas.Iterator.Search.{position_from_yields_List}
use Rattle.pcj_term.proofs.Parts.{cut_unplaced, cut_placed}
use Rattle.pcj_term.proofs.pieces.cut.Goals as goal

pub returns-in_err-at : goal.returns-in_err-at
returns-in_err-at c =
    let place = position_from_yields_List (λ other. nat_eq other c.args.byte) _ _ c.position.result c.position.ensures.ran (YieldsList-from_slice c.args.bytes.now cc) (λ x b q k. search (rules, tests)) in
    rw c.from_residual.ensures (sym (cut_unplaced c.args.byte c.args.bytes.now (sym place ∙ c.in_err-at.was)))

pub returns : goal.returns
returns c =
    let place = position_from_yields_List (λ other. nat_eq other c.args.byte) _ _ c.position.result c.position.ensures.ran (YieldsList-from_slice c.args.bytes.now cc) (λ x b q k. search (rules, tests)) in
    let rest = rw c.split_at.ensures.back at (sym c.in_ok-after.ensures) in
    rw c.split_at.ensures.front (sym (cut_placed c.args.byte c.args.bytes.now c.in_ok-at.at c.in_ok-after.field-0.now (sym place ∙ c.in_ok-at.was) rest))
