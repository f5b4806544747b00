use Rattle.std.proofs.Common.{ℕ, List, sym, subst}
use Rattle.std.specs.Option.{option_copied}
use Rattle.std.proofs.lemmas.Result.{IfOk-weaker}
use Rattle.pcj_algebra.specs.Variables.{AreNames, pattern_names}
use Rattle.pcj_tree.specs.Tree.{other_names}
use Rattle.pcj_tree.proofs.OrderLemmas.{are_ordered}
use Rattle.pcj_tree.proofs.order.order_of.Goals as goal

pub returns : goal.returns
returns c =
    let own = pattern_names c.args.part.now in
    let other = other_names (option_copied c.args.sibling) in
    let names : AreNames c.as_slice.result.now own = subst (λ (ns : List (List ℕ)). AreNames ns own) (sym c.as_slice.ensures) (c.in_ok-names.ensures {u = tt}) in
    let others : AreNames c.as_slice-2.result.now other = subst (λ (ns : List (List ℕ)). AreNames ns other) (sym c.as_slice-2.ensures) (c.in_ok-others.ensures {u = tt}) in
    IfOk-weaker c.ordered.result _ _ (λ order is. are_ordered own other c.as_slice.result.now c.as_slice-2.result.now order names others is) c.ordered.ensures
