use Rattle.std.proofs.Common.{ℕ, List, [], sym, subst}
use Rattle.pcj_algebra.specs.Variables.{AreNames}
use Rattle.pcj_tree.proofs.OrderLemmas.{no_names}
use Rattle.pcj_tree.proofs.order.other_names.Goals as goal

pub returns-in-None : goal.returns-in-None
returns-in-None c = rw c.in-None.is (subst (λ (names : List (List ℕ)). AreNames names []) (sym c.new.ensures) no_names)
