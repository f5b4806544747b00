use Rattle.pcj_encode.proofs.Names.{kinds_are_apart, keeps_order}
use Rattle.pcj_encode.proofs.laws.keys_keep_kinds_and_order.Goals as goal

pub returns-clause-kinds : goal.returns-clause-kinds
returns-clause-kinds c = kinds_are_apart

pub returns-clause-order : goal.returns-clause-order
returns-clause-order c = keeps_order
