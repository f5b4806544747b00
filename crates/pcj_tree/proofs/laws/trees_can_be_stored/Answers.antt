use Rattle.pcj_tree.proofs.StoredLaws.{can_be_stored}
use Rattle.pcj_tree.proofs.laws.trees_can_be_stored.Goals as goal

pub returns : goal.returns
returns c = can_be_stored
