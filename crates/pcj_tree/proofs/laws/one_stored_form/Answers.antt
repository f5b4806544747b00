use Rattle.pcj_tree.proofs.StoredLaws.{reads_back, stores_one_tree}
use Rattle.pcj_tree.proofs.laws.one_stored_form.Goals as goal

pub returns-clause-back : goal.returns-clause-back
returns-clause-back c = reads_back

pub returns-clause-one : goal.returns-clause-one
returns-clause-one c = stores_one_tree
