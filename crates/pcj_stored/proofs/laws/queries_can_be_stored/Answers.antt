use Rattle.pcj_stored.proofs.StoredLemmas.{can_be_stored, have_few_nodes}
use Rattle.pcj_stored.proofs.laws.queries_can_be_stored.Goals as goal

pub returns-clause-stored : goal.returns-clause-stored
returns-clause-stored c = can_be_stored

pub returns-clause-nodes : goal.returns-clause-nodes
returns-clause-nodes c = have_few_nodes
