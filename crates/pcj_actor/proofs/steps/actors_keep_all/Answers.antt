use Rattle.pcj_actor.proofs.ActorLemmas.{carried_is_consistent, carried_leaves_read}
use Rattle.pcj_actor.proofs.steps.actors_keep_all.Goals as goal

pub returns-clause-consistent : goal.returns-clause-consistent
returns-clause-consistent c = carried_is_consistent

pub returns-clause-read : goal.returns-clause-read
returns-clause-read c = carried_leaves_read
