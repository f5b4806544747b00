use Rattle.pcj_moves.proofs.StepLemmas.{met_is_other, next_is_free, nothing_is_free}
use Rattle.pcj_moves.proofs.actors.met_locks_are_of_others.Goals as goal

pub returns-clause-met : goal.returns-clause-met
returns-clause-met c = met_is_other

pub returns-clause-next : goal.returns-clause-next
returns-clause-next c = next_is_free

pub returns-clause-nothing : goal.returns-clause-nothing
returns-clause-nothing c = nothing_is_free
