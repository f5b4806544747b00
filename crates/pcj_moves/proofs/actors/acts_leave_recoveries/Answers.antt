use Rattle.pcj_moves.proofs.OwnLemmas.{recovers_unlock, recovers_prewrite, of_write_next}
use Rattle.pcj_moves.proofs.actors.acts_leave_recoveries.Goals as goal

pub returns-clause-unlock : goal.returns-clause-unlock
returns-clause-unlock c = recovers_unlock

pub returns-clause-prewrite : goal.returns-clause-prewrite
returns-clause-prewrite c = recovers_prewrite

pub returns-clause-write : goal.returns-clause-write
returns-clause-write c = of_write_next
