use Rattle.pcj_pending.proofs.MoveLemmas.{moves_add, steps_add}
use Rattle.pcj_pending.proofs.laws.moves_add_one_at_most.Goals as goal

pub returns-clause-one : goal.returns-clause-one
returns-clause-one c = moves_add

pub returns-clause-several : goal.returns-clause-several
returns-clause-several c = steps_add
