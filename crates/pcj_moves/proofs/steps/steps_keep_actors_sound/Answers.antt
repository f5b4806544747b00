use Rattle.pcj_moves.proofs.StepLemmas.{unlock_step, prewrite_step, primary_step, stay_step}
use Rattle.pcj_moves.proofs.steps.steps_keep_actors_sound.Goals as goal

pub returns-clause-unlock : goal.returns-clause-unlock
returns-clause-unlock c = unlock_step

pub returns-clause-prewrite : goal.returns-clause-prewrite
returns-clause-prewrite c = prewrite_step

pub returns-clause-primary : goal.returns-clause-primary
returns-clause-primary c = primary_step

pub returns-clause-stay : goal.returns-clause-stay
returns-clause-stay c = stay_step
