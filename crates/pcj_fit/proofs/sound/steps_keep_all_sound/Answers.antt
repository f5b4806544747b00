use Rattle.pcj_fit.proofs.StepLemmas.{step_adds_triples, step_is_sound, step_leaves_triples}
use Rattle.pcj_fit.proofs.sound.steps_keep_all_sound.Goals as goal

pub returns-clause-sound : goal.returns-clause-sound
returns-clause-sound c = step_is_sound

pub returns-clause-leave : goal.returns-clause-leave
returns-clause-leave c = step_leaves_triples

pub returns-clause-add : goal.returns-clause-add
returns-clause-add c = step_adds_triples
