use Rattle.pcj_moves.proofs.GoOnLemmas.{draw_step, empty_step, answer_step, recovery_step, recovery_begins, recovery_learns, drop_tells}
use Rattle.pcj_moves.proofs.steps.actors_go_on.Goals as goal

pub returns-clause-draw : goal.returns-clause-draw
returns-clause-draw c = draw_step

pub returns-clause-empty : goal.returns-clause-empty
returns-clause-empty c = empty_step

pub returns-clause-answer : goal.returns-clause-answer
returns-clause-answer c = answer_step

pub returns-clause-recovery : goal.returns-clause-recovery
returns-clause-recovery c = recovery_step

pub returns-clause-begins : goal.returns-clause-begins
returns-clause-begins c = recovery_begins

pub returns-clause-learns : goal.returns-clause-learns
returns-clause-learns c = recovery_learns

pub returns-clause-drop : goal.returns-clause-drop
returns-clause-drop c = drop_tells
