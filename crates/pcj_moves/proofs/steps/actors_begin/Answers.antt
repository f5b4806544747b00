use Rattle.pcj_moves.proofs.GoOnLemmas.{begin_step, writes_step}
use Rattle.pcj_moves.proofs.steps.actors_begin.Goals as goal

pub returns-clause-begin : goal.returns-clause-begin
returns-clause-begin c = begin_step

pub returns-clause-writes : goal.returns-clause-writes
returns-clause-writes c = writes_step
