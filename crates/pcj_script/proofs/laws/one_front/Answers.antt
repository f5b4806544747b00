use Rattle.pcj_script.proofs.FrontLaws.{one_front, some_front}
use Rattle.pcj_script.proofs.laws.one_front.Goals as goal

pub returns-clause-same : goal.returns-clause-same
returns-clause-same c = one_front

pub returns-clause-some : goal.returns-clause-some
returns-clause-some c = some_front
