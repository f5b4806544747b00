use Rattle.pcj_model.proofs.RunLaws.{runs_go_on, runs_have_fronts}
use Rattle.pcj_model.proofs.laws.runs_go_on.Goals as goal

pub returns-clause-go_on : goal.returns-clause-go_on
returns-clause-go_on c = runs_go_on

pub returns-clause-fronts : goal.returns-clause-fronts
returns-clause-fronts c = runs_have_fronts
