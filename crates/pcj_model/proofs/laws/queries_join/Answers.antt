use Rattle.pcj_model.proofs.JoinLaws.{queries_join, names_stay_apart}
use Rattle.pcj_model.proofs.laws.queries_join.Goals as goal

pub returns-clause-join : goal.returns-clause-join
returns-clause-join c = queries_join

pub returns-clause-apart : goal.returns-clause-apart
returns-clause-apart c = names_stay_apart
