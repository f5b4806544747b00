use Rattle.pcj_script.proofs.ScriptLaws.{one_reading, some_reading}
use Rattle.pcj_script.proofs.laws.one_script.Goals as goal

pub returns-clause-same : goal.returns-clause-same
returns-clause-same c = one_reading

pub returns-clause-some : goal.returns-clause-some
returns-clause-some c = some_reading
