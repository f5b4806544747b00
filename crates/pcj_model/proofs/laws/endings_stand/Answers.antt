use Rattle.pcj_model.proofs.EndingLaws.{ends_stand}
use Rattle.pcj_model.proofs.laws.endings_stand.Goals as goal

pub returns : goal.returns
returns c = ends_stand
