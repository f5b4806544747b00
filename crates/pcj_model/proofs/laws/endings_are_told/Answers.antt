use Rattle.pcj_model.proofs.RunLaws.{ends_are_told}
use Rattle.pcj_model.proofs.laws.endings_are_told.Goals as goal

pub returns : goal.returns
returns c = ends_are_told
