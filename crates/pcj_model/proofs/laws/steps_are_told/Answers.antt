use Rattle.pcj_model.proofs.StepLaws.{are_told}
use Rattle.pcj_model.proofs.laws.steps_are_told.Goals as goal

pub returns : goal.returns
returns c = are_told
