use Rattle.pcj_model.proofs.LineLaws.{stand_apart}
use Rattle.pcj_model.proofs.laws.lines_stand_apart.Goals as goal

pub returns : goal.returns
returns c = stand_apart
