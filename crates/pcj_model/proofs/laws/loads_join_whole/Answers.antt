use Rattle.pcj_model.proofs.JoinLaws.{loads_join_whole}
use Rattle.pcj_model.proofs.laws.loads_join_whole.Goals as goal

pub returns : goal.returns
returns c = loads_join_whole
