use Rattle.pcj_model.proofs.JoinLaws.{can_be_answered}
use Rattle.pcj_model.proofs.laws.commands_are_answered.Goals as goal

pub returns : goal.returns
returns c = can_be_answered
