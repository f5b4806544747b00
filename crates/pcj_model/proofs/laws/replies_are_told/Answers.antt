use Rattle.pcj_model.proofs.ReplyLaws.{replies_tell}
use Rattle.pcj_model.proofs.laws.replies_are_told.Goals as goal

pub returns : goal.returns
returns c = replies_tell
