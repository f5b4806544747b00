use Rattle.pcj_model.proofs.TextLaws.{texts_tell}
use Rattle.pcj_model.proofs.laws.texts_tell_lines.Goals as goal

pub returns : goal.returns
returns c = texts_tell
