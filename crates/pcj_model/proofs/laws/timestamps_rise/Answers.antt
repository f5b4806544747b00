use Rattle.pcj_model.proofs.StateLaws.{timestamps_rise}
use Rattle.pcj_model.proofs.laws.timestamps_rise.Goals as goal

pub returns : goal.returns
returns c = timestamps_rise
