use Rattle.pcj_model.proofs.StateLaws.{nothing_is_left}
use Rattle.pcj_model.proofs.laws.crashed_jobs_are_gone.Goals as goal

pub returns : goal.returns
returns c = nothing_is_left
