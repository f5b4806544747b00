use Rattle.pcj_jobs.proofs.BesideLemmas.{beside_known}
use Rattle.pcj_jobs.proofs.known.others_step_beside.Goals as goal

pub returns : goal.returns
returns c = beside_known
