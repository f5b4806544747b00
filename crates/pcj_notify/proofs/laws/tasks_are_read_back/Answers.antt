use Rattle.pcj_notify.proofs.TaskLemmas.{reads_back}
use Rattle.pcj_notify.proofs.laws.tasks_are_read_back.Goals as goal

pub returns : goal.returns
returns c = reads_back
