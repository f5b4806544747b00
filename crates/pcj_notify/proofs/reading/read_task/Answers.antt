use Rattle.pcj_notify.proofs.TaskLemmas.{no_task}
use Rattle.pcj_notify.proofs.reading.read_task.Goals as goal

pub returns-in_default : goal.returns-in_default
returns-in_default c = no_task c.args.key.now c.in_ok-read_key.field-0 (c.in_ok-read_key.ensures {u = tt}) (c.in_default.ensures {u = tt}).none
