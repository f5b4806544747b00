use Rattle.pcj_mvcc.proofs.Laws.{readings_decide}
use Rattle.pcj_mvcc.proofs.standing.readings_decide_what_stands.Goals as goal

pub returns : goal.returns
returns c = readings_decide
