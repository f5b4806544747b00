use Rattle.pcj_mvcc.proofs.Laws.{standing_is_seen}
use Rattle.pcj_mvcc.proofs.standing.standing_puts_are_seen.Goals as goal

pub returns : goal.returns
returns c = standing_is_seen
