use Rattle.pcj_pending.proofs.LockLemmas.{moves_count}
use Rattle.pcj_pending.proofs.laws.moves_set_and_free_locks.Goals as goal

pub returns : goal.returns
returns c = moves_count
