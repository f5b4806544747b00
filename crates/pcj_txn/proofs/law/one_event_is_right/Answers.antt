use Rattle.pcj_txn.proofs.Told.{tells}
use Rattle.pcj_txn.proofs.law.one_event_is_right.Goals as goal

pub returns : goal.returns
returns c = tells
