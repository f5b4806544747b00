use Rattle.pcj_key.proofs.Ordered.{ordered}
use Rattle.pcj_key.proofs.order.keys_keep_order.Goals as goal

pub returns : goal.returns
returns c = ordered
