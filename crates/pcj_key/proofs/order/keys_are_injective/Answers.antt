use Rattle.pcj_key.proofs.Keys.{injective}
use Rattle.pcj_key.proofs.order.keys_are_injective.Goals as goal

pub returns : goal.returns
returns c = injective
