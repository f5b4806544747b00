use Rattle.pcj_moves.proofs.OrderLemmas.{actor_comes_first, actor_goes_back}
use Rattle.pcj_moves.proofs.moves.actors_have_no_order.Goals as goal

pub returns-clause-first : goal.returns-clause-first
returns-clause-first c = actor_comes_first

pub returns-clause-back : goal.returns-clause-back
returns-clause-back c = actor_goes_back
