use Rattle.pcj_moves.proofs.OwnLemmas.{hidden_unlock, hidden_undrawn, hidden_drawn, hidden_committed}
use Rattle.pcj_moves.proofs.actors.writes_stay_hidden.Goals as goal

pub returns-clause-unlock : goal.returns-clause-unlock
returns-clause-unlock c = hidden_unlock

pub returns-clause-undrawn : goal.returns-clause-undrawn
returns-clause-undrawn c = hidden_undrawn

pub returns-clause-drawn : goal.returns-clause-drawn
returns-clause-drawn c = hidden_drawn

pub returns-clause-committed : goal.returns-clause-committed
returns-clause-committed c = hidden_committed
