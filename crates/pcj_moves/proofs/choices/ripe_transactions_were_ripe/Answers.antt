use Rattle.pcj_moves.proofs.ChoiceLemmas.{unlock_ripe, prewrite_ripe, primary_ripe, draw_ripe}
use Rattle.pcj_moves.proofs.choices.ripe_transactions_were_ripe.Goals as goal

pub returns-clause-unlock : goal.returns-clause-unlock
returns-clause-unlock c = unlock_ripe

pub returns-clause-prewrite : goal.returns-clause-prewrite
returns-clause-prewrite c = prewrite_ripe

pub returns-clause-primary : goal.returns-clause-primary
returns-clause-primary c = primary_ripe

pub returns-clause-draw : goal.returns-clause-draw
returns-clause-draw c = draw_ripe
