use Rattle.pcj_moves.proofs.OwnLemmas.{lock_is_of_write, prewrite_goes_on, draw_goes_on, primary_goes_on, secondary_goes_on, roll_back_goes_on, roll_forward_goes_on}
use Rattle.pcj_moves.proofs.StepLemmas.{names_one}
use Rattle.pcj_moves.proofs.actors.acts_take_transactions_on.Goals as goal

pub returns-clause-lock : goal.returns-clause-lock
returns-clause-lock c = lock_is_of_write

pub returns-clause-names : goal.returns-clause-names
returns-clause-names c = names_one

pub returns-clause-prewrite : goal.returns-clause-prewrite
returns-clause-prewrite c = prewrite_goes_on

pub returns-clause-draw : goal.returns-clause-draw
returns-clause-draw c = draw_goes_on

pub returns-clause-primary : goal.returns-clause-primary
returns-clause-primary c = primary_goes_on

pub returns-clause-secondary : goal.returns-clause-secondary
returns-clause-secondary c = secondary_goes_on

pub returns-clause-back : goal.returns-clause-back
returns-clause-back c = roll_back_goes_on

pub returns-clause-forward : goal.returns-clause-forward
returns-clause-forward c = roll_forward_goes_on
