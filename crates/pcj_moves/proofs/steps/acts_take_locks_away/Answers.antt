use Rattle.pcj_moves.proofs.StepLemmas.{roll_back_unlocks, roll_forward_unlocks, secondary_unlocks, recovery_rolls_back, recovery_drops_primary, recovery_rolls_forward}
use Rattle.pcj_moves.proofs.steps.acts_take_locks_away.Goals as goal

pub returns-clause-back : goal.returns-clause-back
returns-clause-back c = roll_back_unlocks

pub returns-clause-forward : goal.returns-clause-forward
returns-clause-forward c = roll_forward_unlocks

pub returns-clause-secondary : goal.returns-clause-secondary
returns-clause-secondary c = secondary_unlocks

pub returns-clause-rolls_back : goal.returns-clause-rolls_back
returns-clause-rolls_back c = recovery_rolls_back

pub returns-clause-drops : goal.returns-clause-drops
returns-clause-drops c = recovery_drops_primary

pub returns-clause-rolls_forward : goal.returns-clause-rolls_forward
returns-clause-rolls_forward c = recovery_rolls_forward
