use Rattle.pcj_moves.proofs.TraceLemmas.{locked_trace, prewrite_changes, replace_changes, roll_back_changes}
use Rattle.pcj_moves.proofs.traces.acts_change_one_trace.Goals as goal

pub returns-clause-locked : goal.returns-clause-locked
returns-clause-locked c = locked_trace

pub returns-clause-prewrite : goal.returns-clause-prewrite
returns-clause-prewrite c = prewrite_changes

pub returns-clause-replace : goal.returns-clause-replace
returns-clause-replace c = replace_changes

pub returns-clause-roll_back : goal.returns-clause-roll_back
returns-clause-roll_back c = roll_back_changes
