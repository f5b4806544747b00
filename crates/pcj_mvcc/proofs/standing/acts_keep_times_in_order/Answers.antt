use Rattle.pcj_mvcc.proofs.Laws.{prewrite_in_order, replace_in_order, roll_back_in_order, plain_in_order}
use Rattle.pcj_mvcc.proofs.standing.acts_keep_times_in_order.Goals as goal

pub returns-clause-prewrite : goal.returns-clause-prewrite
returns-clause-prewrite c = prewrite_in_order

pub returns-clause-replace : goal.returns-clause-replace
returns-clause-replace c = replace_in_order

pub returns-clause-roll_back : goal.returns-clause-roll_back
returns-clause-roll_back c = roll_back_in_order

pub returns-clause-plain : goal.returns-clause-plain
returns-clause-plain c = plain_in_order
