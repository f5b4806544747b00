use Rattle.pcj_mvcc.proofs.Laws.{prewrite_keeps, roll_back_keeps, roll_forward_keeps, commit_keeps, plain_keeps}
use Rattle.pcj_mvcc.proofs.standing.other_acts_keep_readings.Goals as goal

pub returns-clause-prewrite : goal.returns-clause-prewrite
returns-clause-prewrite c = prewrite_keeps

pub returns-clause-roll_back : goal.returns-clause-roll_back
returns-clause-roll_back c = roll_back_keeps

pub returns-clause-roll_forward : goal.returns-clause-roll_forward
returns-clause-roll_forward c = roll_forward_keeps

pub returns-clause-commit : goal.returns-clause-commit
returns-clause-commit c = commit_keeps

pub returns-clause-plain : goal.returns-clause-plain
returns-clause-plain c = plain_keeps
