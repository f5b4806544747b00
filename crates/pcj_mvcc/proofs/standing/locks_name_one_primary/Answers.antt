use Rattle.pcj_mvcc.proofs.Laws.{prewrite_names_one, replace_names_one, roll_back_names_one, plain_names_one}
use Rattle.pcj_mvcc.proofs.standing.locks_name_one_primary.Goals as goal

pub returns-clause-prewrite : goal.returns-clause-prewrite
returns-clause-prewrite c = prewrite_names_one

pub returns-clause-replace : goal.returns-clause-replace
returns-clause-replace c = replace_names_one

pub returns-clause-roll_back : goal.returns-clause-roll_back
returns-clause-roll_back c = roll_back_names_one

pub returns-clause-plain : goal.returns-clause-plain
returns-clause-plain c = plain_names_one
