use Rattle.pcj_mvcc.proofs.Choices.{under_put, under_chosen, under_committed}
use Rattle.pcj_mvcc.proofs.standing.choices_commit_one_by_one.Goals as goal

pub returns-clause-change : goal.returns-clause-change
returns-clause-change c = under_put

pub returns-clause-chosen : goal.returns-clause-chosen
returns-clause-chosen c = under_chosen

pub returns-clause-committed : goal.returns-clause-committed
returns-clause-committed c = under_committed
