use Rattle.pcj_mvcc.proofs.Laws.{primary_commits, commits_stand}
use Rattle.pcj_mvcc.proofs.standing.commits_stand_at_once.Goals as goal

pub returns-clause-primary : goal.returns-clause-primary
returns-clause-primary c = primary_commits

pub returns-clause-stands : goal.returns-clause-stands
returns-clause-stands c = commits_stand
