use Rattle.pcj_jobs.proofs.KnownLemmas.{all_end_known, ends_known, opens_known, plain_stays_known}
use Rattle.pcj_jobs.proofs.known.jobs_begin_and_end.Goals as goal

pub returns-clause-plain : goal.returns-clause-plain
returns-clause-plain c = plain_stays_known

pub returns-clause-opens : goal.returns-clause-opens
returns-clause-opens c = opens_known

pub returns-clause-ends : goal.returns-clause-ends
returns-clause-ends c = ends_known

pub returns-clause-all_end : goal.returns-clause-all_end
returns-clause-all_end c = all_end_known
