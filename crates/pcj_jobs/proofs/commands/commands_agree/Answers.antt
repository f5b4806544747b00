use Rattle.pcj_jobs.proofs.FinishLemmas.{short_agrees, spent_agrees, steps_agree}
use Rattle.pcj_jobs.proofs.ReachLemmas.{numbers_never_fall}
use Rattle.pcj_jobs.proofs.commands.commands_agree.Goals as goal

pub returns-clause-steps : goal.returns-clause-steps
returns-clause-steps c = steps_agree

pub returns-clause-spent : goal.returns-clause-spent
returns-clause-spent c = spent_agrees

pub returns-clause-short : goal.returns-clause-short
returns-clause-short c = short_agrees

pub returns-clause-numbers : goal.returns-clause-numbers
returns-clause-numbers c = numbers_never_fall
