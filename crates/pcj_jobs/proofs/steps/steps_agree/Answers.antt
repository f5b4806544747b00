use Rattle.pcj_jobs.proofs.LawLemmas.{fault_agrees, step_agrees}
use Rattle.pcj_jobs.proofs.steps.steps_agree.Goals as goal

pub returns-clause-step : goal.returns-clause-step
returns-clause-step c = step_agrees

pub returns-clause-fault : goal.returns-clause-fault
returns-clause-fault c = fault_agrees
