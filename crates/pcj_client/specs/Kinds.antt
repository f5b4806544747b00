-- A job of either kind.
use Rattle.pcj_client.specs.Job.{Job}
use Rattle.pcj_client.specs.declared.job.Kind.{Kind}
use Rattle.pcj_client.specs.declared.job.Kind.TheVariants.{Load, Register}

abbrev pub job_in : Kind → Job
job_in (Load job) = job
job_in (Register job) = job
