use Rattle.std.proofs.Common.{None, rules}
use Rattle.pcj_client.proofs.JobLemmas.{begins, begins_empty}
use Rattle.pcj_client.proofs.LoadLemmas.{load_job_of}
use Rattle.pcj_client.proofs.load_job.LoadJob.new.Goals as goal
use Rattle.pcj_client.proofs.load_job.LoadJob.new.Goals.{then-is_empty, else-is_empty}

pub invariant_of-result : goal.invariant_of-result
invariant_of-result c = elim c.if-is_empty.branch [
  | then-is_empty w ↦ begins_empty c.args.load c.args.triples c.if-is_empty.actor c.new-2.result.items c.requires (c.is_empty.ensures.0 (search rules)) (search rules)
  | else-is_empty w ↦ begins c.args.load c.args.triples c.if-is_empty.actor c.new-2.result.items c.requires (search rules) (search rules) c.new-2.ensures.items
]

pub returns-clause-job : goal.returns-clause-job
returns-clause-job c = elim c.if-is_empty.branch [
  | then-is_empty w ↦ load_job_of c.if-is_empty.actor c.args.triples c.new-2.result.items None (begins_empty c.args.load c.args.triples c.if-is_empty.actor c.new-2.result.items c.requires (c.is_empty.ensures.0 (search rules)) (search rules))
  | else-is_empty w ↦ load_job_of c.if-is_empty.actor c.args.triples c.new-2.result.items None (begins c.args.load c.args.triples c.if-is_empty.actor c.new-2.result.items c.requires (search rules) (search rules) c.new-2.ensures.items)
]
