use Rattle.pcj_fit.proofs.WorkLemmas.{work_leaves_queries, work_leaves_triples, work_step_leaves_queries, work_step_leaves_triples}
use Rattle.pcj_fit.proofs.work.workers_leave_triples_and_queries.Goals as goal

pub returns-clause-triples : goal.returns-clause-triples
returns-clause-triples c = work_leaves_triples

pub returns-clause-queries : goal.returns-clause-queries
returns-clause-queries c = work_leaves_queries

pub returns-clause-step_triples : goal.returns-clause-step_triples
returns-clause-step_triples c = work_step_leaves_triples

pub returns-clause-step_queries : goal.returns-clause-step_queries
returns-clause-step_queries c = work_step_leaves_queries
