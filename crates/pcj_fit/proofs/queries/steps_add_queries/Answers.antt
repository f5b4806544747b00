use Rattle.pcj_fit.proofs.StepLemmas.{load_step_leaves_queries, register_step_leaves_triples, step_adds_query, step_leaves_queries}
use Rattle.pcj_fit.proofs.queries.steps_add_queries.Goals as goal

pub returns-clause-leave : goal.returns-clause-leave
returns-clause-leave c = step_leaves_queries

pub returns-clause-loads : goal.returns-clause-loads
returns-clause-loads c = load_step_leaves_queries

pub returns-clause-add : goal.returns-clause-add
returns-clause-add c = step_adds_query

pub returns-clause-triples : goal.returns-clause-triples
returns-clause-triples c = register_step_leaves_triples
