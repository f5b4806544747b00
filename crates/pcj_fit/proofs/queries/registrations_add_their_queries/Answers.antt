use Rattle.pcj_fit.proofs.QueryLemmas.{loads_leave_queries, moves_leave_queries, registrations_add_theirs}
use Rattle.pcj_fit.proofs.TripleLemmas.{registrations_leave_triples}
use Rattle.pcj_fit.proofs.queries.registrations_add_their_queries.Goals as goal

pub returns-clause-leave : goal.returns-clause-leave
returns-clause-leave c = moves_leave_queries

pub returns-clause-loads : goal.returns-clause-loads
returns-clause-loads c = loads_leave_queries

pub returns-clause-add : goal.returns-clause-add
returns-clause-add c = registrations_add_theirs

pub returns-clause-triples : goal.returns-clause-triples
returns-clause-triples c = registrations_leave_triples
