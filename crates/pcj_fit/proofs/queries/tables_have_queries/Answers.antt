use Rattle.pcj_fit.proofs.TableQueries.{queries_are_one, tables_have_queries}
use Rattle.pcj_fit.proofs.queries.tables_have_queries.Goals as goal

pub returns-clause-some : goal.returns-clause-some
returns-clause-some c = tables_have_queries

pub returns-clause-one : goal.returns-clause-one
returns-clause-one c = queries_are_one
