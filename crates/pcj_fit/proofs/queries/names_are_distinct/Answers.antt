use Rattle.pcj_fit.proofs.QueryLemmas.{names_are_distinct, read_names_are_known}
use Rattle.pcj_fit.proofs.queries.names_are_distinct.Goals as goal

pub returns-clause-distinct : goal.returns-clause-distinct
returns-clause-distinct c = names_are_distinct

pub returns-clause-known : goal.returns-clause-known
returns-clause-known c = read_names_are_known
