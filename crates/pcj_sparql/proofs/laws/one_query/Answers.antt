use Rattle.pcj_sparql.proofs.OneQuery.{says_one, one_fault, not_both, either}
use Rattle.pcj_sparql.proofs.laws.one_query.Goals as goal

pub returns-clause-query : goal.returns-clause-query
returns-clause-query c = says_one

pub returns-clause-fault : goal.returns-clause-fault
returns-clause-fault c = one_fault

pub returns-clause-apart : goal.returns-clause-apart
returns-clause-apart c = not_both

pub returns-clause-some : goal.returns-clause-some
returns-clause-some c = either
