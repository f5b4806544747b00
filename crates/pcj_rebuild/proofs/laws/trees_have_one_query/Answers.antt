use Rattle.pcj_rebuild.proofs.QueryLemmas.{have_one_query, have_same_lines}
use Rattle.pcj_rebuild.proofs.laws.trees_have_one_query.Goals as goal

pub returns-clause-one : goal.returns-clause-one
returns-clause-one c = have_one_query

pub returns-clause-lines : goal.returns-clause-lines
returns-clause-lines c = have_same_lines
