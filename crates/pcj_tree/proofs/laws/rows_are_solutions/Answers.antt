use Rattle.pcj_tree.proofs.RowLemmas.{have_one_row_each, last_rows_are_projected}
use Rattle.pcj_tree.proofs.laws.rows_are_solutions.Goals as goal

pub returns-clause-each : goal.returns-clause-each
returns-clause-each c = have_one_row_each

pub returns-clause-last : goal.returns-clause-last
returns-clause-last c = last_rows_are_projected
