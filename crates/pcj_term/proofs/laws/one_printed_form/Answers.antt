use Rattle.pcj_term.proofs.Cells.{prints_one_term, reads_back, prints_one_cell}
use Rattle.pcj_term.proofs.laws.one_printed_form.Goals as goal

pub returns-clause-term : goal.returns-clause-term
returns-clause-term c = prints_one_term

pub returns-clause-back : goal.returns-clause-back
returns-clause-back c = reads_back

pub returns-clause-cell : goal.returns-clause-cell
returns-clause-cell c = prints_one_cell
