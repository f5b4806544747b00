use Rattle.pcj_mvcc.proofs.Laws.{changes_one_row, acts_on_one_row}
use Rattle.pcj_mvcc.proofs.standing.acts_change_one_row.Goals as goal

pub returns-clause-row : goal.returns-clause-row
returns-clause-row c = changes_one_row

pub returns-clause-act : goal.returns-clause-act
returns-clause-act c = acts_on_one_row
