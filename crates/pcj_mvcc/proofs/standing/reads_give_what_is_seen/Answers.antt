use Rattle.pcj_mvcc.proofs.Laws.{reads_are_seen, passed_rows_show_nothing}
use Rattle.pcj_mvcc.proofs.standing.reads_give_what_is_seen.Goals as goal

pub returns-clause-read : goal.returns-clause-read
returns-clause-read c = reads_are_seen

pub returns-clause-passed : goal.returns-clause-passed
returns-clause-passed c = passed_rows_show_nothing
