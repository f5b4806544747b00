use Rattle.pcj_moves.proofs.ReadLemmas.{row_is_read, empty_range_is_read, next_row_is_read}
use Rattle.pcj_moves.proofs.reads.reads_meet_no_lock.Goals as goal

pub returns-clause-row : goal.returns-clause-row
returns-clause-row c = row_is_read

pub returns-clause-none : goal.returns-clause-none
returns-clause-none c = empty_range_is_read

pub returns-clause-next : goal.returns-clause-next
returns-clause-next c = next_row_is_read
