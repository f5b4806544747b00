use Rattle.pcj_moves.proofs.TraceLemmas.{row_stays, plain_stays}
use Rattle.pcj_moves.proofs.traces.other_writes_leave_traces.Goals as goal

pub returns-clause-row : goal.returns-clause-row
returns-clause-row c = row_stays

pub returns-clause-plain : goal.returns-clause-plain
returns-clause-plain c = plain_stays
