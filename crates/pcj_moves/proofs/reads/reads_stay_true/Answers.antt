use Rattle.pcj_moves.proofs.ReadLemmas.{answer_stays_read, nothing_stays_read, held_stays_read, move_leaves_read, moves_leave_read, run_leaves_read}
use Rattle.pcj_moves.proofs.reads.reads_stay_true.Goals as goal

pub returns-clause-answer : goal.returns-clause-answer
returns-clause-answer c = answer_stays_read

pub returns-clause-nothing : goal.returns-clause-nothing
returns-clause-nothing c = nothing_stays_read

pub returns-clause-held : goal.returns-clause-held
returns-clause-held c = held_stays_read

pub returns-clause-move_of_one : goal.returns-clause-move_of_one
returns-clause-move_of_one c = move_leaves_read

pub returns-clause-moves : goal.returns-clause-moves
returns-clause-moves c = moves_leave_read

pub returns-clause-run : goal.returns-clause-run
returns-clause-run c = run_leaves_read
