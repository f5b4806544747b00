use Rattle.pcj_moves.proofs.MoveLemmas.{empty_is_consistent, higher_is_consistent, step_is_consistent, run_is_consistent}
use Rattle.pcj_moves.proofs.ConsistencyLemmas.{move_is_consistent, moves_are_consistent}
use Rattle.pcj_moves.proofs.moves.moves_keep_consistency.Goals as goal

pub returns-clause-empty : goal.returns-clause-empty
returns-clause-empty c = empty_is_consistent

pub returns-clause-move_of_one : goal.returns-clause-move_of_one
returns-clause-move_of_one c = move_is_consistent

pub returns-clause-moves : goal.returns-clause-moves
returns-clause-moves c = moves_are_consistent

pub returns-clause-higher : goal.returns-clause-higher
returns-clause-higher c = higher_is_consistent

pub returns-clause-step : goal.returns-clause-step
returns-clause-step c = step_is_consistent

pub returns-clause-run : goal.returns-clause-run
returns-clause-run c = run_is_consistent
