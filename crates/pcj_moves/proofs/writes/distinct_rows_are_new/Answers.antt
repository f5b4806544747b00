use Rattle.pcj_moves.proofs.WriteLemmas.{distinct_are_new, distinct_are_there, distinct_are_secondary, next_is_new, undrawn_is_undone}
use Rattle.pcj_moves.proofs.writes.distinct_rows_are_new.Goals as goal

pub returns-clause-new : goal.returns-clause-new
returns-clause-new c = distinct_are_new

pub returns-clause-there : goal.returns-clause-there
returns-clause-there c = distinct_are_there

pub returns-clause-secondary : goal.returns-clause-secondary
returns-clause-secondary c = distinct_are_secondary

pub returns-clause-next : goal.returns-clause-next
returns-clause-next c = next_is_new

pub returns-clause-undone : goal.returns-clause-undone
returns-clause-undone c = undrawn_is_undone
