use Rattle.pcj_moves.proofs.StandingLemmas.{none_stands, all_stand, all_are_seen}
use Rattle.pcj_moves.proofs.standing.all_rows_stand_or_none.Goals as goal

pub returns-clause-none : goal.returns-clause-none
returns-clause-none c = none_stands

pub returns-clause-all : goal.returns-clause-all
returns-clause-all c = all_stand

pub returns-clause-seen : goal.returns-clause-seen
returns-clause-seen c = all_are_seen
