use Rattle.pcj_moves.proofs.ChoiceLemmas.{reads_under_choice, numbers_stay}
use Rattle.pcj_moves.proofs.choices.reads_stand_under_choices.Goals as goal

pub returns-clause-choice : goal.returns-clause-choice
returns-clause-choice c = reads_under_choice

pub returns-clause-numbers : goal.returns-clause-numbers
returns-clause-numbers c = numbers_stay
