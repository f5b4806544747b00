use Rattle.pcj_choices.proofs.ActLemmas.{acts_leave_ripe, acts_under_choice}
use Rattle.pcj_choices.proofs.choices.acts_stay_under_choices.Goals as goal

pub returns-clause-acts : goal.returns-clause-acts
returns-clause-acts c = acts_under_choice

pub returns-clause-ripe : goal.returns-clause-ripe
returns-clause-ripe c = acts_leave_ripe
