use Rattle.pcj_choices.proofs.CommitLemmas.{choices_stand}
use Rattle.pcj_choices.proofs.choices.choices_stand.Goals as goal

pub returns : goal.returns
returns c = choices_stand
