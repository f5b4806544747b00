use Rattle.pcj_choices.proofs.ClaimLemmas.{tests_stay_passed}
use Rattle.pcj_choices.proofs.choices.tests_stay_passed.Goals as goal

pub returns : goal.returns
returns c = tests_stay_passed
