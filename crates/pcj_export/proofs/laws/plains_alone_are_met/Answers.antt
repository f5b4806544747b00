use Rattle.pcj_export.proofs.WalkLemmas.{values_alone}
use Rattle.pcj_export.proofs.laws.plains_alone_are_met.Goals as goal

pub returns : goal.returns
returns c = values_alone
