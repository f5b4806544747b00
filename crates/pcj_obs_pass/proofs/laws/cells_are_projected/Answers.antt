use Rattle.pcj_obs_pass.proofs.CellLemmas.{cells_are_projected}
use Rattle.pcj_obs_pass.proofs.laws.cells_are_projected.Goals as goal

pub returns : goal.returns
returns c = cells_are_projected
