use Rattle.pcj_obs_pattern.proofs.AskLemmas.{asks_are_one}
use Rattle.pcj_obs_pattern.proofs.laws.asks_are_one.Goals as goal

pub returns : goal.returns
returns c = asks_are_one
