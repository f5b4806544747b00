use Rattle.pcj_algebra.proofs.OneMatch.{matches_once}
use Rattle.pcj_algebra.proofs.laws.matches_at_most_once.Goals as goal

pub returns : goal.returns
returns c = matches_once
