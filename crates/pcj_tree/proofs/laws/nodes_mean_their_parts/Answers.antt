use Rattle.pcj_tree.proofs.MeaningLemmas.{nodes_mean_parts}
use Rattle.pcj_tree.proofs.laws.nodes_mean_their_parts.Goals as goal

pub returns : goal.returns
returns c = nodes_mean_parts
