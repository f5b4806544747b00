use Rattle.std.proofs.lemmas.Result.{IfOk-weaker}
use Rattle.pcj_tree.proofs.NodeLemmas.{reads_tree}
use Rattle.pcj_tree.proofs.reading.read_tree.Goals as goal

pub returns : goal.returns
returns c = IfOk-weaker c.tree_of.result _ _ (reads_tree c.args.bytes.now) c.tree_of.ensures
