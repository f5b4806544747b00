use Rattle.std.proofs.lemmas.Result.{IfOk-weaker}
use Rattle.pcj_tree.proofs.SplitLemmas.{is_split}
use Rattle.pcj_tree.proofs.fields.split_of.Goals as goal

pub returns : goal.returns
returns c = IfOk-weaker c.split_parts.result _ _ (is_split c.args.bytes.now) c.split_parts.ensures
