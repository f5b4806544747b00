use Rattle.std.proofs.lemmas.Result.{IfOk-weaker}
use Rattle.pcj_encode.proofs.Cells.{term_read}
use Rattle.pcj_tree.proofs.fields.term_of.Goals as goal

pub returns : goal.returns
returns c = IfOk-weaker c.read_term.result _ _ (term_read c.args.part.now) c.read_term.ensures
