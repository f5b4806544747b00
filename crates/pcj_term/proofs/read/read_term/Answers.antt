use Rattle.std.proofs.lemmas.Result.{IfOk-weaker}
use Rattle.pcj_term.proofs.Reading.{reads}
use Rattle.pcj_term.proofs.read.read_term.Goals as goal

pub returns : goal.returns
returns c = IfOk-weaker c.term_of.result _ _ (reads c.args.bytes.now) c.term_of.ensures
