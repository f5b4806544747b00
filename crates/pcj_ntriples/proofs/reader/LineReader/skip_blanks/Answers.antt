use Rattle.std.proofs.Common.{sym, ◌∙◌}
use Rattle.pcj_ntriples.proofs.Taken.{skip_none}
use Rattle.pcj_ntriples.proofs.reader.LineReader.skip_blanks.Goals as goal

pub returns : goal.returns
returns c = sym (skip_none c.loop-self.self (sym c.starts_blank.ensures ∙ c.loop-self-test.false)) ∙ c.loop-self.invariant
