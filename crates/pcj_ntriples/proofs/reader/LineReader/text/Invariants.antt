use Rattle.std.proofs.Common.{length}
use Rattle.pcj_ntriples.proofs.ReaderSteps.{TextSoFar}
use Rattle.pcj_ntriples.proofs.reader.LineReader.text.Given as goal

abbrev pub invariant-loop-text : goal.invariant-loop-text
invariant-loop-text l = TextSoFar l.enclosure l.text.bytes.items l.self l.fn.self

abbrev pub decreases-loop-text : goal.decreases-loop-text
decreases-loop-text l = length l.self
