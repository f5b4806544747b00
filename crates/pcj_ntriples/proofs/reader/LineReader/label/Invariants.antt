use Rattle.std.proofs.Common.{length}
use Rattle.pcj_ntriples.proofs.NameSteps.{LabelSoFar}
use Rattle.pcj_ntriples.proofs.reader.LineReader.label.Given as goal

abbrev pub invariant-loop-character : goal.invariant-loop-character
invariant-loop-character l = LabelSoFar l.label.bytes.items l.kept l.after l.self l.fn.self

abbrev pub decreases-loop-character : goal.decreases-loop-character
decreases-loop-character l = length l.self
