use Rattle.std.proofs.Common.{length}
use Rattle.pcj_ntriples.proofs.NameSteps.{TagSoFar}
use Rattle.pcj_ntriples.proofs.reader.LineReader.tag.Given as goal

abbrev pub invariant-loop-character : goal.invariant-loop-character
invariant-loop-character l = TagSoFar l.tag.bytes.items l.digits l.some l.self l.fn.self

abbrev pub decreases-loop-character : goal.decreases-loop-character
decreases-loop-character l = length l.self
