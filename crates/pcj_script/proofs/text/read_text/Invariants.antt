use Rattle.std.proofs.Common.{length}
use Rattle.pcj_script.proofs.TextLemmas.{ReadSoFar}
use Rattle.pcj_script.proofs.text.read_text.Given as goal

abbrev pub invariant-loop-line : goal.invariant-loop-line
invariant-loop-line l = ReadSoFar l.ended l.bytes l.rest l.size l.lines

abbrev pub decreases-loop-line : goal.decreases-loop-line
decreases-loop-line l = length l.rest
