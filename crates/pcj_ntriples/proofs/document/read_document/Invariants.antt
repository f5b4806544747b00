use Rattle.std.proofs.Common.{length}
use Rattle.pcj_ntriples.proofs.Laws.{ReadSoFar}
use Rattle.pcj_ntriples.proofs.document.read_document.Given as goal

abbrev pub invariant-loop-rest : goal.invariant-loop-rest
invariant-loop-rest l = ReadSoFar l.fn.text l.rest l.fn.load l.number l.triples.keys

abbrev pub decreases-loop-rest : goal.decreases-loop-rest
decreases-loop-rest l = length l.rest
