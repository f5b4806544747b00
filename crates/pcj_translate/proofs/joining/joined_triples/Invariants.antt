use Rattle.std.proofs.Common.{◌≡◌, drop}
use Rattle.pcj_translate.specs.Group.{joined_triples}
use Rattle.pcj_translate.proofs.joining.joined_triples.Given as goal

abbrev pub invariant-loop-triple : goal.invariant-loop-triple
invariant-loop-triple l = joined_triples l.joint (drop l.triple-index l.triples) ≡ joined_triples l.fn.first l.triples
