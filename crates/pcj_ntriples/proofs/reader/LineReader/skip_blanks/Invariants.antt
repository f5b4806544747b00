use Rattle.std.proofs.Common.{◌≡◌, length}
use Rattle.pcj_ntriples.specs.LineReading.{skip_blanks}
use Rattle.pcj_ntriples.proofs.reader.LineReader.skip_blanks.Given as goal

abbrev pub invariant-loop-self : goal.invariant-loop-self
invariant-loop-self l = skip_blanks l.self ≡ skip_blanks l.fn.self

abbrev pub decreases-loop-self : goal.decreases-loop-self
decreases-loop-self l = length l.self
