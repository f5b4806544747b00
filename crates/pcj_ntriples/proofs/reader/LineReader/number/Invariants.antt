use Rattle.pcj_ntriples.proofs.ReaderSteps.{DigitsLeft}
use Rattle.pcj_ntriples.proofs.reader.LineReader.number.Given as goal

abbrev pub invariant-loop : goal.invariant-loop
invariant-loop l = DigitsLeft l.fn.digits l.counter l.number l.self l.fn.self
