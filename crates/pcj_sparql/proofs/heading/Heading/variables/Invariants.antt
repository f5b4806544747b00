use Rattle.std.proofs.Common.{length}
use Rattle.pcj_sparql.proofs.HeadingRead.{KeysLeft}
use Rattle.pcj_sparql.proofs.heading.Heading.variables.Given as goal

abbrev pub invariant-loop-lexeme : goal.invariant-loop-lexeme
invariant-loop-lexeme l = KeysLeft l.fn.self.rest.now l.self.rest.now l.fn.found l.found

abbrev pub decreases-loop-lexeme : goal.decreases-loop-lexeme
decreases-loop-lexeme l = length l.self.rest.now
