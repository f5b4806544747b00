use Rattle.std.proofs.Common.{length}
use Rattle.pcj_sparql.proofs.HeadingRead.{DeclaredLeft}
use Rattle.pcj_sparql.proofs.heading.Heading.declarations.Given as goal

abbrev pub invariant-loop-declared : goal.invariant-loop-declared
invariant-loop-declared l = DeclaredLeft l.fn.self.rest.now l.self.rest.now l.fn.found l.found

abbrev pub decreases-loop-declared : goal.decreases-loop-declared
decreases-loop-declared l = length l.self.rest.now
