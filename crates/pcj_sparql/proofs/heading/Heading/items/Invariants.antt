use Rattle.std.proofs.Common.{length}
use Rattle.pcj_sparql.proofs.HeadingRead.{ItemsLeft}
use Rattle.pcj_sparql.proofs.heading.Heading.items.Given as goal

abbrev pub invariant-loop-said : goal.invariant-loop-said
invariant-loop-said l = ItemsLeft l.fn.self.rest.now l.self.rest.now l.fn.found l.found

abbrev pub decreases-loop-said : goal.decreases-loop-said
decreases-loop-said l = length l.self.rest.now
