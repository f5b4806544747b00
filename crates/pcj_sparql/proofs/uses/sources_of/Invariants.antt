use Rattle.std.proofs.Common.{◌≡◌, map, take}
use Rattle.pcj_sparql.specs.Listing.{said_use}
use Rattle.pcj_sparql.proofs.uses.sources_of.Given as goal

abbrev pub invariant-loop-said : goal.invariant-loop-said
invariant-loop-said l = l.sources ≡ map said_use (take l.said-index l.items)
