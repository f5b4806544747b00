use Rattle.std.proofs.Common.{◌≡◌, map, take}
use Rattle.pcj_sparql.specs.Listing.{said_name_in}
use Rattle.pcj_sparql.proofs.names.item_names.Given as goal

abbrev pub invariant-loop-said : goal.invariant-loop-said
invariant-loop-said l = l.names ≡ map (said_name_in l.text) (take l.said-index l.items)
