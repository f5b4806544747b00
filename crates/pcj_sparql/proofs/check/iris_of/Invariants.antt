use Rattle.std.proofs.Common.{◌≡◌, map, take}
use Rattle.pcj_sparql.specs.Reading.{iri_of}
use Rattle.pcj_sparql.proofs.check.iris_of.Given as goal

abbrev pub invariant-loop-declaration : goal.invariant-loop-declaration
invariant-loop-declaration l = l.iris ≡ map iri_of (take l.declaration-index l.declared)
