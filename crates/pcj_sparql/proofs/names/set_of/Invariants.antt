use Rattle.std.proofs.Common.{take}
use Rattle.pcj_translate.specs.Names.{IsSetOf}
use Rattle.pcj_sparql.proofs.names.set_of.Given as goal

abbrev pub invariant-loop-name : goal.invariant-loop-name
invariant-loop-name l = IsSetOf (take l.name-index l.names) l.set
