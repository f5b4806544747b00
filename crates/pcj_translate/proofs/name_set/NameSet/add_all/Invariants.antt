use Rattle.std.proofs.Common.{◌≡◌, drop}
use Rattle.pcj_translate.specs.Names.{with_names}
use Rattle.pcj_translate.proofs.name_set.NameSet.add_all.Given as goal

abbrev pub invariant-loop-name : goal.invariant-loop-name
invariant-loop-name l = with_names l.self (drop l.name-index l.name-items) ≡ with_names l.fn.self l.fn.other
