use Rattle.std.proofs.Common.{◌≡◌, ◌++◌, length}
use Rattle.std.specs.List.{flat_map}
use Rattle.pcj_key.specs.Key.{byte_key}
use Rattle.pcj_key.proofs.join.push_part.Given as goal

abbrev pub invariant-loop-key : goal.invariant-loop-key
invariant-loop-key l = l.key.items ++ flat_map byte_key l.rest ≡ l.fn.key.items ++ flat_map byte_key l.part

abbrev pub decreases-loop-key : goal.decreases-loop-key
decreases-loop-key l = length l.rest
