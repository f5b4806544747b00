use Rattle.std.proofs.Common.{◌≡◌, ◌++◌, length}
use Rattle.pcj_key.specs.Key.{key_of}
use Rattle.pcj_key.proofs.split.split_parts.Given as goal

abbrev pub invariant-loop-rest : goal.invariant-loop-rest
invariant-loop-rest l = l.key ≡ key_of l.parts.items ++ l.rest

abbrev pub decreases-loop-rest : goal.decreases-loop-rest
decreases-loop-rest l = length l.rest
