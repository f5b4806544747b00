use Rattle.std.proofs.Common.{◌≡◌, ◌++◌, drop}
use Rattle.pcj_key.specs.Key.{key_of}
use Rattle.pcj_key.proofs.join.join_parts.Given as goal

abbrev pub invariant-loop-part : goal.invariant-loop-part
invariant-loop-part l = l.key.items ++ key_of (drop l.part-index l.parts) ≡ key_of l.parts
