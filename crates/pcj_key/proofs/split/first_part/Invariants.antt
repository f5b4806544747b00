use Rattle.std.proofs.Common.{◌≡◌, false, length}
use Rattle.pcj_term.specs.Reading.{with_front}
use Rattle.pcj_key.specs.Reading.{first_part}
use Rattle.pcj_key.proofs.split.first_part.Given as goal

abbrev pub invariant-loop-byte : goal.invariant-loop-byte
invariant-loop-byte l = with_front l.part.items (first_part false l.rest) ≡ first_part false l.fn.key

abbrev pub decreases-loop-byte : goal.decreases-loop-byte
decreases-loop-byte l = length l.rest
