use Rattle.std.proofs.Common.{◌≡◌, length}
use Rattle.pcj_term.specs.Reading.{text_at, with_front}
use Rattle.pcj_term.proofs.read_text.text_at.Given as goal

abbrev pub invariant-loop-byte : goal.invariant-loop-byte
invariant-loop-byte l = with_front l.text.items (text_at l.rest) ≡ text_at l.fn.bytes

abbrev pub decreases-loop-byte : goal.decreases-loop-byte
decreases-loop-byte l = length l.rest
