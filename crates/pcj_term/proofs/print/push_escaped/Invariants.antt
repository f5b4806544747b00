use Rattle.std.proofs.Common.{◌≡◌, ◌++◌, length}
use Rattle.std.specs.Io.{StartsWith}
use Rattle.pcj_term.specs.Term.{escaped}
use Rattle.pcj_term.proofs.print.push_escaped.Given as goal

abbrev pub invariant-loop-byte : goal.invariant-loop-byte
invariant-loop-byte l = record { pushed : l.out ++ escaped l.rest ≡ l.fn.out ++ escaped l.text; kept : StartsWith l.out l.fn.out }

abbrev pub decreases-loop-byte : goal.decreases-loop-byte
decreases-loop-byte l = length l.rest
