use Rattle.std.proofs.Common.{length}
use Rattle.pcj_case_lines.proofs.FieldLemmas.{GoesOn}
use Rattle.pcj_case_lines.proofs.field.read_field.Given as goal

abbrev pub invariant-loop-byte : goal.invariant-loop-byte
invariant-loop-byte l = GoesOn l.line l.field l.rest

abbrev pub decreases-loop-byte : goal.decreases-loop-byte
decreases-loop-byte l = length l.rest
