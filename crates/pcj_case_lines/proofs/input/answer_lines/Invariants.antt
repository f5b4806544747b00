use Rattle.std.proofs.Common.{◌≤◌}
use Rattle.pcj_case_lines.proofs.input.answer_lines.Given as goal

abbrev pub invariant-loop-line : goal.invariant-loop-line
invariant-loop-line g l = l.tally.unanswered ≤ l.tally.lines
