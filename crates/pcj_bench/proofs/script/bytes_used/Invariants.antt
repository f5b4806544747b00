use Rattle.std.proofs.Common.{◌+◌, ◌-◌, ◌≤◌, length}
use Rattle.pcj_bench.proofs.script.bytes_used.Given as goal

abbrev pub invariant-loop-used : goal.invariant-loop-used
invariant-loop-used l = (l.at ≤ length l.text) × (l.line ≤ l.at + 1)

abbrev pub decreases-loop-used : goal.decreases-loop-used
decreases-loop-used l = length l.text - l.at
