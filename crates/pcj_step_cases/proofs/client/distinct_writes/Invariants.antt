use Rattle.std.proofs.Common.{◌≡◌, true}
use Rattle.pcj_moves.specs.Transactions.{are_distinct}
use Rattle.pcj_step_cases.proofs.client.distinct_writes.Given as goal

abbrev pub invariant-loop-key : goal.invariant-loop-key
invariant-loop-key l = are_distinct l.writes ≡ true
