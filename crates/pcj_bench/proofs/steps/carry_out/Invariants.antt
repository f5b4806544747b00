use Rattle.pcj_oracle.specs.Clock.{IsClock}
use Rattle.pcj_bench.proofs.steps.carry_out.Given as goal

abbrev pub invariant-loop : goal.invariant-loop
invariant-loop g l = IsClock l.oracle (g.T.RowTable.rows l.table)
