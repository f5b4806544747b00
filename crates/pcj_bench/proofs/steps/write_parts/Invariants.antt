use Rattle.pcj_oracle.specs.Clock.{IsClock}
use Rattle.pcj_bench.proofs.steps.write_parts.Given as goal

abbrev pub invariant-loop-part : goal.invariant-loop-part
invariant-loop-part g l = IsClock l.oracle (g.T.RowTable.rows l.table)
