use Rattle.pcj_oracle.specs.Clock.{IsClock}
use Rattle.pcj_bench.proofs.loads.load_documents.Given as goal

abbrev pub invariant-loop-document : goal.invariant-loop-document
invariant-loop-document g l = IsClock l.oracle (g.T.RowTable.rows l.table)
