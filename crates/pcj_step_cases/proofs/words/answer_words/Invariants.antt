use Rattle.pcj_oracle.specs.Clock.{IsClock}
use Rattle.pcj_step_cases.proofs.words.answer_words.Given as goal

abbrev pub invariant-loop-word : goal.invariant-loop-word
invariant-loop-word g l = IsClock l.scene.oracle (g.T.RowTable.rows l.table)
