use Rattle.std.proofs.Common.{Option, sym, subst}
use Rattle.std.specs.FinMap.{empty}
use Rattle.pcj_oracle.specs.declared.block.Block.{Block}
use Rattle.pcj_oracle.specs.Clock.{IsClock}
use Rattle.pcj_step_cases.proofs.Begins.{nothing_fits}
use Rattle.pcj_step_cases.proofs.answer_case.Goals as goal

pub answer_words-requires : goal.answer_words-requires
answer_words-requires c =
    subst (IsClock c.new-scene.result.oracle) (sym c.new-table.ensures.empty)
    (subst (λ (oracle : Option Block). IsClock oracle empty) (sym c.new-scene.ensures) nothing_fits)
