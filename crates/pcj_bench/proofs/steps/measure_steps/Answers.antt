use Rattle.std.proofs.Common.{Option, sym, subst}
use Rattle.std.specs.FinMap.{empty}
use Rattle.pcj_oracle.specs.declared.block.Block.{Block}
use Rattle.pcj_oracle.specs.Clock.{IsClock}
use Rattle.pcj_bench.proofs.Begins.{nothing_fits}
use Rattle.pcj_bench.proofs.steps.measure_steps.Goals as goal

pub write_rows-requires : goal.write_rows-requires
write_rows-requires g c =
    subst (IsClock c.new-oracle.result) (sym c.new-table.ensures.empty)
    (subst (λ (oracle : Option Block). IsClock oracle empty) (sym c.new-oracle.ensures) nothing_fits)
