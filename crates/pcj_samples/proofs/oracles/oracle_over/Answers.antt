use Rattle.std.proofs.Common.{Option, subst, sym}
use Rattle.pcj_oracle.specs.declared.block.Block.{Block}
use Rattle.pcj_oracle.specs.Clock.{IsClock}
use Rattle.pcj_samples.proofs.oracles.oracle_over.Goals as goal

pub returns : goal.returns
returns g c =
    subst (λ (oracle : Option Block). IsClock oracle (g.T.RowTable.rows c.args._table.now)) (sym c.new.ensures) (record { first = c.requires.first; last = c.requires.last; attached = tt })
