-- Numbers that are drawn.
use Rattle.std.specs.Prelude.{◌≡◌, ◌^◌, Option}
use Rattle.pcj_table.specs.Table.{Table}
use Rattle.pcj_oracle.specs.declared.block.Block.{Block}
use Rattle.pcj_oracle.specs.Clock.{next_number}

-- none is left: the next number is 2^48
abbrev pub AreSpent : Option Block → Table → Type 0
AreSpent oracle table = next_number oracle table ≡ 2 ^ 48
