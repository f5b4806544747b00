-- Tables with which a case begins.
use Rattle.std.specs.Prelude.{◌≤◌, ◌^◌}
use Rattle.pcj_table.specs.Table.{Table, row_at}
use Rattle.pcj_oracle.specs.Clock.{stored_number}
use Rattle.pcj_fit.specs.Laws.{HasClockAlone}

-- no row is there but the clock's, and its number is from 1 to 2^48
pub record IsFresh (table : Table) : Type 0 where
  pub alone : HasClockAlone (row_at table)
  pub first : 1 ≤ stored_number table
  pub last : stored_number table ≤ 2 ^ 48
