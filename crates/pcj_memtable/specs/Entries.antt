-- What a table in memory keeps.
use Rattle.std.specs.Prelude.{List}
use Rattle.pcj_io.specs.Calls.{Calls}
use Rattle.pcj_table.specs.declared.found.Found.{Found}

pub record Kept : Type 0 where
  pub rows : List Found
  pub calls : Calls
