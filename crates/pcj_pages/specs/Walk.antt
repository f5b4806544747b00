-- What walks look for in rows in ascending order.
use Rattle.std.specs.Prelude.{ℕ, Bool, List, filter, length, Option}
use Rattle.std.specs.List.{find}
use Rattle.std.specs.Option.{option_map}
use Rattle.pcj_table.specs.declared.found.Found.{Found}
use Rattle.pcj_table.specs.declared.row.Row.{Row}
use Rattle.pcj_table.specs.Table.{Key, found}
use Rattle.pcj_sorted.specs.Entries.{entries_of}

-- the first of some rows that passes a test
abbrev pub first_in : (Key × Row → Bool) → List Found → Option Found
first_in test rows = option_map found (find test (entries_of rows))

-- how many of some rows pass a test
abbrev pub count_in : (Key × Row → Bool) → List Found → ℕ
count_in test rows = length (filter test (entries_of rows))
