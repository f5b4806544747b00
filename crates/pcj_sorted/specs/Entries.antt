-- Rows in ascending order of keys, as a table.
use Rattle.std.specs.Prelude.{◌≡◌, Bool, true, false, List, [], ◌∷◌, map}
use Rattle.std.specs.FinMap.{is_sorted}
use Rattle.std.specs.FinMap as finmap
use Rattle.pcj_term.specs.Order.{bytes_cmp}
use Rattle.pcj_table.specs.declared.found.Found.{Found}
use Rattle.pcj_table.specs.declared.row.Row.{Row}
use Rattle.pcj_table.specs.declared.update.Update.{Update}
use Rattle.pcj_table.specs.declared.update.Update.TheVariants.{SetLock, DropLock, AddVersion, SetPlain}
use Rattle.pcj_table.specs.Table.{Key, Table, with_row}

abbrev pub entries_of : List Found → List (Key × Row)
entries_of rows = map (λ row. (row.key, row.row)) rows

abbrev pub keys_rise : List Found → Bool
keys_rise rows = is_sorted bytes_cmp (entries_of rows)

abbrev pub table_of : List Found → Table
table_of rows = finmap.from_sorted (entries_of rows)

-- the rows are those of old with another row at one key, and their keys rise
pub record IsWithRow (old new : List Found) (key : Key) (row : Row) : Type 0 where
  pub sorted : keys_rise new ≡ true
  pub table : table_of new ≡ with_row (table_of old) key row

abbrev pub only_drops_lock : List Update → Bool
only_drops_lock [] = false
only_drops_lock (SetLock lock ∷ updates) = false
only_drops_lock (DropLock ∷ []) = true
only_drops_lock (DropLock ∷ next ∷ updates) = false
only_drops_lock (AddVersion version ∷ updates) = false
only_drops_lock (SetPlain plain ∷ updates) = false
