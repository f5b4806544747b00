-- A table: a finite map from keys to rows, in the order of the keys' bytes.
use Rattle.std.specs.Prelude.{◌≡◌, ℕ, Bool, true, false, cond, not, ◌&&◌, List, filter, length, Option, Some, None, is_some}
use Rattle.std.specs.List.{find}
use Rattle.std.specs.Option.{option_map, unwrap_or}
use Rattle.std.specs.FinMap as map
pub use Rattle.pcj_term.specs.Order.{bytes_cmp, is_before}
use Rattle.pcj_table.specs.declared.row.Row.{Row}
use Rattle.pcj_table.specs.declared.found.Found.{Found}
use Rattle.pcj_table.specs.declared.cond.Cond.{Cond}
use Rattle.pcj_table.specs.declared.update.Update.{Update}
use Rattle.pcj_table.specs.declared.mutated.Mutated.{Mutated}
use Rattle.pcj_table.specs.declared.mutated.Mutated.TheVariants.{Applied, Rejected}
use Rattle.pcj_table.specs.Row.{no_row, has_nothing, is_seen_at, is_counted, conds_hold, updated_all}

abbrev pub Key : Type 0
Key = List ℕ

abbrev pub Table : Type 0
Table = map.FinMap bytes_cmp Row

-- a key's row; that of a key that isn't there has nothing
abbrev pub row_at : Table → Key → Row
row_at table key = unwrap_or (map.get table key) no_row

-- the table with another row at one key, which isn't there where the row has nothing
unfoldable pub with_row : Table → Key → Row → Table
with_row table key row = cond (has_nothing row) (map.remove table key) (map.insert table key row)

-- a row as a read gives it
abbrev pub shown : Row → Option Row
shown row = cond (has_nothing row) None (Some row)

abbrev pub found : Key × Row → Found
found entry = record { key = entry.0; row = entry.1 }

-- the first row in the order of keys that passes a test
abbrev pub first_row : (Key × Row → Bool) → Table → Option Found
first_row test table = option_map found (find test (map.entries table))

abbrev pub is_between : Key → Key → Key → Bool
is_between after end key = is_before after key && is_before key end

abbrev pub is_from_to : Key → Key → Key → Bool
is_from_to from end key = not (is_before key from) && is_before key end

abbrev pub is_next_at : Key → Key → ℕ → Key × Row → Bool
is_next_at after end at entry = is_between after end entry.0 && is_seen_at at entry.1

abbrev pub is_next_lock : Key → Key × Row → Bool
is_next_lock after entry = is_before after entry.0 && is_some entry.1.lock

abbrev pub is_counted_between : Key → Key → Key × Row → Bool
is_counted_between from end entry = is_from_to from end entry.0 && is_counted entry.1

-- how many rows pass a test
abbrev pub rows_that : (Key × Row → Bool) → Table → ℕ
rows_that test table = length (filter test (map.entries table))

-- A mutation: where all conditions hold, its one row has the updates, and else nothing is changed.
abbrev pub Mutates : Table → Key → List Cond → List Update → Mutated → Table → Type 0
Mutates old key conds updates Applied new =
    (conds_hold (row_at old key) conds ≡ true) × (new ≡ with_row old key (updated_all (row_at old key) updates))
Mutates old key conds updates (Rejected row) new =
    (conds_hold (row_at old key) conds ≡ false) × (row ≡ row_at old key) × (new ≡ old)
