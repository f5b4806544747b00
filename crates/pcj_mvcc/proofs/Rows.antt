-- Rows with another one at a key, and rows of a table.
use Rattle.std.proofs.Common.{◌≡◌, Bool, true, false, cond, Some, None, refl, ap, sym, subst, ◌∙◌}
use Rattle.std.specs.Option.{unwrap_or}
use Rattle.std.specs.FinMap as finmap
use Rattle.std.specs.FinMap.{get-insert, get-remove}
use Rattle.std.proofs.lemmas.Cmp.{nat_list_cmp_total}
use Rattle.pcj_term.specs.Order.{same_bytes}
use Rattle.pcj_term.proofs.ByteLemmas.{same_bytes_are, same_bytes_itself, is_eq-bytes_cmp}
use Rattle.pcj_table.specs.declared.row.Row.{Row}
use Rattle.pcj_table.specs.Row.{no_row, has_nothing}
use Rattle.pcj_table.specs.Table.{Key, Table, row_at, with_row}
use Rattle.pcj_table.proofs.RowLemmas.{no_row_is}
use Rattle.pcj_mvcc.specs.Reading.{Rows, put}

-- ---- rows with another one at a key

pub put_same : (rows : Rows) (key : Key) (row : Row) → put rows key row key ≡ row
put_same rows key row = rw (same_bytes_itself key) refl

pub put_other : (rows : Rows) (key : Key) (row : Row) (other : Key) → same_bytes other key ≡ false → put rows key row other ≡ rows other
put_other rows key row other differs = rw differs refl

-- what holds of the row at its key, and of the others, holds of each
pub put_each : (P : Key → Row → Type 0) (rows : Rows) (key : Key) (row : Row) → P key row → ((other : Key) → same_bytes other key ≡ false → P other (rows other)) → (other : Key) → P other (put rows key row other)
put_each P rows key row here there other = by (same_bytes other key) refl
  where
    by : (b : Bool) → same_bytes other key ≡ b → P other (cond b row (rows other))
    by true e = subst (λ k. P k row) (sym (same_bytes_are other key e)) here
    by false e = there other e

-- ---- rows of a table

pub with_row_puts : (table : Table) (key : Key) (row : Row) (other : Key) → row_at (with_row table key row) other ≡ put (row_at table) key row other
unfolding with_row
with_row_puts table key row other = by (has_nothing row) refl
  where
    gets : (b : Bool) → unwrap_or (cond b (Some row) (finmap.get table other)) no_row ≡ cond b row (row_at table other)
    gets true = refl
    gets false = refl

    drops : (b : Bool) → row ≡ no_row → unwrap_or (cond b None (finmap.get table other)) no_row ≡ cond b row (row_at table other)
    drops true e = sym e
    drops false e = refl

    by : (b : Bool) → has_nothing row ≡ b → row_at (cond b (finmap.remove table key) (finmap.insert table key row)) other ≡ put (row_at table) key row other
    by true none =
        ap (λ o. unwrap_or o no_row) (get-remove nat_list_cmp_total table key other ∙ ap (λ b. cond b None (finmap.get table other)) (is_eq-bytes_cmp other key))
        ∙ drops (same_bytes other key) (no_row_is row none)
    by false some =
        ap (λ o. unwrap_or o no_row) (get-insert nat_list_cmp_total table key row other ∙ ap (λ b. cond b (Some row) (finmap.get table other)) (is_eq-bytes_cmp other key))
        ∙ gets (same_bytes other key)

pub rows_alike : (rows others : Rows) → ((key : Key) → rows key ≡ others key) → rows ≡ others
rows_alike rows others alike = λ i. λ key. alike key i
