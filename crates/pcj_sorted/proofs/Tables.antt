-- A vector of rows as a table: what a key has, and what an edit makes of it.
use Rattle.std.proofs.Common.{◌≡◌, ℕ, Result, Ok, Err, IfOk, OnErr, Bool, true, false, not, cond, T, List, [], length, None, refl, sym, ap, subst, ◌∙◌}
use Rattle.std.specs.List.{insert}
use Rattle.std.specs.Option.{unwrap_or}
use Rattle.std.specs.Ordering.{eq_by_cmp}
use Rattle.std.specs.declared.cmp.Ordering.TheVariants.{Equal}
use Rattle.std.specs.FinMap as finmap
use Rattle.std.specs.FinMap.{len-entries, empty_of_len, get-from_sorted, entries-from_sorted, entries-insert, same_entries_map, same_map, get-remove}
use Rattle.std.specs.FinMap.Entries.{find, put, where_key, is_sorted-put, is_sorted-where_key, find-where_key}
use Rattle.std.proofs.lemmas.Cmp.{nat_list_cmp_total, eq_by_cmp_equiv}
use Rattle.std.proofs.lemmas.List.{length-map}
use Rattle.std.proofs.lemmas.Float.{T_from_true}
use Rattle.pcj_table.specs.declared.found.Found.{Found}
use Rattle.pcj_table.specs.declared.row.Row.{Row}
use Rattle.pcj_table.specs.declared.cond.Cond.{Cond}
use Rattle.pcj_table.specs.declared.update.Update.{Update}
use Rattle.pcj_table.specs.declared.mutated.Mutated.{Mutated}
use Rattle.pcj_table.specs.declared.mutated.Mutated.TheVariants.{Applied, Rejected}
use Rattle.pcj_table.specs.Row.{no_row, has_nothing, conds_hold, updated_all}
use Rattle.pcj_table.specs.Table.{Key, row_at, with_row, Mutates}
use Rattle.pcj_sorted.specs.Entries.{entries_of, keys_rise, table_of, IsWithRow}
use Rattle.pcj_term.specs.declared.memory.Memory.{Memory}
use Rattle.pcj_term.specs.Order.{bytes_cmp}
use Rattle.pcj_term.proofs.ByteLemmas.{equal_bytes_are, same_bytes_are, is_eq-bytes_cmp}
use Rattle.pcj_term.proofs.BoolLemmas.{true_from_T}
use Rattle.pcj_sorted.specs.Place.{IsRowAt, IsGapAt}
use Rattle.pcj_sorted.specs.Edits.{row_in, with_row_at, with_new_row, Changes, Creates}
use Rattle.pcj_sorted.proofs.Edits.{find_row, find_gap, is_other, puts_row, insert_puts, keeps_others}

pub entries_are : (rows : List Found) → keys_rise rows ≡ true → finmap.entries (table_of rows) ≡ entries_of rows
entries_are rows sorted = entries-from_sorted bytes_cmp (entries_of rows) (T_from_true _ sorted)

got : (rows : List Found) (key : Key) → keys_rise rows ≡ true → finmap.get (table_of rows) key ≡ find bytes_cmp key (entries_of rows)
got rows key sorted = get-from_sorted bytes_cmp (entries_of rows) key (T_from_true _ sorted)

pub row_found : (key : Key) (rows : List Found) (at : ℕ) → keys_rise rows ≡ true → IsRowAt key rows at → row_at (table_of rows) key ≡ row_in rows at
row_found key rows at sorted is = ap (λ o. unwrap_or o no_row) (got rows key sorted ∙ find_row key rows at is)

pub row_missing : (key : Key) (rows : List Found) (at : ℕ) → keys_rise rows ≡ true → IsGapAt key rows at → row_at (table_of rows) key ≡ no_row
row_missing key rows at sorted is = ap (λ o. unwrap_or o no_row) (got rows key sorted ∙ find_gap key rows at sorted is)

-- ---- edits

with_put : (old new : List Found) (key : Key) (row : Row) → keys_rise old ≡ true → has_nothing row ≡ false → entries_of new ≡ put bytes_cmp key row (entries_of old) → IsWithRow old new key row
unfolding with_row
with_put old new key row sorted some e = record { sorted = sorted'; table = table }
  where
    sorted' : keys_rise new ≡ true
    sorted' = true_from_T _ (subst (λ es. T (finmap.is_sorted bytes_cmp es)) (sym e) (is_sorted-put bytes_cmp nat_list_cmp_total key row (entries_of old) (T_from_true _ sorted)))

    table : table_of new ≡ with_row (table_of old) key row
    table = rw some (same_entries_map (table_of new) (finmap.insert (table_of old) key row)
        (entries_are new sorted' ∙ e ∙ ap (put bytes_cmp key row) (sym (entries_are old sorted)) ∙ sym (entries-insert nat_list_cmp_total (table_of old) key row)))

cond_not : {A : Type 0} (b : Bool) (x y : A) → cond (not b) x y ≡ cond b y x
cond_not true x y = refl
cond_not false x y = refl

flipped : (key other : Key) → eq_by_cmp bytes_cmp key other ≡ eq_by_cmp bytes_cmp other key
flipped = (eq_by_cmp_equiv nat_list_cmp_total).symm

with_remove : (old : List Found) (at : ℕ) (key : Key) (row : Row) → keys_rise old ≡ true → has_nothing row ≡ true → IsRowAt key old at → IsWithRow old (with_row_at old at row) key row
unfolding with_row
with_remove old at key row sorted none is = record { sorted = sorted'; table = table }
  where
    e : entries_of (with_row_at old at row) ≡ where_key bytes_cmp (is_other key) (entries_of old)
    e = keeps_others key old at row sorted none is

    sorted' : keys_rise (with_row_at old at row) ≡ true
    sorted' = true_from_T _ (subst (λ es. T (finmap.is_sorted bytes_cmp es)) (sym e) (is_sorted-where_key bytes_cmp (is_other key) (entries_of old) (T_from_true _ sorted)))

    alike : (q x : Key) → bytes_cmp q x ≡ Equal → is_other key x ≡ is_other key q
    alike q x t = ap (λ k. is_other key k) (sym (equal_bytes_are q x t))

    gets : (q : Key) → finmap.get (table_of (with_row_at old at row)) q ≡ finmap.get (finmap.remove (table_of old) key) q
    gets q = got (with_row_at old at row) q sorted' ∙ ap (find bytes_cmp q) e ∙ find-where_key bytes_cmp (is_other key) q (alike q) (entries_of old)
        ∙ cond_not (eq_by_cmp bytes_cmp key q) _ _ ∙ ap (λ b. cond b None (find bytes_cmp q (entries_of old))) (flipped key q)
        ∙ ap (cond (eq_by_cmp bytes_cmp q key) None) (sym (got old q sorted)) ∙ sym (get-remove nat_list_cmp_total (table_of old) key q)

    table : table_of (with_row_at old at row) ≡ with_row (table_of old) key row
    table = rw none (same_map nat_list_cmp_total equal_bytes_are _ _ gets)

with_none : (old : List Found) (at : ℕ) (key : Key) (row : Row) → keys_rise old ≡ true → has_nothing row ≡ true → IsGapAt key old at → IsWithRow old old key row
unfolding with_row
with_none old at key row sorted none is = record { sorted = sorted; table = rw none (same_map nat_list_cmp_total equal_bytes_are _ _ gets) }
  where
    missing : finmap.get (table_of old) key ≡ None
    missing = got old key sorted ∙ find_gap key old at sorted is

    by : (q : Key) (b : Bool) → eq_by_cmp bytes_cmp q key ≡ b → finmap.get (table_of old) q ≡ cond b None (finmap.get (table_of old) q)
    by q true e = ap (finmap.get (table_of old)) (same_bytes_are q key (sym (is_eq-bytes_cmp q key) ∙ e)) ∙ missing
    by q false e = refl

    gets : (q : Key) → finmap.get (table_of old) q ≡ finmap.get (finmap.remove (table_of old) key) q
    gets q = by q (eq_by_cmp bytes_cmp q key) refl ∙ sym (get-remove nat_list_cmp_total (table_of old) key q)

-- ---- mutations at a place

pub changed : (key : Key) (old : List Found) (at : ℕ) (row : Row) → keys_rise old ≡ true → IsRowAt key old at → IsWithRow old (with_row_at old at row) key row
changed key old at row sorted is = by (has_nothing row) refl
  where
    by : (b : Bool) → has_nothing row ≡ b → IsWithRow old (with_row_at old at row) key row
    by true none = with_remove old at key row sorted none is
    by false some = with_put old (with_row_at old at row) key row sorted some (puts_row key old at row some is)

pub created : (key : Key) (old : List Found) (at : ℕ) (row : Row) → keys_rise old ≡ true → IsGapAt key old at → IsWithRow old (with_new_row old at key row) key row
created key old at row sorted is = by (has_nothing row) refl
  where
    by : (b : Bool) → has_nothing row ≡ b → IsWithRow old (cond b old (insert old at (record { key = key; row = row }))) key row
    by true none = with_none old at key row sorted none is
    by false some = with_put old (insert old at (record { key = key; row = row })) key row sorted some (insert_puts key old at (record { key = key; row = row }) is refl)

pub changes_mutate : (key : Key) (old new : List Found) (at : ℕ) (conds : List Cond) (updates : List Update) → keys_rise old ≡ true → IsRowAt key old at → (done : Mutated) → Changes old at conds updates done new → Mutates (table_of old) key conds updates done (table_of new)
changes_mutate key old new at conds updates sorted is Applied made =
    let row = row_found key old at sorted is in
    (ap (λ r. conds_hold r conds) row ∙ made.0, ap table_of made.1 ∙ (changed key old at (updated_all (row_in old at) updates) sorted is).table ∙ ap (λ r. with_row (table_of old) key (updated_all r updates)) (sym row))
changes_mutate key old new at conds updates sorted is (Rejected row) made =
    let same = row_found key old at sorted is in
    (ap (λ r. conds_hold r conds) same ∙ made.0, made.1 ∙ sym same, ap table_of made.2)

pub changes_rise : (key : Key) (old new : List Found) (at : ℕ) (conds : List Cond) (updates : List Update) → keys_rise old ≡ true → IsRowAt key old at → (done : Mutated) → Changes old at conds updates done new → keys_rise new ≡ true
changes_rise key old new at conds updates sorted is Applied made = ap keys_rise made.1 ∙ (changed key old at (updated_all (row_in old at) updates) sorted is).sorted
changes_rise key old new at conds updates sorted is (Rejected row) made = ap keys_rise made.2 ∙ sorted

pub creates_mutate : (key : Key) (old new : List Found) (at : ℕ) (conds : List Cond) (updates : List Update) → keys_rise old ≡ true → IsGapAt key old at → (done : Mutated) → Creates old at key conds updates done new → Mutates (table_of old) key conds updates done (table_of new)
creates_mutate key old new at conds updates sorted is Applied made =
    let row = row_missing key old at sorted is in
    (ap (λ r. conds_hold r conds) row ∙ made.0, ap table_of made.1 ∙ (created key old at (updated_all no_row updates) sorted is).table ∙ ap (λ r. with_row (table_of old) key (updated_all r updates)) (sym row))
creates_mutate key old new at conds updates sorted is (Rejected row) made =
    let same = row_missing key old at sorted is in
    (ap (λ r. conds_hold r conds) same ∙ made.0, made.1 ∙ sym same, ap table_of made.2)

pub creates_rise : (key : Key) (old new : List Found) (at : ℕ) (conds : List Cond) (updates : List Update) → keys_rise old ≡ true → IsGapAt key old at → (done : Mutated) → Creates old at key conds updates done new → keys_rise new ≡ true
creates_rise key old new at conds updates sorted is Applied made = ap keys_rise made.1 ∙ (created key old at (updated_all no_row updates) sorted is).sorted
creates_rise key old new at conds updates sorted is (Rejected row) made = ap keys_rise made.2 ∙ sorted

-- rows rise after a call that changes them so that they do, or else leaves them
pub rise_after : {A : Type 0} {Done : A → Type 0} (result : Result A Memory) (old new : List Found) → keys_rise old ≡ true → ((done : A) → Done done → keys_rise new ≡ true) →
    IfOk result Done → OnErr result (new ≡ old) → keys_rise new ≡ true
rise_after (Ok done) old new sorted rise made same = rise done made
rise_after (Err e) old new sorted rise made same = ap keys_rise same ∙ sorted

-- a table has as many keys as there are rows
pub as_many : (rows : List Found) → keys_rise rows ≡ true → finmap.len (table_of rows) ≡ length rows
as_many rows sorted = len-entries (table_of rows) ∙ ap length (entries_are rows sorted) ∙ length-map rows (λ row. (row.key, row.row))

-- no rows are the table without keys
pub no_rows : table_of [] ≡ finmap.empty
no_rows = empty_of_len (table_of []) (as_many [] refl)
