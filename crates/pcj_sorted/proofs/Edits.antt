-- What is found among rows in ascending order of keys, and what an edit at a place does.
use Rattle.std.proofs.Common.{◌≡◌, ◌<◌, ℕ, zero, suc, Bool, true, false, not, List, [], ◌∷◌, length, get_or, set, Some, None, refl, sym, ap, subst, arith}
use Rattle.std.specs.List.{insert, remove}
use Rattle.std.specs.Ordering.{eq_by_cmp}
use Rattle.std.specs.declared.cmp.Ordering.TheVariants.{Less, Equal}
use Rattle.std.specs.FinMap.Entries.{below_all, find, put, where_key}
use Rattle.std.proofs.lemmas.Cmp.{nat_list_cmp_total}
use Rattle.std.proofs.lemmas.Bool.{and_parts}
use Rattle.pcj_table.specs.declared.found.Found.{Found}
use Rattle.pcj_table.specs.declared.row.Row.{Row}
use Rattle.pcj_table.specs.Row.{has_nothing}
use Rattle.pcj_table.specs.Table.{Key}
use Rattle.pcj_sorted.specs.Edits.{row_in, with_row_at}
use Rattle.pcj_sorted.specs.Entries.{entries_of, keys_rise}
use Rattle.pcj_term.specs.Order.{bytes_cmp}
use Rattle.pcj_term.proofs.ByteLemmas.{above_is, less_is, bytes_cmp_itself}
use Rattle.pcj_sorted.specs.Place.{IsRowAt, IsGapAt}

pub equals : (key other : Key) → other ≡ key → bytes_cmp key other ≡ Equal
equals key other same = subst (λ k. bytes_cmp key k ≡ Equal) (sym same) (bytes_cmp_itself key)

pub find_row : (key : Key) (rows : List Found) (at : ℕ) → IsRowAt key rows at → find bytes_cmp key (entries_of rows) ≡ Some (row_in rows at)
find_row key [] at is = absurd is
find_row key (row ∷ rows) zero is = rw (equals key row.key is) refl
find_row key (row ∷ rows) (suc at) is = rw (above_is row.key key is.0) (find_row key rows at is.1)

find_above : (key low : Key) (rows : List Found) → bytes_cmp key low ≡ Less → below_all bytes_cmp low (entries_of rows) ≡ true → find bytes_cmp key (entries_of rows) ≡ None
find_above key low [] lt below = refl
find_above key low (row ∷ rows) lt below =
    let above = nat_list_cmp_total.trans key low row.key lt (less_is _ (and_parts _ _ below).0) in
    rw above (find_above key low rows lt (and_parts _ _ below).1)

pub find_gap : (key : Key) (rows : List Found) (at : ℕ) → keys_rise rows ≡ true → IsGapAt key rows at → find bytes_cmp key (entries_of rows) ≡ None
find_gap key [] at sorted is = refl
find_gap key (row ∷ rows) zero sorted is = rw is (find_above key row.key rows is (and_parts _ _ sorted).0)
find_gap key (row ∷ rows) (suc at) sorted is = rw (above_is row.key key is.0) (find_gap key rows at (and_parts _ _ sorted).1 is.1)

pub puts_row : (key : Key) (rows : List Found) (at : ℕ) (row : Row) → has_nothing row ≡ false → IsRowAt key rows at → entries_of (with_row_at rows at row) ≡ put bytes_cmp key row (entries_of rows)
puts_row key [] at row some is = absurd is
puts_row key (found ∷ rows) zero row some is = rw some (rw (equals key found.key is) (ap (λ k. (k, row) ∷ entries_of rows) refl))
puts_row key (found ∷ rows) (suc at) row some is = rw (above_is found.key key is.0) (ap (λ es. (found.key, found.row) ∷ es) (puts_row key rows at row some is.1))

pub insert_puts : (key : Key) (rows : List Found) (at : ℕ) (new : Found) → IsGapAt key rows at → new.key ≡ key → entries_of (insert rows at new) ≡ put bytes_cmp key new.row (entries_of rows)
insert_puts key [] zero new is same = ap (λ k. (k, new.row) ∷ []) same
insert_puts key [] (suc at) new is same = absurd (omega arith)
insert_puts key (row ∷ rows) zero new is same = rw is (ap (λ k. (k, new.row) ∷ (row.key, row.row) ∷ entries_of rows) same)
insert_puts key (row ∷ rows) (suc at) new is same = rw (above_is row.key key is.0) (ap (λ es. (row.key, row.row) ∷ es) (insert_puts key rows at new is.1 same))

abbrev pub is_other : Key → Key → Bool
is_other key other = not (eq_by_cmp bytes_cmp key other)

keeps_above : (key low : Key) (rows : List Found) → low ≡ key → below_all bytes_cmp low (entries_of rows) ≡ true → where_key bytes_cmp (is_other key) (entries_of rows) ≡ entries_of rows
keeps_above key low [] same below = refl
keeps_above key low (row ∷ rows) same below =
    let above = subst (λ k. bytes_cmp k row.key ≡ Less) same (less_is _ (and_parts _ _ below).0) in
    rw above (ap (λ es. (row.key, row.row) ∷ es) (keeps_above key low rows same (and_parts _ _ below).1))

pub keeps_others : (key : Key) (rows : List Found) (at : ℕ) (row : Row) → keys_rise rows ≡ true → has_nothing row ≡ true → IsRowAt key rows at → entries_of (with_row_at rows at row) ≡ where_key bytes_cmp (is_other key) (entries_of rows)
keeps_others key [] at row sorted none is = absurd is
keeps_others key (found ∷ rows) zero row sorted none is = rw none (rw (equals key found.key is) (sym (keeps_above key found.key rows is (and_parts _ _ sorted).0)))
keeps_others key (found ∷ rows) (suc at) row sorted none is = rw (above_is found.key key is.0) (ap (λ es. (found.key, found.row) ∷ es) (keeps_others key rows at row (and_parts _ _ sorted).1 none is.1))

-- ---- what the code does at a place

pub row_in_is : (rows : List Found) (at : ℕ) (d : Found) → at < length rows → row_in rows at ≡ (get_or rows at d).row
row_in_is [] at d lt = absurd (omega arith)
row_in_is (found ∷ rows) zero d lt = refl
row_in_is (found ∷ rows) (suc at) d lt = row_in_is rows at d (omega arith)

pub remove_is : (rows : List Found) (at : ℕ) (row : Row) → at < length rows → has_nothing row ≡ true → remove rows at ≡ with_row_at rows at row
remove_is [] at row lt none = absurd (omega arith)
remove_is (found ∷ rows) zero row lt none = rw none refl
remove_is (found ∷ rows) (suc at) row lt none = ap (λ fs. found ∷ fs) (remove_is rows at row (omega arith) none)

pub set_is : (rows : List Found) (at : ℕ) (key : Key) (row : Row) (d : Found) → at < length rows → has_nothing row ≡ false → key ≡ (get_or rows at d).key → set rows at (record { key = key; row = row }) ≡ with_row_at rows at row
set_is [] at key row d lt some same = absurd (omega arith)
set_is (found ∷ rows) zero key row d lt some same = rw some (ap (λ k. record { key = k; row = row } ∷ rows) same)
set_is (found ∷ rows) (suc at) key row d lt some same = ap (λ fs. found ∷ fs) (set_is rows at key row d (omega arith) some same)
