-- The rows of a table in the order of their keys.
use Rattle.std.proofs.Common.{◌≡◌, ◌⊎◌, inl, inr, Bool, true, false, cond, List, [], ◌∷◌, find, Option, Some, None, refl, ap, sym, subst, ◌∙◌}
use Rattle.std.specs.List.{Contains}
use Rattle.std.specs.Option.{option_map, unwrap_or}
use Rattle.std.specs.Ordering.{is_eq, ordering_reverse}
use Rattle.std.specs.Cmp.{tied_itself}
use Rattle.std.specs.declared.cmp.Ordering.TheVariants.{Less}
use Rattle.std.specs.FinMap as finmap
use Rattle.std.specs.FinMap.{entries_sorted, get-entries}
use Rattle.std.specs.FinMap.Entries as entries
use Rattle.std.specs.FinMap.Entries.{below_all, is_sorted}
use Rattle.std.proofs.lemmas.Cmp.{nat_list_cmp_total}
use Rattle.std.proofs.lemmas.Bool.{and_parts, cond-true, cond-false}
use Rattle.pcj_term.specs.Order.{bytes_cmp}
use Rattle.pcj_term.proofs.ByteLemmas.{same_bytes_are, less_is, is_eq-bytes_cmp}
use Rattle.pcj_term.proofs.BoolLemmas.{true_from_T}
use Rattle.pcj_term.proofs.ListLemmas.{nothing_in, first_or_later, first_there, later_there}
use Rattle.pcj_term.proofs.OptionLemmas.{map_some}
use Rattle.pcj_table.specs.declared.row.Row.{Row}
use Rattle.pcj_table.specs.declared.found.Found.{Found}
use Rattle.pcj_table.specs.Row.{no_row, has_nothing}
use Rattle.pcj_table.specs.Table.{Key, Table, row_at, found, first_row}

abbrev pub Entry : Type 0
Entry = Key × Row

-- ---- entries in ascending order of keys

-- each key of the entries is above one that is below them all
pub above_low : (low : Key) (es : List Entry) (entry : Entry) → below_all bytes_cmp low es ≡ true → Contains es entry → bytes_cmp low entry.0 ≡ Less
above_low low [] entry all there = absurd (nothing_in entry there)
above_low low (first ∷ es) entry all there = elim (first_or_later first es entry there) [
  | inl here ↦ subst (λ (e : Entry). bytes_cmp low e.0 ≡ Less) here (less_is _ (and_parts _ _ all).0)
  | inr later ↦ above_low low es entry (and_parts _ _ all).1 later
]

pub found_there : (test : Entry → Bool) (es : List Entry) (entry : Entry) → find test es ≡ Some entry → Contains es entry × (test entry ≡ true)
found_there test [] entry is = absurd cc
found_there test (first ∷ es) entry is = by (test first) refl is (λ later. found_there test es entry later)
  where
    by : (b : Bool) → test first ≡ b → cond b (Some first) (find test es) ≡ Some entry → (find test es ≡ Some entry → Contains es entry × (test entry ≡ true)) → Contains (first ∷ es) entry × (test entry ≡ true)
    by true passes is later = let same : first ≡ entry = cc in (subst (λ e. Contains (first ∷ es) e) same (first_there first es), subst (λ e. test e ≡ true) same passes)
    by false fails is later = let rest = later is in (later_there first es entry rest.0, rest.1)

-- ---- the rows of a table

-- where keys rise, a look-up gives the row that stands with the key
pub looked_up : (es : List Entry) (entry : Entry) → is_sorted bytes_cmp es ≡ true → Contains es entry → entries.find bytes_cmp entry.0 es ≡ Some entry.1
looked_up [] entry sorted there = absurd (nothing_in entry there)
looked_up (first ∷ es) entry sorted there = elim (first_or_later first es entry there) [
  | inl here ↦ subst (λ (e : Entry). entries.find bytes_cmp e.0 (first ∷ es) ≡ Some e.1) here (cond-true _ _ _ (ap is_eq (tied_itself nat_list_cmp_total first.0)))
  | inr later ↦
      let over = above_low first.0 es entry (and_parts _ _ sorted).0 later in
      cond-false _ _ _ (ap is_eq (nat_list_cmp_total.antisymm entry.0 first.0 ∙ ap ordering_reverse over)) ∙ looked_up es entry (and_parts _ _ sorted).1 later
]

-- and what it gives stands there
pub there_looked_up : (es : List Entry) (key : Key) (row : Row) → entries.find bytes_cmp key es ≡ Some row → Contains es (key, row)
there_looked_up [] key row is = absurd cc
there_looked_up (first ∷ es) key row is = by (is_eq (bytes_cmp key first.0)) refl is (λ later. there_looked_up es key row later)
  where
    by : (b : Bool) → is_eq (bytes_cmp key first.0) ≡ b → cond b (Some first.1) (entries.find bytes_cmp key es) ≡ Some row → (entries.find bytes_cmp key es ≡ Some row → Contains es (key, row)) → Contains (first ∷ es) (key, row)
    by true e is later =
        let same : first.1 ≡ row = cc in
        subst (λ (x : Entry). Contains (first ∷ es) x) (ap (λ k. (k, first.1)) (sym (same_bytes_are key first.0 (sym (is_eq-bytes_cmp key first.0) ∙ e))) ∙ ap (λ r. (key, r)) same) (first_there first es)
    by false e is later = later_there first es (key, row) (later is)

pub rising : (table : Table) → is_sorted bytes_cmp (finmap.entries table) ≡ true
rising table = true_from_T _ (entries_sorted table)

pub row_there : (table : Table) (entry : Entry) → Contains (finmap.entries table) entry → row_at table entry.0 ≡ entry.1
row_there table entry there = ap (λ o. unwrap_or o no_row) (get-entries table entry.0 ∙ looked_up (finmap.entries table) entry (rising table) there)

pub there_with_row : (table : Table) (key : Key) → has_nothing (row_at table key) ≡ false → Contains (finmap.entries table) (key, row_at table key)
there_with_row table key some = by (finmap.get table key) refl some
  where
    by : (o : Option Row) → finmap.get table key ≡ o → has_nothing (unwrap_or o no_row) ≡ false → Contains (finmap.entries table) (key, row_at table key)
    by None is some = absurd cc
    by (Some row) is some =
        subst (λ r. Contains (finmap.entries table) (key, r)) (sym (ap (λ o. unwrap_or o no_row) is)) (there_looked_up (finmap.entries table) key row (sym (get-entries table key) ∙ is))

-- ---- the first row that passes a test

-- an entry that passes is the one that is found, or above it
found_first : (test : Entry → Bool) (es : List Entry) (first entry : Entry) → is_sorted bytes_cmp es ≡ true → find test es ≡ Some first → Contains es entry → test entry ≡ true →
    (first ≡ entry) ⊎ (bytes_cmp first.0 entry.0 ≡ Less)
found_first test [] first entry sorted is there passes = absurd (nothing_in entry there)
found_first test (head ∷ es) first entry sorted is there passes =
    by (test head) refl is (first_or_later head es entry there) (λ e later. found_first test es first entry (and_parts (below_all bytes_cmp head.0 es) (is_sorted bytes_cmp es) sorted).1 e later passes)
  where
    by : (b : Bool) → test head ≡ b → cond b (Some head) (find test es) ≡ Some first → (head ≡ entry) ⊎ Contains es entry →
        (find test es ≡ Some first → Contains es entry → (first ≡ entry) ⊎ (bytes_cmp first.0 entry.0 ≡ Less)) → (first ≡ entry) ⊎ (bytes_cmp first.0 entry.0 ≡ Less)
    by true e is (inl here) rest = inl (let same : head ≡ first = cc in sym same ∙ here)
    by true e is (inr later) rest = inr (let same : head ≡ first = cc in
        subst (λ (x : Entry). bytes_cmp x.0 entry.0 ≡ Less) same (above_low head.0 es entry (and_parts (below_all bytes_cmp head.0 es) (is_sorted bytes_cmp es) sorted).0 later))
    by false e is (inl here) rest = absurd (let clash : false ≡ true = sym e ∙ ap test here ∙ passes in cc)
    by false e is (inr later) rest = rest is later

none_passes : (test : Entry → Bool) (es : List Entry) (entry : Entry) → find test es ≡ None → Contains es entry → test entry ≡ false
none_passes test [] entry is there = absurd (nothing_in entry there)
none_passes test (head ∷ es) entry is there = by (test head) refl is (first_or_later head es entry there) (λ e later. none_passes test es entry e later)
  where
    by : (b : Bool) → test head ≡ b → cond b (Some head) (find test es) ≡ None → (head ≡ entry) ⊎ Contains es entry → (find test es ≡ None → Contains es entry → test entry ≡ false) → test entry ≡ false
    by true e is either later = absurd cc
    by false e is (inl here) later = ap test (sym here) ∙ e
    by false e is (inr there) later = later is there

-- no row that holds something passes
pub no_first_row : (test : Entry → Bool) (table : Table) (key : Key) → first_row test table ≡ None → has_nothing (row_at table key) ≡ false → test (key, row_at table key) ≡ false
no_first_row test table key is some = none_passes test (finmap.entries table) (key, row_at table key) (no_entry (find test (finmap.entries table)) is) (there_with_row table key some)
  where
    no_entry : (o : Option Entry) → option_map found o ≡ None → o ≡ None
    no_entry None e = refl
    no_entry (Some entry) e = absurd cc

-- the row that is found stands there, passes, and no other one that passes stands before it
pub record IsFirstRow (test : Entry → Bool) (table : Table) (first : Found) : Type 0 where
  pub there : row_at table first.key ≡ first.row
  pub passes : test (first.key, first.row) ≡ true
  pub others : (key : Key) → has_nothing (row_at table key) ≡ false → test (key, row_at table key) ≡ true → (first.key ≡ key) ⊎ (bytes_cmp first.key key ≡ Less)

pub first_row_is : (test : Entry → Bool) (table : Table) (first : Found) → first_row test table ≡ Some first → IsFirstRow test table first
first_row_is test table first is = subst (IsFirstRow test table) (read.2) (record {
  there = row_there table read.0 held.0;
  passes = held.1;
  others = λ key some passes. others key (found_first test (finmap.entries table) read.0 (key, row_at table key) (rising table) read.1 (there_with_row table key some) passes);
})
  where
    read : (entry : Entry) × (find test (finmap.entries table) ≡ Some entry) × (found entry ≡ first)
    read = map_some found (find test (finmap.entries table)) first is

    held : Contains (finmap.entries table) read.0 × (test read.0 ≡ true)
    held = found_there test (finmap.entries table) read.0 read.1

    others : (key : Key) → (read.0 ≡ (key, row_at table key)) ⊎ (bytes_cmp (read.0).0 key ≡ Less) → ((read.0).0 ≡ key) ⊎ (bytes_cmp (read.0).0 key ≡ Less)
    others key (inl same) = inl (ap (λ (e : Entry). e.0) same)
    others key (inr less) = inr less
