-- The rows on one side of a key stand together, and what is found among entries is found among rows.
use Rattle.std.proofs.Common.{◌≡◌, ℕ, zero, suc, Bool, true, false, not, cond, ◌&&◌, T, List, [], ◌∷◌, take, drop, filter, find, length, refl, sym, ap, subst, ◌∙◌, arith}
use Rattle.std.specs.Option.{option_map}
use Rattle.std.specs.declared.cmp.Ordering.TheVariants.{Less, Equal}
use Rattle.std.specs.FinMap as finmap
use Rattle.std.specs.FinMap.Entries.{below_all, where_key, is_sorted-where_key}
use Rattle.std.proofs.lemmas.Bool.{and_parts}
use Rattle.std.proofs.lemmas.Cmp.{nat_list_cmp_total}
use Rattle.pcj_table.specs.declared.found.Found.{Found}
use Rattle.pcj_table.specs.declared.row.Row.{Row}
use Rattle.pcj_table.specs.Table.{Key, is_before, found, first_row, rows_that}
use Rattle.pcj_sorted.specs.Entries.{entries_of, keys_rise, table_of}
use Rattle.pcj_term.specs.Order.{bytes_cmp}
use Rattle.pcj_term.proofs.ByteLemmas.{above_is, less_is, bytes_cmp_itself}
use Rattle.pcj_term.proofs.BoolLemmas.{true_from_T}
use Rattle.pcj_sorted.specs.Place.{IsRowAt, IsGapAt}
use Rattle.pcj_sorted.proofs.Edits.{equals}
use Rattle.pcj_sorted.proofs.Tables.{entries_are}

-- rows above a low key are above and from any key at or below it, and none is below it
pub above_low : (key low : Key) (rows : List Found) → bytes_cmp key low ≡ Less → below_all bytes_cmp low (entries_of rows) ≡ true → below_all bytes_cmp key (entries_of rows) ≡ true
above_low key low [] lt all = refl
above_low key low (row ∷ rows) lt all =
    let first = nat_list_cmp_total.trans key low row.key lt (less_is _ (and_parts _ _ all).0) in
    rw first (above_low key low rows lt (and_parts _ _ all).1)

all_above : (key : Key) (rows : List Found) → below_all bytes_cmp key (entries_of rows) ≡ true → filter (λ row. is_before key row.key) rows ≡ rows
all_above key [] all = refl
all_above key (row ∷ rows) all = rw (less_is (bytes_cmp key row.key) (and_parts _ _ all).0) (ap (λ rs. row ∷ rs) (all_above key rows (and_parts _ _ all).1))

all_from : (key : Key) (rows : List Found) → below_all bytes_cmp key (entries_of rows) ≡ true → filter (λ row. not (is_before row.key key)) rows ≡ rows
all_from key [] all = refl
all_from key (row ∷ rows) all =
    rw (above_is key row.key (less_is _ (and_parts _ _ all).0)) (ap (λ rs. row ∷ rs) (all_from key rows (and_parts _ _ all).1))

none_below : (key : Key) (rows : List Found) → below_all bytes_cmp key (entries_of rows) ≡ true → filter (λ row. is_before row.key key) rows ≡ []
none_below key [] all = refl
none_below key (row ∷ rows) all = rw (above_is key row.key (less_is _ (and_parts _ _ all).0)) (none_below key rows (and_parts _ _ all).1)

-- ---- a place splits the rows

pub above_row : (key : Key) (rows : List Found) (at : ℕ) → keys_rise rows ≡ true → IsRowAt key rows at → drop (suc at) rows ≡ filter (λ row. is_before key row.key) rows
above_row key [] at sorted is = absurd is
above_row key (row ∷ rows) zero sorted is =
    rw (equals key row.key is) (sym (all_above key rows (subst (λ k. below_all bytes_cmp k (entries_of rows) ≡ true) is (and_parts _ _ sorted).0)))
above_row key (row ∷ rows) (suc at) sorted is = rw (above_is row.key key is.0) (above_row key rows at (and_parts _ _ sorted).1 is.1)

pub above_gap : (key : Key) (rows : List Found) (at : ℕ) → keys_rise rows ≡ true → IsGapAt key rows at → drop at rows ≡ filter (λ row. is_before key row.key) rows
above_gap key [] zero sorted is = refl
above_gap key [] (suc at) sorted is = absurd (omega arith)
above_gap key (row ∷ rows) zero sorted is = rw is (ap (λ rs. row ∷ rs) (sym (all_above key rows (above_low key row.key rows is (and_parts _ _ sorted).0))))
above_gap key (row ∷ rows) (suc at) sorted is = rw (above_is row.key key is.0) (above_gap key rows at (and_parts _ _ sorted).1 is.1)

pub from_row : (key : Key) (rows : List Found) (at : ℕ) → keys_rise rows ≡ true → IsRowAt key rows at → drop at rows ≡ filter (λ row. not (is_before row.key key)) rows
from_row key [] at sorted is = absurd is
from_row key (row ∷ rows) zero sorted is =
    let itself_equal = subst (λ k. bytes_cmp row.key k ≡ Equal) is (bytes_cmp_itself row.key) in
    rw itself_equal (ap (λ rs. row ∷ rs) (sym (all_from key rows (subst (λ k. below_all bytes_cmp k (entries_of rows) ≡ true) is (and_parts _ _ sorted).0))))
from_row key (row ∷ rows) (suc at) sorted is = rw is.0 (from_row key rows at (and_parts _ _ sorted).1 is.1)

pub from_gap : (key : Key) (rows : List Found) (at : ℕ) → keys_rise rows ≡ true → IsGapAt key rows at → drop at rows ≡ filter (λ row. not (is_before row.key key)) rows
from_gap key [] zero sorted is = refl
from_gap key [] (suc at) sorted is = absurd (omega arith)
from_gap key (row ∷ rows) zero sorted is =
    rw (above_is key row.key is) (ap (λ rs. row ∷ rs) (sym (all_from key rows (above_low key row.key rows is (and_parts _ _ sorted).0))))
from_gap key (row ∷ rows) (suc at) sorted is = rw is.0 (from_gap key rows at (and_parts _ _ sorted).1 is.1)

pub below_row : (key : Key) (rows : List Found) (at : ℕ) → keys_rise rows ≡ true → IsRowAt key rows at → take at rows ≡ filter (λ row. is_before row.key key) rows
below_row key [] at sorted is = absurd is
below_row key (row ∷ rows) zero sorted is =
    let itself_equal = subst (λ k. bytes_cmp row.key k ≡ Equal) is (bytes_cmp_itself row.key) in
    rw itself_equal (sym (none_below key rows (subst (λ k. below_all bytes_cmp k (entries_of rows) ≡ true) is (and_parts _ _ sorted).0)))
below_row key (row ∷ rows) (suc at) sorted is = rw is.0 (ap (λ rs. row ∷ rs) (below_row key rows at (and_parts _ _ sorted).1 is.1))

pub below_gap : (key : Key) (rows : List Found) (at : ℕ) → keys_rise rows ≡ true → IsGapAt key rows at → take at rows ≡ filter (λ row. is_before row.key key) rows
below_gap key [] zero sorted is = refl
below_gap key [] (suc at) sorted is = absurd (omega arith)
below_gap key (row ∷ rows) zero sorted is = rw (above_is key row.key is) (sym (none_below key rows (above_low key row.key rows is (and_parts _ _ sorted).0)))
below_gap key (row ∷ rows) (suc at) sorted is = rw is.0 (ap (λ rs. row ∷ rs) (below_gap key rows at (and_parts _ _ sorted).1 is.1))

-- ---- what passes a test among entries

entry : Found → Key × Row
entry row = (row.key, row.row)

pub filter_entries : (p : Key → Bool) (rows : List Found) → entries_of (filter (λ row. p row.key) rows) ≡ where_key bytes_cmp p (entries_of rows)
filter_entries p [] = refl
filter_entries p (row ∷ rows) = by (p row.key) (filter_entries p rows)
  where
    by : (b : Bool) → entries_of (filter (λ r. p r.key) rows) ≡ where_key bytes_cmp p (entries_of rows) →
        entries_of (cond b (row ∷ filter (λ r. p r.key) rows) (filter (λ r. p r.key) rows)) ≡ cond b ((row.key, row.row) ∷ where_key bytes_cmp p (entries_of rows)) (where_key bytes_cmp p (entries_of rows))
    by true h = ap (λ es. (row.key, row.row) ∷ es) h
    by false h = h

pub find_among : (p : Key → Bool) (q : Row → Bool) (rows : List Found) → option_map found (find (λ e. p e.0 && q e.1) (entries_of rows)) ≡ find (λ row. q row.row) (filter (λ row. p row.key) rows)
find_among p q [] = refl
find_among p q (row ∷ rows) = by (p row.key) (q row.row) refl refl (find_among p q rows)
  where
    by : (a b : Bool) → p row.key ≡ a → q row.row ≡ b → option_map found (find (λ e. p e.0 && q e.1) (entries_of rows)) ≡ find (λ r. q r.row) (filter (λ r. p r.key) rows) →
        option_map found (find (λ e. p e.0 && q e.1) (entries_of (row ∷ rows))) ≡ find (λ r. q r.row) (filter (λ r. p r.key) (row ∷ rows))
    by true true e f h = rw e (rw f refl)
    by true false e f h = rw e (rw f h)
    by false b e f h = rw e h

pub count_among : (p : Key → Bool) (q : Row → Bool) (rows : List Found) → length (filter (λ e. p e.0 && q e.1) (entries_of rows)) ≡ length (filter (λ row. q row.row) (filter (λ row. p row.key) rows))
count_among p q [] = refl
count_among p q (row ∷ rows) = by (p row.key) (q row.row) refl refl (count_among p q rows)
  where
    by : (a b : Bool) → p row.key ≡ a → q row.row ≡ b → length (filter (λ e. p e.0 && q e.1) (entries_of rows)) ≡ length (filter (λ r. q r.row) (filter (λ r. p r.key) rows)) →
        length (filter (λ e. p e.0 && q e.1) (entries_of (row ∷ rows))) ≡ length (filter (λ r. q r.row) (filter (λ r. p r.key) (row ∷ rows)))
    by true true e f h = rw e (rw f (ap suc h))
    by true false e f h = rw e (rw f h)
    by false b e f h = rw e h

-- ---- parts of the rows rise too

pub rises_where : (p : Key → Bool) (rows : List Found) → keys_rise rows ≡ true → keys_rise (filter (λ row. p row.key) rows) ≡ true
rises_where p rows sorted =
    true_from_T _ (subst (λ es. T (finmap.is_sorted bytes_cmp es)) (sym (filter_entries p rows)) (is_sorted-where_key bytes_cmp p (entries_of rows) (subst T (sym sorted) tt)))

-- what is below an end among what is above a start lies between them
pub between : (p q : Key → Bool) (rows : List Found) → filter (λ row. q row.key) (filter (λ row. p row.key) rows) ≡ filter (λ row. p row.key && q row.key) rows
between p q [] = refl
between p q (row ∷ rows) = by (p row.key) (q row.key) refl refl (between p q rows)
  where
    by : (a b : Bool) → p row.key ≡ a → q row.key ≡ b → filter (λ r. q r.key) (filter (λ r. p r.key) rows) ≡ filter (λ r. p r.key && q r.key) rows →
        filter (λ r. q r.key) (filter (λ r. p r.key) (row ∷ rows)) ≡ filter (λ r. p r.key && q r.key) (row ∷ rows)
    by true true e f h = rw e (rw f (ap (λ rs. row ∷ rs) h))
    by true false e f h = rw e (rw f h)
    by false b e f h = rw e h

-- ---- what walks answer

pub found_between : (p q : Key → Bool) (test : Row → Bool) (rows some others : List Found) → keys_rise rows ≡ true → some ≡ filter (λ row. p row.key) rows → others ≡ filter (λ row. q row.key) some → find (λ row. test row.row) others ≡ first_row (λ e. (p e.0 && q e.0) && test e.1) (table_of rows)
found_between p q test rows some others sorted e f =
    ap (find (λ row. test row.row)) (f ∙ ap (filter (λ row. q row.key)) e ∙ between p q rows)
    ∙ sym (find_among (λ k. p k && q k) test rows)
    ∙ ap (λ es. option_map found (find (λ x. (p x.0 && q x.0) && test x.1) es)) (sym (entries_are rows sorted))

pub found_where : (p : Key → Bool) (test : Row → Bool) (rows some : List Found) → keys_rise rows ≡ true → some ≡ filter (λ row. p row.key) rows → find (λ row. test row.row) some ≡ first_row (λ e. p e.0 && test e.1) (table_of rows)
found_where p test rows some sorted e =
    ap (find (λ row. test row.row)) e ∙ sym (find_among p test rows)
    ∙ ap (λ es. option_map found (find (λ x. p x.0 && test x.1) es)) (sym (entries_are rows sorted))

pub counted_between : (p q : Key → Bool) (test : Row → Bool) (rows some others : List Found) → keys_rise rows ≡ true → some ≡ filter (λ row. p row.key) rows → others ≡ filter (λ row. q row.key) some → length (filter (λ row. test row.row) others) ≡ rows_that (λ e. (p e.0 && q e.0) && test e.1) (table_of rows)
counted_between p q test rows some others sorted e f =
    ap (λ rs. length (filter (λ row. test row.row) rs)) (f ∙ ap (filter (λ row. q row.key)) e ∙ between p q rows)
    ∙ sym (count_among (λ k. p k && q k) test rows)
    ∙ ap (λ es. length (filter (λ x. (p x.0 && q x.0) && test x.1) es)) (sym (entries_are rows sorted))
