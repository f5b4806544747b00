-- What walks find page by page.
use Rattle.std.proofs.Common.{◌≡◌, ◌≤◌, ◌<◌, ◌+◌, ◌*◌, ℕ, zero, suc, Bool, true, false, not, ◌&&◌, cond, List, [], ◌∷◌, ◌++◌, drop, filter, get_or, length, Option, Some, None, is_some, refl, sym, ap, subst, ◌∙◌, arith}
use Rattle.std.specs.List.{find, list_all}
use Rattle.std.specs.Option.{option_map}
use Rattle.std.specs.Cmp.Derive.{both_true}
use Rattle.std.proofs.lemmas.Bool.{and_parts}
use Rattle.std.proofs.lemmas.List.{drop_more, length-append}
use Rattle.pcj_term.proofs.ByteLemmas.{less_is}
use Rattle.pcj_table.specs.declared.found.Found.{Found}
use Rattle.pcj_table.specs.declared.row.Row.{Row}
use Rattle.pcj_table.specs.Table.{Key, is_before, found, first_row, rows_that, is_next_at, is_next_lock, is_counted_between}
use Rattle.pcj_sorted.specs.Entries.{keys_rise, table_of}
use Rattle.pcj_sorted.proofs.Tables.{entries_are}
use Rattle.pcj_pages.specs.Pages.{rows_of, AreSized}
use Rattle.pcj_pages.specs.Search.{starts_before, all_below, IsPageOf}
use Rattle.pcj_pages.specs.Walk.{first_in, count_in}
use Rattle.pcj_pages.proofs.Orders.{not_back, not_before}

-- ---- a table's rows in order

pub first_row_is : (test : Key × Row → Bool) (rows : List Found) → keys_rise rows ≡ true → first_row test (table_of rows) ≡ first_in test rows
first_row_is test rows rise = ap (λ es. option_map found (find test es)) (entries_are rows rise)

pub rows_that_are : (test : Key × Row → Bool) (rows : List Found) → keys_rise rows ≡ true → rows_that test (table_of rows) ≡ count_in test rows
rows_that_are test rows rise = ap (λ es. length (filter test es)) (entries_are rows rise)

-- ---- rows in two parts

-- no row passes a test
abbrev pub none_passes : (Key × Row → Bool) → List Found → Bool
none_passes test rows = list_all (λ row. not (test (row.key, row.row))) rows

pub not_true : (b : Bool) → not b ≡ true → b ≡ false
not_true true e = absurd cc
not_true false e = refl

pub first_later : (test : Key × Row → Bool) (rows more : List Found) → none_passes test rows ≡ true → first_in test (rows ++ more) ≡ first_in test more
first_later test [] more none = refl
first_later test (row ∷ rows) more none = rw (not_true (test (row.key, row.row)) (and_parts _ _ none).0) (first_later test rows more (and_parts _ _ none).1)

pub count_parts : (test : Key × Row → Bool) (rows more : List Found) → count_in test (rows ++ more) ≡ count_in test rows + count_in test more
count_parts test [] more = omega arith
count_parts test (row ∷ rows) more = by (test (row.key, row.row)) refl (count_parts test rows more)
  where
    by : (b : Bool) → test (row.key, row.row) ≡ b → count_in test (rows ++ more) ≡ count_in test rows + count_in test more → count_in test (row ∷ rows ++ more) ≡ count_in test (row ∷ rows) + count_in test more
    by true e rest = rw e (omega (arith, rest))
    by false e rest = rw e rest

pub none_first : (test : Key × Row → Bool) (rows : List Found) → none_passes test rows ≡ true → first_in test rows ≡ None
none_first test [] none = refl
none_first test (row ∷ rows) none = rw (not_true (test (row.key, row.row)) (and_parts _ _ none).0) (none_first test rows (and_parts _ _ none).1)

pub none_counts : (test : Key × Row → Bool) (rows : List Found) → none_passes test rows ≡ true → count_in test rows ≡ 0
none_counts test [] none = refl
none_counts test (row ∷ rows) none = rw (not_true (test (row.key, row.row)) (and_parts _ _ none).0) (none_counts test rows (and_parts _ _ none).1)

-- what is found in the first part is found in both, and what isn't is looked for in the second
pub first_or : (test : Key × Row → Bool) (rows more : List Found) → first_in test (rows ++ more) ≡ cond (is_some (first_in test rows)) (first_in test rows) (first_in test more)
first_or test [] more = refl
first_or test (row ∷ rows) more = by (test (row.key, row.row)) refl (first_or test rows more)
  where
    by : (b : Bool) → test (row.key, row.row) ≡ b → first_in test (rows ++ more) ≡ cond (is_some (first_in test rows)) (first_in test rows) (first_in test more) →
        first_in test (row ∷ rows ++ more) ≡ cond (is_some (first_in test (row ∷ rows))) (first_in test (row ∷ rows)) (first_in test more)
    by true e rest = rw e refl
    by false e rest = rw e rest

pub stops : {A : Type 0} (show : A → Found) (here : Option A) (first later : Option Found) → option_map show here ≡ first → is_some here ≡ true → first ≡ cond (is_some first) first later
stops show None first later e some = absurd cc
stops show (Some row) first later e some = subst (λ o. o ≡ cond (is_some o) o later) e refl

pub goes_on : {A : Type 0} (show : A → Found) (here : Option A) (first later : Option Found) → option_map show here ≡ first → is_some here ≡ false → cond (is_some first) first later ≡ later
goes_on show None first later e none = subst (λ o. cond (is_some o) o later ≡ later) e refl
goes_on show (Some row) first later e none = absurd cc

pub count_few : (test : Key × Row → Bool) (rows : List Found) → count_in test rows ≤ length rows
count_few test [] = omega arith
count_few test (row ∷ rows) = by (test (row.key, row.row)) refl (count_few test rows)
  where
    by : (b : Bool) → test (row.key, row.row) ≡ b → count_in test rows ≤ length rows → count_in test (row ∷ rows) ≤ length (row ∷ rows)
    by true e few = rw e (omega (arith, few))
    by false e few = rw e (omega (arith, few))

-- ---- pages before a key, and from an end on

none_below : (test : Key × Row → Bool) (key : Key) (rows : List Found) → ((row : Found) → is_before row.key key ≡ true → test (row.key, row.row) ≡ false) → all_below key rows ≡ true → none_passes test rows ≡ true
none_below test key [] skips below = refl
none_below test key (row ∷ rows) skips below = both_true (ap not (skips row (and_parts _ _ below).0)) (none_below test key rows skips (and_parts _ _ below).1)

pub first_from : (test : Key × Row → Bool) (key : Key) (pages : List (List Found)) (at : ℕ) → ((row : Found) → is_before row.key key ≡ true → test (row.key, row.row) ≡ false) → IsPageOf key pages at → first_in test (rows_of (drop at pages)) ≡ first_in test (rows_of pages)
first_from test key [] zero skips is = refl
first_from test key [] (suc at) skips is = refl
first_from test key (page ∷ pages) zero skips is = refl
first_from test key (page ∷ pages) (suc at) skips is = first_from test key pages at skips is.1 ∙ sym (first_later test page (rows_of pages) (none_below test key page skips is.0))

pub count_from : (test : Key × Row → Bool) (key : Key) (pages : List (List Found)) (at : ℕ) → ((row : Found) → is_before row.key key ≡ true → test (row.key, row.row) ≡ false) → IsPageOf key pages at → count_in test (rows_of (drop at pages)) ≡ count_in test (rows_of pages)
count_from test key [] zero skips is = refl
count_from test key [] (suc at) skips is = refl
count_from test key (page ∷ pages) zero skips is = refl
count_from test key (page ∷ pages) (suc at) skips is =
    let none = none_counts test page (none_below test key page skips is.0) in
    let parts = count_parts test page (rows_of pages) in
    count_from test key pages at skips is.1 ∙ omega (arith, none, parts)

none_past : (test : Key × Row → Bool) (end : Key) (row : Found) (rows : List Found) → ((row : Found) → is_before row.key end ≡ false → test (row.key, row.row) ≡ false) → keys_rise (row ∷ rows) ≡ true → is_before row.key end ≡ false → none_passes test (row ∷ rows) ≡ true
none_past test end row [] ends rise out = both_true (ap not (ends row out)) refl
none_past test end row (next ∷ rows) ends rise out =
    both_true (ap not (ends row out)) (none_past test end next rows ends (and_parts _ _ rise).1 (not_before row.key next.key end (less_is _ (and_parts _ _ (and_parts _ _ rise).0).0) out))

pub none_from : (test : Key × Row → Bool) (end : Key) (rows more : List Found) → ((row : Found) → is_before row.key end ≡ false → test (row.key, row.row) ≡ false) → keys_rise (rows ++ more) ≡ true → 1 ≤ length rows → starts_before end rows ≡ false → none_passes test (rows ++ more) ≡ true
none_from test end [] more ends rise some out = absurd (omega arith)
none_from test end (row ∷ rows) more ends rise some out = none_past test end row (rows ++ more) ends rise out

-- ---- what the tests of walks pass over

pub nor : (b : Bool) → (b && false) ≡ false
nor true = refl
nor false = refl

pub next_skips : (after end : Key) (at : ℕ) (row : Found) → is_before row.key after ≡ true → is_next_at after end at (row.key, row.row) ≡ false
next_skips after end at row before = rw (not_back row.key after before) refl

pub next_ends : (after end : Key) (at : ℕ) (row : Found) → is_before row.key end ≡ false → is_next_at after end at (row.key, row.row) ≡ false
next_ends after end at row out = rw out (rw (nor (is_before after row.key)) refl)

pub lock_skips : (after : Key) (row : Found) → is_before row.key after ≡ true → is_next_lock after (row.key, row.row) ≡ false
lock_skips after row before = rw (not_back row.key after before) refl

pub count_skips : (from end : Key) (row : Found) → is_before row.key from ≡ true → is_counted_between from end (row.key, row.row) ≡ false
count_skips from end row before = rw before refl

pub count_ends : (from end : Key) (row : Found) → is_before row.key end ≡ false → is_counted_between from end (row.key, row.row) ≡ false
count_ends from end row out = rw out (rw (nor (not (is_before row.key from))) refl)

-- ---- the next page

pub next_page : (pages : List (List Found)) (at : ℕ) (page : List Found) → at < length pages → page ≡ get_or pages at page → rows_of (drop at pages) ≡ page ++ rows_of (drop (at + 1) pages)
next_page pages at page lt is = ap rows_of (drop_more pages at page lt) ∙ ap (λ rows. rows ++ rows_of (drop (at + 1) pages)) (sym is)

pub rows_few : (pages : List (List Found)) → AreSized pages → length (rows_of pages) ≤ 64 * length pages
rows_few [] sized = omega arith
rows_few (page ∷ pages) sized =
    let rest = rows_few pages sized.2 in
    let both = length-append page (rows_of pages) in
    omega (arith, rest, both, sized.1)
