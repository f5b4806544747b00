-- A place in a page is a place among all rows.
use Rattle.std.proofs.Common.{◌≡◌, ◌≤◌, ◌<◌, ◌+◌, ◌-◌, ◌==◌, ℕ, zero, suc, Bool, true, false, cond, Result, Ok, Err, OnOk, OnErr, Some, None, List, [], ◌∷◌, ◌++◌, take, drop, set, get_or, length, refl, sym, ap, subst, ◌∙◌, arith}
use Rattle.std.specs.List.{insert, remove}
use Rattle.std.proofs.lemmas.Bool.Decides.{Decides-eqb}
use Rattle.std.proofs.lemmas.List.{append_assoc, length-take, length-drop, take-append-drop}
use Rattle.pcj_term.specs.declared.memory.Memory.{Memory}
use Rattle.pcj_table.specs.declared.found.Found.{Found}
use Rattle.pcj_table.specs.declared.row.Row.{Row}
use Rattle.pcj_table.specs.declared.cond.Cond.{Cond}
use Rattle.pcj_table.specs.declared.update.Update.{Update}
use Rattle.pcj_table.specs.declared.mutated.Mutated.{Mutated}
use Rattle.pcj_table.specs.declared.mutated.Mutated.TheVariants.{Applied, Rejected}
use Rattle.pcj_table.specs.Row.{has_nothing, conds_hold, updated_all}
use Rattle.pcj_sorted.specs.Edits.{row_in, with_row_at, Changes}
use Rattle.pcj_pages.specs.Pages.{rows_of, page_at, AreSized}
use Rattle.pcj_pages.proofs.Replacing.{as_many, one_less}
use Rattle.pcj_pages.specs.Search.{page_rows, rows_before, split_at, without_empty}

-- ---- rows in two parts

row_in_front : (rows more : List Found) (at : ℕ) → at < length rows → row_in (rows ++ more) at ≡ row_in rows at
row_in_front [] more at lt = absurd (omega arith)
row_in_front (found ∷ rows) more zero lt = refl
row_in_front (found ∷ rows) more (suc at) lt = row_in_front rows more at (omega arith)

row_in_back : (rows more : List Found) (at : ℕ) → row_in (rows ++ more) (length rows + at) ≡ row_in more at
row_in_back [] more at = ap (row_in more) (omega arith)
row_in_back (found ∷ rows) more at =
    let next : suc (length rows) + at ≡ suc (length rows + at) = omega arith in
    ap (row_in (found ∷ rows ++ more)) next ∙ row_in_back rows more at

with_row_front : (rows more : List Found) (at : ℕ) (row : Row) → at < length rows → with_row_at (rows ++ more) at row ≡ with_row_at rows at row ++ more
with_row_front [] more at row lt = absurd (omega arith)
with_row_front (found ∷ rows) more zero row lt = by (has_nothing row)
  where
    by : (b : Bool) → cond b (rows ++ more) (record { key = found.key; row = row } ∷ (rows ++ more)) ≡ cond b rows (record { key = found.key; row = row } ∷ rows) ++ more
    by true = refl
    by false = refl
with_row_front (found ∷ rows) more (suc at) row lt = ap (λ rs. found ∷ rs) (with_row_front rows more at row (omega arith))

with_row_back : (rows more : List Found) (at : ℕ) (row : Row) → with_row_at (rows ++ more) (length rows + at) row ≡ rows ++ with_row_at more at row
with_row_back [] more at row = ap (λ k. with_row_at more k row) (omega arith)
with_row_back (found ∷ rows) more at row =
    let next : suc (length rows) + at ≡ suc (length rows + at) = omega arith in
    ap (λ k. with_row_at (found ∷ rows ++ more) k row) next ∙ ap (λ rs. found ∷ rs) (with_row_back rows more at row)

insert_front : (rows more : List Found) (at : ℕ) (new : Found) → at ≤ length rows → insert (rows ++ more) at new ≡ insert rows at new ++ more
insert_front rows more zero new le = refl
insert_front [] more (suc at) new le = absurd (omega arith)
insert_front (found ∷ rows) more (suc at) new le = ap (λ rs. found ∷ rs) (insert_front rows more at new (omega arith))

insert_back : (rows more : List Found) (at : ℕ) (new : Found) → insert (rows ++ more) (length rows + at) new ≡ rows ++ insert more at new
insert_back [] more at new = ap (λ k. insert more k new) (omega arith)
insert_back (found ∷ rows) more at new =
    let next : suc (length rows) + at ≡ suc (length rows + at) = omega arith in
    ap (λ k. insert (found ∷ rows ++ more) k new) next ∙ ap (λ rs. found ∷ rs) (insert_back rows more at new)

-- ---- a row of a page

behind : (n before place : ℕ) → (n + before) + place ≡ n + (before + place)
behind n before place = omega arith

pub row_in_page : (pages : List (List Found)) (at place : ℕ) → place < length (page_rows pages at) → row_in (rows_of pages) (rows_before pages at + place) ≡ row_in (page_rows pages at) place
row_in_page [] at place lt = absurd (omega arith)
row_in_page (page ∷ pages) zero place lt = ap (row_in (page ++ rows_of pages)) (omega arith) ∙ row_in_front page (rows_of pages) place lt
row_in_page (page ∷ pages) (suc at) place lt =
    ap (row_in (page ++ rows_of pages)) (behind (length page) (rows_before pages at) place) ∙ row_in_back page (rows_of pages) (rows_before pages at + place) ∙ row_in_page pages at place lt

pub with_row_in_page : (pages : List (List Found)) (at place : ℕ) (row : Row) → place < length (page_rows pages at) → with_row_at (rows_of pages) (rows_before pages at + place) row ≡ rows_of (set pages at (with_row_at (page_rows pages at) place row))
with_row_in_page [] at place row lt = absurd (omega arith)
with_row_in_page (page ∷ pages) zero place row lt = ap (λ k. with_row_at (page ++ rows_of pages) k row) (omega arith) ∙ with_row_front page (rows_of pages) place row lt
with_row_in_page (page ∷ pages) (suc at) place row lt =
    ap (λ k. with_row_at (page ++ rows_of pages) k row) (behind (length page) (rows_before pages at) place) ∙ with_row_back page (rows_of pages) (rows_before pages at + place) row
    ∙ ap (λ rs. page ++ rs) (with_row_in_page pages at place row lt)

pub insert_in_page : (pages : List (List Found)) (at place : ℕ) (new : Found) → at < length pages → place ≤ length (page_rows pages at) → insert (rows_of pages) (rows_before pages at + place) new ≡ rows_of (set pages at (insert (page_rows pages at) place new))
insert_in_page [] at place new lt le = absurd (omega arith)
insert_in_page (page ∷ pages) zero place new lt le = ap (λ k. insert (page ++ rows_of pages) k new) (omega arith) ∙ insert_front page (rows_of pages) place new le
insert_in_page (page ∷ pages) (suc at) place new lt le =
    ap (λ k. insert (page ++ rows_of pages) k new) (behind (length page) (rows_before pages at) place) ∙ insert_back page (rows_of pages) (rows_before pages at + place) new
    ∙ ap (λ rs. page ++ rs) (insert_in_page pages at place new (omega arith) le)

pub same_page : (pages : List (List Found)) (at : ℕ) → at < length pages → set pages at (page_rows pages at) ≡ pages
same_page [] at lt = absurd (omega arith)
same_page (page ∷ pages) zero lt = refl
same_page (page ∷ pages) (suc at) lt = ap (λ ps. page ∷ ps) (same_page pages at (omega arith))

pub page_set : (pages : List (List Found)) (at : ℕ) (page : List Found) → at < length pages → page_rows (set pages at page) at ≡ page
page_set [] at page lt = absurd (omega arith)
page_set (other ∷ pages) zero page lt = refl
page_set (other ∷ pages) (suc at) page lt = page_set pages at page (omega arith)

-- ---- a page that has no row goes

pub emptied : (pages : List (List Found)) (at : ℕ) → rows_of (without_empty pages at) ≡ rows_of pages
emptied [] at = refl
emptied ([] ∷ pages) zero = refl
emptied ((found ∷ rows) ∷ pages) zero = refl
emptied (page ∷ pages) (suc at) = ap (λ rows. page ++ rows) (emptied pages at)

pub no_more : (pages : List (List Found)) (at : ℕ) → length (without_empty pages at) ≤ length pages
no_more [] at = omega arith
no_more ([] ∷ pages) zero = omega arith
no_more ((found ∷ rows) ∷ pages) zero = omega arith
no_more (page ∷ pages) (suc at) = let rest = no_more pages at in omega (arith, rest)

pub sized_without : (pages : List (List Found)) (at : ℕ) (new : List Found) → AreSized pages → length new ≤ 64 → AreSized (without_empty (set pages at new) at)
sized_without [] at new sized le = tt
sized_without (page ∷ pages) zero [] sized le = sized.2
sized_without (page ∷ pages) zero (found ∷ rows) sized le = (omega arith, le, sized.2)
sized_without (page ∷ pages) (suc at) new sized le = (sized.0, sized.1, sized_without pages at new sized.2 le)

pub sized_at : (pages : List (List Found)) (at : ℕ) → AreSized pages → at < length pages → (1 ≤ length (page_rows pages at)) × (length (page_rows pages at) ≤ 64)
sized_at [] at sized lt = absurd (omega arith)
sized_at (page ∷ pages) zero sized lt = (sized.0, sized.1)
sized_at (page ∷ pages) (suc at) sized lt = sized_at pages at sized.2 (omega arith)

pub sized_drop : (pages : List (List Found)) (at : ℕ) → AreSized pages → AreSized (drop at pages)
sized_drop pages zero sized = sized
sized_drop [] (suc at) sized = tt
sized_drop (page ∷ pages) (suc at) sized = sized_drop pages at sized.2

pub sized_set : (pages : List (List Found)) (at : ℕ) (new : List Found) → AreSized pages → 1 ≤ length new → length new ≤ 64 → AreSized (set pages at new)
sized_set [] at new sized some few = tt
sized_set (page ∷ pages) zero new sized some few = (some, few, sized.2)
sized_set (page ∷ pages) (suc at) new sized some few = (sized.0, sized.1, sized_set pages at new sized.2 some few)

pub sized_split : (pages : List (List Found)) (at : ℕ) → AreSized pages → 33 ≤ length (page_rows pages at) → AreSized (split_at pages at 32)
sized_split [] at sized full = tt
sized_split (page ∷ pages) zero sized full =
    let low = length-take 32 page in
    let high = length-drop 32 page in
    (omega (arith, low, full), omega (arith, low), (omega (arith, high, full), omega (arith, high, sized.1), sized.2))
sized_split (page ∷ pages) (suc at) sized full = (sized.0, sized.1, sized_split pages at sized.2 full)

pub removes : (pages : List (List Found)) (at : ℕ) → at < length pages → page_rows pages at ≡ [] → remove pages at ≡ without_empty pages at
removes [] at lt none = absurd (omega arith)
removes ([] ∷ pages) zero lt none = refl
removes ((found ∷ rows) ∷ pages) zero lt none = absurd cc
removes (page ∷ pages) (suc at) lt none = ap (λ ps. page ∷ ps) (removes pages at (omega arith) none)

pub stays : (pages : List (List Found)) (at : ℕ) → 1 ≤ length (page_rows pages at) → pages ≡ without_empty pages at
stays [] at le = refl
stays ([] ∷ pages) zero le = absurd (omega arith)
stays ((found ∷ rows) ∷ pages) zero le = refl
stays (page ∷ pages) (suc at) le = ap (λ ps. page ∷ ps) (stays pages at le)

pub page_rows_is : (pages : List (List Found)) (at : ℕ) (d : List Found) → at < length pages → page_rows pages at ≡ get_or pages at d
page_rows_is [] at d lt = absurd (omega arith)
page_rows_is (page ∷ pages) zero d lt = refl
page_rows_is (page ∷ pages) (suc at) d lt = page_rows_is pages at d (omega arith)

pub none_left : (rows : List Found) → (length rows == 0) ≡ true → rows ≡ []
none_left [] e = refl
none_left (found ∷ rows) e = absurd (some_are (length rows) ((Decides-eqb (length (found ∷ rows)) 0).0 e))
  where
    some_are : (n : ℕ) → suc n ≡ 0 → ⊥
    some_are n e = omega (arith, e)

pub some_left : (rows : List Found) → (length rows == 0) ≡ false → 1 ≤ length rows
some_left [] e = absurd cc
some_left (found ∷ rows) e = omega arith

-- a change leaves as many rows or one less
pub changes_shrink : (rows new : List Found) (at : ℕ) (conds : List Cond) (updates : List Update) → at < length rows → (done : Mutated) → Changes rows at conds updates done new → length new ≤ length rows
changes_shrink rows new at conds updates lt Applied made = by (has_nothing row) refl
  where
    row : Row
    row = updated_all (row_in rows at) updates

    by : (b : Bool) → has_nothing row ≡ b → length new ≤ length rows
    by true none = let less = one_less rows at row none lt in let is = ap length made.1 in omega (arith, less, is)
    by false some = let many = as_many rows at row some in let is = ap length made.1 in omega (arith, many, is)
changes_shrink rows new at conds updates lt (Rejected shown) made = let is = ap length made.2 in omega (arith, is)

-- a change of a page is that change of all rows
pub changes_all : (pages : List (List Found)) (at place : ℕ) (conds : List Cond) (updates : List Update) (new : List Found) → at < length pages → place < length (page_rows pages at) → (done : Mutated) →
    Changes (page_rows pages at) place conds updates done new → Changes (rows_of pages) (rows_before pages at + place) conds updates done (rows_of (set pages at new))
changes_all pages at place conds updates new within lt Applied made =
    let row = row_in_page pages at place lt in (
      ap (λ r. conds_hold r conds) row ∙ made.0,
      ap (λ page. rows_of (set pages at page)) made.1 ∙ sym (with_row_in_page pages at place (updated_all (row_in (page_rows pages at) place) updates) lt)
          ∙ ap (λ r. with_row_at (rows_of pages) (rows_before pages at + place) (updated_all r updates)) (sym row),
    )
changes_all pages at place conds updates new within lt (Rejected shown) made =
    let row = row_in_page pages at place lt in
    (ap (λ r. conds_hold r conds) row ∙ made.0, made.1 ∙ sym row, ap (λ page. rows_of (set pages at page)) made.2 ∙ ap rows_of (same_page pages at within))

-- ---- a page in two

pub rows_split : (pages : List (List Found)) (at size : ℕ) → rows_of (split_at pages at size) ≡ rows_of pages
rows_split [] at size = refl
rows_split (page ∷ pages) zero size = sym (append_assoc (take size page) (drop size page) (rows_of pages)) ∙ ap (λ rows. rows ++ rows_of pages) (take-append-drop size page)
rows_split (page ∷ pages) (suc at) size = ap (λ rows. page ++ rows) (rows_split pages at size)

pub low_before : (pages : List (List Found)) (at size : ℕ) → rows_before (split_at pages at size) at ≡ rows_before pages at
low_before [] at size = refl
low_before (page ∷ pages) zero size = refl
low_before (page ∷ pages) (suc at) size = ap (λ n. length page + n) (low_before pages at size)

pub low_page : (pages : List (List Found)) (at size : ℕ) → at < length pages → page_rows (split_at pages at size) at ≡ take size (page_rows pages at)
low_page [] at size lt = absurd (omega arith)
low_page (page ∷ pages) zero size lt = refl
low_page (page ∷ pages) (suc at) size lt = low_page pages at size (omega arith)

pub high_before : (pages : List (List Found)) (at size : ℕ) → at < length pages → rows_before (split_at pages at size) (suc at) ≡ rows_before pages at + length (take size (page_rows pages at))
high_before [] at size lt = absurd (omega arith)
high_before (page ∷ pages) zero size lt = omega arith
high_before (page ∷ pages) (suc at) size lt = let rest = high_before pages at size (omega arith) in omega (arith, rest)

pub high_page : (pages : List (List Found)) (at size : ℕ) → at < length pages → page_rows (split_at pages at size) (suc at) ≡ drop size (page_rows pages at)
high_page [] at size lt = absurd (omega arith)
high_page (page ∷ pages) zero size lt = refl
high_page (page ∷ pages) (suc at) size lt = high_page pages at size (omega arith)

pub one_more : (pages : List (List Found)) (at size : ℕ) → at < length pages → length (split_at pages at size) ≡ suc (length pages)
one_more [] at size lt = absurd (omega arith)
one_more (page ∷ pages) zero size lt = refl
one_more (page ∷ pages) (suc at) size lt = ap suc (one_more pages at size (omega arith))

pub split_is : (pages : List (List Found)) (at size : ℕ) (low high : List Found) → at < length pages → low ≡ take size (page_rows pages at) → high ≡ drop size (page_rows pages at) → insert (set pages at low) (suc at) high ≡ split_at pages at size
split_is [] at size low high lt e f = absurd (omega arith)
split_is (page ∷ pages) zero size low high lt e f = ap (λ one. one ∷ high ∷ pages) e ∙ ap (λ other. take size page ∷ other ∷ pages) f
split_is (page ∷ pages) (suc at) size low high lt e f = ap (λ ps. page ∷ ps) (split_is pages at size low high (omega arith) e f)

-- ---- a row more in a page

inserted_more : (rows : List Found) (at : ℕ) (new : Found) → at ≤ length rows → length (insert rows at new) ≡ suc (length rows)
inserted_more rows zero new le = refl
inserted_more [] (suc at) new le = absurd (omega arith)
inserted_more (found ∷ rows) (suc at) new le = ap suc (inserted_more rows at new (omega arith))

pub sized_after : (result : Result Unit Memory) (pages : List (List Found)) (at place : ℕ) (new : Found) (page : List Found) → AreSized pages → at < length pages → place ≤ length (page_rows pages at) → length (page_rows pages at) < 64 →
    OnOk result (page ≡ insert (page_rows pages at) place new) → OnErr result (page ≡ page_rows pages at) → AreSized (set pages at page)
sized_after (Ok done) pages at place new page sized lt le room made same =
    let more = ap length made ∙ inserted_more (page_rows pages at) place new le in
    sized_set pages at page sized (omega (arith, more)) (omega (arith, more, room))
sized_after (Err e) pages at place new page sized lt le room made same = subst AreSized (sym (ap (set pages at) same ∙ same_page pages at lt)) sized

pub some_are : (n : ℕ) → (n == 0) ≡ false → 0 < n
some_are zero e = absurd cc
some_are (suc n) e = omega arith

-- ---- a row more in one of two halves

pub low_insert : (pages : List (List Found)) (at size place : ℕ) (new : Found) → rows_of (split_at pages at size) ≡ rows_of pages → insert (rows_of (split_at pages at size)) (rows_before (split_at pages at size) at + place) new ≡ insert (rows_of pages) (rows_before pages at + place) new
low_insert pages at size place new same = ap (λ rows. insert rows (rows_before (split_at pages at size) at + place) new) same ∙ ap (λ n. insert (rows_of pages) (n + place) new) (low_before pages at size)

pub high_insert : (pages : List (List Found)) (at size place : ℕ) (new : Found) → at < length pages → size ≤ length (page_rows pages at) → size ≤ place →
    insert (rows_of (split_at pages at size)) (rows_before (split_at pages at size) (suc at) + (place - size)) new ≡ insert (rows_of pages) (rows_before pages at + place) new
high_insert pages at size place new lt le above =
    let before = high_before pages at size lt in
    let low = length-take size (page_rows pages at) in
    let whence : rows_before (split_at pages at size) (suc at) + (place - size) ≡ rows_before pages at + place = omega (arith, before, low, le, above) in
    ap (λ rows. insert rows (rows_before (split_at pages at size) (suc at) + (place - size)) new) (rows_split pages at size) ∙ ap (λ n. insert (rows_of pages) n new) whence

-- ---- a page by its number

pub page_there : (pages : List (List Found)) (at : ℕ) (d : List Found) → at < length pages → page_at pages at ≡ Some (get_or pages at d)
page_there [] at d lt = absurd (omega arith)
page_there (page ∷ pages) zero d lt = refl
page_there (page ∷ pages) (suc at) d lt = page_there pages at d (omega arith)

pub page_absent : (pages : List (List Found)) (at : ℕ) → length pages ≤ at → page_at pages at ≡ None
page_absent [] at le = refl
page_absent (page ∷ pages) zero le = absurd (omega arith)
page_absent (page ∷ pages) (suc at) le = page_absent pages at (omega arith)
