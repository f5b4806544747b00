-- Keys in ascending order, and rows in two parts.
use Rattle.std.proofs.Common.{◌≡◌, ℕ, zero, suc, Bool, true, false, ◌&&◌, List, [], ◌∷◌, ◌++◌, drop, refl, sym, ap, subst, ◌∙◌}
use Rattle.std.specs.Ordering.{is_lt}
use Rattle.std.specs.declared.cmp.Ordering.{Ordering}
use Rattle.std.specs.declared.cmp.Ordering.TheVariants.{Less, Equal, Greater}
use Rattle.std.specs.FinMap.Entries.{below_all}
use Rattle.std.proofs.lemmas.Bool.{and_parts}
use Rattle.std.specs.Cmp.Derive.{both_true}
use Rattle.std.proofs.lemmas.Cmp.{nat_list_cmp_total}
use Rattle.pcj_term.specs.Order.{bytes_cmp}
use Rattle.pcj_term.proofs.ByteLemmas.{less_is, above_is, below_is, equal_bytes_are}
use Rattle.pcj_table.specs.declared.found.Found.{Found}
use Rattle.pcj_table.specs.Table.{Key, is_before}
use Rattle.pcj_sorted.specs.Entries.{entries_of, keys_rise}
use Rattle.pcj_sorted.proofs.Ranges.{above_low}
use Rattle.pcj_pages.specs.Pages.{rows_of}
use Rattle.pcj_pages.specs.Search.{all_above, all_below, page_rows}

pub not_both : {P : Type 0} (b : Bool) → b ≡ true → b ≡ false → P
not_both true e f = absurd cc
not_both false e f = absurd cc

-- ---- keys

pub before_is : (low high : Key) → bytes_cmp low high ≡ Less → is_before low high ≡ true
before_is low high lt = ap is_lt lt

pub not_back : (low high : Key) → is_before low high ≡ true → is_before high low ≡ false
not_back low high lt = ap is_lt (above_is low high (less_is _ lt))

pub before_after : (low middle high : Key) → bytes_cmp low middle ≡ Less → is_before middle high ≡ true → is_before low high ≡ true
before_after low middle high lt before = before_is low high (nat_list_cmp_total.trans low middle high lt (less_is _ before))

-- what is above a key that isn't below an end isn't below it either
pub not_before : (low high end : Key) → bytes_cmp low high ≡ Less → is_before low end ≡ false → is_before high end ≡ false
not_before low high end lt out = by (is_before high end) refl
  where
    by : (b : Bool) → is_before high end ≡ b → is_before high end ≡ false
    by true before = not_both (is_before low end) (before_after low high end lt before) out
    by false e = e

-- ---- all above, and all below

pub above_are : (key : Key) (rows : List Found) → below_all bytes_cmp key (entries_of rows) ≡ all_above key rows
above_are key [] = refl
above_are key (found ∷ rows) = ap (λ b. is_before key found.key && b) (above_are key rows)

pub above_front : (key : Key) (rows more : List Found) → all_above key (rows ++ more) ≡ true → all_above key rows ≡ true
above_front key [] more all = refl
above_front key (found ∷ rows) more all = both_true (and_parts _ _ all).0 (above_front key rows more (and_parts _ _ all).1)

pub above_back : (key : Key) (rows more : List Found) → all_above key (rows ++ more) ≡ true → all_above key more ≡ true
above_back key [] more all = all
above_back key (found ∷ rows) more all = above_back key rows more (and_parts _ _ all).1

-- ---- rows that rise

pub rise_back : (rows more : List Found) → keys_rise (rows ++ more) ≡ true → keys_rise more ≡ true
rise_back [] more rise = rise
rise_back (found ∷ rows) more rise = rise_back rows more (and_parts _ _ rise).1

pub rise_front : (rows more : List Found) → keys_rise (rows ++ more) ≡ true → keys_rise rows ≡ true
rise_front [] more rise = refl
rise_front (found ∷ rows) more rise = both_true
    (above_are found.key rows ∙ above_front found.key rows more (sym (above_are found.key (rows ++ more)) ∙ (and_parts _ _ rise).0))
    (rise_front rows more (and_parts _ _ rise).1)

pub rise_page : (pages : List (List Found)) (at : ℕ) → keys_rise (rows_of pages) ≡ true → keys_rise (page_rows pages at) ≡ true
rise_page [] at rise = refl
rise_page (page ∷ pages) zero rise = rise_front page (rows_of pages) rise
rise_page (page ∷ pages) (suc at) rise = rise_page pages at (rise_back page (rows_of pages) rise)

pub rise_drop : (pages : List (List Found)) (at : ℕ) → keys_rise (rows_of pages) ≡ true → keys_rise (rows_of (drop at pages)) ≡ true
rise_drop pages zero rise = rise
rise_drop [] (suc at) rise = refl
rise_drop (page ∷ pages) (suc at) rise = rise_drop pages at (rise_back page (rows_of pages) rise)

-- all are above what the first is above
pub from_first : (key : Key) (found : Found) (rows : List Found) → keys_rise (found ∷ rows) ≡ true → is_before key found.key ≡ true → all_above key (found ∷ rows) ≡ true
from_first key found rows rise before = both_true before (sym (above_are key rows) ∙ above_low key found.key rows (less_is _ before) (and_parts _ _ rise).0)

-- all before a row are below what that row isn't above
pub up_to_next : (key : Key) (rows : List Found) (next : Found) (more : List Found) → keys_rise (rows ++ next ∷ more) ≡ true → is_before key next.key ≡ false → all_below key rows ≡ true
up_to_next key [] next more rise not_above = refl
up_to_next key (found ∷ rows) next more rise not_above = both_true
    (below_first found.key (and_parts _ _ (above_back found.key rows (next ∷ more) (sym (above_are found.key (rows ++ next ∷ more)) ∙ (and_parts _ _ rise).0))).0)
    (up_to_next key rows next more (and_parts _ _ rise).1 not_above)
  where
    below_first : (low : Key) → is_before low next.key ≡ true → is_before low key ≡ true
    below_first low before = by (bytes_cmp low key) refl
      where
        by : (order : Ordering) → bytes_cmp low key ≡ order → is_before low key ≡ true
        by Less e = before_is low key e
        by Equal e = not_both (is_before key next.key) (subst (λ k. is_before k next.key ≡ true) (equal_bytes_are low key e) before) not_above
        by Greater e = not_both (is_before key next.key) (before_after key low next.key (below_is low key e) before) not_above
