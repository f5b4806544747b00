-- Between which keys a page lies.
use Rattle.std.proofs.Common.{◌≡◌, ◌≤◌, ◌<◌, ◌-◌, ℕ, zero, suc, Bool, true, false, not, List, [], ◌∷◌, ◌++◌, ◌∙◌, length, get_or, refl, sym, ap, subst, arith}
use Rattle.std.specs.List.{AllWithin}
use Rattle.std.specs.List.Sorted.{IsPartitionedBy}
use Rattle.std.proofs.lemmas.Bool.{and_parts}
use Rattle.pcj_term.proofs.ByteLemmas.{less_is}
use Rattle.pcj_sorted.specs.Entries.{keys_rise}
use Rattle.pcj_pages.specs.Pages.{rows_of, AreSized}
use Rattle.pcj_pages.proofs.Orders.{not_both, before_after, above_are, above_back, rise_back, from_first, up_to_next}
use Rattle.pcj_table.specs.declared.found.Found.{Found}
use Rattle.pcj_table.specs.Table.{Key, is_before}
use Rattle.pcj_pages.specs.Search.{starts_before, starts_up_to, ends_before, all_above, IsPageOf}

pub starts_first : (key : Key) (rows : List Found) (d : Found) → 1 ≤ length rows → is_before (get_or rows 0 d).key key ≡ starts_before key rows
starts_first key [] d le = absurd (omega arith)
starts_first key (found ∷ rows) d le = refl

pub starts_at : (key : Key) (rows : List Found) (d : Found) → 1 ≤ length rows → not (is_before key (get_or rows 0 d).key) ≡ starts_up_to key rows
starts_at key [] d le = absurd (omega arith)
starts_at key (found ∷ rows) d le = refl

pub ends_last : (key : Key) (rows : List Found) (d : Found) (last : ℕ) → suc last ≡ length rows → is_before (get_or rows last d).key key ≡ ends_before key rows
ends_last key [] d last e = absurd (omega (arith, e))
ends_last key (found ∷ []) d zero e = refl
ends_last key (found ∷ []) d (suc last) e = absurd (omega (arith, e))
ends_last key (found ∷ next ∷ rows) d zero e = absurd (omega (arith, e))
ends_last key (found ∷ next ∷ rows) d (suc last) e = ends_last key (next ∷ rows) d last (omega (arith, e))

-- ---- the pages that start at a key or below it come first

not_true : (b : Bool) → not b ≡ true → b ≡ false
not_true true e = absurd cc
not_true false e = refl

not_false : (b : Bool) → not b ≡ false → b ≡ true
not_false true e = refl
not_false false e = absurd cc

-- where rows of some page are above a low key, and a page among them starts at another or below it, that is above the low key
low_start : (key low : Key) (pages : List (List Found)) (at : ℕ) (d : List Found) → AreSized pages → at < length pages → all_above low (rows_of pages) ≡ true → starts_up_to key (get_or pages at d) ≡ true → is_before key low ≡ false
low_start key low [] at d sized lt above starts = absurd (omega arith)
low_start key low ([] ∷ pages) at d sized lt above starts = absurd (omega (arith, sized.0))
low_start key low ((found ∷ rows) ∷ pages) zero d sized lt above starts = by (is_before key low) refl
  where
    by : (b : Bool) → is_before key low ≡ b → is_before key low ≡ false
    by true before = not_both (is_before key found.key) (before_after key low found.key (less_is _ before) (and_parts _ _ above).0) (not_true _ starts)
    by false e = e
low_start key low (page ∷ pages) (suc at) d sized lt above starts = low_start key low pages at d sized.2 (omega arith) (above_back low page (rows_of pages) above) starts

pub parted : (key : Key) (pages : List (List Found)) → keys_rise (rows_of pages) ≡ true → AreSized pages → IsPartitionedBy (starts_up_to key) pages
parted key [] rise sized i j d le lt starts = absurd (omega arith)
parted key (page ∷ pages) rise sized zero zero d le lt starts = starts
parted key ([] ∷ pages) rise sized zero (suc j) d le lt starts = absurd (omega (arith, sized.0))
parted key ((found ∷ rows) ∷ pages) rise sized zero (suc j) d le lt starts =
    ap not (low_start key found.key pages j d sized.2 (omega arith) (above_back found.key rows (rows_of pages) (sym (above_are found.key (rows ++ rows_of pages)) ∙ (and_parts _ _ rise).0)) starts)
parted key (page ∷ pages) rise sized (suc i) zero d le lt starts = absurd (omega arith)
parted key (page ∷ pages) rise sized (suc i) (suc j) d le lt starts = parted key pages (rise_back page (rows_of pages) rise) sized.2 i j d (omega arith) (omega arith) starts

-- the first so many pages start at a key or below it, and the next one, if any, above it
abbrev pub Started : Key → List (List Found) → ℕ → Type 0
Started key [] n = n ≡ 0
Started key (page ∷ pages) zero = starts_up_to key page ≡ false
Started key (page ∷ pages) (suc n) = (starts_up_to key page ≡ true) × Started key pages n

pub started_at : (key : Key) (pages : List (List Found)) (n : ℕ) → n ≤ length pages → AllWithin (λ page. starts_up_to key page ≡ true) pages 0 n → AllWithin (λ page. starts_up_to key page ≡ false) pages n (length pages) → Started key pages n
started_at key [] n le lows highs = omega arith
started_at key (page ∷ pages) zero le lows highs = highs 0 page (omega arith) (omega arith)
started_at key (page ∷ pages) (suc n) le lows highs = (
  lows 0 page (omega arith) (omega arith),
  started_at key pages n (omega arith) (λ k d ge lt. lows (suc k) d (omega arith) (omega arith)) (λ k d ge lt. highs (suc k) d (omega arith) (omega arith)),
)

pub page_is : (key : Key) (pages : List (List Found)) (n : ℕ) → keys_rise (rows_of pages) ≡ true → AreSized pages → Started key pages n → IsPageOf key pages (n - 1)
page_is key [] n rise sized started = omega (arith, started)
page_is key ([] ∷ pages) n rise sized started = absurd (omega (arith, sized.0))
page_is key ((found ∷ rows) ∷ pages) zero rise sized started =
    above_back key (found ∷ rows) (rows_of pages) (from_first key found (rows ++ rows_of pages) rise (not_false _ started))
page_is key (page ∷ []) (suc zero) rise sized started = refl
page_is key (page ∷ [] ∷ pages) (suc zero) rise sized started = absurd (omega (arith, sized.2.0))
page_is key (page ∷ (next ∷ rows) ∷ pages) (suc zero) rise sized started =
    from_first key next (rows ++ rows_of pages) (rise_back page ((next ∷ rows) ++ rows_of pages) rise) (not_false _ started.1)
page_is key (page ∷ []) (suc (suc n)) rise sized started = absurd (omega (arith, started.1))
page_is key (page ∷ [] ∷ pages) (suc (suc n)) rise sized started = absurd (omega (arith, sized.2.0))
page_is key (page ∷ (next ∷ rows) ∷ pages) (suc (suc n)) rise sized started =
    let here : suc (suc n) - 1 ≡ suc n = omega arith in
    let there : suc n - 1 ≡ n = omega arith in
    subst (IsPageOf key (page ∷ (next ∷ rows) ∷ pages)) (sym here) (
      up_to_next key page next (rows ++ rows_of pages) rise (not_true _ started.1.0),
      subst (IsPageOf key ((next ∷ rows) ∷ pages)) there (page_is key ((next ∷ rows) ∷ pages) (suc n) (rise_back page ((next ∷ rows) ++ rows_of pages) rise) sized.2 started.1),
    )
