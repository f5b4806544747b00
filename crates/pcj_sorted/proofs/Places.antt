-- What a search finds among rows in ascending order of keys.
use Rattle.std.proofs.Common.{◌≡◌, ◌≤◌, ◌<◌, ℕ, zero, suc, true, List, [], ◌∷◌, length, get_or, Result, Ok, Err, refl, subst, arith}
use Rattle.std.specs.declared.cmp.Ordering.{Ordering}
use Rattle.std.specs.declared.cmp.Ordering.TheVariants.{Less, Equal, Greater}
use Rattle.std.specs.Ordering.{ordering_index}
use Rattle.std.specs.List.{AllWithin}
use Rattle.std.specs.List.Sorted.{IsSearchInRange, IsBinarySearchResult, IsNonDecreasingBy}
use Rattle.std.specs.FinMap.Entries.{below_all}
use Rattle.std.proofs.lemmas.Cmp.{nat_list_cmp_total}
use Rattle.std.proofs.lemmas.Bool.{and_parts}
use Rattle.pcj_table.specs.declared.found.Found.{Found}
use Rattle.pcj_table.specs.Table.{Key}
use Rattle.pcj_sorted.specs.Entries.{entries_of, keys_rise}
use Rattle.pcj_term.specs.Order.{bytes_cmp}
use Rattle.pcj_term.proofs.ByteLemmas.{less_is, below_is, equal_bytes_are}
use Rattle.pcj_sorted.specs.Place.{IsRowAt, IsGapAt, IsPlace}

-- a key below all rows is below each
pub below_at : (key : Key) (rows : List Found) (at : ℕ) (d : Found) → below_all bytes_cmp key (entries_of rows) ≡ true → at < length rows → bytes_cmp key (get_or rows at d).key ≡ Less
below_at key [] at d below lt = absurd (omega arith)
below_at key (row ∷ rows) zero d below lt = less_is _ (and_parts _ _ below).0
below_at key (row ∷ rows) (suc at) d below lt = below_at key rows at d (and_parts _ _ below).1 (omega arith)

at_most : (r : Ordering) → ordering_index r ≤ 2
at_most Less = omega arith
at_most Equal = omega arith
at_most Greater = omega arith

-- as keys rise, so does how they compare with another
rises : (low high key : Key) → bytes_cmp low high ≡ Less → ordering_index (bytes_cmp low key) ≤ ordering_index (bytes_cmp high key)
rises low high key lt = by (bytes_cmp high key) refl
  where
    by : (r : Ordering) → bytes_cmp high key ≡ r → ordering_index (bytes_cmp low key) ≤ ordering_index r
    by Less e = rw (nat_list_cmp_total.trans low high key lt e) (omega arith)
    by Equal e = rw (subst (λ k. bytes_cmp low k ≡ Less) (equal_bytes_are high key e) lt) (omega arith)
    by Greater e = at_most (bytes_cmp low key)

pub rising : (key : Key) (rows : List Found) → keys_rise rows ≡ true → IsNonDecreasingBy (λ row. ordering_index (bytes_cmp row.key key)) rows
rising key [] sorted i j d le lt = absurd (omega arith)
rising key (row ∷ rows) sorted zero zero d le lt = omega arith
rising key (row ∷ rows) sorted zero (suc j) d le lt = rises row.key (get_or rows j d).key key (below_at row.key rows j d (and_parts _ _ sorted).0 (omega arith))
rising key (row ∷ rows) sorted (suc i) zero d le lt = absurd (omega arith)
rising key (row ∷ rows) sorted (suc i) (suc j) d le lt = rising key rows (and_parts _ _ sorted).1 i j d (omega arith) (omega arith)

row_at : (key : Key) (rows : List Found) (at : ℕ) (d : Found) → keys_rise rows ≡ true → at < length rows → (get_or rows at d).key ≡ key → IsRowAt key rows at
row_at key [] at d sorted lt same = absurd (omega arith)
row_at key (row ∷ rows) zero d sorted lt same = same
row_at key (row ∷ rows) (suc at) d sorted lt same = (
  subst (λ k. bytes_cmp row.key k ≡ Less) same (below_at row.key rows at d (and_parts _ _ sorted).0 (omega arith)),
  row_at key rows at d (and_parts _ _ sorted).1 (omega arith) same,
)

gap_at : (key : Key) (rows : List Found) (at : ℕ) → at ≤ length rows → AllWithin (λ row. bytes_cmp row.key key ≡ Less) rows 0 at → AllWithin (λ row. bytes_cmp row.key key ≡ Greater) rows at (length rows) → IsGapAt key rows at
gap_at key [] at within lows highs = omega arith
gap_at key (row ∷ rows) zero within lows highs = below_is row.key key (highs 0 row (omega arith) (omega arith))
gap_at key (row ∷ rows) (suc at) within lows highs = (
  lows 0 row (omega arith) (omega arith),
  gap_at key rows at (omega arith) (λ k d le lt. lows (suc k) d (omega arith) (omega arith)) (λ k d le lt. highs (suc k) d (omega arith) (omega arith)),
)

pub searched : (key : Key) (rows : List Found) → keys_rise rows ≡ true → (r : Result ℕ ℕ) → IsSearchInRange r (length rows) → IsBinarySearchResult (λ row. bytes_cmp row.key key) rows r → IsPlace key rows r
searched key [] sorted (Ok at) bound equal = absurd (omega arith)
searched key (row ∷ rows) sorted (Ok at) bound equal = row_at key (row ∷ rows) at row sorted bound (equal_bytes_are (get_or (row ∷ rows) at row).key key (equal row))
searched key rows sorted (Err at) bound parted = let parts = parted (rising key rows sorted) in gap_at key rows at bound parts.0 parts.1
