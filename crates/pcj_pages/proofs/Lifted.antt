-- Where a key stands in its page it stands among all rows.
use Rattle.std.proofs.Common.{◌≡◌, ◌≤◌, ◌<◌, ◌+◌, ℕ, zero, suc, true, List, [], ◌∷◌, ◌++◌, length, Result, Ok, Err, IfOk, IfErr, subst, arith}
use Rattle.std.specs.List.Sorted.{IsSearchInRange}
use Rattle.std.proofs.lemmas.Bool.{and_parts}
use Rattle.pcj_term.proofs.ByteLemmas.{less_is}
use Rattle.pcj_table.specs.declared.found.Found.{Found}
use Rattle.pcj_table.specs.Table.{Key}
use Rattle.pcj_sorted.specs.Place.{IsRowAt, IsGapAt, IsPlace}
use Rattle.pcj_pages.specs.Pages.{rows_of}
use Rattle.pcj_pages.specs.Search.{all_above, all_below, page_rows, rows_before, place_behind, IsPageOf}

row_front : (key : Key) (rows more : List Found) (at : ℕ) → IsRowAt key rows at → IsRowAt key (rows ++ more) at
row_front key [] more at is = absurd is
row_front key (found ∷ rows) more zero is = is
row_front key (found ∷ rows) more (suc at) is = (is.0, row_front key rows more at is.1)

row_back : (key : Key) (rows more : List Found) (at : ℕ) → all_below key rows ≡ true → IsRowAt key more at → IsRowAt key (rows ++ more) (length rows + at)
row_back key [] more at below is = subst (IsRowAt key more) (omega arith) is
row_back key (found ∷ rows) more at below is =
    let next : suc (length rows + at) ≡ suc (length rows) + at = omega arith in
    subst (IsRowAt key (found ∷ rows ++ more)) next (less_is _ (and_parts _ _ below).0, row_back key rows more at (and_parts _ _ below).1 is)

gap_front : (key : Key) (rows more : List Found) (at : ℕ) → all_above key more ≡ true → IsGapAt key rows at → IsGapAt key (rows ++ more) at
gap_front key [] [] at above is = is
gap_front key [] (found ∷ more) zero above is = less_is _ (and_parts _ _ above).0
gap_front key [] (found ∷ more) (suc at) above is = absurd (omega (arith, is))
gap_front key (found ∷ rows) more zero above is = is
gap_front key (found ∷ rows) more (suc at) above is = (is.0, gap_front key rows more at above is.1)

gap_back : (key : Key) (rows more : List Found) (at : ℕ) → all_below key rows ≡ true → IsGapAt key more at → IsGapAt key (rows ++ more) (length rows + at)
gap_back key [] more at below is = subst (IsGapAt key more) (omega arith) is
gap_back key (found ∷ rows) more at below is =
    let next : suc (length rows + at) ≡ suc (length rows) + at = omega arith in
    subst (IsGapAt key (found ∷ rows ++ more)) next (less_is _ (and_parts _ _ below).0, gap_back key rows more at (and_parts _ _ below).1 is)

row_of_all : (key : Key) (pages : List (List Found)) (at place : ℕ) → at < length pages → IsPageOf key pages at → IsRowAt key (page_rows pages at) place → IsRowAt key (rows_of pages) (rows_before pages at + place)
row_of_all key [] at place lt page is = absurd (omega arith)
row_of_all key (first ∷ pages) zero place lt page is = subst (IsRowAt key (first ++ rows_of pages)) (omega arith) (row_front key first (rows_of pages) place is)
row_of_all key (first ∷ pages) (suc at) place lt page is =
    subst (IsRowAt key (first ++ rows_of pages)) (omega arith) (row_back key first (rows_of pages) (rows_before pages at + place) page.0 (row_of_all key pages at place (omega arith) page.1 is))

gap_of_all : (key : Key) (pages : List (List Found)) (at place : ℕ) → at < length pages → IsPageOf key pages at → IsGapAt key (page_rows pages at) place → IsGapAt key (rows_of pages) (rows_before pages at + place)
gap_of_all key [] at place lt page is = absurd (omega arith)
gap_of_all key (first ∷ pages) zero place lt page is = subst (IsGapAt key (first ++ rows_of pages)) (omega arith) (gap_front key first (rows_of pages) place page is)
gap_of_all key (first ∷ pages) (suc at) place lt page is =
    subst (IsGapAt key (first ++ rows_of pages)) (omega arith) (gap_back key first (rows_of pages) (rows_before pages at + place) page.0 (gap_of_all key pages at place (omega arith) page.1 is))

pub place_of_all : (key : Key) (pages : List (List Found)) (at : ℕ) (place : Result ℕ ℕ) → at < length pages → IsPageOf key pages at → IsPlace key (page_rows pages at) place → IsPlace key (rows_of pages) (place_behind (rows_before pages at) place)
place_of_all key pages at (Ok place) lt page is = row_of_all key pages at place lt page is
place_of_all key pages at (Err place) lt page is = gap_of_all key pages at place lt page is

pub ok_in_range : (place : Result ℕ ℕ) (n at count : ℕ) → IsSearchInRange place n → at < count → IfOk place (λ place. (at < count) × (place < n))
ok_in_range (Ok place) n at count range lt = (lt, range)
ok_in_range (Err place) n at count range lt = tt

pub err_in_range : (place : Result ℕ ℕ) (n : ℕ) → IsSearchInRange place n → IfErr place (λ place. place ≤ n)
err_in_range (Ok place) n range = tt
err_in_range (Err place) n range = range
