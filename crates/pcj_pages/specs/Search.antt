-- Between which keys a page lies, and in which page a key would stand.
use Rattle.std.specs.Prelude.{◌≡◌, ℕ, ◌+◌, zero, suc, Bool, true, false, not, List, [], ◌∷◌, length, take, drop, Result, Ok, Err}
use Rattle.std.specs.List.{list_all}
use Rattle.pcj_table.specs.declared.found.Found.{Found}
use Rattle.pcj_table.specs.Table.{Key, is_before}
use Rattle.pcj_pages.specs.Pages.{rows_of}

abbrev pub starts_before : Key → List Found → Bool
starts_before key [] = false
starts_before key (found ∷ rows) = is_before found.key key

abbrev pub starts_up_to : Key → List Found → Bool
starts_up_to key [] = false
starts_up_to key (found ∷ rows) = not (is_before key found.key)

abbrev pub ends_before : Key → List Found → Bool
ends_before key [] = false
ends_before key (found ∷ []) = is_before found.key key
ends_before key (found ∷ next ∷ rows) = ends_before key (next ∷ rows)

abbrev pub all_below : Key → List Found → Bool
all_below key rows = list_all (λ found. is_before found.key key) rows

abbrev pub all_above : Key → List Found → Bool
all_above key rows = list_all (λ found. is_before key found.key) rows

-- the rows of the pages before this one are below the key, and those of the pages after it above
abbrev pub IsPageOf : Key → List (List Found) → ℕ → Type 0
IsPageOf key [] at = at ≡ 0
IsPageOf key (page ∷ pages) zero = all_above key (rows_of pages) ≡ true
IsPageOf key (page ∷ pages) (suc at) = (all_below key page ≡ true) × IsPageOf key pages at

-- the rows of a page; there are none where there is no such page
abbrev pub page_rows : List (List Found) → ℕ → List Found
page_rows [] at = []
page_rows (page ∷ pages) zero = page
page_rows (page ∷ pages) (suc at) = page_rows pages at

-- how many rows stand before a page
abbrev pub rows_before : List (List Found) → ℕ → ℕ
rows_before [] at = 0
rows_before (page ∷ pages) zero = 0
rows_before (page ∷ pages) (suc at) = length page + rows_before pages at

-- a place in a page as a place among all rows
abbrev pub place_behind : ℕ → Result ℕ ℕ → Result ℕ ℕ
place_behind before (Ok place) = Ok (before + place)
place_behind before (Err place) = Err (before + place)

-- the pages with one of them in two, of which the first has so many rows
abbrev pub split_at : List (List Found) → ℕ → ℕ → List (List Found)
split_at [] at size = []
split_at (page ∷ pages) zero size = take size page ∷ drop size page ∷ pages
split_at (page ∷ pages) (suc at) size = page ∷ split_at pages at size

-- the pages, of which this one goes where it has no row
abbrev pub without_empty : List (List Found) → ℕ → List (List Found)
without_empty [] at = []
without_empty ([] ∷ pages) zero = pages
without_empty ((found ∷ rows) ∷ pages) zero = (found ∷ rows) ∷ pages
without_empty (page ∷ pages) (suc at) = page ∷ without_empty pages at
