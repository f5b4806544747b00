-- Rows in pages, as a table.
use Rattle.std.specs.Prelude.{◌≡◌, ◌≤◌, ◌^◌, ℕ, zero, suc, true, List, [], ◌∷◌, ◌++◌, length, Option, Some, None}
use Rattle.pcj_io.specs.Calls.{Calls}
use Rattle.pcj_table.specs.declared.found.Found.{Found}
use Rattle.pcj_sorted.specs.Entries.{keys_rise}

-- the rows of all pages, one after another
abbrev pub rows_of : List (List Found) → List Found
rows_of [] = []
rows_of (page ∷ pages) = page ++ rows_of pages

abbrev pub page_at : List (List Found) → ℕ → Option (List Found)
page_at [] at = None
page_at (page ∷ pages) zero = Some page
page_at (page ∷ pages) (suc at) = page_at pages at

-- each page has a row and at most 64
abbrev pub AreSized : List (List Found) → Type 0
AreSized [] = Unit
AreSized (page ∷ pages) = (1 ≤ length page) × (length page ≤ 64) × AreSized pages

-- keys rise from page to page, and there are fewer than 2^64 rows
pub record ArePages (pages : List (List Found)) : Type 0 where
  pub rise : keys_rise (rows_of pages) ≡ true
  pub sized : AreSized pages
  pub few : length pages ≤ 2 ^ 57

-- what a table in pages keeps
pub record Kept : Type 0 where
  pub pages : List (List Found)
  pub calls : Calls
