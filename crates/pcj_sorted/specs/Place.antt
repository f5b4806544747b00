-- Where a key's row stands, or where it would go.
use Rattle.std.specs.Prelude.{◌≡◌, ℕ, zero, suc, List, [], ◌∷◌, Result, Ok, Err}
use Rattle.std.specs.declared.cmp.Ordering.TheVariants.{Less}
use Rattle.pcj_table.specs.declared.found.Found.{Found}
use Rattle.pcj_table.specs.Table.{Key}
use Rattle.pcj_term.specs.Order.{bytes_cmp}

-- the row at this place has the key, and those before it have lower keys
abbrev pub IsRowAt : Key → List Found → ℕ → Type 0
IsRowAt key [] at = ⊥
IsRowAt key (row ∷ rows) zero = row.key ≡ key
IsRowAt key (row ∷ rows) (suc at) = (bytes_cmp row.key key ≡ Less) × IsRowAt key rows at

-- the rows before this place have lower keys, and the one at it, if any, has a higher key
abbrev pub IsGapAt : Key → List Found → ℕ → Type 0
IsGapAt key [] at = at ≡ 0
IsGapAt key (row ∷ rows) zero = bytes_cmp key row.key ≡ Less
IsGapAt key (row ∷ rows) (suc at) = (bytes_cmp row.key key ≡ Less) × IsGapAt key rows at

abbrev pub IsPlace : Key → List Found → Result ℕ ℕ → Type 0
IsPlace key rows (Ok at) = IsRowAt key rows at
IsPlace key rows (Err at) = IsGapAt key rows at
