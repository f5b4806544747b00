-- What a mutation makes of a row, and of the rows among which it stands.
use Rattle.std.specs.Prelude.{◌≡◌, ℕ, zero, suc, true, false, cond, List, [], ◌∷◌}
use Rattle.std.specs.List.{insert}
use Rattle.pcj_table.specs.declared.found.Found.{Found}
use Rattle.pcj_table.specs.declared.row.Row.{Row}
use Rattle.pcj_table.specs.declared.cond.Cond.{Cond}
use Rattle.pcj_table.specs.declared.update.Update.{Update}
use Rattle.pcj_table.specs.declared.update.Update.TheVariants.{DropLock}
use Rattle.pcj_table.specs.declared.mutated.Mutated.{Mutated}
use Rattle.pcj_table.specs.declared.mutated.Mutated.TheVariants as mutated
use Rattle.pcj_table.specs.Row.{no_row, has_nothing, conds_hold, updated_all}
use Rattle.pcj_table.specs.Table.{Key}
use Rattle.pcj_sorted.specs.declared.row_change.RowChange.{RowChange}
use Rattle.pcj_sorted.specs.declared.row_change.RowChange.TheVariants.{Rejected, DropsLock, Becomes}

-- what a mutation makes of one row
abbrev pub IsChange : Row → List Cond → List Update → RowChange → Type 0
IsChange row conds updates (Rejected shown) = (conds_hold row conds ≡ false) × (shown ≡ row)
IsChange row conds updates DropsLock = (conds_hold row conds ≡ true) × (updates ≡ DropLock ∷ [])
IsChange row conds updates (Becomes new) = (conds_hold row conds ≡ true) × (new ≡ updated_all row updates)

abbrev pub row_in : List Found → ℕ → Row
row_in [] at = no_row
row_in (found ∷ rows) zero = found.row
row_in (found ∷ rows) (suc at) = row_in rows at

-- the rows with another row at a place, which goes where it has nothing
abbrev pub with_row_at : List Found → ℕ → Row → List Found
with_row_at [] at row = []
with_row_at (found ∷ rows) zero row = cond (has_nothing row) rows (record { key = found.key; row = row } ∷ rows)
with_row_at (found ∷ rows) (suc at) row = found ∷ with_row_at rows at row

-- the rows with a new row put in at a place, unless it has nothing
abbrev pub with_new_row : List Found → ℕ → Key → Row → List Found
with_new_row rows at key row = cond (has_nothing row) rows (insert rows at (record { key = key; row = row }))

-- a mutation of the row that stands at a place
abbrev pub Changes : List Found → ℕ → List Cond → List Update → Mutated → List Found → Type 0
Changes old at conds updates mutated.Applied new =
    (conds_hold (row_in old at) conds ≡ true) × (new ≡ with_row_at old at (updated_all (row_in old at) updates))
Changes old at conds updates (mutated.Rejected row) new =
    (conds_hold (row_in old at) conds ≡ false) × (row ≡ row_in old at) × (new ≡ old)

-- a mutation of a row that isn't there, and would go to a place
abbrev pub Creates : List Found → ℕ → Key → List Cond → List Update → Mutated → List Found → Type 0
Creates old at key conds updates mutated.Applied new =
    (conds_hold no_row conds ≡ true) × (new ≡ with_new_row old at key (updated_all no_row updates))
Creates old at key conds updates (mutated.Rejected row) new =
    (conds_hold no_row conds ≡ false) × (row ≡ no_row) × (new ≡ old)
