-- The cells of a row, by the variables of its node.
use Rattle.std.specs.Prelude.{ℕ, List, [], ◌∷◌, map, if◌then◌else◌}
use Rattle.pcj_term.specs.Order.{same_bytes}
use Rattle.pcj_expr.specs.declared.mapping.Mapping.{Mapping}
use Rattle.pcj_answers.specs.Rows.{cell, terms_of}

-- the cell that stands at a variable's place
abbrev pub cell_at : List (List ℕ) → List (List ℕ) → List ℕ → List ℕ
cell_at [] cells name = []
cell_at (first ∷ names) [] name = []
cell_at (first ∷ names) (cell ∷ cells) name = if same_bytes first name then cell else cell_at names cells name

-- those of the variables that are wanted, in their order
abbrev pub cells_at : List (List ℕ) → List (List ℕ) → List (List ℕ) → List (List ℕ)
cells_at order cells wanted = map (cell_at order cells) wanted

-- what a mapping gives these variables, as it is printed
abbrev pub cells_of : List (List ℕ) → Mapping → List (List ℕ)
cells_of order mapping = map cell (terms_of order mapping)
