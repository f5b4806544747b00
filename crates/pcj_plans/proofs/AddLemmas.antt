-- The row that is added where it was looked for and wasn't there.
use Rattle.std.proofs.Common.{◌≡◌, inl, inr, ℕ, List, [], ◌∷◌, Option, Some, None, refl}
use Rattle.std.proofs.lemmas.List.Elements.{All-cons, All-nil}
use Rattle.std.specs.List.{All, Contains}
use Rattle.pcj_encode.specs.Name.{IsName, key_of}
use Rattle.pcj_expr.specs.declared.mapping.Mapping.{Mapping}
use Rattle.pcj_tree.specs.declared.node.Node.{Node}
use Rattle.pcj_notify.specs.Plans.{result_writes, row_writes, unless_found}
use Rattle.pcj_obs_pattern.specs.Rows.{cells_of}
use Rattle.pcj_obs_pass.specs.Cells.{cells_at}
use Rattle.pcj_moves.specs.declared.answer.Answer.{Answer}
use Rattle.pcj_moves.specs.declared.answer.Answer.TheVariants.{OfRow}
use Rattle.pcj_duties.specs.Added.{Adds, IsNew, NodeRow, row_name, rows_writes}
use Rattle.pcj_duties.specs.Observers.{match_row, result_row}
use Rattle.pcj_plans.proofs.ReadLemmas.{row_is_found, row_is_missed}

-- the row, unless it was found
abbrev pub rows_unless : Option (List ℕ) → NodeRow → List NodeRow
rows_unless None added = added ∷ []
rows_unless (Some value) added = []

pub row_adds : (answers : List Answer) (added : NodeRow) (found : Option (List ℕ)) → Contains answers (OfRow (key_of (row_name added)) found) → Adds answers added (rows_unless found added)
row_adds answers added None there = inr (row_is_missed answers (key_of (row_name added)) there, refl)
row_adds answers added (Some value) there = inl (row_is_found answers (key_of (row_name added)) value there, refl)

pub row_is_new : (answers : List Answer) (added : NodeRow) (found : Option (List ℕ)) → IsName (row_name added) → Contains answers (OfRow (key_of (row_name added)) found) → All (IsNew answers) (rows_unless found added)
row_is_new answers added None named there = All-cons (IsNew answers) added [] (record { named = named; missed = row_is_missed answers (key_of (row_name added)) there }) (All-nil (IsNew answers))
row_is_new answers added (Some value) named there = All-nil (IsNew answers)

-- what the plan of a match writes
pub match_writes : (registration node : ℕ) (order : List (List ℕ)) (mapping : Mapping) (found : Option (List ℕ)) →
    unless_found found (row_writes registration node (cells_of order mapping)) ≡ rows_writes (rows_unless found (match_row registration node order mapping))
match_writes registration node order mapping None = refl
match_writes registration node order mapping (Some value) = refl

-- what the plan of a row below a projection writes
pub projected_writes : (registration : ℕ) (cells : List (List ℕ)) (child parent : Node) (found : Option (List ℕ)) →
    unless_found found (result_writes registration child.parent (cells_at child.order cells parent.order)) ≡ rows_writes (rows_unless found (result_row registration cells child parent))
projected_writes registration cells child parent None = refl
projected_writes registration cells child parent (Some value) = refl
