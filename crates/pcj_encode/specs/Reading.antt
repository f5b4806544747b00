-- Reading the parts of a key.
use Rattle.std.specs.Prelude.{ℕ, Bool, ◌&&◌, List, [], ◌∷◌, ◌==◌, length, take, nat_lt, Option, Some, None, if◌then◌else◌}
use Rattle.std.specs.Option.{option_map, is_some}
use Rattle.std.specs.List.{list_all, slice_index_or}
use Rattle.std.specs.Int.{w16, w64, from_be_bytes}
use Rattle.pcj_term.specs.declared.term.Term.{Term}
use Rattle.pcj_term.specs.declared.triple.Triple.{Triple}
use Rattle.pcj_term.specs.Reading.{◌>>=◌, term_of}
use Rattle.pcj_encode.specs.declared.order.Order.{Order}
use Rattle.pcj_encode.specs.declared.order.Order.TheVariants.{Spo, Pos, Osp}
use Rattle.pcj_encode.specs.declared.task_name.TaskName.{TaskName}
use Rattle.pcj_encode.specs.declared.task_name.TaskName.TheVariants as task
use Rattle.pcj_encode.specs.declared.key_name.KeyName.{KeyName}
use Rattle.pcj_encode.specs.declared.key_name.KeyName.TheVariants as row
use Rattle.pcj_encode.specs.declared.tag.Tag.{Tag}
use Rattle.pcj_encode.specs.declared.tag.Tag.TheVariants as tag
use Rattle.pcj_encode.specs.declared.task_tag.TaskTag.{TaskTag}
use Rattle.pcj_encode.specs.declared.task_tag.TaskTag.TheVariants as task_tag
use Rattle.pcj_encode.specs.Tag.{tag_of, task_tag_of}

-- ---- one part

abbrev pub are_bytes : List ℕ → Bool
are_bytes part = list_all (λ byte. nat_lt byte 256) part

-- the number that 8 bytes write
unfoldable pub registration_of : List ℕ → Option ℕ
registration_of part = if length part == 8 && are_bytes part then Some (from_be_bytes w64 part) else None

-- the number that 2 bytes write
unfoldable pub node_of : List ℕ → Option ℕ
node_of part = if length part == 2 && are_bytes part then Some (from_be_bytes w16 part) else None

abbrev pub is_cell : List ℕ → Bool
is_cell part = is_some (term_of part)

-- ---- several parts

-- the parts, where each is a cell
abbrev pub cells_of : List (List ℕ) → Option (List (List ℕ))
cells_of parts = if list_all is_cell parts then Some parts else None

-- a registration's number, and the parts after it
abbrev pub registration_first : List (List ℕ) → Option (ℕ × List (List ℕ))
registration_first [] = None
registration_first (part ∷ parts) = option_map (λ registration. (registration, parts)) (registration_of part)

-- a node's number, and the parts after it
abbrev pub node_first : List (List ℕ) → Option (ℕ × List (List ℕ))
node_first [] = None
node_first (part ∷ parts) = option_map (λ node. (node, parts)) (node_of part)

-- the numbers of a registration and a node, and the parts after them
abbrev pub numbers_first : List (List ℕ) → Option (ℕ × ℕ × List (List ℕ))
numbers_first parts = registration_first parts >>= (λ first. option_map (λ second. (first.0, second.0, second.1)) (node_first first.1))

-- the number of a registration, and cells
abbrev pub registered_cells : List (List ℕ) → Option (ℕ × List (List ℕ))
registered_cells parts = registration_first parts >>= (λ first. option_map (λ cells. (first.0, cells)) (cells_of first.1))

-- the numbers of a registration and a node, and cells
abbrev pub node_cells : List (List ℕ) → Option (ℕ × ℕ × List (List ℕ))
node_cells parts = numbers_first parts >>= (λ first. option_map (λ cells. (first.0, first.1, cells)) (cells_of first.2))

-- three terms and nothing else
abbrev pub terms_of : List (List ℕ) → Option (Term × Term × Term)
terms_of [] = None
terms_of (first ∷ []) = None
terms_of (first ∷ second ∷ []) = None
terms_of (first ∷ second ∷ third ∷ []) = term_of first >>= (λ a. term_of second >>= (λ b. option_map (λ c. (a, b, c)) (term_of third)))
terms_of (first ∷ second ∷ third ∷ fourth ∷ parts) = None

-- the triple whose terms stand in this order
abbrev pub in_order : Order → Term → Term → Term → Triple
in_order Spo first second third = record { subject = first; predicate = second; object = third }
in_order Pos first second third = record { subject = third; predicate = first; object = second }
in_order Osp first second third = record { subject = second; predicate = third; object = first }

abbrev pub triple_of : Order → List (List ℕ) → Option Triple
triple_of order parts = option_map (λ terms. in_order order terms.0 terms.1 terms.2) (terms_of parts)

-- ---- rows

abbrev pub clock_of : List (List ℕ) → Option KeyName
clock_of [] = Some row.Clock
clock_of (part ∷ parts) = None

abbrev pub triple_row_of : Order → List (List ℕ) → Option KeyName
triple_row_of order parts = option_map (row.Triple order) (triple_of order parts)

abbrev pub node_row_of : List (List ℕ) → Option KeyName
node_row_of parts = option_map (λ found. row.Node found.0 found.1 found.2) (node_cells parts)

-- a group has a cell
abbrev pub group_with : ℕ → List (List ℕ) → Option KeyName
group_with registration [] = None
group_with registration (cell ∷ cells) = Some (row.Group registration (cell ∷ cells))

abbrev pub group_of : List (List ℕ) → Option KeyName
group_of parts = registered_cells parts >>= (λ found. group_with found.0 found.1)

-- the last cell is the member's term
abbrev pub member_with : ℕ → List (List ℕ) → Option KeyName
member_with registration [] = None
member_with registration (cell ∷ cells) =
    Some (row.Member registration (take (length cells) (cell ∷ cells)) (slice_index_or (cell ∷ cells) (length cells) []))

abbrev pub member_of : List (List ℕ) → Option KeyName
member_of parts = registered_cells parts >>= (λ found. member_with found.0 found.1)

-- the name, where no part is left
abbrev pub alone : KeyName → List (List ℕ) → Option KeyName
alone name [] = Some name
alone name (part ∷ parts) = None

abbrev pub registration_row_of : List (List ℕ) → Option KeyName
registration_row_of parts = registration_first parts >>= (λ found. alone (row.Registration found.0) found.1)

abbrev pub name_row_of : List (List ℕ) → Option KeyName
name_row_of [] = None
name_row_of (name ∷ []) = Some (row.Name name)
name_row_of (name ∷ part ∷ parts) = None

abbrev pub pattern_of : List (List ℕ) → Option KeyName
pattern_of parts = numbers_first parts >>= (λ found. alone (row.Pattern found.0 found.1) found.2)

abbrev pub export_of : List (List ℕ) → Option KeyName
export_of parts = option_map (λ found. row.Export found.0 found.1) (registered_cells parts)

-- ---- tasks

-- the task, where no part is left
abbrev pub task_alone : TaskName → List (List ℕ) → Option TaskName
task_alone name [] = Some name
task_alone name (part ∷ parts) = None

abbrev pub backfill_of : List (List ℕ) → Option TaskName
backfill_of parts = numbers_first parts >>= (λ found. task_alone (task.Backfill found.0 found.1) found.2)

abbrev pub tagged_task_of : TaskTag → List (List ℕ) → Option TaskName
tagged_task_of task_tag.Triple parts = option_map task.Triple (triple_of Spo parts)
tagged_task_of task_tag.Backfill parts = backfill_of parts
tagged_task_of task_tag.Row parts = option_map (λ found. task.Row found.0 found.1 found.2) (node_cells parts)
tagged_task_of task_tag.Export parts = option_map (λ found. task.Export found.0 found.1) (registered_cells parts)

abbrev pub task_of : List (List ℕ) → Option TaskName
task_of [] = None
task_of (part ∷ parts) = task_tag_of part >>= (λ tag. tagged_task_of tag parts)

-- ---- keys

abbrev pub row_of : Tag → List (List ℕ) → Option KeyName
row_of tag.Clock parts = clock_of parts
row_of tag.Spo parts = triple_row_of Spo parts
row_of tag.Pos parts = triple_row_of Pos parts
row_of tag.Osp parts = triple_row_of Osp parts
row_of tag.Node parts = node_row_of parts
row_of tag.Group parts = group_of parts
row_of tag.Member parts = member_of parts
row_of tag.Registration parts = registration_row_of parts
row_of tag.Name parts = name_row_of parts
row_of tag.Pattern parts = pattern_of parts
row_of tag.Task parts = option_map row.Task (task_of parts)
row_of tag.Export parts = export_of parts

-- the valid name that has these parts
abbrev pub name_of : List (List ℕ) → Option KeyName
name_of [] = None
name_of (part ∷ parts) = tag_of part >>= (λ tag. row_of tag parts)
