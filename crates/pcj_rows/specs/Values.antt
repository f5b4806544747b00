-- The values of rows, by their names.
use Rattle.std.specs.Prelude.{◌≡◌, ◌⊎◌, ℕ, ◌<◌, List, [], ◌∷◌, ◌++◌, length, Option, Some, None}
use Rattle.pcj_term.specs.declared.triple.Triple.{Triple}
use Rattle.pcj_key.specs.Key as parts
use Rattle.pcj_encode.specs.declared.order.Order.{Order}
use Rattle.pcj_encode.specs.declared.task_name.TaskName.{TaskName}
use Rattle.pcj_encode.specs.declared.task_name.TaskName.TheVariants as task
use Rattle.pcj_encode.specs.declared.key_name.KeyName.{KeyName}
use Rattle.pcj_encode.specs.declared.key_name.KeyName.TheVariants as row
use Rattle.pcj_encode.specs.Name.{IsName, key_of, registration_part}
use Rattle.pcj_tree.specs.declared.tree.Tree.{Tree}
use Rattle.pcj_rows.specs.Names.{IsGranted, IsNameGranted}
use Rattle.pcj_rows.specs.Registrations.{IsQueryTree, registration_value}

-- the value is the key of a name of this kind
abbrev pub IsKeyOf : ℕ → (KeyName → Type 0) → List ℕ → Type 0
IsKeyOf next kind value = (name : KeyName) × kind name × IsName name × IsNameGranted next name × (value ≡ key_of name)

-- Where a task's cursor may stand: that of a triple at a pattern's row, that of a backfill at a triple's row, and that
-- of a node's row at a row of its sibling.
abbrev pub IsCursor : TaskName → KeyName → Type 0
IsCursor (task.Triple triple) name = (registration : ℕ) × (node : ℕ) × (name ≡ row.Pattern registration node)
IsCursor (task.Backfill registration node) name = (order : Order) × (triple : Triple) × (name ≡ row.Triple order triple)
IsCursor (task.Row registration node cells) name = (sibling : ℕ) × (others : List (List ℕ)) × (name ≡ row.Node registration sibling others)
IsCursor (task.Export registration cells) name = ⊥

-- a count in 8 bytes, or a sum in 16 or an extreme in 8 with a byte that is 0 or 1
abbrev pub IsGroupValue : List ℕ → Type 0
IsGroupValue value = (length value ≡ 8) ⊎
    ((number : List ℕ) × (flag : ℕ) × (value ≡ number ++ flag ∷ []) × ((length number ≡ 8) ⊎ (length number ≡ 16)) × (flag < 2))

-- The rows of triples and nodes are marks. A registration has its name and a query's tree, a name its registration, a
-- pattern its slots and the variables of its node. The clock's and the exports' rows have plain values alone.
abbrev pub IsValue : ℕ → KeyName → List ℕ → Type 0
IsValue next row.Clock value = ⊥
IsValue next (row.Triple order triple) value = value ≡ []
IsValue next (row.Node registration node cells) value = value ≡ []
IsValue next (row.Group registration cells) value = IsGroupValue value
IsValue next (row.Member registration cells term) value = value ≡ []
IsValue next (row.Registration registration) value = (name : List ℕ) × (tree : Tree) × IsQueryTree tree × (value ≡ registration_value name tree)
IsValue next (row.Name name) value = (registration : ℕ) × IsGranted next registration × (value ≡ registration_part registration)
IsValue next (row.Pattern registration node) value =
    (subject : List ℕ) × (predicate : List ℕ) × (object : List ℕ) × (order : List (List ℕ)) × (value ≡ parts.key_of (subject ∷ predicate ∷ object ∷ order))
IsValue next (row.Task task) value = (value ≡ []) ⊎ IsKeyOf next (IsCursor task) value
IsValue next (row.Export registration cells) value = ⊥

-- tasks alone are deleted
abbrev pub MayBeDeleted : KeyName → Type 0
MayBeDeleted (row.Task task) = Unit {0}
MayBeDeleted _ = ⊥

-- what a lock or a version of the row may have: a value, or a deletion
abbrev pub MayHold : ℕ → KeyName → Option (List ℕ) → Type 0
MayHold next name None = MayBeDeleted name
MayHold next name (Some value) = IsValue next name value
