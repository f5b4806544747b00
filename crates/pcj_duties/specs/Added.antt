-- Rows of nodes that workers add, each with the task that goes on from it.
use Rattle.std.specs.Prelude.{◌≡◌, ◌⊎◌, ℕ, Bool, List, [], ◌∷◌, if◌then◌else◌}
use Rattle.pcj_table.specs.declared.write.Write.{Write}
use Rattle.pcj_encode.specs.declared.key_name.KeyName.{KeyName}
use Rattle.pcj_encode.specs.declared.key_name.KeyName.TheVariants as row
use Rattle.pcj_encode.specs.declared.task_name.TaskName.{TaskName}
use Rattle.pcj_encode.specs.declared.task_name.TaskName.TheVariants as task
use Rattle.pcj_encode.specs.Name.{IsName, key_of}
use Rattle.pcj_moves.specs.declared.answer.Answer.{Answer}
use Rattle.pcj_rows.specs.Plans.{put_mark}
use Rattle.pcj_rows.specs.Reads.{IsFoundIn, IsMissedIn}

-- a row of a node of a registration, and whether the node is the last of the tree, whose rows are results
pub record NodeRow : Type 0 where
  pub registration : ℕ
  pub node : ℕ
  pub cells : List (List ℕ)
  pub is_result : Bool

abbrev pub row_name : NodeRow → KeyName
row_name added = row.Node added.registration added.node added.cells

-- the task that tells the node's parent of it; that of a result exports it
abbrev pub task_name : NodeRow → TaskName
task_name added = if added.is_result then task.Export added.registration added.cells else task.Row added.registration added.node added.cells

-- a row and its task
abbrev pub added_writes : NodeRow → List Write → List Write
added_writes added rest = put_mark (key_of (row_name added)) ∷ put_mark (key_of (row.Task (task_name added))) ∷ rest

abbrev pub rows_writes : List NodeRow → List Write
rows_writes [] = []
rows_writes (added ∷ more) = added_writes added (rows_writes more)

-- both have names, and the row was looked for and wasn't there
pub record IsNew (answers : List Answer) (added : NodeRow) : Type 0 where
  pub named : IsName (row_name added)
  pub missed : IsMissedIn answers (key_of (row_name added))

-- the row was looked for: it is there, or it is added
abbrev pub Adds : List Answer → NodeRow → List NodeRow → Type 0
Adds answers added rows = (IsFoundIn answers (key_of (row_name added)) × (rows ≡ [])) ⊎ (IsMissedIn answers (key_of (row_name added)) × (rows ≡ added ∷ []))
