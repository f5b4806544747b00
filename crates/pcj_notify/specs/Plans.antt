-- The words of all plans: where a task goes on, and what the transaction that ends its plan writes.
use Rattle.std.specs.Prelude.{ℕ, List, [], ◌∷◌, Option, Some, None}
use Rattle.pcj_table.specs.Table.{Key}
use Rattle.pcj_table.specs.declared.write.Write.{Write}
use Rattle.pcj_encode.specs.declared.key_range.KeyRange.{KeyRange}
use Rattle.pcj_encode.specs.declared.task_name.TaskName.{TaskName}
use Rattle.pcj_encode.specs.declared.task_name.TaskName.TheVariants as task
use Rattle.pcj_encode.specs.declared.key_name.KeyName.TheVariants as row
use Rattle.pcj_encode.specs.Name.{key_of}
use Rattle.pcj_notify.specs.declared.task.Task.{Task}

-- what of a range comes after the cursor: all of it where there is none yet
abbrev pub beyond : List ℕ → KeyRange → KeyRange
beyond [] range = range
beyond (byte ∷ bytes) range = record { after = byte ∷ bytes; end = range.end }

-- the key of a task's row
abbrev pub task_key : TaskName → Key
task_key name = key_of (row.Task name)

-- the task's cursor moves on to a key
abbrev pub advance : Task → Key → Write
advance task key = record { key = task_key task.name; value = Some key }

-- the task is done
abbrev pub finish : Task → Write
finish task = record { key = task_key task.name; value = None }

-- an empty value
abbrev pub mark : Key → Write
mark key = record { key = key; value = Some [] }

-- a row of a node, and the task that tells the node's parent of it
abbrev pub row_writes : ℕ → ℕ → List (List ℕ) → List Write
row_writes registration node cells =
    mark (key_of (row.Node registration node cells)) ∷ mark (task_key (task.Row registration node cells)) ∷ []

-- a row of a query's last node, and the task that exports it
abbrev pub result_writes : ℕ → ℕ → List (List ℕ) → List Write
result_writes registration node cells =
    mark (key_of (row.Node registration node cells)) ∷ mark (task_key (task.Export registration cells)) ∷ []

-- these writes where nothing was found, and none where the row is there
abbrev pub unless_found : Option (List ℕ) → List Write → List Write
unless_found None writes = writes
unless_found (Some value) writes = []
