-- The rows that tasks of nodes' rows were made for.
use Rattle.std.specs.Prelude.{◌<◌, ℕ, List, length, IsSome}
use Rattle.pcj_encode.specs.declared.key_name.KeyName.TheVariants as row
use Rattle.pcj_encode.specs.declared.task_name.TaskName.TheVariants as task
use Rattle.pcj_encode.specs.Name.{IsName, key_of}
use Rattle.pcj_tree.specs.declared.tree.Tree.{Tree}
use Rattle.pcj_mvcc.specs.Reading.{Rows, seen}
use Rattle.pcj_rows.specs.Origins.{HasOrigin}
use Rattle.pcj_rows.specs.Registrations.{IsRegistered}

-- the task of a row is of a registration, and not of its last node
pub record IsRowTask (rows : Rows) (registration node : ℕ) (cells : List (List ℕ)) : Type 0 where
  pub name : List ℕ
  pub tree : Tree
  pub at : ℕ
  pub registered : IsRegistered rows registration name tree at
  pub inner : node < length tree.nodes
  pub origin : HasOrigin rows (key_of (row.Task (task.Row registration node cells))) (key_of (row.Node registration node cells))

-- an export's is of a registration, and was made for a row of its last node
pub record IsExportTask (rows : Rows) (registration : ℕ) (cells : List (List ℕ)) : Type 0 where
  pub name : List ℕ
  pub tree : Tree
  pub at : ℕ
  pub registered : IsRegistered rows registration name tree at
  pub origin : HasOrigin rows (key_of (row.Task (task.Export registration cells))) (key_of (row.Node registration (length tree.nodes) cells))

-- it is so of each that was seen at any time
pub record RowTasksHaveOrigins (rows : Rows) : Type 0 where
  pub of_rows : (registration node : ℕ) (cells : List (List ℕ)) (at : ℕ) → IsName (row.Task (task.Row registration node cells)) → IsSome (seen rows (key_of (row.Task (task.Row registration node cells))) at) →
      IsRowTask rows registration node cells
  pub of_exports : (registration : ℕ) (cells : List (List ℕ)) (at : ℕ) → IsName (row.Task (task.Export registration cells)) → IsSome (seen rows (key_of (row.Task (task.Export registration cells))) at) →
      IsExportTask rows registration cells
