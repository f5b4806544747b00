-- Each row below a projection has the projection's row, or its task is still to be done.
use Rattle.std.specs.Prelude.{◌⊎◌, ℕ, List, IsSome}
use Rattle.pcj_encode.specs.declared.key_name.KeyName.TheVariants as row
use Rattle.pcj_encode.specs.declared.task_name.TaskName.TheVariants as task
use Rattle.pcj_encode.specs.Name.{IsName, key_of}
use Rattle.pcj_tree.specs.declared.node.Node.{Node}
use Rattle.pcj_tree.specs.declared.tree.Tree.{Tree}
use Rattle.pcj_obs_pass.specs.Cells.{cells_at}
use Rattle.pcj_obs_pass.specs.Plan.{IsProjected}
use Rattle.pcj_mvcc.specs.Reading.{Rows, standing}
use Rattle.pcj_rows.specs.Registrations.{IsRegistered}

-- a row of a node below a projection
pub record Below (rows : Rows) : Type 0 where
  pub registration : ℕ
  pub name : List ℕ
  pub tree : Tree
  pub at : ℕ
  pub registered : IsRegistered rows registration name tree at
  pub number : ℕ
  pub cells : List (List ℕ)
  pub named : IsName (row.Node registration number cells)
  pub child : Node
  pub parent : Node
  pub projected : IsProjected tree number cells child parent
  pub stands : IsSome (standing rows (key_of (row.Node registration number cells)))

abbrev pub RowsArePassed : Rows → Type 0
RowsArePassed rows = (below : Below rows) →
    IsSome (standing rows (key_of (row.Task (task.Row below.registration below.number below.cells))))
    ⊎ IsSome (standing rows (key_of (row.Node below.registration below.child.parent (cells_at below.child.order below.cells below.parent.order))))
