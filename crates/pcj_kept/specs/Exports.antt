-- The exported lines are those of results, and each result has one, or a task that exports it.
use Rattle.std.specs.Prelude.{◌≡◌, ◌⊎◌, ◌<◌, ℕ, List, length, Some, IsSome}
use Rattle.pcj_table.specs.declared.plain.Plain.{Plain}
use Rattle.pcj_encode.specs.declared.key_name.KeyName.TheVariants as row
use Rattle.pcj_encode.specs.declared.task_name.TaskName.TheVariants as task
use Rattle.pcj_encode.specs.Name.{IsName, key_of}
use Rattle.pcj_tree.specs.declared.tree.Tree.{Tree}
use Rattle.pcj_mvcc.specs.Reading.{Put, Rows, seen, standing}
use Rattle.pcj_rows.specs.Registrations.{IsRegistered}
use Rattle.pcj_rows.specs.Workers.{export_line}

-- the line is that of a row of the registration's last node, which was seen at the number beside it
pub record IsExported (rows : Rows) (registration : ℕ) (cells : List (List ℕ)) (plain : Plain) : Type 0 where
  pub line_is : plain.value ≡ Some (export_line cells)
  pub name : List ℕ
  pub tree : Tree
  pub at : ℕ
  pub registered : IsRegistered rows registration name tree at
  pub was_seen : IsSome (seen rows (key_of (row.Node registration (length tree.nodes) cells)) plain.seq)

-- a row of a registration's last node
pub record Result (rows : Rows) : Type 0 where
  pub registration : ℕ
  pub name : List ℕ
  pub tree : Tree
  pub at : ℕ
  pub registered : IsRegistered rows registration name tree at
  pub cells : List (List ℕ)
  pub named : IsName (row.Node registration (length tree.nodes) cells)
  pub put : Put
  pub stands : standing rows (key_of (row.Node registration (length tree.nodes) cells)) ≡ Some put

-- its export's task stands, or its line, with a number above its commit
abbrev pub IsTold : (rows : Rows) → Result rows → Type 0
IsTold rows result =
    IsSome (standing rows (key_of (row.Task (task.Export result.registration result.cells))))
    ⊎ ((plain : Plain) × ((rows (key_of (row.Export result.registration result.cells))).plain ≡ Some plain) × (result.put.1 < plain.seq))

pub record ExportsAreTrue (rows : Rows) : Type 0 where
  pub lines : (registration : ℕ) (cells : List (List ℕ)) (plain : Plain) → IsName (row.Export registration cells) → (rows (key_of (row.Export registration cells))).plain ≡ Some plain →
      IsExported rows registration cells plain
  pub results : (result : Result rows) → IsTold rows result
