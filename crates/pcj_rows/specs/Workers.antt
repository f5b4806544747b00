-- What a worker may write, by what it has read: the move of a task, and rows of nodes with their tasks.
use Rattle.std.specs.Prelude.{◌≡◌, ◌≤◌, ◌<◌, ℕ, List, [], ◌∷◌, Option, Some, None, IfSome}
use Rattle.std.specs.List.{All, Contains, join_with_byte}
use Rattle.pcj_term.specs.declared.triple.Triple.{Triple}
use Rattle.pcj_term.specs.Term.{printed}
use Rattle.pcj_table.specs.Table.{Key}
use Rattle.pcj_table.specs.declared.plain.Plain.{Plain}
use Rattle.pcj_table.specs.declared.write.Write.{Write}
use Rattle.pcj_encode.specs.declared.task_name.TaskName.{TaskName}
use Rattle.pcj_encode.specs.declared.task_name.TaskName.TheVariants as task
use Rattle.pcj_encode.specs.declared.key_name.KeyName.{KeyName}
use Rattle.pcj_encode.specs.declared.key_name.KeyName.TheVariants as row
use Rattle.pcj_encode.specs.Name.{IsName, key_of}
use Rattle.pcj_moves.specs.declared.answer.Answer.{Answer}
use Rattle.pcj_rows.specs.Reads.{HasRead}
use Rattle.pcj_rows.specs.Values.{IsCursor}

-- ---- what was read

-- the printed terms that a name has
abbrev pub terms_in : Triple → List (List ℕ)
terms_in triple = printed triple.subject ∷ printed triple.predicate ∷ printed triple.object ∷ []

abbrev pub cells_of_task : TaskName → List (List ℕ)
cells_of_task (task.Triple triple) = terms_in triple
cells_of_task (task.Backfill registration node) = []
cells_of_task (task.Row registration node cells) = cells
cells_of_task (task.Export registration cells) = cells

abbrev pub cells_in : KeyName → List (List ℕ)
cells_in (row.Triple order triple) = terms_in triple
cells_in (row.Node registration node cells) = cells
cells_in (row.Group registration cells) = cells
cells_in (row.Task task) = cells_of_task task
cells_in _ = []

-- the registration that it is of
abbrev pub task_registration : TaskName → Option ℕ
task_registration (task.Triple triple) = None
task_registration (task.Backfill registration node) = Some registration
task_registration (task.Row registration node cells) = Some registration
task_registration (task.Export registration cells) = Some registration

abbrev pub registration_in : KeyName → Option ℕ
registration_in (row.Node registration node cells) = Some registration
registration_in (row.Group registration cells) = Some registration
registration_in (row.Registration registration) = Some registration
registration_in (row.Pattern registration node) = Some registration
registration_in (row.Task task) = task_registration task
registration_in _ = None

-- a row of the registration was read
pub record IsOfRead (answers : List Answer) (registration : ℕ) : Type 0 where
  pub name : KeyName
  pub value : List ℕ
  pub read : HasRead answers name value
  pub is : registration_in name ≡ Some registration

-- a row was read whose name has this cell
pub record IsReadCell (answers : List Answer) (cell : List ℕ) : Type 0 where
  pub name : KeyName
  pub value : List ℕ
  pub read : HasRead answers name value
  pub is : Contains (cells_in name) cell

-- so the number and the cells of a row that is added are those of rows that were read
pub record IsFromRead (answers : List Answer) (registration : ℕ) (cells : List (List ℕ)) : Type 0 where
  pub number : IsOfRead answers registration
  pub cells_read : All (IsReadCell answers) cells

-- ---- what is written

-- rows of nodes, and the tasks of rows and exports
abbrev pub IsAddedTask : List Answer → TaskName → Type 0
IsAddedTask answers (task.Triple triple) = ⊥
IsAddedTask answers (task.Backfill registration node) = ⊥
IsAddedTask answers (task.Row registration node cells) = IsFromRead answers registration cells
IsAddedTask answers (task.Export registration cells) = IsFromRead answers registration cells

abbrev pub IsAddedName : List Answer → KeyName → Type 0
IsAddedName answers (row.Node registration node cells) = IsFromRead answers registration cells
IsAddedName answers (row.Task task) = IsAddedTask answers task
IsAddedName answers _ = ⊥

pub record IsAdded (answers : List Answer) (write : Write) : Type 0 where
  pub name : KeyName
  pub valid : IsName name
  pub is : write.key ≡ key_of name
  pub empty : write.value ≡ Some []
  pub from : IsAddedName answers name

-- a task is done, or goes on to a row that was read
abbrev pub MayMoveTo : List Answer → TaskName → Option (List ℕ) → Type 0
MayMoveTo answers task None = Unit {0}
MayMoveTo answers task (Some cursor) = (name : KeyName) × (value : List ℕ) × HasRead answers name value × IsCursor task name × (cursor ≡ key_of name)

-- A worker has read a task at its start. It moves the task on, or ends it, and adds rows with their tasks.
pub record IsWorkerPlan (start : ℕ) (answers : List Answer) (writes : List Write) : Type 0 where
  pub first : 1 ≤ start
  pub task : TaskName
  pub cursor : List ℕ
  pub read : HasRead answers (row.Task task) cursor
  pub moved : Option (List ℕ)
  pub may : MayMoveTo answers task moved
  pub added : List Write
  pub are_added : All (IsAdded answers) added
  pub writes_are : writes ≡ record { key = key_of (row.Task task); value = moved } ∷ added

-- ---- what is exported

-- the printed line of a result row
abbrev pub export_line : List (List ℕ) → List ℕ
export_line cells = join_with_byte 9 cells

-- A worker that has read an export's task at its start writes its line with the start as its number, where none of that
-- number or a later one stands.
pub record IsExport (start : ℕ) (answers : List Answer) (old : Option Plain) (key : Key) (plain : Plain) : Type 0 where
  pub first : 1 ≤ start
  pub registration : ℕ
  pub cells : List (List ℕ)
  pub cursor : List ℕ
  pub read : HasRead answers (row.Task (task.Export registration cells)) cursor
  pub row_is : key ≡ key_of (row.Export registration cells)
  pub number_is : plain.seq ≡ start
  pub line_is : plain.value ≡ Some (export_line cells)
  pub later : IfSome old (λ other. other.seq < start)
