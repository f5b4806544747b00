-- Which task the key of a row names, and what a worker has of it.
use Rattle.std.specs.Prelude.{◌≡◌, ℕ, List, Option, Some, None}
use Rattle.pcj_encode.specs.declared.task_name.TaskName.{TaskName}
use Rattle.pcj_encode.specs.declared.key_name.KeyName.TheVariants as row
use Rattle.pcj_encode.specs.Name.{key_of, IsTask}
use Rattle.pcj_notify.specs.declared.task.Task.{Task}

-- the task is a valid one whose row has this key, with this cursor, at this start
pub record IsTaskAt (key cursor : List ℕ) (start : ℕ) (task : Task) : Type 0 where
  pub valid : IsTask task.name
  pub of_key : key_of (row.Task task.name) ≡ key
  pub with_cursor : task.cursor ≡ cursor
  pub at_start : task.start ≡ start

-- the task that the key names, with the cursor and the start, or that the key is that of no valid task
abbrev pub ReadsTask : List ℕ → List ℕ → ℕ → Option Task → Type 0
ReadsTask key cursor start (Some task) = IsTaskAt key cursor start task
ReadsTask key cursor start None = (name : TaskName) → IsTask name → key_of (row.Task name) ≡ key → ⊥
