-- What holds of the keys of all tasks.
use Rattle.std.specs.Prelude.{◌≡◌, Option, Some}
use Rattle.pcj_encode.specs.declared.key_name.KeyName.TheVariants as row
use Rattle.pcj_encode.specs.Name.{key_of, IsTask}
use Rattle.pcj_notify.specs.declared.task.Task.{Task}
use Rattle.pcj_notify.specs.Task.{ReadsTask}

-- the key of a valid task's row is read as that task, with its cursor and its start
abbrev pub ReadsBack : Type 0
ReadsBack = (task : Task) (found : Option Task) → IsTask task.name →
    ReadsTask (key_of (row.Task task.name)) task.cursor task.start found → found ≡ Some task
