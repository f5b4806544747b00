-- The key of a task's row is that of this task alone.
use Rattle.std.proofs.Common.{◌≡◌, ◌≢◌, ℕ, List, Option, Some, None, refl, ap, sym, ◌∙◌}
use Rattle.std.proofs.lemmas.Option.{same_Some}
use Rattle.pcj_encode.specs.declared.task_name.TaskName.{TaskName}
use Rattle.pcj_encode.specs.declared.key_name.KeyName.{KeyName}
use Rattle.pcj_encode.specs.declared.key_name.KeyName.TheVariants as row
use Rattle.pcj_encode.specs.Name.{key_of, IsTask}
use Rattle.pcj_encode.specs.Read.{ReadsKey}
use Rattle.pcj_encode.proofs.Names.{names_one_row}
use Rattle.pcj_notify.specs.declared.task.Task.{Task}
use Rattle.pcj_notify.specs.Laws.{ReadsBack}

-- the task that a name is of
abbrev task_in : KeyName → Option TaskName
task_in (row.Task name) = Some name
task_in _ = None

-- no two valid tasks have one key
one_key : (name other : TaskName) → IsTask name → IsTask other → key_of (row.Task name) ≡ key_of (row.Task other) → name ≡ other
one_key name other valid valid' e =
    same_Some name other (ap task_in (names_one_row (row.Task name) (row.Task other) valid valid' e))

-- tasks of one name, one cursor and one start are the same
same_task : (task other : Task) → task.name ≡ other.name → task.cursor ≡ other.cursor → task.start ≡ other.start → task ≡ other
same_task task other name cursor start =
    let made : TaskName → List ℕ → ℕ → Task = λ n c s. record { name = n; cursor = c; start = s } in
    ap (λ n. made n task.cursor task.start) name ∙ ap (λ c. made other.name c task.start) cursor ∙ ap (made other.name other.cursor) start

pub reads_back : ReadsBack
reads_back task (Some found) valid known =
    ap Some (same_task found task (one_key found.name task.name known.valid valid known.of_key) known.with_cursor known.at_start)
reads_back task None valid known = absurd (known task.name valid refl)

-- a key that is read as the name of no task is that of no valid task
pub no_task : (key : List ℕ) (found : Option KeyName) → ReadsKey key found → ((name : TaskName) → found ≢ Some (row.Task name)) →
    (name : TaskName) → IsTask name → key_of (row.Task name) ≡ key → ⊥
no_task key (Some found) known other name valid e = other name (ap Some (names_one_row found (row.Task name) known.0 valid (known.1 ∙ sym e)))
no_task key None known other name valid e = known (row.Task name) valid e
