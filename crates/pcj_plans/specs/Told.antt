-- What an actor has read where it carried out the asks of a plan, and has come to the transaction that ends the plan.
use Rattle.std.specs.Prelude.{◌≡◌, ◌≤◌, ℕ, true, List, [], ◌∷◌, ◌++◌, Some, IfSome}
use Rattle.pcj_table.specs.Table.{is_between}
use Rattle.pcj_table.specs.declared.write.Write.{Write}
use Rattle.pcj_encode.specs.declared.key_name.KeyName.TheVariants as row
use Rattle.pcj_encode.specs.declared.task_name.TaskName.TheVariants as named
use Rattle.pcj_encode.specs.Name.{IsTask, key_of}
use Rattle.pcj_tree.specs.declared.tree.Tree.{Tree}
use Rattle.pcj_notify.specs.declared.answer.Answer as notify
use Rattle.pcj_notify.specs.declared.answer.Answer.TheVariants.{Got, Stepped, PlainDone}
use Rattle.pcj_notify.specs.declared.ask.Ask.{Ask}
use Rattle.pcj_notify.specs.declared.ask.Ask.TheVariants.{Get, Next, Plain, Commit}
use Rattle.pcj_notify.specs.declared.task.Task.{Task}
use Rattle.pcj_notify.specs.Plans.{task_key}
use Rattle.pcj_obs_pattern.specs.Plan.{IsPatternAsk}
use Rattle.pcj_obs_pass.specs.Plan.{IsPassAsk}
use Rattle.pcj_moves.specs.declared.answer.Answer.{Answer}
use Rattle.pcj_moves.specs.declared.answer.Answer.TheVariants.{OfRange, OfRow}
use Rattle.pcj_rows.specs.Registrations.{IsQueryTree, registration_value}

-- What was read where an ask came to this answer: a row, or the first of a range; a plain value is written without a reading.
abbrev pub IsReadBy : Ask → notify.Answer → List Answer → Type 0
IsReadBy (Get key) (Got found) reads = reads ≡ OfRow key found ∷ []
IsReadBy (Get key) (Stepped found) reads = ⊥
IsReadBy (Get key) PlainDone reads = ⊥
IsReadBy (Next range) (Got found) reads = ⊥
IsReadBy (Next range) (Stepped found) reads = (reads ≡ OfRange range.after range.end found ∷ []) × IfSome found (λ pair. is_between range.after range.end pair.key ≡ true)
IsReadBy (Next range) PlainDone reads = ⊥
IsReadBy (Plain key value) (Got found) reads = ⊥
IsReadBy (Plain key value) (Stepped found) reads = ⊥
IsReadBy (Plain key value) PlainDone reads = reads ≡ []
IsReadBy (Commit writes) answer reads = ⊥

-- After some answers, each of these was told of the ask that was next, and these are all readings, in their order.
abbrev pub HasAsked : (List notify.Answer → Ask → Type 0) → List notify.Answer → List notify.Answer → List Answer → Type 0
HasAsked asks done [] reads = reads ≡ []
HasAsked asks done (answer ∷ more) reads =
    (ask : Ask) × asks done ask
    × (front : List Answer) × (rest : List Answer) × (reads ≡ front ++ rest)
    × IsReadBy ask answer front × HasAsked asks (done ++ answer ∷ []) more rest

-- a triple's task, or a backfill's: its own row was read, and then what its plan asks for, which ends with these writes
pub record HasPlanned (start : ℕ) (answers : List Answer) (writes : List Write) (task : Task) : Type 0 where
  pub first : 1 ≤ start
  pub valid : IsTask task.name
  pub told : List notify.Answer
  pub reads : List Answer
  pub answers_are : answers ≡ OfRow (task_key task.name) (Some task.cursor) ∷ reads
  pub asked : HasAsked (IsPatternAsk task) [] told reads
  pub ends : IsPatternAsk task told (Commit writes)

-- the task of a row below a projection: its own row was read, and that of its registration, and then what its plan asks for
pub record HasProjected (start : ℕ) (answers : List Answer) (writes : List Write) (task : Task) : Type 0 where
  pub first : 1 ≤ start
  pub valid : IsTask task.name
  pub registration : ℕ
  pub node : ℕ
  pub cells : List (List ℕ)
  pub name_is : task.name ≡ named.Row registration node cells
  pub name : List ℕ
  pub tree : Tree
  pub of_query : IsQueryTree tree
  pub told : List notify.Answer
  pub reads : List Answer
  pub answers_are : answers ≡ OfRow (task_key task.name) (Some task.cursor) ∷ OfRow (key_of (row.Registration registration)) (Some (registration_value name tree)) ∷ reads
  pub asked : HasAsked (IsPassAsk task tree) [] told reads
  pub ends : IsPassAsk task tree told (Commit writes)
