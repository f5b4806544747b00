-- A worker that was told what its plan asked for has a next ask.
use Rattle.std.specs.Prelude.{◌≡◌, ◌≢◌, ℕ, List, [], ◌∷◌, Option, Some}
use Rattle.pcj_table.specs.Row.{no_row}
use Rattle.pcj_table.specs.declared.write.Write.{Write}
use Rattle.pcj_encode.specs.declared.key_name.KeyName.{KeyName}
use Rattle.pcj_encode.specs.declared.key_name.KeyName.TheVariants as row
use Rattle.pcj_encode.specs.declared.task_name.TaskName.TheVariants as named
use Rattle.pcj_encode.specs.Name.{IsName, IsTask, key_of}
use Rattle.pcj_tree.specs.declared.tree.Tree.{Tree}
use Rattle.pcj_notify.specs.declared.answer.Answer as notify
use Rattle.pcj_notify.specs.declared.ask.Ask.{Ask}
use Rattle.pcj_notify.specs.declared.task.Task.{Task}
use Rattle.pcj_notify.specs.Plans.{task_key}
use Rattle.pcj_obs_pattern.specs.Plan.{IsPatternAsk}
use Rattle.pcj_obs_pass.specs.Plan.{IsPassAsk}
use Rattle.pcj_mvcc.specs.Reading.{Rows, versions_read}
use Rattle.pcj_moves.specs.declared.answer.Answer.{Answer}
use Rattle.pcj_moves.specs.declared.answer.Answer.TheVariants.{OfRow}
use Rattle.pcj_rows.specs.Registrations.{IsQueryTree, registration_value}
use Rattle.pcj_duties.specs.Observers.{HasPurpose}
use Rattle.pcj_nodes.specs.Commits.{Commits}
use Rattle.pcj_nodes.specs.Puts.{PutsStay}
use Rattle.pcj_plans.specs.Told.{HasAsked}
use Rattle.pcj_asks.specs.Asks.{AtWork, CursorsAreInOrder, IsOfAnswer, IsOfOnePattern, IsOfPattern}

-- for a triple's task, and for a backfill
abbrev pub PatternsGoOn : Type 0
PatternsGoOn = (number start : ℕ) (rows : Rows) (answers : List Answer) (task : Task) (told : List notify.Answer) (reads : List Answer) →
    AtWork number start rows answers → CursorsAreInOrder rows → IsTask task.name → IsOfPattern task.name →
    answers ≡ OfRow (task_key task.name) (Some task.cursor) ∷ reads → HasAsked (IsPatternAsk task) [] told reads → (ask : Ask) × IsPatternAsk task told ask

-- for the task of a row below the last node, where the query has one triple pattern
abbrev pub PassesGoOn : Type 0
PassesGoOn = (number start : ℕ) (rows : Rows) (answers : List Answer) (task : Task) (registration node : ℕ) (cells : List (List ℕ)) (name : List ℕ) (tree : Tree) (told : List notify.Answer) (reads : List Answer) →
    AtWork number start rows answers → IsTask task.name → task.name ≡ named.Row registration node cells → IsQueryTree tree → IsOfOnePattern tree →
    answers ≡ OfRow (task_key task.name) (Some task.cursor) ∷ OfRow (key_of (row.Registration registration)) (Some (registration_value name tree)) ∷ reads →
    HasAsked (IsPassAsk task tree) [] told reads → (ask : Ask) × IsPassAsk task tree told ask

-- the row of its registration is always there where the task of a row, or of a line, was read
abbrev pub RegistrationsAreRead : Type 0
RegistrationsAreRead = (number start : ℕ) (rows : Rows) (answers : List Answer) (task : Task) (registration : ℕ) (found : Option (List ℕ)) (more : List Answer) →
    AtWork number start rows answers → IsTask task.name → IsOfAnswer task.name registration →
    answers ≡ OfRow (task_key task.name) (Some task.cursor) ∷ OfRow (key_of (row.Registration registration)) found ∷ more →
    (name : List ℕ) × (tree : Tree) × IsQueryTree tree × (found ≡ Some (registration_value name tree))

-- whatever an actor is at work for, its commit leaves the cursors of backfills in order
abbrev pub CursorsStayInOrder : Type 0
CursorsStayInOrder = (number commit start : ℕ) (answers : List Answer) (writes : List Write) (before after : Rows) → Commits number commit start answers writes before after → HasPurpose start answers writes →
    PutsStay before → CursorsAreInOrder before → CursorsAreInOrder after

-- they are what is read of the rows
abbrev pub ReadingsSayOrder : Type 0
ReadingsSayOrder = (before after : Rows) → versions_read after ≡ versions_read before → CursorsAreInOrder before → CursorsAreInOrder after

-- where no row but the clock's has anything there is no cursor
abbrev pub EmptyIsInOrder : Type 0
EmptyIsInOrder = (rows : Rows) → ((name : KeyName) → IsName name → name ≢ row.Clock → rows (key_of name) ≡ no_row) → CursorsAreInOrder rows
