-- The plan of a row's task below a projection: what is asked next, by the answers so far.
use Rattle.std.specs.Prelude.{◌≡◌, ℕ, length, List, [], ◌∷◌, Some}
use Rattle.std.specs.List.{All, Contains}
use Rattle.pcj_encode.specs.declared.key_name.KeyName.TheVariants as row
use Rattle.pcj_encode.specs.declared.task_name.TaskName.{TaskName}
use Rattle.pcj_encode.specs.declared.task_name.TaskName.TheVariants as name
use Rattle.pcj_encode.specs.Name.{key_of}
use Rattle.pcj_notify.specs.declared.answer.Answer.{Answer}
use Rattle.pcj_notify.specs.declared.answer.Answer.TheVariants.{Got, Stepped, PlainDone}
use Rattle.pcj_notify.specs.declared.ask.Ask.{Ask}
use Rattle.pcj_notify.specs.declared.ask.Ask.TheVariants.{Get, Commit}
use Rattle.pcj_notify.specs.declared.task.Task.{Task}
use Rattle.pcj_notify.specs.Plans.{finish, result_writes, unless_found}
use Rattle.pcj_tree.specs.declared.node.Node.{Node}
use Rattle.pcj_tree.specs.declared.node.NodeKind.TheVariants as kind
use Rattle.pcj_tree.specs.declared.tree.Tree.{Tree}
use Rattle.pcj_tree.specs.Meaning.{numbered}
use Rattle.pcj_obs_pass.specs.Cells.{cells_at}

-- The node that has this number, of which these are a row's cells, and the projection above it, whose variables are among the
-- node's.
pub record IsProjected (tree : Tree) (number : ℕ) (cells : List (List ℕ)) (child parent : Node) : Type 0 where
  pub child_is : numbered tree.nodes number ≡ Some child
  pub parent_is : numbered tree.nodes child.parent ≡ Some parent
  pub projects : parent.kind ≡ kind.Project number
  pub cells_fit : length cells ≡ length child.order
  pub names : All (λ name. Contains child.order name) parent.order

-- What is asked for a task that is to add a row of a query's last node: that row; and then a transaction that ends the task, and
-- adds the row where it isn't there.
abbrev pub IsResultAsk : Task → ℕ → ℕ → List (List ℕ) → List Answer → Ask → Type 0
IsResultAsk task registration number cells [] ask = ask ≡ Get (key_of (row.Node registration number cells))
IsResultAsk task registration number cells (Got found ∷ []) ask = ask ≡ Commit (finish task ∷ unless_found found (result_writes registration number cells))
IsResultAsk task registration number cells (Got found ∷ second ∷ answers) ask = ⊥
IsResultAsk task registration number cells (Stepped met ∷ answers) ask = ⊥
IsResultAsk task registration number cells (PlainDone ∷ answers) ask = ⊥

-- what is asked for a row of the child that has these cells
abbrev pub IsRowAsk : Task → ℕ → Node → Node → List (List ℕ) → List Answer → Ask → Type 0
IsRowAsk task registration child parent cells answers ask = IsResultAsk task registration child.parent (cells_at child.order cells parent.order) answers ask

-- what is asked for a task of this name: nothing where it is none of a row below a projection
abbrev pub IsNamedAsk : Task → Tree → TaskName → List Answer → Ask → Type 0
IsNamedAsk task tree (name.Row registration number cells) answers ask =
    (child : Node) × (parent : Node) × IsProjected tree number cells child parent × IsRowAsk task registration child parent cells answers ask
IsNamedAsk task tree (name.Triple triple) answers ask = ⊥
IsNamedAsk task tree (name.Backfill registration number) answers ask = ⊥
IsNamedAsk task tree (name.Export registration cells) answers ask = ⊥

-- what is asked next for the task, with the tree of its registration and after these answers
abbrev pub IsPassAsk : Task → Tree → List Answer → Ask → Type 0
IsPassAsk task tree answers ask = IsNamedAsk task tree task.name answers ask
