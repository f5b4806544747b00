-- What is asked of the table for an export, by the answers so far.
use Rattle.std.specs.Prelude.{◌≡◌, ℕ, List, [], ◌∷◌, ◌++◌}
use Rattle.std.specs.List.{join_with_byte}
use Rattle.pcj_encode.specs.declared.task_name.TaskName.{TaskName}
use Rattle.pcj_encode.specs.declared.task_name.TaskName.TheVariants as name
use Rattle.pcj_encode.specs.declared.key_name.KeyName.TheVariants as row
use Rattle.pcj_encode.specs.Name.{key_of}
use Rattle.pcj_tree.specs.declared.node.Node.{Node}
use Rattle.pcj_tree.specs.declared.node.NodeKind.TheVariants as kind
use Rattle.pcj_tree.specs.declared.tree.Tree.{Tree}
use Rattle.pcj_notify.specs.declared.answer.Answer.{Answer}
use Rattle.pcj_notify.specs.declared.answer.Answer.TheVariants.{PlainDone}
use Rattle.pcj_notify.specs.declared.ask.Ask.{Ask}
use Rattle.pcj_notify.specs.declared.ask.Ask.TheVariants.{Plain, Commit}
use Rattle.pcj_notify.specs.declared.task.Task.{Task}
use Rattle.pcj_notify.specs.Plans.{finish}

-- the printed line of a result row: its cells, with a TAB between two of them
abbrev pub line_of : List (List ℕ) → List ℕ
line_of cells = join_with_byte 9 cells

-- the last node of the tree is a projection
pub record IsOfResults (tree : Tree) : Type 0 where
  pub front : List Node
  pub last : Node
  pub child : ℕ
  pub nodes : tree.nodes ≡ front ++ last ∷ []
  pub is_projection : last.kind ≡ kind.Project child

-- at first that the line is written on the row of the export, and then the end
abbrev pub IsResultAsk : Task → ℕ → List (List ℕ) → List Answer → Ask → Type 0
IsResultAsk task registration cells [] ask = ask ≡ Plain (key_of (row.Export registration cells)) (line_of cells)
IsResultAsk task registration cells (PlainDone ∷ []) ask = ask ≡ Commit (finish task ∷ [])
IsResultAsk task registration cells _ ask = ⊥

-- the same, by what the task is for
abbrev pub IsAskFor : TaskName → Task → Tree → List Answer → Ask → Type 0
IsAskFor (name.Export registration cells) task tree answers ask = IsOfResults tree × IsResultAsk task registration cells answers ask
IsAskFor _ task tree answers ask = ⊥

-- what is asked next for the export of a result row, where the answers are those of what was asked before
abbrev pub IsExportAsk : Task → Tree → List Answer → Ask → Type 0
IsExportAsk task tree answers ask = IsAskFor task.name task tree answers ask
