-- What holds of the cells that are passed on, and of the plan.
use Rattle.std.specs.Prelude.{◌≡◌, ℕ, List}
use Rattle.std.specs.List.{All, Contains}
use Rattle.pcj_expr.specs.declared.mapping.Mapping.{Mapping}
use Rattle.pcj_notify.specs.declared.answer.Answer.{Answer}
use Rattle.pcj_notify.specs.declared.ask.Ask.{Ask}
use Rattle.pcj_notify.specs.declared.task.Task.{Task}
use Rattle.pcj_tree.specs.declared.tree.Tree.{Tree}
use Rattle.pcj_obs_pass.specs.Cells.{cells_at, cells_of}
use Rattle.pcj_obs_pass.specs.Plan.{IsPassAsk}

-- what a mapping gives some of a node's variables is among what it gives all of them, each at its place
abbrev pub CellsAreProjected : Type 0
CellsAreProjected = (mapping : Mapping) (order wanted : List (List ℕ)) → All (Contains order) wanted → cells_at order (cells_of order mapping) wanted ≡ cells_of wanted mapping

-- for one task, tree and answers there is one ask
abbrev pub AsksAreOne : Type 0
AsksAreOne = (task : Task) (tree : Tree) (answers : List Answer) (ask other : Ask) → IsPassAsk task tree answers ask → IsPassAsk task tree answers other → ask ≡ other
