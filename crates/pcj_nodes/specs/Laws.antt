-- What commits leave of the rows of nodes and of their tasks.
use Rattle.std.specs.Prelude.{ℕ, List}
use Rattle.pcj_table.specs.declared.write.Write.{Write}
use Rattle.pcj_mvcc.specs.Reading.{Rows}
use Rattle.pcj_moves.specs.declared.answer.Answer.{Answer}
use Rattle.pcj_duties.specs.Observers.{HasPurpose}
use Rattle.pcj_nodes.specs.Commits.{Commits}
use Rattle.pcj_nodes.specs.Nodes.{NodeRowsAreTrue}
use Rattle.pcj_nodes.specs.Puts.{PutsStay}
use Rattle.pcj_nodes.specs.Tasks.{RowTasksHaveOrigins}

-- whatever an actor is at work for, its commit leaves rows that are put once, and true rows of nodes, whose tasks have them
abbrev pub CommitsKeepNodes : Type 0
CommitsKeepNodes = (number commit start : ℕ) (answers : List Answer) (writes : List Write) (before after : Rows) → Commits number commit start answers writes before after → HasPurpose start answers writes →
    PutsStay before → NodeRowsAreTrue before → RowTasksHaveOrigins before → PutsStay after × NodeRowsAreTrue after × RowTasksHaveOrigins after
