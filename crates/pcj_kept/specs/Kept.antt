-- What is kept of the answers of registered queries, wherever the program was stopped, and whoever was at work.
use Rattle.pcj_mvcc.specs.Reading.{Rows}
use Rattle.pcj_kept.specs.Exports.{ExportsAreTrue}
use Rattle.pcj_kept.specs.Matches.{MatchesAreMet}
use Rattle.pcj_nodes.specs.Nodes.{NodeRowsAreTrue}
use Rattle.pcj_kept.specs.Passes.{RowsArePassed}
use Rattle.pcj_nodes.specs.Puts.{PutsStay}
use Rattle.pcj_nodes.specs.Tasks.{RowTasksHaveOrigins}

-- Rows that are put once stay. The rows of nodes are true, and their tasks have rows. Each match has its row, each row below a
-- projection its result, and each result its exported line, or a task that is still to come to it; and no line is false.
pub record Kept (rows : Rows) : Type 0 where
  pub puts : PutsStay rows
  pub nodes : NodeRowsAreTrue rows
  pub tasks : RowTasksHaveOrigins rows
  pub matches : MatchesAreMet rows
  pub passes : RowsArePassed rows
  pub exports : ExportsAreTrue rows
