use Rattle.pcj_script.specs.Commands.{Command as commands}
use Rattle.pcj_session.proofs.DrawLemmas.{cut_short, left_by}
use Rattle.pcj_session.proofs.session.Session.load.Goals as goal

pub returns-in-Err-Memory-clause-stopped : goal.returns-in-Err-Memory-clause-stopped
returns-in-Err-Memory-clause-stopped g c = λ language others state holds.
    cut_short language others state (commands.Load c.args.client c.args.document.now) c.args.self.now (g.T.RowTable.rows c.args.table.now) (left_by others c.args.self.now (g.T.RowTable.rows c.args.table.now) state holds)
