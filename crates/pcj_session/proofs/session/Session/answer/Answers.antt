use Rattle.std.proofs.Common.{IfErr, IfOk, sym, subst}
use Rattle.pcj_script.specs.declared.command.Command.{Command as Sliced}
use Rattle.pcj_script.specs.Commands.{command_of}
use Rattle.pcj_session.specs.Session.{Answers, StopsAt}
use Rattle.pcj_session.proofs.StatusLemmas.{status_cut, status_told}
use Rattle.pcj_session.proofs.session.Session.answer.Goals as goal

pub returns-in-Load-clause-stopped : goal.returns-in-Load-clause-stopped
returns-in-Load-clause-stopped g c = λ language others state sparql holds.
    subst (λ (command : Sliced). IfErr c.load.result (StopsAt language others state (command_of command) c.load.new.self (g.T.RowTable.rows c.load.new.table))) (sym c.in-Load.is) (c.load.ensures.stopped language others state holds)

pub returns-in-StepClient-clause-stopped : goal.returns-in-StepClient-clause-stopped
returns-in-StepClient-clause-stopped g c = λ language others state sparql holds.
    subst (λ (command : Sliced). IfErr c.step.result (StopsAt language others state (command_of command) c.step.new.self (g.T.RowTable.rows c.step.new.table))) (sym c.in-StepClient.is) (c.step.ensures.stopped language others state holds)

pub returns-in-Crash-clause-answered : goal.returns-in-Crash-clause-answered
returns-in-Crash-clause-answered g c = λ language others state sparql holds.
    subst (λ (command : Sliced). Answers language others state (command_of command) c.crash.new.self (g.T.RowTable.rows c.args.table.now) c.crash.result) (sym c.in-Crash.is) (c.crash.ensures.answered language others state (g.T.RowTable.rows c.args.table.now) c.requires.clock holds)

pub returns-in-Status-clause-answered : goal.returns-in-Status-clause-answered
returns-in-Status-clause-answered g c = λ language others state sparql holds.
    subst (λ (command : Sliced). IfOk c.status.result (Answers language others state (command_of command) c.args.self.now (g.T.RowTable.rows c.status.new.table))) (sym c.in-Status.is)
    (status_told language others c.args.self.now (g.T.RowTable.rows c.args.table.now) (g.T.RowTable.rows c.status.new.table) state c.status.result c.requires.clock c.status.ensures.same c.status.ensures.told holds)

pub returns-in-Status-clause-stopped : goal.returns-in-Status-clause-stopped
returns-in-Status-clause-stopped g c = λ language others state sparql holds.
    subst (λ (command : Sliced). IfErr c.status.result (StopsAt language others state (command_of command) c.args.self.now (g.T.RowTable.rows c.status.new.table))) (sym c.in-Status.is)
    (status_cut language others c.args.self.now (g.T.RowTable.rows c.args.table.now) (g.T.RowTable.rows c.status.new.table) state c.status.result c.status.ensures.same c.status.ensures.memory holds)
