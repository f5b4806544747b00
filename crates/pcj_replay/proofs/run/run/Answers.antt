use Rattle.std.proofs.Common.{subst}
use Rattle.pcj_replay.specs.Runs.{StopsIn}
use Rattle.pcj_replay.proofs.RunLemmas.{run_done, run_short, run_spent, run_stopped, sink_only, source_only, spent_source, spent_table, table_never}
use Rattle.pcj_replay.proofs.run.run.Goals as goal

pub returns-in-Ok-clause-ends : goal.returns-in-Ok-clause-ends
returns-in-Ok-clause-ends g c = λ language start commands script sparql begins spells.
    run_done language start commands script (g.K.Sink.taken c.args.sink.now) (g.K.Sink.taken c.carry_out.new.sink) (g.K.Sink.taken c.finish.new.sink) (g.T.RowTable.rows c.carry_out.new.table) c.in-Ok.ending c.finish.result ((c.in-Ok.ensures {u = tt}).done language start commands script sparql begins spells) c.finish.ensures.finishes

pub returns-in-Ok-clause-cause : goal.returns-in-Ok-clause-cause
returns-in-Ok-clause-cause g c = sink_only c.args.input.now.end c.in-Ok.ending c.finish.result _ _ _ (c.in-Ok.ensures {u = tt}).kind c.carry_out.ensures.cause.later c.finish.ensures.cause

pub returns-in-Ok-clause-source : goal.returns-in-Ok-clause-source
returns-in-Ok-clause-source g c = source_only c.args.input.now.end c.in-Ok.ending c.finish.result _ _ (c.in-Ok.ensures {u = tt}).kind c.finish.ensures.finishes

pub returns-in-Ok-clause-table : goal.returns-in-Ok-clause-table
returns-in-Ok-clause-table g c = table_never c.args.input.now.end c.in-Ok.ending c.finish.result _ _ (c.in-Ok.ensures {u = tt}).kind c.finish.ensures.finishes

pub returns-in-Err-Spent-clause-ends : goal.returns-in-Err-Spent-clause-ends
returns-in-Err-Spent-clause-ends g c = λ language start commands script sparql begins spells.
    run_spent language start commands script (g.K.Sink.taken c.args.sink.now) (g.K.Sink.taken c.carry_out.new.sink) (g.K.Sink.taken c.close.new.sink) (g.T.RowTable.rows c.carry_out.new.table) c.close.result (subst (StopsIn language start commands (g.K.Sink.taken c.args.sink.now) (g.K.Sink.taken c.carry_out.new.sink) (g.T.RowTable.rows c.carry_out.new.table)) c.in-Err-Spent.field-0-is ((c.in-Err-Spent.ensures {u = tt}).cut language start commands script sparql begins spells)) c.close.ensures.closes

pub returns-in-Err-Spent-clause-source : goal.returns-in-Err-Spent-clause-source
returns-in-Err-Spent-clause-source g c = spent_source c.args.input.now.end c.close.result _ _ c.close.ensures.closes

pub returns-in-Err-Spent-clause-table : goal.returns-in-Err-Spent-clause-table
returns-in-Err-Spent-clause-table g c = spent_table c.close.result _ _ c.close.ensures.closes

pub returns-in-Err-SinkFault-clause-ends : goal.returns-in-Err-SinkFault-clause-ends
returns-in-Err-SinkFault-clause-ends g c = λ language start commands script sparql begins spells.
    run_stopped language start commands script (g.K.Sink.taken c.args.sink.now) (g.K.Sink.taken c.carry_out.new.sink) (g.T.RowTable.rows c.carry_out.new.table) (subst (StopsIn language start commands (g.K.Sink.taken c.args.sink.now) (g.K.Sink.taken c.carry_out.new.sink) (g.T.RowTable.rows c.carry_out.new.table)) c.in-Err-SinkFault.field-0-is ((c.in-Err-SinkFault.ensures {u = tt}).cut language start commands script sparql begins spells))

pub returns-in-Err-Memory-clause-ends : goal.returns-in-Err-Memory-clause-ends
returns-in-Err-Memory-clause-ends g c = λ language start commands script sparql begins spells.
    run_short language start commands script (g.K.Sink.taken c.args.sink.now) (g.K.Sink.taken c.carry_out.new.sink) (g.T.RowTable.rows c.carry_out.new.table) (subst (StopsIn language start commands (g.K.Sink.taken c.args.sink.now) (g.K.Sink.taken c.carry_out.new.sink) (g.T.RowTable.rows c.carry_out.new.table)) c.in-Err-Memory.field-0-is ((c.in-Err-Memory.ensures {u = tt}).cut language start commands script sparql begins spells))
