use Rattle.pcj_script.specs.Commands.{command_of}
use Rattle.std.proofs.Common.{[], ◌∙◌}
use Rattle.pcj_replay.specs.declared.stop.Stop.TheVariants as stops
use Rattle.pcj_replay.specs.Answer.{StopsAnswer}
use Rattle.pcj_replay.specs.Stop.{session_stop, sink_stop}
use Rattle.pcj_replay.proofs.AnswerLemmas.{by_stop, stops_unprinted, stops_unwritten, stops_with, writes_all}
use Rattle.pcj_replay.proofs.answer.answer.Goals as goal

pub returns-in_err-reply-clause-stopped : goal.returns-in_err-reply-clause-stopped
returns-in_err-reply-clause-stopped g c = λ language state sparql holds.
    by_stop (StopsAnswer language state (command_of c.args.command) (g.T.RowTable.rows c.answer.new.table) (g.K.Sink.taken c.args.sink.now) (g.K.Sink.taken c.args.sink.now)) c.from_residual.result (session_stop c.in_err-reply.field-0.0) c.from_residual.ensures.1
    (stops_with language state (command_of c.args.command) c.answer.new.self (g.T.RowTable.rows c.answer.new.table) (g.K.Sink.taken c.args.sink.now) c.in_err-reply.field-0.0 c.answer.ensures.clock ((c.in_err-reply.ensures {u = tt}).stopped language [] state sparql holds))

pub returns-in_err-text-clause-stopped : goal.returns-in_err-text-clause-stopped
returns-in_err-text-clause-stopped g c = λ language state sparql holds.
    by_stop (StopsAnswer language state (command_of c.args.command) (g.T.RowTable.rows c.answer.new.table) (g.K.Sink.taken c.args.sink.now) (g.K.Sink.taken c.args.sink.now)) c.from_residual-in_err-text.result stops.Memory c.from_residual-in_err-text.ensures.1
    (stops_unprinted language state (command_of c.args.command) c.answer.new.self (g.T.RowTable.rows c.answer.new.table) (g.K.Sink.taken c.args.sink.now) c.in_ok-reply.reply c.answer.ensures.clock ((c.in_ok-reply.ensures {u = tt}).answered language [] state sparql holds))

pub returns-in_err-write_all-clause-stopped : goal.returns-in_err-write_all-clause-stopped
returns-in_err-write_all-clause-stopped g c = λ language state sparql holds.
    by_stop (StopsAnswer language state (command_of c.args.command) (g.T.RowTable.rows c.answer.new.table) (g.K.Sink.taken c.args.sink.now) (g.K.Sink.taken c.write_all.new.sink)) c.from_residual-in_err-write_all.result (sink_stop c.in_err-write_all.field-0.0) c.from_residual-in_err-write_all.ensures.1
    (stops_unwritten language state (command_of c.args.command) c.answer.new.self (g.T.RowTable.rows c.answer.new.table) (g.K.Sink.taken c.args.sink.now) (g.K.Sink.taken c.write_all.new.sink) c.in_ok-reply.reply c.as_slice.result.now c.in_err-write_all.field-0.0 c.answer.ensures.clock
    ((c.in_ok-reply.ensures {u = tt}).answered language [] state sparql holds) (c.as_slice.ensures ∙ c.in_ok-text.ensures {u = tt}) (c.in_err-write_all.ensures {u = tt}).err)

pub returns-clause-answered : goal.returns-clause-answered
returns-clause-answered g c = λ language state sparql holds.
    writes_all language state (command_of c.args.command) c.answer.new.self (g.T.RowTable.rows c.answer.new.table) (g.K.Sink.taken c.args.sink.now) (g.K.Sink.taken c.write_all.new.sink) c.in_ok-reply.reply c.as_slice.result.now
    ((c.in_ok-reply.ensures {u = tt}).answered language [] state sparql holds) (c.as_slice.ensures ∙ c.in_ok-text.ensures {u = tt}) (c.in_ok-write_all.ensures {u = tt}).ok
