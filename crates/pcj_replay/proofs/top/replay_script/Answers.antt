use Rattle.std.proofs.Common.{subst, sym}
use Rattle.pcj_oracle.specs.Clock.{IsClock}
use Rattle.pcj_replay.specs.Runs.{HoldsFirst}
use Rattle.pcj_replay.proofs.RunLemmas.{ready_behind, replays_input, stops_at_entry}
use Rattle.pcj_replay.proofs.top.replay_script.Goals as goal

pub returns-in-Err-Failed-clause-replays : goal.returns-in-Err-Failed-clause-replays
returns-in-Err-Failed-clause-replays g c = λ language triples queries sparql has registered.
    (stops_at_entry (g.S.Source.left c.args.source.now) (g.K.Sink.taken c.args.sink.now) (g.T.RowTable.rows c.args.table.now) (g.T.RowTable.rows c.open_session.new.table) language triples queries c.requires c.open_session.ensures.same has registered).0

pub returns-in-Err-Memory-clause-replays : goal.returns-in-Err-Memory-clause-replays
returns-in-Err-Memory-clause-replays g c = λ language triples queries sparql has registered.
    (stops_at_entry (g.S.Source.left c.args.source.now) (g.K.Sink.taken c.args.sink.now) (g.T.RowTable.rows c.args.table.now) (g.T.RowTable.rows c.open_session.new.table) language triples queries c.requires c.open_session.ensures.same has registered).1

pub run-requires-clause-first : goal.run-requires-clause-first
run-requires-clause-first g c = subst (HoldsFirst c.in-Ok.session) (sym c.open_session.ensures.same) (c.in-Ok.ensures {u = tt}).first

pub run-requires-clause-clock : goal.run-requires-clause-clock
run-requires-clause-clock g c = subst (IsClock c.in-Ok.session.oracle) (sym c.open_session.ensures.same) (c.in-Ok.ensures {u = tt}).clock

pub returns-in-Ok-read-clause-replays : goal.returns-in-Ok-read-clause-replays
returns-in-Ok-read-clause-replays g c = λ language triples queries sparql has registered.
    replays_input (g.S.Source.left c.args.source.now) (g.K.Sink.taken c.args.sink.now) (g.K.Sink.taken c.run.new.sink) (g.T.RowTable.rows c.args.table.now) (g.T.RowTable.rows c.open_session.new.table) (g.T.RowTable.rows c.run.new.table) language triples queries c.in-Ok-read.input c.run.result (c.in-Ok-read.ensures {u = tt}).read
    c.open_session.ensures.same has registered (λ start commands script begins spells. c.run.ensures.ends language start commands script sparql begins spells)

pub returns-in-Ok-read-clause-source_fault : goal.returns-in-Ok-read-clause-source_fault
returns-in-Ok-read-clause-source_fault g c = λ is. (c.in-Ok-read.ensures {u = tt}).fault (c.run.ensures.source is)

pub returns-in-Ok-read-clause-table_fault : goal.returns-in-Ok-read-clause-table_fault
returns-in-Ok-read-clause-table_fault g c = λ is. absurd (c.run.ensures.table is)

pub returns-in-Err-clause-replays : goal.returns-in-Err-clause-replays
returns-in-Err-clause-replays g c = λ language triples queries sparql has registered.
    (stops_at_entry (g.S.Source.left c.args.source.now) (g.K.Sink.taken c.args.sink.now) (g.T.RowTable.rows c.args.table.now) (g.T.RowTable.rows c.open_session.new.table) language triples queries c.requires c.open_session.ensures.same has registered).1

pub returns-in-Ok-read-clause-ready : goal.returns-in-Ok-read-clause-ready
returns-in-Ok-read-clause-ready g c =
    ready_behind (g.S.Source.left c.args.source.now) (g.K.Sink.taken c.args.sink.now) (g.K.Sink.taken c.run.new.sink) (g.T.RowTable.rows c.args.table.now) (g.T.RowTable.rows c.open_session.new.table) (g.T.RowTable.rows c.run.new.table) c.in-Ok-read.input c.run.result (c.in-Ok-read.ensures {u = tt}).read
    c.open_session.ensures.same c.requires c.sparql_is_a_language.ensures.some (λ language start commands script sparql begins spells. c.run.ensures.ends language start commands script sparql begins spells)

pub returns-in-Ok-read-clause-table_fault_at_entry : goal.returns-in-Ok-read-clause-table_fault_at_entry
returns-in-Ok-read-clause-table_fault_at_entry g c = λ is. absurd (c.run.ensures.table is)
