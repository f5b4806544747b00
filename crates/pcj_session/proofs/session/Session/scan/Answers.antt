use Rattle.std.proofs.Common.{sym, subst}
use Rattle.std.proofs.lemmas.Result.{IfOk-weaker}
use Rattle.pcj_sparql.specs.Query.{QueryText}
use Rattle.pcj_script.specs.Commands.{Command as commands}
use Rattle.pcj_session.specs.Session.{Answers, Held, Holds, StopsAt}
use Rattle.pcj_session.proofs.DrawLemmas.{cut_short, left_by, with_oracle}
use Rattle.pcj_session.proofs.ReadLemmas.{fault_told, read_left, rows_answered, rows_stopped, scan_faulted, scan_rows}
use Rattle.pcj_session.proofs.session.Session.scan.Goals as goal

pub returns-in-Err-Memory-clause-stopped : goal.returns-in-Err-Memory-clause-stopped
returns-in-Err-Memory-clause-stopped g c = λ language others state sparql holds.
    cut_short language others state (commands.Scan c.args.text.now) c.args.self.now (g.T.RowTable.rows c.args.table.now) (left_by others c.args.self.now (g.T.RowTable.rows c.args.table.now) state holds)

pub returns-in-Ok-clause-answered : goal.returns-in-Ok-clause-answered
returns-in-Ok-clause-answered g c = λ language others state sparql holds.
    let there = (subst (λ (h : Held). Holds others h (g.T.RowTable.rows c.args.table.now) state) (sym c.self.view_is) holds) in
    let of_text = (subst (QueryText c.args.text.now) (sym c.get.ensures) (c.in-Ok.ensures {u = tt}).query) in
    rows_answered (Answers language others state (commands.Scan c.args.text.now) (with_oracle (record { clients = c.self.inside.clients; queries = c.self.inside.registry.queries; opened = c.self.inside.registry.opened; oracle = c.self.inside.oracle }) c.scan-rows.new.oracle) (g.T.RowTable.rows c.scan-rows.new.table)) _ c.scan-rows.result c.rows_reply.result c.rows_reply.ensures
    (IfOk-weaker c.scan-rows.result _ _ (λ rows finds. scan_rows language others c.args.text.now c.get.result.now (record { clients = c.self.inside.clients; queries = c.self.inside.registry.queries; opened = c.self.inside.registry.opened; oracle = c.self.inside.oracle }) c.scan-rows.new.oracle (g.T.RowTable.rows c.args.table.now) (g.T.RowTable.rows c.scan-rows.new.table) state rows c.lines_are_one_list.ensures sparql of_text c.scan-rows.ensures.moves c.scan-rows.ensures.sound finds there) c.scan-rows.ensures.lines)
    (scan_faulted language others c.args.text.now c.get.result.now (record { clients = c.self.inside.clients; queries = c.self.inside.registry.queries; opened = c.self.inside.registry.opened; oracle = c.self.inside.oracle }) c.scan-rows.new.oracle (g.T.RowTable.rows c.args.table.now) (g.T.RowTable.rows c.scan-rows.new.table) state sparql of_text c.scan-rows.ensures.moves c.scan-rows.ensures.sound there)

pub returns-in-Ok-clause-stopped : goal.returns-in-Ok-clause-stopped
returns-in-Ok-clause-stopped g c = λ language others state sparql holds.
    let there = (subst (λ (h : Held). Holds others h (g.T.RowTable.rows c.args.table.now) state) (sym c.self.view_is) holds) in
    let left = read_left others (record { clients = c.self.inside.clients; queries = c.self.inside.registry.queries; opened = c.self.inside.registry.opened; oracle = c.self.inside.oracle }) c.scan-rows.new.oracle (g.T.RowTable.rows c.args.table.now) (g.T.RowTable.rows c.scan-rows.new.table) state c.scan-rows.ensures.moves c.scan-rows.ensures.sound there in
    rows_stopped (StopsAt language others state (commands.Scan c.args.text.now) (with_oracle (record { clients = c.self.inside.clients; queries = c.self.inside.registry.queries; opened = c.self.inside.registry.opened; oracle = c.self.inside.oracle }) c.scan-rows.new.oracle) (g.T.RowTable.rows c.scan-rows.new.table)) _ c.scan-rows.result c.rows_reply.result c.rows_reply.ensures
    (cut_short language others state (commands.Scan c.args.text.now) (with_oracle (record { clients = c.self.inside.clients; queries = c.self.inside.registry.queries; opened = c.self.inside.registry.opened; oracle = c.self.inside.oracle }) c.scan-rows.new.oracle) (g.T.RowTable.rows c.scan-rows.new.table) left) (sparql.scans c.args.text.now c.get.result.now (subst (QueryText c.args.text.now) (sym c.get.ensures) (c.in-Ok.ensures {u = tt}).query), left)

pub returns-in-Ok-clause-fault : goal.returns-in-Ok-clause-fault
returns-in-Ok-clause-fault g c = fault_told (g.T.RowTable.failures c.args.table.now) (g.T.RowTable.failures c.scan-rows.new.table) _ c.scan-rows.result c.rows_reply.result c.rows_reply.ensures c.scan-rows.ensures.cause.failed
