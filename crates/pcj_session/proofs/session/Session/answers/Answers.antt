use Rattle.std.proofs.Common.{◌≡◌, Some, None, sym, subst}
use Rattle.std.specs.Map.{lookup}
use Rattle.std.proofs.lemmas.Result.{IfOk-weaker}
use Rattle.pcj_term.specs.Order.{same_bytes}
use Rattle.pcj_script.specs.Commands.{Command as commands}
use Rattle.pcj_session.specs.Session.{Answers, Held, Holds, StopsAt}
use Rattle.pcj_session.proofs.DrawLemmas.{by_memory, cut_short, left_by, with_oracle}
use Rattle.pcj_session.proofs.ReadLemmas.{answers_faulted, answers_rows, answers_spent, answers_unknown, fault_told, read_left, rows_answered, rows_stopped}
use Rattle.pcj_session.proofs.session.Session.answers.Goals as goal

pub returns-in_err-key-clause-stopped : goal.returns-in_err-key-clause-stopped
returns-in_err-key-clause-stopped g c = λ language others state sparql holds.
    by_memory (StopsAt language others state (commands.Answers c.args.name.now) c.args.self.now (g.T.RowTable.rows c.args.table.now)) c.from_residual.result c.from_residual.ensures.1
    (cut_short language others state (commands.Answers c.args.name.now) c.args.self.now (g.T.RowTable.rows c.args.table.now) (left_by others c.args.self.now (g.T.RowTable.rows c.args.table.now) state holds))

pub returns-in-None-clause-answered : goal.returns-in-None-clause-answered
returns-in-None-clause-answered g c = λ language others state sparql holds.
    answers_unknown language others c.args.name.now c.args.self.now (g.T.RowTable.rows c.args.table.now) state
    (subst (λ name. lookup (same_bytes name) c.args.self.now.queries ≡ None) (c.in_ok-key.ensures {u = tt}) (subst (λ (h : Held). lookup (same_bytes c.in_ok-key.key) h.queries ≡ None) c.self.view_is (sym (c.in-None.ensures {u = tt})))) holds

pub returns-clause-answered : goal.returns-clause-answered
returns-clause-answered g c = λ language others state sparql holds.
    let there = (subst (λ (h : Held). Holds others h (g.T.RowTable.rows c.args.table.now) state) (sym c.self.view_is) holds) in
    let named = subst (λ name. lookup (same_bytes name) c.self.inside.registry.queries ≡ Some c.in-Some.query.now) (c.in_ok-key.ensures {u = tt}) (sym (c.in-Some.ensures {u = tt})) in
    rows_answered (Answers language others state (commands.Answers c.args.name.now) (with_oracle (record { clients = c.self.inside.clients; queries = c.self.inside.registry.queries; opened = c.self.inside.registry.opened; oracle = c.self.inside.oracle }) c.scan-rows.new.oracle) (g.T.RowTable.rows c.scan-rows.new.table)) _ c.scan-rows.result c.rows_reply.result c.rows_reply.ensures
    (IfOk-weaker c.scan-rows.result _ _ (λ rows finds. answers_rows language others c.args.name.now c.in-Some.query.now (record { clients = c.self.inside.clients; queries = c.self.inside.registry.queries; opened = c.self.inside.registry.opened; oracle = c.self.inside.oracle }) c.scan-rows.new.oracle (g.T.RowTable.rows c.args.table.now) (g.T.RowTable.rows c.scan-rows.new.table) state rows c.lines_are_one_list.ensures c.trees_have_one_query.ensures.lines sparql named c.scan-rows.ensures.moves c.scan-rows.ensures.sound finds there) c.scan-rows.ensures.lines)
    (answers_faulted language others c.args.name.now c.in-Some.query.now (record { clients = c.self.inside.clients; queries = c.self.inside.registry.queries; opened = c.self.inside.registry.opened; oracle = c.self.inside.oracle }) c.scan-rows.new.oracle (g.T.RowTable.rows c.args.table.now) (g.T.RowTable.rows c.scan-rows.new.table) state named c.scan-rows.ensures.moves c.scan-rows.ensures.sound there)

pub returns-clause-stopped : goal.returns-clause-stopped
returns-clause-stopped g c = λ language others state sparql holds.
    let there = (subst (λ (h : Held). Holds others h (g.T.RowTable.rows c.args.table.now) state) (sym c.self.view_is) holds) in
    let named = (subst (λ name. lookup (same_bytes name) c.self.inside.registry.queries ≡ Some c.in-Some.query.now) (c.in_ok-key.ensures {u = tt}) (sym (c.in-Some.ensures {u = tt}))) in
    rows_stopped (StopsAt language others state (commands.Answers c.args.name.now) (with_oracle (record { clients = c.self.inside.clients; queries = c.self.inside.registry.queries; opened = c.self.inside.registry.opened; oracle = c.self.inside.oracle }) c.scan-rows.new.oracle) (g.T.RowTable.rows c.scan-rows.new.table)) _ c.scan-rows.result c.rows_reply.result c.rows_reply.ensures
    (cut_short language others state (commands.Answers c.args.name.now) (with_oracle (record { clients = c.self.inside.clients; queries = c.self.inside.registry.queries; opened = c.self.inside.registry.opened; oracle = c.self.inside.oracle }) c.scan-rows.new.oracle) (g.T.RowTable.rows c.scan-rows.new.table) (read_left others (record { clients = c.self.inside.clients; queries = c.self.inside.registry.queries; opened = c.self.inside.registry.opened; oracle = c.self.inside.oracle }) c.scan-rows.new.oracle (g.T.RowTable.rows c.args.table.now) (g.T.RowTable.rows c.scan-rows.new.table) state c.scan-rows.ensures.moves c.scan-rows.ensures.sound there))
    (answers_spent language others c.args.name.now c.in-Some.query.now (record { clients = c.self.inside.clients; queries = c.self.inside.registry.queries; opened = c.self.inside.registry.opened; oracle = c.self.inside.oracle }) c.scan-rows.new.oracle (g.T.RowTable.rows c.args.table.now) (g.T.RowTable.rows c.scan-rows.new.table) state named c.scan-rows.ensures.moves c.scan-rows.ensures.sound there)

pub returns-clause-fault : goal.returns-clause-fault
returns-clause-fault g c = fault_told (g.T.RowTable.failures c.args.table.now) (g.T.RowTable.failures c.scan-rows.new.table) _ c.scan-rows.result c.rows_reply.result c.rows_reply.ensures c.scan-rows.ensures.cause.failed
