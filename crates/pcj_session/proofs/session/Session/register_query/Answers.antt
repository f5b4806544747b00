use Rattle.std.proofs.Common.{rules, ◌≡◌, ◌≤◌, ◌+◌, ◌++◌, ◌∷◌, [], true, false, None, Some, ap, inr, refl, sym, subst, ◌∙◌}
use Rattle.pcj_algebra.specs.declared.query.Query.{Query}
use Rattle.pcj_tree.specs.Tree.{IsTree, size_of}
use Rattle.pcj_client.specs.Job.{Job}
use Rattle.pcj_client.specs.Job.Content.{Registers}
use Rattle.pcj_model.specs.Line.Event.{Registered}
use Rattle.pcj_model.specs.Line.Line.{Client}
use Rattle.pcj_clients.specs.Clients.{job_of}
use Rattle.pcj_script.specs.Commands.{Command as commands}
use Rattle.pcj_session.specs.Language.{is_observed}
use Rattle.pcj_session.specs.Lines.{lines_of}
use Rattle.pcj_session.specs.Registry.{Opens}
use Rattle.pcj_session.specs.Session.{Answers, Held, Holds, IsLeft, StopsAt}
use Rattle.pcj_session.proofs.DrawLemmas.{Says, by_error, by_memory, cut_short, drawn_holds, keeps_hold, left_by, left_with, with_oracle}
use Rattle.pcj_session.proofs.LoadLemmas.{is_free}
use Rattle.pcj_session.proofs.RegisterLemmas.{is_bad, is_good, register_faulted, register_opened, register_refused, register_spent}
use Rattle.pcj_session.proofs.StepLemmas.{with_clients}
use Rattle.pcj_session.proofs.session.Session.register_query.Goals as goal

pub returns-then-not-is_observed-clause-answered : goal.returns-then-not-is_observed-clause-answered
returns-then-not-is_observed-clause-answered g c = λ language others state text sparql of_text holds.
    let observed : is_observed c.args.query ≡ false = search rules in
    register_refused language others c.args.client (record { place = 0; kind = 2 }) c.args.name.now text c.args.self.now (g.T.RowTable.rows c.args.table.now) state _ refl
    (is_free others c.args.self.now (g.T.RowTable.rows c.args.table.now) state c.args.client holds c.requires.free) (is_bad language text c.args.query sparql of_text observed) holds

pub returns-in-Err-Failed-clause-answered : goal.returns-in-Err-Failed-clause-answered
returns-in-Err-Failed-clause-answered g c = λ language others state text sparql of_text holds.
    let observed : is_observed c.args.query ≡ true = search rules in
    register_faulted language others c.args.client c.args.name.now text (record { clients = c.self.inside.clients; queries = c.self.inside.registry.queries; opened = c.self.inside.registry.opened; oracle = c.self.inside.oracle }) c.draw.new.self (g.T.RowTable.rows c.args.table.now) (g.T.RowTable.rows c.draw.new.table) state (lines_of c.fault_of.result) c.fault_of.ensures (subst (λ (h : Held). job_of h.clients c.args.client ≡ None) (sym c.self.view_is) c.requires.free)
    (is_good language text c.args.query sparql of_text observed) (c.in-Err-Failed.ensures {u = tt}).kept (subst (λ (h : Held). Holds others h (g.T.RowTable.rows c.args.table.now) state) (sym c.self.view_is) holds)

pub returns-in-Err-Memory-clause-stopped : goal.returns-in-Err-Memory-clause-stopped
returns-in-Err-Memory-clause-stopped g c = λ language others state text sparql of_text holds.
    cut_short language others state (commands.Register c.args.client c.args.name.now text) (with_oracle (record { clients = c.self.inside.clients; queries = c.self.inside.registry.queries; opened = c.self.inside.registry.opened; oracle = c.self.inside.oracle }) c.draw.new.self) (g.T.RowTable.rows c.draw.new.table)
    (left_by others (with_oracle (record { clients = c.self.inside.clients; queries = c.self.inside.registry.queries; opened = c.self.inside.registry.opened; oracle = c.self.inside.oracle }) c.draw.new.self) (g.T.RowTable.rows c.draw.new.table) state (keeps_hold others (record { clients = c.self.inside.clients; queries = c.self.inside.registry.queries; opened = c.self.inside.registry.opened; oracle = c.self.inside.oracle }) c.draw.new.self (g.T.RowTable.rows c.args.table.now) (g.T.RowTable.rows c.draw.new.table) state (c.in-Err-Memory.ensures {u = tt}).kept (subst (λ (h : Held). Holds others h (g.T.RowTable.rows c.args.table.now) state) (sym c.self.view_is) holds)))

pub returns-in-Err-Spent-clause-stopped : goal.returns-in-Err-Spent-clause-stopped
returns-in-Err-Spent-clause-stopped g c = λ language others state text sparql of_text holds.
    let observed : is_observed c.args.query ≡ true = search rules in
    register_spent language others c.args.client c.args.name.now text (record { clients = c.self.inside.clients; queries = c.self.inside.registry.queries; opened = c.self.inside.registry.opened; oracle = c.self.inside.oracle }) c.draw.new.self (g.T.RowTable.rows c.args.table.now) (g.T.RowTable.rows c.draw.new.table) state (subst (λ (h : Held). job_of h.clients c.args.client ≡ None) (sym c.self.view_is) c.requires.free)
    (is_good language text c.args.query sparql of_text observed) (c.in-Err-Spent.ensures {u = tt}).kept (subst (λ (h : Held). Holds others h (g.T.RowTable.rows c.args.table.now) state) (sym c.self.view_is) holds)

pub returns-in_err-from_slice-clause-stopped : goal.returns-in_err-from_slice-clause-stopped
returns-in_err-from_slice-clause-stopped g c = λ language others state text sparql of_text holds.
    by_memory (StopsAt language others state (commands.Register c.args.client c.args.name.now text) (with_oracle (record { clients = c.self.inside.clients; queries = c.self.inside.registry.queries; opened = c.self.inside.registry.opened; oracle = c.self.inside.oracle }) c.draw.new.self) (g.T.RowTable.rows c.draw.new.table)) c.from_residual.result c.from_residual.ensures.1
    (cut_short language others state (commands.Register c.args.client c.args.name.now text) (with_oracle (record { clients = c.self.inside.clients; queries = c.self.inside.registry.queries; opened = c.self.inside.registry.opened; oracle = c.self.inside.oracle }) c.draw.new.self) (g.T.RowTable.rows c.draw.new.table)
    (left_by others (with_oracle (record { clients = c.self.inside.clients; queries = c.self.inside.registry.queries; opened = c.self.inside.registry.opened; oracle = c.self.inside.oracle }) c.draw.new.self) (g.T.RowTable.rows c.draw.new.table) state (drawn_holds c.in-Ok.number others (record { clients = c.self.inside.clients; queries = c.self.inside.registry.queries; opened = c.self.inside.registry.opened; oracle = c.self.inside.oracle }) c.draw.new.self (g.T.RowTable.rows c.args.table.now) (g.T.RowTable.rows c.draw.new.table) state (c.in-Ok.ensures {u = tt}).granted (subst (λ (h : Held). Holds others h (g.T.RowTable.rows c.args.table.now) state) (sym c.self.view_is) holds))))

pub new-requires-clause-size : goal.new-requires-clause-size
new-requires-clause-size g c = subst (λ (query : Query). size_of query.pattern + 1 ≤ 128) (sym c.get-2.ensures) c.requires.few

pub returns-in_err-job-clause-stopped : goal.returns-in_err-job-clause-stopped
returns-in_err-job-clause-stopped g c = λ language others state text sparql of_text holds.
    by_memory (StopsAt language others state (commands.Register c.args.client c.args.name.now text) (with_oracle (record { clients = c.self.inside.clients; queries = c.self.inside.registry.queries; opened = c.self.inside.registry.opened; oracle = c.self.inside.oracle }) c.draw.new.self) (g.T.RowTable.rows c.draw.new.table)) c.from_residual-in_err-job.result c.from_residual-in_err-job.ensures.1
    (cut_short language others state (commands.Register c.args.client c.args.name.now text) (with_oracle (record { clients = c.self.inside.clients; queries = c.self.inside.registry.queries; opened = c.self.inside.registry.opened; oracle = c.self.inside.oracle }) c.draw.new.self) (g.T.RowTable.rows c.draw.new.table)
    (left_by others (with_oracle (record { clients = c.self.inside.clients; queries = c.self.inside.registry.queries; opened = c.self.inside.registry.opened; oracle = c.self.inside.oracle }) c.draw.new.self) (g.T.RowTable.rows c.draw.new.table) state (drawn_holds c.in-Ok.number others (record { clients = c.self.inside.clients; queries = c.self.inside.registry.queries; opened = c.self.inside.registry.opened; oracle = c.self.inside.oracle }) c.draw.new.self (g.T.RowTable.rows c.args.table.now) (g.T.RowTable.rows c.draw.new.table) state (c.in-Ok.ensures {u = tt}).granted (subst (λ (h : Held). Holds others h (g.T.RowTable.rows c.args.table.now) state) (sym c.self.view_is) holds))))

pub returns-in_err-from_slice-2-clause-stopped : goal.returns-in_err-from_slice-2-clause-stopped
returns-in_err-from_slice-2-clause-stopped g c = λ language others state text sparql of_text holds.
    by_memory (StopsAt language others state (commands.Register c.args.client c.args.name.now text) (with_oracle (record { clients = c.self.inside.clients; queries = c.self.inside.registry.queries; opened = c.self.inside.registry.opened; oracle = c.self.inside.oracle }) c.draw.new.self) (g.T.RowTable.rows c.draw.new.table)) c.from_residual-in_err-from_slice-2.result c.from_residual-in_err-from_slice-2.ensures.1
    (cut_short language others state (commands.Register c.args.client c.args.name.now text) (with_oracle (record { clients = c.self.inside.clients; queries = c.self.inside.registry.queries; opened = c.self.inside.registry.opened; oracle = c.self.inside.oracle }) c.draw.new.self) (g.T.RowTable.rows c.draw.new.table)
    (left_by others (with_oracle (record { clients = c.self.inside.clients; queries = c.self.inside.registry.queries; opened = c.self.inside.registry.opened; oracle = c.self.inside.oracle }) c.draw.new.self) (g.T.RowTable.rows c.draw.new.table) state (drawn_holds c.in-Ok.number others (record { clients = c.self.inside.clients; queries = c.self.inside.registry.queries; opened = c.self.inside.registry.opened; oracle = c.self.inside.oracle }) c.draw.new.self (g.T.RowTable.rows c.args.table.now) (g.T.RowTable.rows c.draw.new.table) state (c.in-Ok.ensures {u = tt}).granted (subst (λ (h : Held). Holds others h (g.T.RowTable.rows c.args.table.now) state) (sym c.self.view_is) holds))))

pub returns-in_err-open-clause-answered : goal.returns-in_err-open-clause-answered
returns-in_err-open-clause-answered g c = λ language others state text sparql of_text holds.
    by_error (Answers language others state (commands.Register c.args.client c.args.name.now text) (record { clients = c.self.inside.clients; queries = c.open.new.self.queries; opened = c.open.new.self.opened; oracle = c.draw.new.self }) (g.T.RowTable.rows c.draw.new.table)) c.from_residual-in_err-open.result c.from_residual-in_err-open.ensures.1

pub returns-in_err-open-clause-stopped : goal.returns-in_err-open-clause-stopped
returns-in_err-open-clause-stopped g c = λ language others state text sparql of_text holds.
    by_memory (StopsAt language others state (commands.Register c.args.client c.args.name.now text) (record { clients = c.self.inside.clients; queries = c.open.new.self.queries; opened = c.open.new.self.opened; oracle = c.draw.new.self }) (g.T.RowTable.rows c.draw.new.table)) c.from_residual-in_err-open.result c.from_residual-in_err-open.ensures.1
    (cut_short language others state (commands.Register c.args.client c.args.name.now text) (record { clients = c.self.inside.clients; queries = c.open.new.self.queries; opened = c.open.new.self.opened; oracle = c.draw.new.self }) (g.T.RowTable.rows c.draw.new.table)
    (left_with others c.self.inside.clients c.self.inside.registry.queries c.open.new.self.queries c.self.inside.registry.opened c.open.new.self.opened c.draw.new.self (g.T.RowTable.rows c.draw.new.table) state
    (left_by others (with_oracle (record { clients = c.self.inside.clients; queries = c.self.inside.registry.queries; opened = c.self.inside.registry.opened; oracle = c.self.inside.oracle }) c.draw.new.self) (g.T.RowTable.rows c.draw.new.table) state (drawn_holds c.in-Ok.number others (record { clients = c.self.inside.clients; queries = c.self.inside.registry.queries; opened = c.self.inside.registry.opened; oracle = c.self.inside.oracle }) c.draw.new.self (g.T.RowTable.rows c.args.table.now) (g.T.RowTable.rows c.draw.new.table) state (c.in-Ok.ensures {u = tt}).granted (subst (λ (h : Held). Holds others h (g.T.RowTable.rows c.args.table.now) state) (sym c.self.view_is) holds)))))

pub returns-in_err-open-2-clause-stopped : goal.returns-in_err-open-2-clause-stopped
returns-in_err-open-2-clause-stopped g c = λ language others state text sparql of_text holds.
    by_memory (StopsAt language others state (commands.Register c.args.client c.args.name.now text) (record { clients = c.open-2.new.self; queries = c.open.new.self.queries; opened = c.open.new.self.opened; oracle = c.draw.new.self }) (g.T.RowTable.rows c.draw.new.table)) c.from_residual-in_err-open-2.result c.from_residual-in_err-open-2.ensures.1
    (cut_short language others state (commands.Register c.args.client c.args.name.now text) (record { clients = c.open-2.new.self; queries = c.open.new.self.queries; opened = c.open.new.self.opened; oracle = c.draw.new.self }) (g.T.RowTable.rows c.draw.new.table)
    (left_with others c.open-2.new.self c.self.inside.registry.queries c.open.new.self.queries c.self.inside.registry.opened c.open.new.self.opened c.draw.new.self (g.T.RowTable.rows c.draw.new.table) state
    (subst (λ clients. IsLeft others (with_clients (record { clients = c.self.inside.clients; queries = c.self.inside.registry.queries; opened = c.self.inside.registry.opened; oracle = c.self.inside.oracle }) clients c.draw.new.self) (g.T.RowTable.rows c.draw.new.table) state) (sym (c.in_err-open-2.ensures {u = tt}).err)
    (left_by others (with_oracle (record { clients = c.self.inside.clients; queries = c.self.inside.registry.queries; opened = c.self.inside.registry.opened; oracle = c.self.inside.oracle }) c.draw.new.self) (g.T.RowTable.rows c.draw.new.table) state (drawn_holds c.in-Ok.number others (record { clients = c.self.inside.clients; queries = c.self.inside.registry.queries; opened = c.self.inside.registry.opened; oracle = c.self.inside.oracle }) c.draw.new.self (g.T.RowTable.rows c.args.table.now) (g.T.RowTable.rows c.draw.new.table) state (c.in-Ok.ensures {u = tt}).granted (subst (λ (h : Held). Holds others h (g.T.RowTable.rows c.args.table.now) state) (sym c.self.view_is) holds))))))

pub returns-clause-answered : goal.returns-clause-answered
returns-clause-answered g c = λ language others state text sparql of_text holds.
    let observed : is_observed c.args.query ≡ true = search rules in
    let (tree, of_query, is) = (c.in_ok-job.ensures {u = tt}).job in
    let read : c.in_ok-from_slice.field-0 ≡ c.args.name.now = c.in_ok-from_slice.ensures {u = tt} in
    let kept : c.in_ok-from_slice-2.field-0 ≡ c.args.name.now = c.in_ok-from_slice-2.ensures {u = tt} in
    subst (λ queries. Says language others state (commands.Register c.args.client c.args.name.now text) (record { clients = c.open-2.new.self; queries = queries; opened = c.open.new.self.opened; oracle = c.draw.new.self }) (g.T.RowTable.rows c.draw.new.table) (Client c.args.client (Registered c.in-Ok.number c.args.name.now) ∷ [])) (sym c.open.ensures.queries)
    (register_opened language others c.args.client c.in-Ok.number c.args.name.now text c.args.query tree (record { clients = c.self.inside.clients; queries = c.self.inside.registry.queries; opened = c.self.inside.registry.opened; oracle = c.self.inside.oracle }) c.open.new.self.opened c.draw.new.self (g.T.RowTable.rows c.args.table.now) (g.T.RowTable.rows c.draw.new.table) state c.in_ok-job.job c.open-2.new.self (Client c.args.client (Registered c.in-Ok.number c.args.name.now) ∷ [])
    refl sparql of_text observed (is.content ∙ ap (λ n. Registers n tree) read) (subst (λ (q : Query). IsTree q tree) c.get-2.ensures of_query) (c.in-Ok.ensures {u = tt}).granted (subst (λ (h : Held). Holds others h (g.T.RowTable.rows c.args.table.now) state) (sym c.self.view_is) holds)
    (inr (c.in_ok-from_slice.field-0, tree, is)) (c.in_ok-job.ensures {u = tt}).actor (subst (λ (h : Held). job_of h.clients c.args.client ≡ None) (sym c.self.view_is) c.requires.free)
    ((c.in_ok-open-2.ensures {u = tt}).ok ∙ ap (λ (job : Job). c.self.inside.clients ++ (record { client = c.args.client; job = job }) ∷ []) c.register.ensures)
    (subst (λ n. Opens c.args.client (Some (record { name = n; query = c.args.query })) c.self.inside.registry.opened c.open.new.self.opened) kept (c.in_ok-open.ensures {u = tt}).opened))
