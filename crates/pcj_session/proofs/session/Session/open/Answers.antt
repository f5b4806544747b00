use Rattle.std.proofs.Common.{◌≡◌, ◌++◌, ◌∷◌, [], None, ap, inl, sym, subst, refl, ◌∙◌}
use Rattle.pcj_clients.specs.Clients.{job_of}
use Rattle.pcj_session.specs.Session.{Held, Holds, IsLeft, StopsAt}
use Rattle.pcj_oracle.specs.Draw.{IsNumber}
use Rattle.pcj_script.specs.Commands.{Command as commands}
use Rattle.pcj_session.specs.Lines.{lines_of}
use Rattle.pcj_client.specs.Job.{Job}
use Rattle.pcj_model.specs.Line.Event.{Loaded}
use Rattle.pcj_model.specs.Line.Line.{Client}
use Rattle.pcj_session.proofs.DrawLemmas.{Says, left_with, by_memory, cut_short, drawn_holds, keeps_hold, left_by, with_oracle}
use Rattle.pcj_session.proofs.LoadLemmas.{document_is_load, first_number, load_faulted, load_opened, load_spent}
use Rattle.pcj_session.proofs.StepLemmas.{with_clients}
use Rattle.pcj_session.proofs.session.Session.open.Goals as goal

pub returns-in-Err-Failed-clause-answered : goal.returns-in-Err-Failed-clause-answered
returns-in-Err-Failed-clause-answered g c = λ language others state holds.
    load_faulted language others c.args.client c.args.document.now c.args.expected c.args.triples (record { clients = c.self.inside.clients; queries = c.self.inside.registry.queries; opened = c.self.inside.registry.opened; oracle = c.self.inside.oracle }) c.draw.new.self (g.T.RowTable.rows c.args.table.now) (g.T.RowTable.rows c.draw.new.table) state (lines_of c.fault_of.result) c.fault_of.ensures
    (subst (λ (h : Held). job_of h.clients c.args.client ≡ None) (sym c.self.view_is) c.requires.free) c.requires.document (c.in-Err-Failed.ensures {u = tt}).kept (subst (λ (h : Held). Holds others h (g.T.RowTable.rows c.args.table.now) state) (sym c.self.view_is) holds)

pub returns-in-Err-Memory-clause-stopped : goal.returns-in-Err-Memory-clause-stopped
returns-in-Err-Memory-clause-stopped g c = λ language others state holds.
    cut_short language others state (commands.Load c.args.client c.args.document.now) (with_oracle (record { clients = c.self.inside.clients; queries = c.self.inside.registry.queries; opened = c.self.inside.registry.opened; oracle = c.self.inside.oracle }) c.draw.new.self) (g.T.RowTable.rows c.draw.new.table)
    (left_by others (with_oracle (record { clients = c.self.inside.clients; queries = c.self.inside.registry.queries; opened = c.self.inside.registry.opened; oracle = c.self.inside.oracle }) c.draw.new.self) (g.T.RowTable.rows c.draw.new.table) state (keeps_hold others (record { clients = c.self.inside.clients; queries = c.self.inside.registry.queries; opened = c.self.inside.registry.opened; oracle = c.self.inside.oracle }) c.draw.new.self (g.T.RowTable.rows c.args.table.now) (g.T.RowTable.rows c.draw.new.table) state (c.in-Err-Memory.ensures {u = tt}).kept (subst (λ (h : Held). Holds others h (g.T.RowTable.rows c.args.table.now) state) (sym c.self.view_is) holds)))

pub returns-in-Err-Spent-clause-stopped : goal.returns-in-Err-Spent-clause-stopped
returns-in-Err-Spent-clause-stopped g c = λ language others state holds.
    load_spent language others c.args.client c.args.document.now c.args.expected c.args.triples (record { clients = c.self.inside.clients; queries = c.self.inside.registry.queries; opened = c.self.inside.registry.opened; oracle = c.self.inside.oracle }) c.draw.new.self (g.T.RowTable.rows c.args.table.now) (g.T.RowTable.rows c.draw.new.table) state
    (subst (λ (h : Held). job_of h.clients c.args.client ≡ None) (sym c.self.view_is) c.requires.free) c.requires.document (c.in-Err-Spent.ensures {u = tt}).kept (subst (λ (h : Held). Holds others h (g.T.RowTable.rows c.args.table.now) state) (sym c.self.view_is) holds)

pub returns-in_err-triples-clause-stopped : goal.returns-in_err-triples-clause-stopped
returns-in_err-triples-clause-stopped g c = λ language others state holds.
    by_memory (StopsAt language others state (commands.Load c.args.client c.args.document.now) (with_oracle (record { clients = c.self.inside.clients; queries = c.self.inside.registry.queries; opened = c.self.inside.registry.opened; oracle = c.self.inside.oracle }) c.draw.new.self) (g.T.RowTable.rows c.draw.new.table)) c.from_residual.result c.from_residual.ensures.1
    (cut_short language others state (commands.Load c.args.client c.args.document.now) (with_oracle (record { clients = c.self.inside.clients; queries = c.self.inside.registry.queries; opened = c.self.inside.registry.opened; oracle = c.self.inside.oracle }) c.draw.new.self) (g.T.RowTable.rows c.draw.new.table)
    (left_by others (with_oracle (record { clients = c.self.inside.clients; queries = c.self.inside.registry.queries; opened = c.self.inside.registry.opened; oracle = c.self.inside.oracle }) c.draw.new.self) (g.T.RowTable.rows c.draw.new.table) state (drawn_holds c.in-Ok.number others (record { clients = c.self.inside.clients; queries = c.self.inside.registry.queries; opened = c.self.inside.registry.opened; oracle = c.self.inside.oracle }) c.draw.new.self (g.T.RowTable.rows c.args.table.now) (g.T.RowTable.rows c.draw.new.table) state (c.in-Ok.ensures {u = tt}).granted (subst (λ (h : Held). Holds others h (g.T.RowTable.rows c.args.table.now) state) (sym c.self.view_is) holds))))

pub new-requires : goal.new-requires
new-requires g c =
    let drawn = c.in-Ok.ensures {u = tt} in
    document_is_load c.args.document.now c.in-Ok.number c.in_ok-triples.triples (first_number c.in-Ok.number c.args.self.now.oracle c.draw.new.self (g.T.RowTable.rows c.args.table.now) (g.T.RowTable.rows c.draw.new.table) c.requires.clock (subst (λ (h : Held). IsNumber c.in-Ok.number h.oracle (g.T.RowTable.rows c.args.table.now) c.draw.new.self (g.T.RowTable.rows c.draw.new.table)) c.self.view_is drawn.granted))
    drawn.granted.below (c.in_ok-triples.ensures {u = tt})

pub returns-in_err-open-clause-stopped : goal.returns-in_err-open-clause-stopped
returns-in_err-open-clause-stopped g c = λ language others state holds.
    by_memory (StopsAt language others state (commands.Load c.args.client c.args.document.now) (record { clients = c.open.new.self; queries = c.close.new.self.queries; opened = c.close.new.self.opened; oracle = c.draw.new.self }) (g.T.RowTable.rows c.draw.new.table)) c.from_residual-in_err-open.result c.from_residual-in_err-open.ensures.1
    (cut_short language others state (commands.Load c.args.client c.args.document.now) (record { clients = c.open.new.self; queries = c.close.new.self.queries; opened = c.close.new.self.opened; oracle = c.draw.new.self }) (g.T.RowTable.rows c.draw.new.table)
    (left_with others c.open.new.self c.self.inside.registry.queries c.close.new.self.queries c.self.inside.registry.opened c.close.new.self.opened c.draw.new.self (g.T.RowTable.rows c.draw.new.table) state
    (subst (λ clients. IsLeft others (with_clients (record { clients = c.self.inside.clients; queries = c.self.inside.registry.queries; opened = c.self.inside.registry.opened; oracle = c.self.inside.oracle }) clients c.draw.new.self) (g.T.RowTable.rows c.draw.new.table) state) (sym (c.in_err-open.ensures {u = tt}).err)
    (left_by others (with_oracle (record { clients = c.self.inside.clients; queries = c.self.inside.registry.queries; opened = c.self.inside.registry.opened; oracle = c.self.inside.oracle }) c.draw.new.self) (g.T.RowTable.rows c.draw.new.table) state (drawn_holds c.in-Ok.number others (record { clients = c.self.inside.clients; queries = c.self.inside.registry.queries; opened = c.self.inside.registry.opened; oracle = c.self.inside.oracle }) c.draw.new.self (g.T.RowTable.rows c.args.table.now) (g.T.RowTable.rows c.draw.new.table) state (c.in-Ok.ensures {u = tt}).granted (subst (λ (h : Held). Holds others h (g.T.RowTable.rows c.args.table.now) state) (sym c.self.view_is) holds))))))

pub returns-clause-answered : goal.returns-clause-answered
returns-clause-answered g c = λ language others state holds.
    let is = c.new.ensures.job in
    subst (λ queries. Says language others state (commands.Load c.args.client c.args.document.now) (record { clients = c.open.new.self; queries = queries; opened = c.close.new.self.opened; oracle = c.draw.new.self }) (g.T.RowTable.rows c.draw.new.table) (Client c.args.client (Loaded c.in-Ok.number c.len-count.result) ∷ [])) (sym c.close.ensures.queries)
    (load_opened language others c.args.client c.in-Ok.number c.len-count.result c.args.document.now c.in_ok-triples.triples (record { clients = c.self.inside.clients; queries = c.self.inside.registry.queries; opened = c.self.inside.registry.opened; oracle = c.self.inside.oracle }) c.close.new.self.opened c.draw.new.self (g.T.RowTable.rows c.args.table.now) (g.T.RowTable.rows c.draw.new.table) state c.new.result c.open.new.self (Client c.args.client (Loaded c.in-Ok.number c.len-count.result) ∷ []) refl c.len-count.ensures
    (c.in_ok-triples.ensures {u = tt}) is.content (c.in-Ok.ensures {u = tt}).granted (subst (λ (h : Held). Holds others h (g.T.RowTable.rows c.args.table.now) state) (sym c.self.view_is) holds) (inl (c.in_ok-triples.triples, is)) c.new.ensures.actor (subst (λ (h : Held). job_of h.clients c.args.client ≡ None) (sym c.self.view_is) c.requires.free)
    ((c.in_ok-open.ensures {u = tt}).ok ∙ ap (λ (job : Job). c.self.inside.clients ++ (record { client = c.args.client; job = job }) ∷ []) c.load.ensures) c.close.ensures.opened)
