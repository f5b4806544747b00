use Rattle.std.proofs.Common.{rules, ◌≡◌, ◌≤◌, true, is_some, sym, subst}
use Rattle.pcj_clients.specs.Clients.{job_of}
use Rattle.pcj_script.specs.Commands.{Command as commands}
use Rattle.pcj_session.specs.declared.stop.Stop.TheVariants as stops
use Rattle.pcj_session.specs.Lines.{told_lines}
use Rattle.pcj_session.specs.Session.{Held, Holds, StopsAt}
use Rattle.pcj_session.specs.Registry.{AreLeft}
use Rattle.pcj_session.proofs.DrawLemmas.{Says, by_memory, cut_short, left_by, left_with, stops_with}
use Rattle.pcj_session.proofs.SpentLemmas.{steps_end_spent}
use Rattle.pcj_session.proofs.StepLemmas.{steps_answered, steps_short, steps_spent, with_clients}
use Rattle.pcj_session.proofs.session.Session.step.Goals as goal

pub returns-in_err-reserve-clause-stopped : goal.returns-in_err-reserve-clause-stopped
returns-in_err-reserve-clause-stopped g c = λ language others state holds.
    by_memory (StopsAt language others state (commands.StepClient c.args.client c.args.count) (record { clients = c.self.inside.clients; queries = c.reserve.new.self.queries; opened = c.reserve.new.self.opened; oracle = c.self.inside.oracle }) (g.T.RowTable.rows c.args.table.now)) c.from_residual.result c.from_residual.ensures.1
    (cut_short language others state (commands.StepClient c.args.client c.args.count) (record { clients = c.self.inside.clients; queries = c.reserve.new.self.queries; opened = c.reserve.new.self.opened; oracle = c.self.inside.oracle }) (g.T.RowTable.rows c.args.table.now)
    (left_with others c.self.inside.clients c.self.inside.registry.queries c.reserve.new.self.queries c.self.inside.registry.opened c.reserve.new.self.opened c.self.inside.oracle (g.T.RowTable.rows c.args.table.now) state
    (left_by others (record { clients = c.self.inside.clients; queries = c.self.inside.registry.queries; opened = c.self.inside.registry.opened; oracle = c.self.inside.oracle }) (g.T.RowTable.rows c.args.table.now) state (subst (λ (h : Held). Holds others h (g.T.RowTable.rows c.args.table.now) state) (sym c.self.view_is) holds))))

pub returns-in_err-stepped-clause-stopped : goal.returns-in_err-stepped-clause-stopped
returns-in_err-stepped-clause-stopped g c = λ language others state holds.
    let busy : is_some (job_of c.self.inside.clients c.args.client) ≡ true = search rules in
    let (told, wants, rest, more) = (c.in_err-stepped.ensures {u = tt}).memory in
    by_memory (StopsAt language others state (commands.StepClient c.args.client c.args.count) (record { clients = c.steps.new.self; queries = c.reserve.new.self.queries; opened = c.reserve.new.self.opened; oracle = c.steps.new.oracle }) (g.T.RowTable.rows c.steps.new.table)) c.from_residual-in_err-stepped.result c.from_residual-in_err-stepped.ensures.1
    (stops_with language others state (commands.StepClient c.args.client c.args.count) c.steps.new.self c.self.inside.registry.queries c.reserve.new.self.queries c.self.inside.registry.opened c.reserve.new.self.opened c.steps.new.oracle (g.T.RowTable.rows c.steps.new.table) stops.Memory
    (subst (λ most. StopsAt language others state (commands.StepClient c.args.client most) (with_clients (record { clients = c.self.inside.clients; queries = c.self.inside.registry.queries; opened = c.self.inside.registry.opened; oracle = c.self.inside.oracle }) c.steps.new.self c.steps.new.oracle) (g.T.RowTable.rows c.steps.new.table) stops.Memory) c.from-most.ensures
    (steps_short language others c.args.client c.from-most.result (record { clients = c.self.inside.clients; queries = c.self.inside.registry.queries; opened = c.self.inside.registry.opened; oracle = c.self.inside.oracle }) c.steps.new.self c.steps.new.oracle (g.T.RowTable.rows c.args.table.now) (g.T.RowTable.rows c.steps.new.table) state told busy wants c.steps.ensures.sound c.steps.ensures.clock (subst (λ (h : Held). Holds others h (g.T.RowTable.rows c.args.table.now) state) (sym c.self.view_is) holds))))

pub returns-then-is_spent-clause-stopped : goal.returns-then-is_spent-clause-stopped
returns-then-is_spent-clause-stopped g c = λ language others state holds.
    let busy : is_some (job_of c.self.inside.clients c.args.client) ≡ true = search rules in
    let (told, is, are, rest, more) = (c.in_ok-stepped.ensures {u = tt}).steps in
    stops_with language others state (commands.StepClient c.args.client c.args.count) c.steps.new.self c.self.inside.registry.queries c.reserve.new.self.queries c.self.inside.registry.opened c.reserve.new.self.opened c.steps.new.oracle (g.T.RowTable.rows c.steps.new.table) stops.Spent
    (subst (λ most. StopsAt language others state (commands.StepClient c.args.client most) (with_clients (record { clients = c.self.inside.clients; queries = c.self.inside.registry.queries; opened = c.self.inside.registry.opened; oracle = c.self.inside.oracle }) c.steps.new.self c.steps.new.oracle) (g.T.RowTable.rows c.steps.new.table) stops.Spent) c.from-most.ensures
    (steps_spent language others c.args.client c.from-most.result (record { clients = c.self.inside.clients; queries = c.self.inside.registry.queries; opened = c.self.inside.registry.opened; oracle = c.self.inside.oracle }) c.steps.new.self c.steps.new.oracle (g.T.RowTable.rows c.args.table.now) (g.T.RowTable.rows c.steps.new.table) state c.in_ok-stepped.stepped told busy (subst (λ n. 1 ≤ n) (sym c.from-most.ensures) c.requires.asks) is are (c.is_spent.ensures.yes c.if-is_spent.true) c.steps.ensures.sound c.steps.ensures.clock (subst (λ (h : Held). Holds others h (g.T.RowTable.rows c.args.table.now) state) (sym c.self.view_is) holds)))

pub returns-then-is_spent-clause-spent : goal.returns-then-is_spent-clause-spent
returns-then-is_spent-clause-spent g c = λ spent.
    let (told, is, are, rest, more) = (c.in_ok-stepped.ensures {u = tt}).steps in
    steps_end_spent c.args.client c.from-most.result c.self.inside.clients c.self.inside.oracle (g.T.RowTable.rows c.args.table.now) told c.steps.new.self c.steps.new.oracle (g.T.RowTable.rows c.steps.new.table) c.in_ok-stepped.stepped is are (c.is_spent.ensures.yes c.if-is_spent.true)

pub returns-clause-answered : goal.returns-clause-answered
returns-clause-answered g c = λ language others state holds.
    let busy : is_some (job_of c.self.inside.clients c.args.client) ≡ true = search rules in
    let (told, is, are, rest, more) = (c.in_ok-stepped.ensures {u = tt}).steps in
    let left = subst (λ opened. AreLeft c.args.client c.in_ok-stepped.stepped.commit opened c.self.inside.registry.queries c.keep.new.self.opened c.keep.new.self.queries) c.reserve.ensures.opened
    (subst (λ queries. AreLeft c.args.client c.in_ok-stepped.stepped.commit c.reserve.new.self.opened queries c.keep.new.self.opened c.keep.new.self.queries) c.reserve.ensures.queries c.keep.ensures) in
    subst (λ most. Says language others state (commands.StepClient c.args.client most) (record { clients = c.steps.new.self; queries = c.keep.new.self.queries; opened = c.keep.new.self.opened; oracle = c.steps.new.oracle }) (g.T.RowTable.rows c.steps.new.table) (told_lines c.args.client c.in_ok-stepped.stepped)) c.from-most.ensures
    (steps_answered language others c.args.client c.from-most.result (record { clients = c.self.inside.clients; queries = c.self.inside.registry.queries; opened = c.self.inside.registry.opened; oracle = c.self.inside.oracle }) c.steps.new.self c.keep.new.self.queries c.keep.new.self.opened c.steps.new.oracle (g.T.RowTable.rows c.args.table.now) (g.T.RowTable.rows c.steps.new.table) state c.in_ok-stepped.stepped told busy (subst (λ n. 1 ≤ n) (sym c.from-most.ensures) c.requires.asks) is are (c.is_spent.ensures.no c.if-is_spent.false) left c.steps.ensures.sound c.steps.ensures.clock (subst (λ (h : Held). Holds others h (g.T.RowTable.rows c.args.table.now) state) (sym c.self.view_is) holds))
