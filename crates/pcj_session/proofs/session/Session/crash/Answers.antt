use Rattle.std.proofs.Common.{◌∷◌, [], refl, sym, subst}
use Rattle.pcj_oracle.specs.Clock.{IsClock}
use Rattle.pcj_script.specs.declared.command.Crashed.{Crashed}
use Rattle.pcj_script.specs.declared.command.Crashed.TheVariants as whose
use Rattle.pcj_script.specs.Commands.{Command as commands}
use Rattle.pcj_model.specs.Line.Event.{Crashed as HasCrashed}
use Rattle.pcj_model.specs.Line.Line.{AllCrashed, Client, OracleCrashed}
use Rattle.pcj_session.specs.Session.{Held, Holds}
use Rattle.pcj_session.proofs.CrashLemmas.{all_crashed, client_crashed, oracle_crashed}
use Rattle.pcj_session.proofs.DrawLemmas.{Says, with_oracle}
use Rattle.pcj_session.proofs.StepLemmas.{with_clients}
use Rattle.pcj_session.proofs.session.Session.crash.Goals as goal

pub returns-in-Client-clause-answered : goal.returns-in-Client-clause-answered
returns-in-Client-clause-answered c = λ language others state table clock holds.
    subst (λ (crashed : Crashed). Says language others state (commands.Crash crashed) (with_clients (record { clients = c.self.inside.clients; queries = c.self.inside.registry.queries; opened = c.self.inside.registry.opened; oracle = c.self.inside.oracle }) c.crash.new.self c.self.inside.oracle) table (Client c.in-Client.client HasCrashed ∷ [])) (sym c.in-Client.is)
    (client_crashed language others c.in-Client.client (record { clients = c.self.inside.clients; queries = c.self.inside.registry.queries; opened = c.self.inside.registry.opened; oracle = c.self.inside.oracle }) c.crash.new.self table state (Client c.in-Client.client HasCrashed ∷ []) refl c.crash.ensures.jobs c.crash.ensures.sound (subst (λ (h : Held). Holds others h table state) (sym c.self.view_is) holds))

pub returns-in-All-clause-answered : goal.returns-in-All-clause-answered
returns-in-All-clause-answered c = λ language others state table clock holds.
    subst (λ (crashed : Crashed). Says language others state (commands.Crash crashed) (with_clients (record { clients = c.self.inside.clients; queries = c.self.inside.registry.queries; opened = c.self.inside.registry.opened; oracle = c.self.inside.oracle }) c.crash_all.new.self c.new-self-inside.result) table (AllCrashed ∷ [])) (sym c.in-All.is)
    (subst (λ oracle. Says language others state (commands.Crash whose.All) (with_clients (record { clients = c.self.inside.clients; queries = c.self.inside.registry.queries; opened = c.self.inside.registry.opened; oracle = c.self.inside.oracle }) c.crash_all.new.self oracle) table (AllCrashed ∷ [])) (sym c.new-self-inside.ensures)
    (all_crashed language others (record { clients = c.self.inside.clients; queries = c.self.inside.registry.queries; opened = c.self.inside.registry.opened; oracle = c.self.inside.oracle }) c.crash_all.new.self table state (AllCrashed ∷ []) refl c.crash_all.ensures.jobs c.crash_all.ensures.sound (subst (λ (h : Held). IsClock h.oracle table) (sym c.self.view_is) clock) (subst (λ (h : Held). Holds others h table state) (sym c.self.view_is) holds)))

pub returns-in-Oracle-clause-answered : goal.returns-in-Oracle-clause-answered
returns-in-Oracle-clause-answered c = λ language others state table clock holds.
    subst (λ (crashed : Crashed). Says language others state (commands.Crash crashed) (with_oracle (record { clients = c.self.inside.clients; queries = c.self.inside.registry.queries; opened = c.self.inside.registry.opened; oracle = c.self.inside.oracle }) c.new-self-inside-in-Oracle.result) table (OracleCrashed ∷ [])) (sym c.in-Oracle.is)
    (subst (λ oracle. Says language others state (commands.Crash whose.Oracle) (with_oracle (record { clients = c.self.inside.clients; queries = c.self.inside.registry.queries; opened = c.self.inside.registry.opened; oracle = c.self.inside.oracle }) oracle) table (OracleCrashed ∷ [])) (sym c.new-self-inside-in-Oracle.ensures)
    (oracle_crashed language others (record { clients = c.self.inside.clients; queries = c.self.inside.registry.queries; opened = c.self.inside.registry.opened; oracle = c.self.inside.oracle }) table state (OracleCrashed ∷ []) refl (subst (λ (h : Held). IsClock h.oracle table) (sym c.self.view_is) clock) (subst (λ (h : Held). Holds others h table state) (sym c.self.view_is) holds)))
