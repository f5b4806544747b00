-- What a crash leaves.
use Rattle.std.proofs.Common.{◌≡◌, ◌≤◌, ℕ, List, [], ◌∷◌, ◌++◌, Option, Some, None, refl, sym, subst, arith}
use Rattle.pcj_table.specs.Table.{Table, row_at}
use Rattle.pcj_oracle.specs.Clock.{IsClock, next_number}
use Rattle.pcj_oracle.specs.declared.block.Block.{Block}
use Rattle.pcj_moves.specs.Actors.{Actor}
use Rattle.pcj_fit.proofs.SoundLemmas.{higher_is_sound}
use Rattle.pcj_clients.specs.Clients.{actors_of, without_job}
use Rattle.pcj_clients.specs.Laws.{EndsSound}
use Rattle.pcj_clients.specs.declared.busy.Busy.{Busy}
use Rattle.pcj_jobs.specs.Agrees.{Agrees}
use Rattle.pcj_jobs.proofs.StateLemmas.{all_crash_agree, crash_agrees, lost_agrees}
use Rattle.pcj_script.specs.declared.command.Crashed.TheVariants as whose
use Rattle.pcj_script.specs.Commands.{Command as commands}
use Rattle.pcj_model.specs.Line.{Line}
use Rattle.pcj_model.specs.Reply.{Language, crash_line}
use Rattle.pcj_model.specs.State.{State, with_job, with_jobs}
use Rattle.pcj_session.specs.Session.{Held, Holds}
use Rattle.pcj_session.proofs.DrawLemmas.{with_oracle, Says}
use Rattle.pcj_session.proofs.NameLemmas.{open_on}
use Rattle.pcj_session.proofs.StepLemmas.{with_clients}

-- without its numbers the oracle goes on at the stored one
pub lost_clock : (oracle : Option Block) (table : Table) → IsClock oracle table → IsClock None table
lost_clock oracle table clock = record { first = clock.first; last = clock.last; attached = tt }

pub lost_later : (oracle : Option Block) (table : Table) → IsClock oracle table → next_number oracle table ≤ next_number None table
lost_later None table clock = omega arith
lost_later (Some block) table clock = let last = clock.attached.last in let is = clock.attached.limit in omega (arith, last, is)

pub lost_holds : (others : List Actor) (held : Held) (table : Table) (state : State) → IsClock held.oracle table → Holds others held table state → Holds others (with_oracle held None) table state
lost_holds others held table state clock holds = record {
  sound = higher_is_sound (next_number held.oracle table) (next_number None table) (row_at table) (actors_of held.clients ++ others) (lost_later held.oracle table clock) holds.sound;
  kept = holds.kept;
  opened = holds.opened;
  agrees = lost_agrees held.clients held.oracle table state clock holds.agrees;
}

pub client_crashed : (language : Language) (others : List Actor) (client : ℕ) (held : Held) (clients : List Busy) (table : Table) (state : State) (lines : List Line) → lines ≡ crash_line (whose.Client client) ∷ [] → clients ≡ without_job held.clients client →
    EndsSound held.clients clients → Holds others held table state → Says language others state (commands.Crash (whose.Client client)) (with_clients held clients held.oracle) table lines
client_crashed language others client held clients table state lines told is ends holds = (
  with_jobs state (with_job state.jobs client None),
  record { told = told; left = refl },
  record {
    sound = ends (next_number held.oracle table) (row_at table) others holds.sound;
    kept = holds.kept;
    opened = open_on client None held.opened state.jobs tt holds.opened;
    agrees = subst (λ cs. Agrees held.oracle table cs (with_jobs state (with_job state.jobs client None))) (sym is) (crash_agrees held.clients held.oracle table state client holds.agrees);
  },
)

pub all_crashed : (language : Language) (others : List Actor) (held : Held) (clients : List Busy) (table : Table) (state : State) (lines : List Line) → lines ≡ crash_line whose.All ∷ [] → clients ≡ [] → EndsSound held.clients clients → IsClock held.oracle table →
    Holds others held table state → Says language others state (commands.Crash whose.All) (with_clients held clients None) table lines
all_crashed language others held clients table state lines told is ends clock holds = (
  with_jobs state (λ client. None),
  record { told = told; left = refl },
  lost_holds others (with_clients held clients held.oracle) table (with_jobs state (λ client. None)) clock (record {
    sound = ends (next_number held.oracle table) (row_at table) others holds.sound;
    kept = holds.kept;
    opened = λ client. tt;
    agrees = subst (λ cs. Agrees held.oracle table cs (with_jobs state (λ client. None))) (sym is) (all_crash_agree held.clients held.oracle table state holds.agrees);
  }),
)

pub oracle_crashed : (language : Language) (others : List Actor) (held : Held) (table : Table) (state : State) (lines : List Line) → lines ≡ crash_line whose.Oracle ∷ [] → IsClock held.oracle table →
    Holds others held table state → Says language others state (commands.Crash whose.Oracle) (with_oracle held None) table lines
oracle_crashed language others held table state lines told clock holds = (with_jobs state state.jobs, record { told = told; left = refl }, lost_holds others held table state clock holds)
