-- What is told of what is pending.
use Rattle.std.proofs.Common.{◌≡◌, ◌⊎◌, ℕ, Bool, true, false, ◌||◌, ◌&&◌, ◌==◌, List, [], ◌∷◌, ◌++◌, Result, Ok, Err, IfOk, IfErr, inl, inr, refl, sym, subst}
use Rattle.std.proofs.lemmas.Bool.{eqb-true}
use Rattle.pcj_table.specs.Table.{Table, row_at}
use Rattle.pcj_oracle.specs.Clock.{IsClock, next_number}
use Rattle.pcj_moves.specs.Actors.{Actor}
use Rattle.pcj_fit.proofs.SoundLemmas.{sound_is_fit}
use Rattle.pcj_clients.specs.Clients.{actors_of}
use Rattle.pcj_pending.specs.Pending.{IsFit, IsQuiet, locks_of, notifications_of}
use Rattle.pcj_script.specs.Commands.{Command as commands}
use Rattle.pcj_model.specs.Line.{Line}
use Rattle.pcj_model.specs.Line.Line.{Status, StatusFault}
use Rattle.pcj_model.specs.Reply.{Language}
use Rattle.pcj_model.specs.State.{State, with_status}
use Rattle.pcj_session.specs.declared.reply.Reply.{Reply}
use Rattle.pcj_session.specs.declared.stop.Stop.{Stop}
use Rattle.pcj_session.specs.declared.stop.Stop.TheVariants as stops
use Rattle.pcj_session.specs.Lines.{lines_of}
use Rattle.pcj_session.specs.Session.{Answers, Held, Holds, StopsAt, TellsPending}
use Rattle.pcj_session.proofs.DrawLemmas.{Says, cut_short, left_by, next_below}

-- the rows of a session's table are fit
pub is_fit : (others : List Actor) (held : Held) (table : Table) (state : State) → IsClock held.oracle table → Holds others held table state → IsFit (row_at table)
is_fit others held table state clock holds = record {
  next = next_number held.oracle table;
  last = next_below held.oracle table clock;
  fit = sound_is_fit (next_number held.oracle table) (row_at table) (actors_of held.clients ++ others) holds.sound;
}

is_zero : (n : ℕ) → n == 0 ≡ true → n ≡ 0
is_zero n e = eqb-true n 0 e

or_known : (a b : Bool) → a || b ≡ true → (P : Type 0) → (a ≡ true → P) → (b ≡ true → P) → P
or_known true b e P one two = one refl
or_known false b e P one two = two e

both_known : (a b : Bool) → a && b ≡ true → (a ≡ true) × (b ≡ true)
both_known true b e = (refl, e)
both_known false b e = absurd cc

pub status_answered : (language : Language) (others : List Actor) (held : Held) (table : Table) (state : State) (lines : List Line) → (lines ≡ Status (notifications_of table) (locks_of table) ∷ []) ⊎ (lines ≡ StatusFault ∷ []) → Holds others held table state → Says language others state commands.Status held table lines
status_answered language others held table state lines (inr fault) holds = (state, inr (record { told = fault; same = refl }), holds)
status_answered language others held table state lines (inl told) holds = (
  with_status state (notifications_of table) (locks_of table),
  inl (record {
    notifications = notifications_of table;
    locks = locks_of table;
    few_locks = holds.agrees.locks;
    few_notifications = holds.agrees.notifications;
    idle = holds.agrees.idle;
    quiet = λ is. ((holds.agrees.quiet is).notifications, (holds.agrees.quiet is).locks);
    told = told;
    known = refl;
  }),
  record {
    sound = holds.sound;
    kept = holds.kept;
    opened = holds.opened;
    agrees = record {
      known = holds.agrees.known;
      triples = holds.agrees.triples;
      queries = holds.agrees.queries;
      last = holds.agrees.last;
      locks = holds.agrees.locks;
      notifications = holds.agrees.notifications;
      idle = λ is. or_known state.backlog.is_idle (notifications_of table == 0) is (notifications_of table ≡ 0) holds.agrees.idle (is_zero (notifications_of table));
      quiet = λ is. or_known state.backlog.is_quiet ((notifications_of table == 0) && (locks_of table == 0)) is (IsQuiet table) holds.agrees.quiet
          (λ both. let known = both_known (notifications_of table == 0) (locks_of table == 0) both in record { locks = is_zero (locks_of table) known.1; notifications = is_zero (notifications_of table) known.0 });
    };
  },
)

-- ---- all of it

pub status_told : (language : Language) (others : List Actor) (held : Held) (table table' : Table) (state : State) (result : Result Reply Stop) → IsClock held.oracle table → table' ≡ table → (IsFit (row_at table) → IfOk result (TellsPending table)) → Holds others held table state →
    IfOk result (Answers language others state commands.Status held table')
status_told language others held table table' state result clock same told holds = subst (λ t. IfOk result (Answers language others state commands.Status held t)) (sym same) (by result (told (is_fit others held table state clock holds)))
  where
    by : (result' : Result Reply Stop) → IfOk result' (TellsPending table) → IfOk result' (Answers language others state commands.Status held table)
    by (Ok reply) told' = status_answered language others held table state (lines_of reply) told' holds
    by (Err stop) told' = tt

pub status_cut : (language : Language) (others : List Actor) (held : Held) (table table' : Table) (state : State) (result : Result Reply Stop) → table' ≡ table → IfErr result (λ stop. stop ≡ stops.Memory) → Holds others held table state →
    IfErr result (StopsAt language others state commands.Status held table')
status_cut language others held table table' state (Ok reply) same memory holds = tt
status_cut language others held table table' state (Err stop) same memory holds =
    subst (λ t. StopsAt language others state commands.Status held t stop) (sym same)
    (subst (StopsAt language others state commands.Status held table) (sym memory) (cut_short language others state commands.Status held table (left_by others held table state holds)))
