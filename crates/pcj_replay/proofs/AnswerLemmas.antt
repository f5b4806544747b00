-- What a command leaves of a table, however it ends.
use Rattle.std.proofs.Common.{◌≡◌, ◌≤◌, ◌<◌, ◌-◌, ℕ, List, [], ◌++◌, Option, Result, IfErr, IsErrAnd, inl, inr, refl, sym, subst, arith}
use Rattle.pcj_table.specs.Table.{Table, row_at}
use Rattle.pcj_oracle.specs.Clock.{IsClock, next_number, stored_number}
use Rattle.pcj_fit.proofs.SoundLemmas.{fit_grows, sound_is_fit}
use Rattle.pcj_clients.specs.Clients.{actors_of}
use Rattle.pcj_model.specs.State.{State}
use Rattle.std.proofs.lemmas.Result.{err_from_is_err_and}
use Rattle.pcj_io.specs.declared.sink.SinkError.{SinkError}
use Rattle.pcj_io.specs.declared.sink.SinkError.TheVariants as sinks
use Rattle.pcj_io.specs.Sink.{Appends, AppendsPrefix}
use Rattle.pcj_io.proofs.Appended.{Appends-nil}
use Rattle.pcj_script.specs.Commands.{Command}
use Rattle.pcj_model.specs.Line.{printed}
use Rattle.pcj_model.specs.Reply.{Language}
use Rattle.pcj_session.specs.declared.reply.Reply.{Reply}
use Rattle.pcj_session.specs.declared.stop.Stop.{Stop as SessionStop}
use Rattle.pcj_session.specs.declared.stop.Stop.TheVariants as sessions
use Rattle.pcj_session.specs.Lines.{lines_of}
use Rattle.pcj_session.specs.Session.{Answers, Held, Holds, IsLeft, StopsAt}
use Rattle.pcj_replay.specs.declared.stop.Stop.{Stop}
use Rattle.pcj_replay.specs.declared.stop.Stop.TheVariants as stops
use Rattle.pcj_replay.specs.Answer.{StopsAnswer, WritesAnswer}
use Rattle.pcj_replay.specs.Stop.{session_stop, sink_stop}
use Rattle.pcj_session.proofs.CrashLemmas.{lost_clock, lost_later}
use Rattle.pcj_replay.specs.Entry.{IsLeftWith}

pub is_left : (held : Held) (table : Table) (state : State) → IsClock held.oracle table → IsLeft [] held table state → IsLeftWith table state
is_left held table state clock left = record {
  ready = record {
    clock = lost_clock held.oracle table clock;
    fit = fit_grows (next_number held.oracle table) (stored_number table) (row_at table) (lost_later held.oracle table clock)
        (sound_is_fit (next_number held.oracle table) (row_at table) (actors_of held.clients ++ []) left.sound);
  };
  triples = left.triples;
  queries = left.queries;
  last = let last = left.last in let above = lost_later held.oracle table clock in omega (arith, last, above);
}

pub holds_left : (held : Held) (table : Table) (state : State) → IsClock held.oracle table → Holds [] held table state → IsLeftWith table state
holds_left held table state clock holds = is_left held table state clock (record { sound = holds.sound; triples = holds.agrees.triples; queries = holds.agrees.queries; last = holds.agrees.last })

-- ---- before the first command

pub below_first : (first : ℕ) → 1 ≤ first → first - 1 < first
below_first first some = omega (arith, some)

-- ---- how a command stops

-- it has no answer
pub stops_with : (language : Language) (state : State) (command : Command) (held : Held) (table : Table) (taken : Option (List ℕ)) (stop : SessionStop) → IsClock held.oracle table → StopsAt language [] state command held table stop →
    StopsAnswer language state command table taken taken (session_stop stop)
stops_with language state command held table taken sessions.Memory clock (lines, after, cut, left) = inr (lines, after, cut, is_left held table after clock left, Appends-nil taken)
stops_with language state command held table taken sessions.Spent clock (draws, left) = (draws, is_left held table state clock left, Appends-nil taken)

-- there is no memory for its print
pub stops_unprinted : (language : Language) (state : State) (command : Command) (held : Held) (table : Table) (taken : Option (List ℕ)) (reply : Reply) → IsClock held.oracle table → Answers language [] state command held table reply →
    StopsAnswer language state command table taken taken stops.Memory
stops_unprinted language state command held table taken reply clock (after, replied, holds) =
    inl (lines_of reply, after, replied, holds_left held table after clock holds, ([], printed (lines_of reply), refl, Appends-nil taken))

-- the print isn't written whole
pub stops_unwritten : (language : Language) (state : State) (command : Command) (held : Held) (table : Table) (old new : Option (List ℕ)) (reply : Reply) (text : List ℕ) (error : SinkError) → IsClock held.oracle table → Answers language [] state command held table reply →
    text ≡ printed (lines_of reply) → AppendsPrefix old new text → StopsAnswer language state command table old new (sink_stop error)
stops_unwritten language state command held table old new reply text sinks.Failed clock (after, replied, holds) is part =
    (lines_of reply, after, replied, holds_left held table after clock holds, subst (AppendsPrefix old new) is part)
stops_unwritten language state command held table old new reply text sinks.Memory clock (after, replied, holds) is part =
    inl (lines_of reply, after, replied, holds_left held table after clock holds, subst (AppendsPrefix old new) is part)

-- and is
pub writes_all : (language : Language) (state : State) (command : Command) (held : Held) (table : Table) (old new : Option (List ℕ)) (reply : Reply) (text : List ℕ) → Answers language [] state command held table reply → text ≡ printed (lines_of reply) → Appends old new text →
    WritesAnswer language state command held table old new
writes_all language state command held table old new reply text (after, replied, holds) is written = (lines_of reply, after, replied, holds, subst (Appends old new) is written)

-- what is answered by `?`
pub by_stop : {T : Type 0} (P : Stop → Type 0) (result : Result T Stop) (stop : Stop) → IsErrAnd result (λ other. other ≡ stop) → P stop → IfErr result P
by_stop P result stop is fact = let (other, error, same) = err_from_is_err_and result is in subst (λ r. IfErr r P) (sym error) (subst P (sym same) fact)
