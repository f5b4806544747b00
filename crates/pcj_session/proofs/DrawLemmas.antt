-- What numbers that are drawn leave of a session's table.
use Rattle.std.proofs.Common.{◌≡◌, ◌≤◌, ◌<◌, ◌^◌, ℕ, suc, List, [], ◌++◌, Option, Result, IfErr, IfOk, IsErrAnd, Some, None, inl, refl, sym, subst, arith}
use Rattle.std.proofs.lemmas.Result.{err_from_is_err_and}
use Rattle.pcj_table.specs.Table.{Table, row_at}
use Rattle.pcj_oracle.specs.Clock.{IsClock, next_number}
use Rattle.pcj_oracle.specs.Draw.{IsNumber, Keeps}
use Rattle.pcj_oracle.specs.declared.block.Block.{Block}
use Rattle.pcj_moves.specs.Actors.{Actor, new_actor}
use Rattle.pcj_actor.specs.StepLaws.{state_of}
use Rattle.pcj_fit.specs.Laws as fit
use Rattle.pcj_fit.specs.Sound.{Sound}
use Rattle.pcj_fit.proofs.SoundLemmas.{end_is_sound}
use Rattle.pcj_clients.specs.Clients.{actors_of}
use Rattle.pcj_clients.specs.declared.busy.Busy.{Busy}
use Rattle.pcj_script.specs.Commands.{Command}
use Rattle.pcj_model.specs.Line.{Line}
use Rattle.pcj_model.specs.Reply.{Language, Reply as MayReply}
use Rattle.pcj_model.specs.State.{State}
use Rattle.pcj_scan.proofs.ScanLemmas.{begun}
use Rattle.pcj_jobs.specs.Agrees.{Agrees}
use Rattle.pcj_jobs.proofs.StateLemmas.{draw_agrees}
use Rattle.pcj_algebra.specs.declared.query.Query.{Query}
use Rattle.pcj_session.specs.declared.registry.Opened.{Opened}
use Rattle.pcj_session.specs.declared.reply.Reply.{Reply}
use Rattle.pcj_session.specs.declared.stop.Stop.{Stop}
use Rattle.pcj_session.specs.declared.stop.Stop.TheVariants as stops
use Rattle.pcj_session.specs.Session.{Held, Holds, IsLeft, StopsAt}

-- a session's clients and queries, with another oracle
abbrev pub with_oracle : Held → Option Block → Held
with_oracle held oracle = record { clients = held.clients; queries = held.queries; opened = held.opened; oracle = oracle }

-- these lines may answer the command, and what they leave is so
abbrev pub Says : Language → List Actor → State → Command → Held → Table → List Line → Type 0
Says language others state command held table lines = (new : State) × MayReply language state command lines new × Holds others held table new

-- the next number is a timestamp, or 2^48
pub next_below : (oracle : Option Block) (table : Table) → IsClock oracle table → next_number oracle table ≤ 2 ^ 48
next_below None table clock = clock.last
next_below (Some block) table clock = let is = clock.attached.limit in let last = clock.attached.last in let stored = clock.last in omega (arith, is, last, stored)

-- ---- a number that isn't drawn

pub keeps_sound : (oracle : Option Block) (table : Table) (oracle' : Option Block) (table' : Table) (actors : List Actor) → Keeps oracle table oracle' table' → Sound (state_of oracle table actors) → Sound (state_of oracle' table' actors)
keeps_sound oracle table oracle' table' actors keeps sound =
    subst (λ n. Sound (fit.state_of n (row_at table') actors)) (sym keeps.next)
    (subst (λ t. Sound (fit.state_of (next_number oracle table) (row_at t) actors)) (sym keeps.same) sound)

pub keeps_agree : (oracle : Option Block) (table : Table) (oracle' : Option Block) (table' : Table) (clients : List Busy) (state : State) → Keeps oracle table oracle' table' → Agrees oracle table clients state → Agrees oracle' table' clients state
keeps_agree oracle table oracle' table' clients state keeps agrees = subst (λ t. Agrees oracle' t clients state) (sym keeps.same) (record {
  known = agrees.known;
  triples = agrees.triples;
  queries = agrees.queries;
  last = subst (λ n. state.last < n) (sym (subst (λ t. next_number oracle' t ≡ next_number oracle table) keeps.same keeps.next)) agrees.last;
  locks = agrees.locks;
  notifications = agrees.notifications;
  idle = agrees.idle;
  quiet = agrees.quiet;
})

pub keeps_hold : (others : List Actor) (held : Held) (oracle' : Option Block) (table table' : Table) (state : State) → Keeps held.oracle table oracle' table' → Holds others held table state → Holds others (with_oracle held oracle') table' state
keeps_hold others held oracle' table table' state keeps holds = record {
  sound = keeps_sound held.oracle table oracle' table' (actors_of held.clients ++ others) keeps holds.sound;
  kept = holds.kept;
  opened = holds.opened;
  agrees = keeps_agree held.oracle table oracle' table' held.clients state keeps holds.agrees;
}

-- ---- one that is drawn

pub drawn_sound : (number : ℕ) (oracle : Option Block) (table : Table) (oracle' : Option Block) (table' : Table) (actors : List Actor) → IsNumber number oracle table oracle' table' → Sound (state_of oracle table actors) → Sound (state_of oracle' table' actors)
drawn_sound number oracle table oracle' table' actors drawn sound =
    let first = begun number oracle oracle' table table' actors drawn sound in
    let next = drawn.next in
    let is : next_number oracle' table' ≡ suc number = omega (arith, next) in
    subst (λ n. Sound (fit.state_of n (row_at table') actors)) (sym is) (end_is_sound (suc number) (row_at table') (new_actor number) actors first.kept.sound)

pub drawn_holds : (number : ℕ) (others : List Actor) (held : Held) (oracle' : Option Block) (table table' : Table) (state : State) → IsNumber number held.oracle table oracle' table' → Holds others held table state → Holds others (with_oracle held oracle') table' state
drawn_holds number others held oracle' table table' state drawn holds = record {
  sound = drawn_sound number held.oracle table oracle' table' (actors_of held.clients ++ others) drawn holds.sound;
  kept = holds.kept;
  opened = holds.opened;
  agrees = draw_agrees number held.clients held.oracle table oracle' table' state drawn holds.agrees;
}

-- ---- what is left

pub left_by : (others : List Actor) (held : Held) (table : Table) (state : State) → Holds others held table state → IsLeft others held table state
left_by others held table state holds = record { sound = holds.sound; triples = holds.agrees.triples; queries = holds.agrees.queries; last = holds.agrees.last }

-- whatever of queries is kept and open
pub left_with : (others : List Actor) (clients : List Busy) (queries more : List (List ℕ × Query)) (before after : List (ℕ × Opened)) (oracle : Option Block) (table : Table) (state : State) →
    IsLeft others (record { clients = clients; queries = queries; opened = before; oracle = oracle }) table state → IsLeft others (record { clients = clients; queries = more; opened = after; oracle = oracle }) table state
left_with others clients queries more before after oracle table state left = record { sound = left.sound; triples = left.triples; queries = left.queries; last = left.last }

pub stops_with : (language : Language) (others : List Actor) (state : State) (command : Command) (clients : List Busy) (queries more : List (List ℕ × Query)) (before after : List (ℕ × Opened)) (oracle : Option Block) (table : Table) (stop : Stop) →
    StopsAt language others state command (record { clients = clients; queries = queries; opened = before; oracle = oracle }) table stop → StopsAt language others state command (record { clients = clients; queries = more; opened = after; oracle = oracle }) table stop
stops_with language others state command clients queries more before after oracle table stops.Memory (lines, new, cut, left) = (lines, new, cut, left_with others clients queries more before after oracle table new left)
stops_with language others state command clients queries more before after oracle table stops.Spent (draws, left) = (draws, left_with others clients queries more before after oracle table state left)

-- a command that is cut before it changed any triple or query
pub cut_short : (language : Language) (others : List Actor) (state : State) (command : Command) (held : Held) (table : Table) → IsLeft others held table state → StopsAt language others state command held table stops.Memory
cut_short language others state command held table left = ([], state, inl (refl, refl), left)

-- what is answered by `?` where there was no memory
pub by_memory : (P : Stop → Type 0) (result : Result Reply Stop) → IsErrAnd result (λ stop. stop ≡ stops.Memory) → P stops.Memory → IfErr result P
by_memory P result is fact = let (stop, error, same) = err_from_is_err_and result is in subst (λ r. IfErr r P) (sym error) (subst P (sym same) fact)

-- there is no answer then
pub by_error : (P : Reply → Type 0) (result : Result Reply Stop) → IsErrAnd result (λ stop. stop ≡ stops.Memory) → IfOk result P
by_error P result is = let (stop, error, same) = err_from_is_err_and result is in subst (λ r. IfOk r P) (sym error) tt

-- and where a stop goes on
pub by_stop : (P : Stop → Type 0) (result : Result Reply Stop) (stop : Stop) → IsErrAnd result (λ other. other ≡ stop) → P stop → IfErr result P
by_stop P result stop is fact = let (other, error, same) = err_from_is_err_and result is in subst (λ r. IfErr r P) (sym error) (subst P (sym same) fact)
