-- A state stays true with a draw, with a job that begins, and with crashes.
use Rattle.std.proofs.Common.{◌≡◌, ◌≤◌, ◌<◌, ℕ, Bool, true, false, is_some, ◌==◌, [], ◌∷◌, ◌++◌, Option, Some, None, refl, ap, sym, subst, ◌∙◌, arith, if◌then◌else◌}
use Rattle.pcj_term.specs.declared.triple.Triple.{Triple}
use Rattle.pcj_table.specs.declared.plain.Plain.{Plain}
use Rattle.pcj_table.specs.declared.update.Update.TheVariants.{SetPlain}
use Rattle.pcj_table.specs.Row.{newest, updated}
use Rattle.pcj_table.specs.Table.{Key, Table, row_at, with_row}
use Rattle.pcj_oracle.specs.Clock.{IsAttached, clock_key, limit_after, next_at, next_number, stored_number, with_number}
use Rattle.pcj_oracle.specs.Draw.{table_after}
use Rattle.pcj_oracle.specs.declared.block.Block.{Block}
use Rattle.pcj_encode.specs.declared.order.Order.TheVariants.{Spo}
use Rattle.pcj_rowtables.specs.Rows.{triple_key}
use Rattle.pcj_mvcc.proofs.Laws.{changes_one_row}
use Rattle.pcj_mvcc.proofs.Rows.{put_each}
use Rattle.pcj_mvcc.specs.Reading.{SameReading, put, put_of, standing}
use Rattle.pcj_moves.specs.Actors.{Actor, new_actor}
use Rattle.pcj_moves.specs.Moves.{WritePlain}
use Rattle.pcj_pending.proofs.MoveLemmas.{moves_add, steps_add}
use Rattle.pcj_pending.specs.Laws.{AddsAtMost}
use Rattle.pcj_pending.specs.Pending.{locks_of, notifications_of}
use Rattle.pcj_clients.specs.Clients.{actors_of}
use Rattle.pcj_model.specs.Job as told
use Rattle.pcj_model.specs.State.{with_job}
use Rattle.pcj_jobs.specs.Known.{AreKnown}
use Rattle.pcj_jobs.specs.Laws.{AllCrashAgree, BesideAgrees, CrashAgrees, DrawAgrees, LostAgrees, OpensAgrees, SameButPlain}
use Rattle.pcj_jobs.proofs.AgreeLemmas.{numbers_rise}
use Rattle.pcj_jobs.proofs.BesideLemmas.{beside_known, moves_read_alike}
use Rattle.pcj_jobs.proofs.KnownLemmas.{all_end_known, ends_known, opens_known, plain_stays_known, read_alike}
use Rattle.pcj_jobs.proofs.QueryLemmas.{registered_alike}

-- ---- a draw

-- what a draw leaves of a table
pub record IsAlike (table table' : Table) : Type 0 where
  pub rows : SameButPlain (row_at table) (row_at table')
  pub adds : AddsAtMost 0 table table'

alike_itself : (table : Table) → IsAlike table table
alike_itself table = record { rows = λ key. (refl, refl); adds = record { locks = omega arith; notifications = omega arith } }

alike_plain : (table : Table) (key : Key) (plain : Plain) → IsAlike table (with_row table key (updated (row_at table key) (SetPlain plain)))
alike_plain table key plain = record {
  rows = subst (SameButPlain (row_at table)) (sym changed)
      (put_each (λ k r. (r.lock ≡ (row_at table k).lock) × (r.versions ≡ (row_at table k).versions)) (row_at table) key (updated (row_at table key) (SetPlain plain)) (refl, refl) (λ other apart. (refl, refl)));
  adds = moves_add 0 (new_actor 0) (WritePlain key plain) table (with_row table key (updated (row_at table key) (SetPlain plain))) tt changed;
}
  where
    changed : row_at (with_row table key (updated (row_at table key) (SetPlain plain))) ≡ put (row_at table) key (updated (row_at table key) (SetPlain plain))
    changed = changes_one_row table key (updated (row_at table key) (SetPlain plain))

drawn_alike : (table : Table) (number : ℕ) → IsAlike table (table_after table number)
drawn_alike table number = by (number == stored_number table) refl
  where
    by : (b : Bool) → (number == stored_number table) ≡ b → IsAlike table (table_after table number)
    by true e = subst (IsAlike table) (sym (ap (λ b. if b then with_number table (limit_after (stored_number table)) else table) e)) (alike_plain table clock_key (record { seq = limit_after (stored_number table); value = Some [] }))
    by false e = subst (IsAlike table) (sym (ap (λ b. if b then with_number table (limit_after (stored_number table)) else table) e)) (alike_itself table)

none_at_most : (n : ℕ) → n ≤ 0 → n ≡ 0
none_at_most n le = omega (arith, le)

pub draw_agrees : DrawAgrees
draw_agrees number clients oracle table oracle' table' state drawn agrees = record {
  known = plain_stays_known (row_at table) (row_at table') clients state.jobs alike.rows agrees.known;
  triples = record {
    valid = agrees.triples.valid;
    each = λ triple valid. (λ there. ap is_some (stands triple) ∙ (agrees.triples.each triple valid).0 there, λ some. (agrees.triples.each triple valid).1 (ap is_some (sym (stands triple)) ∙ some));
  };
  queries = registered_alike (row_at table) (row_at table') state.queries (read_alike (row_at table) (row_at table') alike.rows) agrees.queries;
  last = (let less = agrees.last in let is = drawn.is in let next = drawn.next in omega (arith, less, is, next));
  locks = (let more = alike.adds.locks in let few = agrees.locks in omega (arith, more, few));
  notifications = (let more = alike.adds.notifications in let few = agrees.notifications in omega (arith, more, few));
  idle = λ is. none_at_most (notifications_of table') (let more = alike.adds.notifications in let none = agrees.idle is in omega (arith, more, none));
  quiet = λ is. record {
    locks = none_at_most (locks_of table') (let more = alike.adds.locks in let none = (agrees.quiet is).locks in omega (arith, more, none));
    notifications = none_at_most (notifications_of table') (let more = alike.adds.notifications in let none = (agrees.quiet is).notifications in omega (arith, more, none));
  };
}
  where
    alike : IsAlike table table'
    alike = subst (IsAlike table) (sym drawn.stored) (drawn_alike table number)

    stands : (triple : Triple) → standing (row_at table') (triple_key Spo triple) ≡ standing (row_at table) (triple_key Spo triple)
    stands triple = ap (λ vs. put_of (newest vs)) (read_alike (row_at table) (row_at table') alike.rows (triple_key Spo triple))

pub opens_agrees : OpensAgrees
opens_agrees number clients oracle table oracle' table' others state client job content drawn sound its told_of new free agrees =
    let after = draw_agrees number clients oracle table oracle' table' state drawn agrees in record {
      known = subst (λ n. AreKnown (row_at table') (clients ++ (record { client = client; job = job }) ∷ []) (with_job state.jobs client (Some (told.new_job n content)))) start
          (plain_stays_known (row_at table) (row_at table') (clients ++ (record { client = client; job = job }) ∷ []) (with_job state.jobs client (Some (told.new_job job.actor.start content))) alike.rows
          (opens_known (next_number oracle table) (row_at table) others clients state.jobs client job content sound (let is = drawn.is in omega (arith, is, start)) its told_of (new ∙ ap new_actor (sym start)) free agrees.known));
      triples = after.triples;
      queries = after.queries;
      last = (let next = drawn.next in omega (arith, next));
      locks = after.locks;
      notifications = after.notifications;
      idle = after.idle;
      quiet = after.quiet;
    }
  where
    alike : IsAlike table table'
    alike = subst (IsAlike table) (sym drawn.stored) (drawn_alike table number)

    start : job.actor.start ≡ number
    start = ap (λ (a : Actor). a.start) new

-- ---- crashes

pub crash_agrees : CrashAgrees
crash_agrees clients oracle table state client agrees = record {
  known = ends_known (row_at table) clients state.jobs client agrees.known;
  triples = agrees.triples;
  queries = agrees.queries;
  last = agrees.last;
  locks = agrees.locks;
  notifications = agrees.notifications;
  idle = agrees.idle;
  quiet = agrees.quiet;
}

pub all_crash_agree : AllCrashAgree
all_crash_agree clients oracle table state agrees = record {
  known = all_end_known (row_at table);
  triples = agrees.triples;
  queries = agrees.queries;
  last = agrees.last;
  locks = agrees.locks;
  notifications = agrees.notifications;
  idle = agrees.idle;
  quiet = agrees.quiet;
}

pub lost_agrees : LostAgrees
lost_agrees clients oracle table state clock agrees = record {
  known = agrees.known;
  triples = agrees.triples;
  queries = agrees.queries;
  last = later oracle clock.attached agrees.last;
  locks = agrees.locks;
  notifications = agrees.notifications;
  idle = agrees.idle;
  quiet = agrees.quiet;
}
  where
    later : (o : Option Block) → IsAttached o (stored_number table) → state.last < next_at o (stored_number table) → state.last < stored_number table
    later None attached less = less
    later (Some block) attached less = let last = attached.last in let limit = attached.limit in omega (arith, less, last, limit)

-- ---- a reader beside them

pub beside_agrees : BesideAgrees
beside_agrees moves clients oracle table actor oracle' table' actor' others state makes same few sound agrees = record {
  known = beside_known moves (next_number oracle table) (row_at table) actor (next_number oracle' table') (row_at table') actor' others clients state.jobs makes same sound agrees.known;
  triples = record {
    valid = agrees.triples.valid;
    each = λ triple valid. (λ there. ap is_some (stands triple) ∙ (agrees.triples.each triple valid).0 there, λ some. (agrees.triples.each triple valid).1 (ap is_some (sym (stands triple)) ∙ some));
  };
  queries = registered_alike (row_at table) (row_at table') state.queries alike agrees.queries;
  last = (let less = agrees.last in let rise = numbers_rise moves (next_number oracle table) (row_at table) actor (next_number oracle' table') (row_at table') actor' makes in omega (arith, less, rise));
  locks = (let more = added.locks in let most = agrees.locks in omega (arith, more, most));
  notifications = (let more = added.notifications in let most = agrees.notifications in omega (arith, more, most));
  idle = λ is. none_at_most (notifications_of table') (let more = added.notifications in let none = agrees.idle is in omega (arith, more, none));
  quiet = λ is. record {
    locks = none_at_most (locks_of table') (let more = added.locks in let none = (agrees.quiet is).locks in omega (arith, more, none));
    notifications = none_at_most (notifications_of table') (let more = added.notifications in let none = (agrees.quiet is).notifications in omega (arith, more, none));
  };
}
  where
    added : AddsAtMost 0 table table'
    added = steps_add moves (next_number oracle table) actor table (next_number oracle' table') actor' table' 0 makes (omega (arith, few))

    alike : SameReading (row_at table) (row_at table')
    alike = moves_read_alike moves (next_number oracle table) (row_at table) actor (next_number oracle' table') (row_at table') actor' (actors_of clients ++ others) makes sound.consistent same

    stands : (triple : Triple) → standing (row_at table') (triple_key Spo triple) ≡ standing (row_at table) (triple_key Spo triple)
    stands triple = ap (λ vs. put_of (newest vs)) (alike (triple_key Spo triple))
