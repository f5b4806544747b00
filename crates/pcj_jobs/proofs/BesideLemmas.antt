-- What is known stays true beside moves of somebody else.
use Rattle.std.proofs.Common.{◌≡◌, ◌⊎◌, inl, inr, ◌≤◌, ℕ, zero, suc, Bool, true, false, ◌||◌, is_some, nat_le, List, [], ◌∷◌, ◌++◌, take, Option, Some, None, refl, ap, sym, subst, ◌∙◌, arith}
use Rattle.std.proofs.lemmas.Bool.{leb-false}
use Rattle.std.proofs.lemmas.List.Elements.{Contains-append_left}
use Rattle.std.specs.List.{Contains}
use Rattle.std.specs.Option.{option_map}
use Rattle.pcj_term.specs.declared.triple.Triple.{Triple}
use Rattle.pcj_mvcc.specs.Acts.{lock_of}
use Rattle.pcj_mvcc.specs.Reading.{Rows, SameReading}
use Rattle.pcj_moves.specs.Actors.{Actor, IsSound}
use Rattle.pcj_moves.specs.Moves.{CommitNothing, CommitPrimary, CommitSecondary, Draw, DropPrimary, EndRecovery, IsAllowed, IsConsistent, Learn, Makes, Meet, Move, Plan, Prewrite, Read, RollBack, RollForward, WritePlain, actor_after, number_after, rows_after}
use Rattle.pcj_moves.specs.Traces.{traces}
use Rattle.pcj_moves.specs.Transactions.{IsHeld, IsLost, Transaction, Transacts, lock_at, primary_of, write_at}
use Rattle.pcj_moves.proofs.ActorLemmas.{each_contains, each_sound}
use Rattle.pcj_moves.proofs.ConsistencyLemmas.{move_is_consistent, moves_are_consistent}
use Rattle.pcj_moves.proofs.StandingLemmas.{one_move_changes}
use Rattle.pcj_client.specs.Job.{Job}
use Rattle.pcj_clients.specs.Clients.{actors_of, job_of}
use Rattle.pcj_model.specs.Job as told
use Rattle.pcj_jobs.specs.Known.{AreUntouched, IsKnown, IsKnownOf}
use Rattle.pcj_jobs.specs.Laws.{BesideKnown}
use Rattle.pcj_jobs.proofs.ClientLemmas.{its_actor}
use Rattle.pcj_jobs.proofs.KnownLemmas.{untouched_alike}

-- ---- moves that commit nothing

-- who is committed stays so
pub move_stays_committed : (move : Move) (number : ℕ) (rows : Rows) (actor : Actor) → IsAllowed move number rows actor → actor.transaction.committed ≡ true → (actor_after move rows actor).transaction.committed ≡ true
move_stays_committed (Plan writes) number rows actor may done = absurd (let clash : true ≡ false = sym done ∙ ap (λ (t : Transaction). t.committed) may.0 in cc)
move_stays_committed (Prewrite write) number rows actor may done = done
move_stays_committed (Draw commit) number rows actor may done = done
move_stays_committed (CommitPrimary write commit) number rows actor may done = refl
move_stays_committed (CommitSecondary write commit) number rows actor may done = done
move_stays_committed (CommitNothing commit) number rows actor may done = refl
move_stays_committed (Read answer) number rows actor may done = done
move_stays_committed (Meet key lock) number rows actor may done = done
move_stays_committed (Learn recovery) number rows actor may done = done
move_stays_committed (DropPrimary recovery) number rows actor may done = done
move_stays_committed (RollBack recovery) number rows actor may done = done
move_stays_committed (RollForward recovery commit) number rows actor may done = done
move_stays_committed EndRecovery number rows actor may done = done
move_stays_committed (WritePlain key plain) number rows actor may done = done

pub stays_committed : (moves : List Move) (number : ℕ) (rows : Rows) (actor : Actor) (number' : ℕ) (rows' : Rows) (actor' : Actor) → Makes moves number rows actor number' rows' actor' → actor.transaction.committed ≡ true → actor'.transaction.committed ≡ true
stays_committed [] number rows actor number' rows' actor' makes done = ap (λ (a : Actor). a.transaction.committed) makes.2 ∙ done
stays_committed (move ∷ moves) number rows actor number' rows' actor' makes done =
    stays_committed moves (number_after move number) (rows_after move actor rows) (actor_after move rows actor) number' rows' actor' makes.1 (move_stays_committed move number rows actor makes.0 done)

-- between two that are the same
between : (a b c : Bool) → (a ≡ true → b ≡ true) → (b ≡ true → c ≡ true) → c ≡ a → b ≡ a
between true b c up on same = up refl
between false true c up on same = sym (on refl) ∙ same
between false false c up on same = refl

pub move_reads_alike : (move : Move) (number : ℕ) (rows : Rows) (actor : Actor) (others : List Actor) → IsAllowed move number rows actor → IsConsistent (record { number = number; rows = rows; actors = actor ∷ others }) →
    (actor_after move rows actor).transaction.committed ≡ actor.transaction.committed → SameReading rows (rows_after move actor rows)
move_reads_alike (Plan writes) number rows actor others may is same = one_move_changes number rows actor others (Plan writes) may is
move_reads_alike (Prewrite write) number rows actor others may is same = one_move_changes number rows actor others (Prewrite write) may is
move_reads_alike (Draw commit) number rows actor others may is same = one_move_changes number rows actor others (Draw commit) may is
move_reads_alike (CommitPrimary write commit) number rows actor others may is same = absurd (let clash : true ≡ false = same ∙ may.undone in cc)
move_reads_alike (CommitSecondary write commit) number rows actor others may is same = one_move_changes number rows actor others (CommitSecondary write commit) may is
move_reads_alike (CommitNothing commit) number rows actor others may is same = one_move_changes number rows actor others (CommitNothing commit) may is
move_reads_alike (Read answer) number rows actor others may is same = one_move_changes number rows actor others (Read answer) may is
move_reads_alike (Meet key lock) number rows actor others may is same = one_move_changes number rows actor others (Meet key lock) may is
move_reads_alike (Learn recovery) number rows actor others may is same = one_move_changes number rows actor others (Learn recovery) may is
move_reads_alike (DropPrimary recovery) number rows actor others may is same = one_move_changes number rows actor others (DropPrimary recovery) may is
move_reads_alike (RollBack recovery) number rows actor others may is same = one_move_changes number rows actor others (RollBack recovery) may is
move_reads_alike (RollForward recovery commit) number rows actor others may is same = one_move_changes number rows actor others (RollForward recovery commit) may is
move_reads_alike EndRecovery number rows actor others may is same = one_move_changes number rows actor others EndRecovery may is
move_reads_alike (WritePlain key plain) number rows actor others may is same = one_move_changes number rows actor others (WritePlain key plain) may is

pub moves_read_alike : (moves : List Move) (number : ℕ) (rows : Rows) (actor : Actor) (number' : ℕ) (rows' : Rows) (actor' : Actor) (others : List Actor) → Makes moves number rows actor number' rows' actor' →
    IsConsistent (record { number = number; rows = rows; actors = actor ∷ others }) → actor'.transaction.committed ≡ actor.transaction.committed → SameReading rows rows'
moves_read_alike [] number rows actor number' rows' actor' others makes is same = subst (SameReading rows) (sym makes.1) (λ key. refl)
moves_read_alike (move ∷ moves) number rows actor number' rows' actor' others makes is same =
    let mid : (actor_after move rows actor).transaction.committed ≡ actor.transaction.committed = between actor.transaction.committed (actor_after move rows actor).transaction.committed actor'.transaction.committed
    (move_stays_committed move number rows actor makes.0)
    (stays_committed moves (number_after move number) (rows_after move actor rows) (actor_after move rows actor) number' rows' actor' makes.1) same in
    λ key. moves_read_alike moves (number_after move number) (rows_after move actor rows) (actor_after move rows actor) number' rows' actor' others makes.1
    (move_is_consistent number rows actor others move makes.0 is) (same ∙ sym mid) key ∙ move_reads_alike move number rows actor others makes.0 is mid key

-- ---- one job beside them

-- where nothing is prewritten all is held
pub nothing_held : (start : ℕ) (transaction : Transaction) (rows : Rows) → Transacts start transaction (traces start rows) → transaction.committed ≡ false → transaction.prewritten ≡ 0 → IsHeld (lock_at start transaction) (traces start rows)
nothing_held start transaction rows transacts undone none = by (transacts.undone undone)
  where
    by : IsHeld (lock_at start transaction) (traces start rows) ⊎ IsLost (primary_of transaction) (lock_at start transaction) (traces start rows) → IsHeld (lock_at start transaction) (traces start rows)
    by (inl held) = held
    by (inr lost) = absurd (let clash : false ≡ true = ap (λ n. is_some (option_map (λ w. lock_of w start (primary_of transaction)) (write_at (take n transaction.writes) (primary_of transaction)))) (sym none) ∙ lost.some in cc)

pub or_parts : (a b : Bool) → (a || b) ≡ false → (a ≡ false) × (b ≡ false)
or_parts true b e = absurd cc
or_parts false b e = (refl, e)

pub beside_job : (rows rows' : Rows) (job : Job) (known : told.Job) (joined : List Triple) (names : List (List ℕ)) → Transacts job.actor.start job.actor.transaction (traces job.actor.start rows') →
    (job.actor.transaction.committed ≡ false → told.is_rival known.content joined names ≡ false → AreUntouched rows job.actor.start job.content → AreUntouched rows' job.actor.start job.content) →
    IsKnown rows job known → IsKnown rows' job (told.beside joined names known)
beside_job rows rows' job known joined names transacts reads is = record {
  start = is.start;
  content = is.content;
  is_committed = is.is_committed;
  is = is.is;
  answers = is.answers;
  prewritten = is.prewritten;
  held = λ undone met. nothing_held job.actor.start job.actor.transaction rows' transacts undone (none (or_parts known.met _ met).1);
  untouched = λ undone rival. let parts = or_parts known.rival (told.is_rival known.content joined names) rival in reads undone parts.1 (is.untouched undone parts.0);
}
  where
    none : nat_le (told.first_of known.content) known.steps ≡ false → job.actor.transaction.prewritten ≡ 0
    none few = by job.actor.transaction.prewritten refl
      where
        by : (n : ℕ) → job.actor.transaction.prewritten ≡ n → job.actor.transaction.prewritten ≡ 0
        by zero e = e
        by (suc n) e = absurd (
            let more : told.first_of known.content ≤ known.steps = is.prewritten (omega (arith, e)) in
            let less = leb-false (told.first_of known.content) known.steps few in omega (arith, more, less)
            )

-- ---- all jobs

sound_of : (rows : Rows) (actors : List Actor) (actor : Actor) → Rattle.pcj_moves.specs.Actors.AreSound rows actors → Contains actors actor → IsSound rows actor
sound_of rows actors actor sound there = each_contains (IsSound rows) actors actor (each_sound rows actors sound) there

pub beside_known : BesideKnown
beside_known moves number rows actor number' rows' actor' others clients jobs makes same sound are = record { apart = are.apart; each = λ client. by client (job_of clients client) refl (jobs client) (are.each client) }
  where
    after : IsConsistent (record { number = number'; rows = rows'; actors = actor' ∷ (actors_of clients ++ others) })
    after = moves_are_consistent moves number rows actor number' rows' actor' (actors_of clients ++ others) makes sound.consistent

    alike : SameReading rows rows'
    alike = moves_read_alike moves number rows actor number' rows' actor' (actors_of clients ++ others) makes sound.consistent same

    by : (client : ℕ) (job : Option Job) → job_of clients client ≡ job → (known : Option told.Job) → IsKnownOf rows job known → IsKnownOf rows' job (option_map (told.beside [] []) known)
    by client None e None is = tt
    by client None e (Some known) is = absurd is
    by client (Some job) e None is = absurd is
    by client (Some job) e (Some known) is = beside_job rows rows' job known [] []
        (sound_of rows' (actors_of clients ++ others) job.actor after.sound.2 (Contains-append_left (actors_of clients) others job.actor (its_actor clients client job e))).transacts
        (λ undone none. untouched_alike rows rows' job.actor.start job.content alike) is
