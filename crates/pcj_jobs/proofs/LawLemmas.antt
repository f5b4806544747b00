-- A step of a job, and one that fails, over the state of a transcript.
use Rattle.std.proofs.Common.{◌≡◌, ◌≤◌, ◌+◌, ◌^◌, ℕ, Bool, true, false, ◌==◌, List, ◌++◌, [], Option, Some, None, refl, ap, sym, subst, ◌∙◌, arith, if◌then◌else◌}
use Rattle.std.proofs.lemmas.Bool.{eqb-true}
use Rattle.std.proofs.lemmas.List.Elements.{Contains-append_left}
use Rattle.std.specs.Option.{option_map}
use Rattle.pcj_table.specs.Table.{Table, row_at}
use Rattle.pcj_oracle.specs.Clock.{next_number}
use Rattle.pcj_oracle.specs.declared.block.Block.{Block}
use Rattle.pcj_moves.specs.Actors.{IsSound}
use Rattle.pcj_moves.proofs.ActorLemmas.{each_contains, each_sound}
use Rattle.pcj_rows.specs.Triples.{HasTriples}
use Rattle.pcj_pending.specs.Pending.{locks_of, notifications_of}
use Rattle.pcj_client.specs.Job.{Job}
use Rattle.pcj_client.specs.Events.{IsNamed}
use Rattle.pcj_client.specs.declared.event.JobEvent.{JobEvent}
use Rattle.pcj_client.specs.declared.event.JobEvent.TheVariants as does
use Rattle.pcj_clients.specs.Clients.{actors_of, job_of}
use Rattle.pcj_clients.specs.Laws.{IsJobStep}
use Rattle.pcj_clients.specs.declared.busy.Busy.{Busy}
use Rattle.pcj_model.specs.Job as told
use Rattle.pcj_model.specs.Queries.{Registration}
use Rattle.pcj_model.specs.State.{all_beside, with_job}
use Rattle.pcj_jobs.specs.Agrees.{HasRegistered, commit_told}
use Rattle.pcj_jobs.specs.Known.{IsKnownOf}
use Rattle.pcj_jobs.specs.Laws.{FaultAgrees, StepAgrees}
use Rattle.pcj_jobs.proofs.AgreeLemmas.{HasKnown, IsMade, append_nil, is_made, its_known, made_agrees, numbers_rise}
use Rattle.pcj_jobs.proofs.BesideLemmas.{beside_job}
use Rattle.pcj_jobs.proofs.ClientLemmas.{its_actor}
use Rattle.pcj_jobs.proofs.EndLemmas.{ends_so}
use Rattle.pcj_jobs.proofs.KnownLemmas.{known_as}
use Rattle.pcj_jobs.proofs.QueryLemmas.{held_by_none, held_by_one}
use Rattle.pcj_jobs.proofs.StepLemmas.{committed_with}

-- where it tells a commit, it is this event
is_commit : (event : JobEvent) (commit : ℕ) → commit_told event ≡ Some commit → event ≡ does.Committed commit
is_commit does.Worked commit e = absurd cc
is_commit (does.Committed other) commit e = cc
is_commit does.Done commit e = absurd cc
is_commit does.Aborted commit e = absurd cc
is_commit does.Taken commit e = absurd cc

may_commit : (client : ℕ) (old : List Busy) (oracle : Option Block) (table : Table) (event : JobEvent) (new : List Busy) (oracle' : Option Block) (table' : Table) (job : Job) (found : Option told.Job) (has : HasKnown (row_at table) job found) (step : IsJobStep job client old oracle table event new oracle' table') →
    IsMade client old job oracle table step.after oracle' table' → next_number oracle' table' ≤ 2 ^ 48 → (queries : List Registration) → ((commit : ℕ) → event ≡ does.Committed commit → told.is_name_held queries has.known.content ≡ false) →
    told.MayCommit queries has.known (commit_told event)
may_commit client old oracle table event new oracle' table' job found has step made last queries free = by (commit_told event) refl
  where
    by : (commit : Option ℕ) → commit_told event ≡ commit → told.MayCommit queries has.known commit
    by None e = tt
    by (Some commit) e =
        let facts = committed_with event job step.after commit step.commits e in
        let later = made.before.consistent.sound.0.transacts.later commit facts.0 in
        let below = made.before.consistent.older.0.below.commit commit facts.0 in
        let rise = numbers_rise made.moved.moves (next_number oracle table) (row_at table) job.actor (next_number oracle' table') (row_at table') step.after.actor made.moved.makes in
        let same = has.is.start in (has.is.is_committed ∙ facts.1, (omega (arith, later, same), omega (arith, below, rise, last)), free commit (is_commit event commit e))

pub step_agrees : StepAgrees
step_agrees client old oracle table event new oracle' table' job others state some step sound last agrees =
    let found = its_known (row_at table) old state.jobs client job agrees.known some in
    let made = is_made client old oracle table event new oracle' table' job others some step sound in
    let names = (step.queries agrees.queries.known made.others made.before agrees.queries.has).0 in
    let ends = ends_so state.queries oracle table job found.known event step.after oracle' table' found.is made.before.consistent.sound.0.transacts
    (λ taken. held_by_one job.content found.known.content state.queries agrees.queries.known agrees.queries.trees found.is.content (subst (λ e. IsNamed e job.content agrees.queries.known) taken names)) step.told in (
      found.known,
      record {
        has = found.has;
        commits = may_commit client old oracle table event new oracle' table' job (state.jobs client) found step made last state.queries
            (λ commit is. held_by_none job.content found.known.content state.queries agrees.queries.known agrees.queries.trees found.is.content (subst (λ e. IsNamed e job.content agrees.queries.known) is names));
        end = ends.end;
        ends_as = ends.ends_as;
        ends = ends.ends;
        agrees = made_agrees client old oracle table event new oracle' table' job state found some step made agrees;
      },
    )

pub fault_agrees : FaultAgrees
fault_agrees client clients oracle table oracle' table' job others state some kept sound agrees = (
  found.known,
  found.has,
  record {
    known = record { apart = agrees.known.apart; each = λ other. subst (λ t. IsKnownOf (row_at t) (job_of clients other) (with_job (all_beside [] [] state.jobs) client (Some found.known) other)) (sym kept.same) (by other (other == client) refl) };
    triples = subst (λ t. HasTriples (row_at t) (state.triples ++ [])) (sym kept.same) (subst (HasTriples (row_at table)) (sym (append_nil state.triples)) agrees.triples);
    queries = subst (λ t. HasRegistered (row_at t) state.queries) (sym kept.same) agrees.queries;
    last = let less = agrees.last in let same = kept.next in omega (arith, less, same);
    locks = subst (λ t. locks_of t ≤ state.backlog.most_locks + 1) (sym kept.same) (let few = agrees.locks in omega (arith, few));
    notifications = subst (λ t. notifications_of t ≤ state.backlog.most_locks + 1 + state.backlog.old_notifications) (sym kept.same) (let few = agrees.notifications in omega (arith, few));
    idle = λ clash. absurd cc;
    quiet = λ clash. absurd cc;
  },
)
  where
    found : HasKnown (row_at table) job (state.jobs client)
    found = its_known (row_at table) clients state.jobs client job agrees.known some

    beside_them : (other : ℕ) (its : Option Job) → job_of clients other ≡ its → (known : Option told.Job) → IsKnownOf (row_at table) its known → IsKnownOf (row_at table) its (option_map (told.beside [] []) known)
    beside_them other None e None is = tt
    beside_them other None e (Some known) is = absurd is
    beside_them other (Some its) e None is = absurd is
    beside_them other (Some its) e (Some known) is = beside_job (row_at table) (row_at table) its known [] []
        (each_contains (IsSound (row_at table)) (actors_of clients ++ others) its.actor (each_sound (row_at table) (actors_of clients ++ others) sound.consistent.sound) (Contains-append_left (actors_of clients) others its.actor (its_actor clients other its e))).transacts
        (λ undone none untouched. untouched) is

    by : (other : ℕ) (b : Bool) → (other == client) ≡ b → IsKnownOf (row_at table) (job_of clients other) (with_job (all_beside [] [] state.jobs) client (Some found.known) other)
    by other true e = known_as (row_at table) (Some job) _ (Some found.known) _ (ap (job_of clients) (eqb-true other client e) ∙ some) (ap (λ b. if b then Some found.known else all_beside [] [] state.jobs other) e) found.is
    by other false e = known_as (row_at table) (job_of clients other) _ (all_beside [] [] state.jobs other) _ refl (ap (λ b. if b then Some found.known else all_beside [] [] state.jobs other) e) (beside_them other (job_of clients other) refl (state.jobs other) (agrees.known.each other))
