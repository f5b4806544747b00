-- What the state of a transcript says stays true with a step of a job.
use Rattle.std.proofs.Common.{◌≡◌, ◌≢◌, ◌⊎◌, inl, inr, ◌≤◌, ◌<◌, ◌+◌, ℕ, Bool, true, false, not, ◌==◌, List, [], ◌∷◌, ◌++◌, filter, Option, Some, None, refl, ap, sym, subst, ◌∙◌, arith, cond, if◌then◌else◌}
use Rattle.std.proofs.lemmas.Bool.{eqb-true}
use Rattle.std.proofs.lemmas.List.{append_assoc}
use Rattle.std.proofs.lemmas.List.Elements.{All-append, All-filter, Contains-append_cases, Contains-append_left, Contains-append_right}
use Rattle.std.specs.List.{All, Contains}
use Rattle.std.specs.Option.{option_map}
use Rattle.pcj_term.proofs.ListLemmas.{first_or_later, first_there, later_there, passed_by_one}
use Rattle.pcj_term.proofs.Same.{same_triple_true}
use Rattle.pcj_term.specs.declared.triple.Triple.{Triple}
use Rattle.pcj_term.specs.Triple.{same_triple}
use Rattle.pcj_table.specs.Table.{Table, row_at}
use Rattle.pcj_oracle.specs.Clock.{next_number}
use Rattle.pcj_oracle.specs.declared.block.Block.{Block}
use Rattle.pcj_encode.specs.Name.{IsTriple}
use Rattle.pcj_mvcc.specs.Reading.{Rows}
use Rattle.pcj_moves.specs.Actors.{Actor, ArePair, IsSound}
use Rattle.pcj_moves.specs.Moves.{IsAllowed, Makes, Move, CommitNothing, CommitPrimary, CommitSecondary, Draw, DropPrimary, EndRecovery, Learn, Meet, Plan, Prewrite, Read, RollBack, RollForward, WritePlain, actor_after, number_after, rows_after}
use Rattle.pcj_moves.proofs.ActorLemmas.{each_contains, each_sound}
use Rattle.pcj_actor.specs.StepLaws.{state_of}
use Rattle.pcj_fit.specs.Sound.{Sound}
use Rattle.pcj_rows.specs.Triples.{HasTriples}
use Rattle.pcj_pending.proofs.MoveLemmas.{steps_add}
use Rattle.pcj_pending.specs.Laws.{AddsAtMost}
use Rattle.pcj_client.specs.Job.{Content, Job, loaded}
use Rattle.pcj_client.specs.Job.Content.{Loads, Registers}
use Rattle.pcj_client.specs.Events.{HasMoved, PrewritesOne, ReadsOne, triples_after}
use Rattle.pcj_client.specs.declared.event.JobEvent.{JobEvent}
use Rattle.pcj_client.specs.declared.event.JobEvent.TheVariants as does
use Rattle.pcj_clients.specs.Clients.{actors_of, after_step, is_end, job_of, with_job as with_client, without_job}
use Rattle.pcj_clients.specs.Laws.{IsJobStep}
use Rattle.pcj_clients.specs.declared.busy.Busy.{Busy}
use Rattle.pcj_clients.proofs.JobLemmas.{apart_after, around}
use Rattle.pcj_clients.proofs.SoundLemmas.{comes_first}
use Rattle.pcj_model.specs.Job as told
use Rattle.pcj_model.specs.State.{State, all_beside, joined_by, last_after, names_joined, stepped, with_job}
use Rattle.pcj_jobs.specs.Agrees.{Agrees, commit_told, known_after}
use Rattle.pcj_jobs.specs.Known.{AreKnown, IsContentOf, IsKnown, IsKnownOf}
use Rattle.pcj_jobs.proofs.BesideLemmas.{beside_job}
use Rattle.pcj_jobs.proofs.ClientLemmas.{its_actor, with_other, with_own, without_other, without_own}
use Rattle.pcj_jobs.proofs.ContentLemmas.{IsValidContent}
use Rattle.pcj_jobs.proofs.JobLemmas.{valid_content}
use Rattle.pcj_jobs.proofs.KnownLemmas.{known_as}
use Rattle.pcj_jobs.proofs.QueryLemmas.{queries_then}
use Rattle.pcj_jobs.proofs.StepLemmas.{committed_with, joins, names_joining, own_known, step_untouched}

-- ---- numbers

pub numbers_rise : (moves : List Move) (number : ℕ) (rows : Rows) (actor : Actor) (number' : ℕ) (rows' : Rows) (actor' : Actor) → Makes moves number rows actor number' rows' actor' → number ≤ number'
numbers_rise [] number rows actor number' rows' actor' makes = let same = makes.0 in omega (arith, same)
numbers_rise (move ∷ moves) number rows actor number' rows' actor' makes =
    let rest = numbers_rise moves (number_after move number) (rows_after move actor rows) (actor_after move rows actor) number' rows' actor' makes.1 in
    let here = one move makes.0 in omega (arith, rest, here)
  where
    one : (m : Move) → IsAllowed m number rows actor → number ≤ number_after m number
    one (Plan writes) may = omega arith
    one (Prewrite write) may = omega arith
    one (Draw commit) may = let granted = may.granted in omega (arith, granted)
    one (CommitPrimary write commit) may = omega arith
    one (CommitSecondary write commit) may = omega arith
    one (CommitNothing commit) may = omega arith
    one (Read answer) may = omega arith
    one (Meet key lock) may = omega arith
    one (Learn recovery) may = omega arith
    one (DropPrimary recovery) may = omega arith
    one (RollBack recovery) may = omega arith
    one (RollForward recovery commit) may = omega arith
    one EndRecovery may = omega arith
    one (WritePlain key plain) may = omega arith

-- ---- triples

not_among : (known : List Triple) (triple : Triple) → told.is_among known triple ≡ true → Contains known triple
not_among known triple e = let one = passed_by_one (same_triple triple) known e in subst (Contains known) (sym (same_triple_true triple one.0 one.2)) one.1

kept_is_there : (keep : Triple → Bool) (triples : List Triple) (triple : Triple) → Contains (filter keep triples) triple → Contains triples triple
kept_is_there keep [] triple there = there
kept_is_there keep (first ∷ triples) triple there = by (keep first) refl (kept_is_there keep triples triple)
  where
    by : (b : Bool) → keep first ≡ b → (Contains (filter keep triples) triple → Contains triples triple) → Contains (first ∷ triples) triple
    by true e rest = elim (first_or_later first (filter keep triples) triple (subst (λ ts. Contains ts triple) (ap (λ b. cond b (first ∷ filter keep triples) (filter keep triples)) e) there)) [
      | inl same ↦ subst (Contains (first ∷ triples)) same (first_there first triples)
      | inr later ↦ later_there first triples triple (rest later)
    ]
    by false e rest = later_there first triples triple (rest (subst (λ ts. Contains ts triple) (ap (λ b. cond b (first ∷ filter keep triples) (filter keep triples)) e) there))

is_kept : (keep : Triple → Bool) (triples : List Triple) (triple : Triple) → Contains triples triple → keep triple ≡ true → Contains (filter keep triples) triple
is_kept keep [] triple there kept = there
is_kept keep (first ∷ triples) triple there kept = by (first_or_later first triples triple there) (keep first) refl (is_kept keep triples triple)
  where
    by : (first ≡ triple) ⊎ Contains triples triple → (b : Bool) → keep first ≡ b → (Contains triples triple → keep triple ≡ true → Contains (filter keep triples) triple) → Contains (filter keep (first ∷ triples)) triple
    by (inl same) true e rest = subst (λ ts. Contains ts triple) (sym (ap (λ b. cond b (first ∷ filter keep triples) (filter keep triples)) e)) (subst (Contains (first ∷ filter keep triples)) same (first_there first (filter keep triples)))
    by (inl same) false e rest = absurd (let clash : false ≡ true = sym e ∙ ap keep same ∙ kept in cc)
    by (inr later) true e rest = subst (λ ts. Contains ts triple) (sym (ap (λ b. cond b (first ∷ filter keep triples) (filter keep triples)) e)) (later_there first (filter keep triples) triple (rest later kept))
    by (inr later) false e rest = subst (λ ts. Contains ts triple) (sym (ap (λ b. cond b (first ∷ filter keep triples) (filter keep triples)) e)) (rest later kept)

-- those that were there needn't be added
joined_are_there : (rows : Rows) (known triples : List Triple) → All IsTriple known → All IsTriple triples → HasTriples rows (known ++ triples) → HasTriples rows (known ++ filter (λ triple. not (told.is_among known triple)) triples)
joined_are_there rows known triples valid valids has = record {
  valid = All-append IsTriple known (filter keep triples) valid (All-filter keep IsTriple triples valids);
  each = λ triple is. (λ there. (has.each triple is).0 (to triple (Contains-append_cases known (filter keep triples) triple there)), λ stands. from triple (Contains-append_cases known triples triple ((has.each triple is).1 stands)));
}
  where
    keep : Triple → Bool
    keep triple = not (told.is_among known triple)

    to : (triple : Triple) → Contains known triple ⊎ Contains (filter keep triples) triple → Contains (known ++ triples) triple
    to triple (inl there) = Contains-append_left known triples triple there
    to triple (inr there) = Contains-append_right known triples triple (kept_is_there keep triples triple there)

    from : (triple : Triple) → Contains known triple ⊎ Contains triples triple → Contains (known ++ filter keep triples) triple
    from triple (inl there) = Contains-append_left known (filter keep triples) triple there
    from triple (inr there) = by (told.is_among known triple) refl
      where
        by : (b : Bool) → told.is_among known triple ≡ b → Contains (known ++ filter keep triples) triple
        by true e = Contains-append_left known (filter keep triples) triple (not_among known triple e)
        by false e = Contains-append_right known (filter keep triples) triple (is_kept keep triples triple there (ap not e))

pub append_nil : (xs : List Triple) → xs ++ [] ≡ xs
append_nil [] = refl
append_nil (x ∷ xs) = ap (λ ys. x ∷ ys) (append_nil xs)

triples_with : (rows : Rows) (known : List Triple) (start : ℕ) (content : Content) (told_of : told.Content) → All IsTriple known → IsValidContent start content → IsContentOf content told_of → HasTriples rows (known ++ loaded content) →
    HasTriples rows (known ++ filter (λ triple. not (told.is_among known triple)) (told.triples_of told_of))
triples_with rows known start (Loads triples) (told.Content.Load its) had valid is has =
    subst (λ ts. HasTriples rows (known ++ filter (λ triple. not (told.is_among known triple)) ts)) (sym is) (joined_are_there rows known triples had valid has)
triples_with rows known start (Loads triples) (told.Content.Registration name query) had valid is has = absurd is
triples_with rows known start (Registers name tree) (told.Content.Load its) had valid is has = absurd is
triples_with rows known start (Registers name tree) (told.Content.Registration its query) had valid is has = has

triples_then : (rows rows' : Rows) (event : JobEvent) (known : List Triple) (start : ℕ) (content : Content) (told_of : told.Content) → HasTriples rows known → IsValidContent start content → IsContentOf content told_of → HasTriples rows' (triples_after event known (loaded content)) →
    HasTriples rows' (known ++ joins known told_of (commit_told event))
triples_then rows rows' does.Worked known start content told_of had valid is has = subst (HasTriples rows') (sym (append_nil known)) has
triples_then rows rows' (does.Committed commit) known start content told_of had valid is has = triples_with rows' known start content told_of had.valid valid is has
triples_then rows rows' does.Done known start content told_of had valid is has = subst (HasTriples rows') (sym (append_nil known)) has
triples_then rows rows' does.Aborted known start content told_of had valid is has = subst (HasTriples rows') (sym (append_nil known)) has
triples_then rows rows' does.Taken known start content told_of had valid is has = subst (HasTriples rows') (sym (append_nil known)) has

pub joined_is : (state : State) (known : told.Job) (commit : Option ℕ) → joined_by state known commit ≡ joins state.triples known.content commit
joined_is state known None = refl
joined_is state known (Some commit) = refl

names_are : (known : told.Job) (commit : Option ℕ) → names_joined known commit ≡ names_joining known.content commit
names_are known None = refl
names_are known (Some commit) = refl

-- ---- what is known of a client

pub record HasKnown (rows : Rows) (job : Job) (found : Option told.Job) : Type 0 where
  pub known : told.Job
  pub has : found ≡ Some known
  pub is : IsKnown rows job known

pub has_known : (rows : Rows) (job : Job) (found : Option told.Job) → IsKnownOf rows (Some job) found → HasKnown rows job found
has_known rows job None is = absurd is
has_known rows job (Some known) is = record { known = known; has = refl; is = is }

pub its_known : (rows : Rows) (clients : List Busy) (jobs : ℕ → Option told.Job) (client : ℕ) (job : Job) → AreKnown rows clients jobs → job_of clients client ≡ Some job → HasKnown rows job (jobs client)
its_known rows clients jobs client job are some = has_known rows job (jobs client) (subst (λ j. IsKnownOf rows j (jobs client)) some (are.each client))

-- ---- a step

-- the job's actor, all others, and what the step is to them
pub record IsMade (client : ℕ) (old : List Busy) (job : Job) (oracle : Option Block) (table : Table) (after : Job) (oracle' : Option Block) (table' : Table) : Type 0 where
  pub others : List Actor
  pub there : (other : ℕ) (its : Job) → (other == client) ≡ false → job_of old other ≡ Some its → Contains others its.actor
  pub before : Sound (state_of oracle table (job.actor ∷ others))
  pub sound : Sound (state_of oracle' table' (after.actor ∷ others))
  pub moved : HasMoved job oracle table after oracle' table'

pub is_made : (client : ℕ) (old : List Busy) (oracle : Option Block) (table : Table) (event : JobEvent) (new : List Busy) (oracle' : Option Block) (table' : Table) (job : Job) (more : List Actor) → job_of old client ≡ Some job → (step : IsJobStep job client old oracle table event new oracle' table') →
    Sound (state_of oracle table (actors_of old ++ more)) → IsMade client old job oracle table step.after oracle' table'
is_made client old oracle table event new oracle' table' job more some step sound =
    let (front, back, are) = around old client job some in
    let first = comes_first old job front back client oracle table more are sound in
    record {
      others = front ++ (back ++ more);
      there = λ other its apart has. subst (λ actors. Contains actors its.actor) (ap (λ actors. actors ++ more) are.without ∙ append_assoc front back more)
          (Contains-append_left (actors_of (without_job old client)) more its.actor (its_actor (without_job old client) other its (without_other old client other apart ∙ has)));
      before = first;
      sound = step.sound (front ++ (back ++ more)) first;
      moved = step.moves (front ++ (back ++ more)) first;
    }

pub step_known : (client : ℕ) (old : List Busy) (oracle : Option Block) (table : Table) (event : JobEvent) (new : List Busy) (oracle' : Option Block) (table' : Table) (job : Job) (state : State) (found : HasKnown (row_at table) job (state.jobs client)) → job_of old client ≡ Some job →
    (step : IsJobStep job client old oracle table event new oracle' table') → IsMade client old job oracle table step.after oracle' table' → HasTriples (row_at table) state.triples → AreKnown (row_at table) old state.jobs →
    AreKnown (row_at table') new (with_job (all_beside (joined_by state found.known (commit_told event)) (names_joined found.known (commit_told event)) state.jobs) client (known_after found.known event))
step_known client old oracle table event new oracle' table' job state found some step made has are = record {
  apart = subst (λ cs. Rattle.pcj_clients.specs.Clients.are_apart cs ≡ true) (sym step.left) (apart_after old client step.after event are.apart);
  each = λ other. by other (other == client) refl;
}
  where
    joined : List Triple
    joined = joined_by state found.known (commit_told event)

    names : List (List ℕ)
    names = names_joined found.known (commit_told event)

    own : IsKnown (row_at table') step.after (told.grown found.known (commit_told event) 1)
    own = own_known job step.after event (next_number oracle table) (row_at table) (next_number oracle' table') (row_at table') made.others made.moved.moves found.known step.commits step.is step.content step.on.start step.on.one
        made.moved.makes made.before.consistent found.is

    after_own : (b : Bool) → is_end event ≡ b → IsKnownOf (row_at table') (job_of (after_step old client step.after event) client) (known_after found.known event)
    after_own true e = known_as (row_at table') None _ None _ (ap (λ b. job_of (if b then without_job old client else with_client old client step.after) client) e ∙ without_own old client are.apart)
        (ap (λ b. if b then None else Some (told.grown found.known (commit_told event) 1)) e) tt
    after_own false e = known_as (row_at table') (Some step.after) _ (Some (told.grown found.known (commit_told event) 1)) _
        (ap (λ b. job_of (if b then without_job old client else with_client old client step.after) client) e ∙ with_own old client job step.after some)
        (ap (λ b. if b then None else Some (told.grown found.known (commit_told event) 1)) e) own

    after_other : (other : ℕ) → (other == client) ≡ false → (b : Bool) → is_end event ≡ b → job_of (after_step old client step.after event) other ≡ job_of old other
    after_other other apart true e = ap (λ b. job_of (if b then without_job old client else with_client old client step.after) other) e ∙ without_other old client other apart
    after_other other apart false e = ap (λ b. job_of (if b then without_job old client else with_client old client step.after) other) e ∙ with_other old client other step.after apart

    starts_differ : (other : ℕ) (its : Job) → (other == client) ≡ false → job_of old other ≡ Some its → its.actor.start ≢ step.after.actor.start
    starts_differ other its apart has same =
        (each_contains (λ (a : Actor). ArePair (row_at table') step.after.actor a × ArePair (row_at table') a step.after.actor) made.others its.actor made.sound.consistent.sound.1 (made.there other its apart has)).0.apart.starts (sym same)

    beside_them : (other : ℕ) → (other == client) ≡ false → (its : Option Job) → job_of old other ≡ its → (told_of : Option told.Job) → IsKnownOf (row_at table) its told_of → IsKnownOf (row_at table') its (option_map (told.beside joined names) told_of)
    beside_them other apart None e None is = tt
    beside_them other apart None e (Some other_known) is = absurd is
    beside_them other apart (Some its) e None is = absurd is
    beside_them other apart (Some its) e (Some other_known) is =
        beside_job (row_at table) (row_at table') its other_known joined names
        (each_contains (IsSound (row_at table')) made.others its.actor (each_sound (row_at table') made.others made.sound.consistent.sound.2) (made.there other its apart e)).transacts
        (λ undone none untouched. step_untouched job step.after event (next_number oracle table) (row_at table) (next_number oracle' table') (row_at table') made.others made.moved.moves found.known.content state.triples its.content other_known.content its.actor.start step.commits step.is step.content
        made.moved.makes made.before.consistent made.sound.consistent.sound.0.reads has found.is.content is.content (valid_content its is.is) (starts_differ other its apart e)
        (ap (λ ts. told.is_rival other_known.content ts (names_joining found.known.content (commit_told event))) (sym (joined_is state found.known (commit_told event)))
        ∙ ap (told.is_rival other_known.content joined) (sym (names_are found.known (commit_told event))) ∙ none)
        untouched) is

    by : (other : ℕ) (b : Bool) → (other == client) ≡ b → IsKnownOf (row_at table') (job_of new other) (with_job (all_beside joined names state.jobs) client (known_after found.known event) other)
    by other true e = known_as (row_at table') (job_of (after_step old client step.after event) client) _ (known_after found.known event) _
        (ap (λ cs. job_of cs other) step.left ∙ ap (job_of (after_step old client step.after event)) (eqb-true other client e))
        (ap (λ b. if b then known_after found.known event else all_beside joined names state.jobs other) e) (after_own (is_end event) refl)
    by other false e = known_as (row_at table') (job_of old other) _ (all_beside joined names state.jobs other) _
        (ap (λ cs. job_of cs other) step.left ∙ after_other other e (is_end event) refl)
        (ap (λ b. if b then known_after found.known event else all_beside joined names state.jobs other) e)
        (beside_them other e (job_of old other) refl (state.jobs other) (are.each other))

last_below : (last : ℕ) (commit : Option ℕ) (number number' : ℕ) → last < number → number ≤ number' → ((c : ℕ) → commit ≡ Some c → c < number) → last_after last commit < number'
last_below last None number number' less le each = omega (arith, less, le)
last_below last (Some commit) number number' less le each = let lt = each commit refl in omega (arith, less, le, lt)

pub made_agrees : (client : ℕ) (old : List Busy) (oracle : Option Block) (table : Table) (event : JobEvent) (new : List Busy) (oracle' : Option Block) (table' : Table) (job : Job) (state : State) (found : HasKnown (row_at table) job (state.jobs client)) → job_of old client ≡ Some job →
    (step : IsJobStep job client old oracle table event new oracle' table') → IsMade client old job oracle table step.after oracle' table' → Agrees oracle table old state →
    Agrees oracle' table' new (stepped state client found.known (commit_told event) (known_after found.known event) 1)
made_agrees client old oracle table event new oracle' table' job state found some step made agrees = record {
  known = step_known client old oracle table event new oracle' table' job state found some step made agrees.triples agrees.known;
  triples = subst (λ ts. HasTriples (row_at table') (state.triples ++ ts)) (sym (joined_is state found.known (commit_told event)))
      (triples_then (row_at table) (row_at table') event state.triples job.actor.start job.content found.known.content agrees.triples (valid_content job found.is.is) found.is.content (step.triples state.triples made.others made.before agrees.triples));
  queries = queries_then (row_at table') event job found.known state.queries agrees.queries.known agrees.queries.trees found.is.start found.is.content (step.queries agrees.queries.known made.others made.before agrees.queries.has).1;
  last = last_below state.last (commit_told event) (next_number oracle table) (next_number oracle' table') agrees.last
      (numbers_rise made.moved.moves (next_number oracle table) (row_at table) job.actor (next_number oracle' table') (row_at table') step.after.actor made.moved.makes)
      (λ commit e. made.before.consistent.older.0.below.commit commit (committed_with event job step.after commit step.commits e).0);
  locks = (let more = added.locks in let few = agrees.locks in omega (arith, more, few));
  notifications = (let more = added.notifications in let few = agrees.notifications in omega (arith, more, few));
  idle = λ clash. absurd cc;
  quiet = λ clash. absurd cc;
}
  where
    one : ReadsOne job step.after ⊎ PrewritesOne job step.after → step.after.actor.transaction.prewritten ≤ job.actor.transaction.prewritten + 1
    one (inl reads) = let same = reads.prewritten in omega (arith, same)
    one (inr prewrites) = let same = prewrites.prewritten in omega (arith, same)

    added : AddsAtMost 1 table table'
    added = steps_add made.moved.moves (next_number oracle table) job.actor table (next_number oracle' table') step.after.actor table' 1 made.moved.makes (one step.on.one)
