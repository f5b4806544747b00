-- The steps of a command, one after another, up to the last.
use Rattle.std.proofs.Common.{◌≡◌, ◌⊎◌, inl, inr, ◌≤◌, ◌+◌, ◌^◌, ℕ, suc, Bool, true, false, not, ◌||◌, ◌&&◌, is_some, List, [], ◌∷◌, ◌++◌, length, Option, Some, None, Ok, Err, refl, ap, sym, subst, ◌∙◌, arith, if◌then◌else◌}
use Rattle.std.proofs.lemmas.Bool.{and_parts, eq-eqb}
use Rattle.pcj_table.specs.Table.{Table, row_at}
use Rattle.pcj_oracle.specs.Clock.{next_number}
use Rattle.pcj_oracle.specs.declared.block.Block.{Block}
use Rattle.pcj_moves.specs.Actors.{Actor}
use Rattle.pcj_actor.specs.StepLaws.{state_of}
use Rattle.pcj_fit.specs.Sound.{Sound}
use Rattle.pcj_rows.specs.Triples.{HasTriples}
use Rattle.pcj_client.specs.Job.{Job}
use Rattle.pcj_client.specs.declared.event.JobEvent.{JobEvent}
use Rattle.pcj_client.specs.declared.event.JobEvent.TheVariants as does
use Rattle.pcj_clients.specs.Clients.{actors_of, is_end, job_of, with_job as with_client, without_job}
use Rattle.pcj_clients.specs.Laws.{IsClientStep, IsJobStep}
use Rattle.pcj_clients.specs.Steps.{AreSteps, IsStepOf, Told, all_go_on, all_had_memory, goes_on, had_memory, stepped_from, with_told}
use Rattle.pcj_clients.specs.declared.busy.Busy.{Busy}
use Rattle.pcj_clients.specs.declared.stepped.Stepped.{Stepped}
use Rattle.pcj_clients.specs.declared.stepped.StepsEnd.TheVariants as all
use Rattle.pcj_clients.proofs.SoundLemmas.{keeps_all_sound}
use Rattle.pcj_model.specs.Job as told
use Rattle.pcj_model.specs.Queries.{Registration}
use Rattle.pcj_model.specs.State.{State, all_beside, joined_by, names_joined, queries_after, stepped}
use Rattle.pcj_jobs.specs.Agrees.{Agrees, HasRegistered, commit_told, known_after}
use Rattle.pcj_jobs.specs.Laws.{StepsKnown}
use Rattle.pcj_jobs.proofs.AgreeLemmas.{append_nil, is_made, numbers_rise}
use Rattle.pcj_jobs.proofs.BesideLemmas.{or_parts}
use Rattle.pcj_jobs.proofs.ClientLemmas.{with_own}
use Rattle.pcj_jobs.proofs.ComposeLemmas.{SayTheSame, agrees_as, commit_then, grown_none, grown_then, stepped_then}
use Rattle.pcj_jobs.proofs.LawLemmas.{step_agrees}

-- ---- one step

-- it is of the job
pub made_by : (told : Option JobEvent) (client : ℕ) (clients : List Busy) (oracle : Option Block) (table : Table) (new : List Busy) (oracle' : Option Block) (table' : Table) (job : Job) → job_of clients client ≡ Some job → IsStepOf (Ok told) client clients oracle table new oracle' table' →
    (event : JobEvent) × (told ≡ Some event) × IsJobStep job client clients oracle table event new oracle' table'
made_by told client clients oracle table new oracle' table' job some step = subst (λ j. IsClientStep j client clients oracle table told new oracle' table') some step

pub sound_then : (told : Told) (client : ℕ) (clients : List Busy) (oracle : Option Block) (table : Table) (new : List Busy) (oracle' : Option Block) (table' : Table) (others : List Actor) → IsStepOf told client clients oracle table new oracle' table' →
    Sound (state_of oracle table (actors_of clients ++ others)) → Sound (state_of oracle' table' (actors_of new ++ others)) × (next_number oracle table ≤ next_number oracle' table')
sound_then (Err error) client clients oracle table new oracle' table' others step sound = (
  subst (λ n. Sound (record { number = n; rows = row_at table'; actors = actors_of new ++ others })) (sym (step.1).next)
      (subst (λ t. Sound (record { number = next_number oracle table; rows = row_at t; actors = actors_of new ++ others })) (sym (step.1).same)
      (subst (λ (cs : List Busy). Sound (state_of oracle table (actors_of cs ++ others))) (sym step.0) sound)),
  let same = (step.1).next in omega (arith, same),
)
sound_then (Ok told) client clients oracle table new oracle' table' others step sound = by (job_of clients client) refl step
  where
    by : (found : Option Job) → job_of clients client ≡ found → IsClientStep found client clients oracle table told new oracle' table' → Sound (state_of oracle' table' (actors_of new ++ others)) × (next_number oracle table ≤ next_number oracle' table')
    by None e is = (
      subst (λ (cs : List Busy). Sound (state_of oracle' table' (actors_of cs ++ others))) (sym is.1) (subst (λ o. Sound (state_of o table' (actors_of clients ++ others))) (sym is.2) (subst (λ t. Sound (state_of oracle t (actors_of clients ++ others))) (sym is.3) sound)),
      subst (λ o. next_number oracle table ≤ next_number o table') (sym is.2) (subst (λ t. next_number oracle table ≤ next_number oracle t) (sym is.3) (omega arith)),
    )
    by (Some job) e is = let made = is_made client clients oracle table is.0 new oracle' table' job others e is.2 sound in (
      subst (λ (cs : List Busy). Sound (state_of oracle' table' (actors_of cs ++ others))) (sym (is.2).left) (keeps_all_sound clients client job (is.2).after is.0 oracle oracle' table table' e (is.2).sound others sound),
      numbers_rise made.moved.moves (next_number oracle table) (row_at table) job.actor (next_number oracle' table') (row_at table') (is.2).after.actor made.moved.makes,
    )

pub numbers_never_fall : (told : List Told) (client : ℕ) (clients : List Busy) (oracle : Option Block) (table : Table) (new : List Busy) (oracle' : Option Block) (table' : Table) (others : List Actor) → AreSteps told client clients oracle table new oracle' table' →
    Sound (state_of oracle table (actors_of clients ++ others)) → next_number oracle table ≤ next_number oracle' table'
numbers_never_fall [] client clients oracle table new oracle' table' others steps sound = subst (λ o. next_number oracle table ≤ next_number o table') (sym steps.1) (subst (λ t. next_number oracle table ≤ next_number oracle t) (sym steps.2) (omega arith))
numbers_never_fall (told ∷ more) client clients oracle table new oracle' table' others steps sound =
    let first = sound_then told client clients oracle table steps.0 steps.1 steps.2 others steps.3 sound in
    let rest = numbers_never_fall more client steps.0 steps.1 steps.2 new oracle' table' others steps.4 first.0 in
    let here = first.1 in omega (arith, rest, here)

-- ---- the steps so far

-- the client's job goes on after so many steps, with this commit if it came
pub record Reach (state : State) (client : ℕ) (known : told.Job) (others : List Actor) (clients : List Busy) (oracle : Option Block) (table : Table) (commit : Option ℕ) (count : ℕ) : Type 0 where
  pub job : Job
  pub some : job_of clients client ≡ Some job
  pub sound : Sound (state_of oracle table (actors_of clients ++ others))
  pub now : State
  pub agrees : Agrees oracle table clients now
  pub has : now.jobs client ≡ Some (told.grown known commit count)
  pub commits : told.MayCommit state.queries known commit
  pub goes : (more : Option ℕ) (after : Option told.Job) → (commit ≡ None) ⊎ (more ≡ None) → SayTheSame (stepped now client (told.grown known commit count) more after 1) (stepped state client known (commit_then commit more) after (count + 1))
  pub triples : commit ≡ None → HasTriples (row_at table) state.triples
  pub queries : commit ≡ None → HasRegistered (row_at table) state.queries
  pub same : commit ≡ None → now.queries ≡ state.queries
  pub is : (commit ≡ None) ⊎ ((1 ≤ count) × (now ≡ stepped state client known commit (Some (told.grown known commit count)) count))

pub reach_first : (state : State) (client : ℕ) (known : told.Job) (others : List Actor) (clients : List Busy) (oracle : Option Block) (table : Table) (job : Job) → job_of clients client ≡ Some job → Sound (state_of oracle table (actors_of clients ++ others)) → Agrees oracle table clients state →
    state.jobs client ≡ Some known → Reach state client known others clients oracle table None 0
reach_first state client known others clients oracle table job some sound agrees has = record {
  job = job;
  some = some;
  sound = sound;
  now = state;
  agrees = agrees;
  has = has ∙ ap Some (sym (grown_none known));
  commits = tt;
  goes = λ more after either. same more after;
  triples = λ none. agrees.triples;
  queries = λ none. agrees.queries;
  same = λ none. refl;
  is = inl refl;
}
  where
    one : 0 + 1 ≡ 1
    one = omega arith

    same : (more : Option ℕ) (after : Option told.Job) → SayTheSame (stepped state client (told.grown known None 0) more after 1) (stepped state client known (commit_then None more) after (0 + 1))
    same None after = subst (λ n. SayTheSame (stepped state client (told.grown known None 0) None after 1) (stepped state client known None after n)) (sym one) (record { triples = refl; queries = refl; jobs = λ other. refl; last = refl; backlog = refl })
    same (Some more) after = subst (λ n. SayTheSame (stepped state client (told.grown known None 0) (Some more) after 1) (stepped state client known (Some more) after n)) (sym one) (record { triples = refl; queries = refl; jobs = λ other. refl; last = refl; backlog = refl })

-- at most one of two commits comes
pub once : (queries : List Registration) (known : told.Job) (commit more : Option ℕ) (count : ℕ) → told.MayCommit queries (told.grown known commit count) more → (commit ≡ None) ⊎ (more ≡ None)
once queries known None more count may = inl refl
once queries known (Some commit) None count may = inr refl
once queries known (Some commit) (Some more) count may = absurd (let clash : true ≡ false = sym (or_true known.is_committed) ∙ may.0 in cc)
  where
    or_true : (b : Bool) → (b || true) ≡ true
    or_true true = refl
    or_true false = refl

pub none_of : (commit : Option ℕ) → is_some commit ≡ false → commit ≡ None
none_of None e = refl
none_of (Some c) e = absurd cc

pub commits_then : (queries now : List Registration) (known : told.Job) (commit more : Option ℕ) (count : ℕ) → (commit ≡ None → now ≡ queries) → told.MayCommit queries known commit → told.MayCommit now (told.grown known commit count) more → told.MayCommit queries known (commit_then commit more)
commits_then queries now known commit None count same may next = may
commits_then queries now known commit (Some more) count same may next =
    let parts = or_parts known.is_committed (is_some commit) next.0 in
    (parts.0, next.1, ap (λ qs. told.is_name_held qs known.content) (sym (same (none_of commit parts.1))) ∙ next.2)

-- what is known of the job is what was reached
pub reached : (state : State) (client : ℕ) (known : told.Job) (others : List Actor) (clients : List Busy) (oracle : Option Block) (table : Table) (commit : Option ℕ) (count : ℕ) (reach : Reach state client known others clients oracle table commit count) (found : told.Job) →
    (reach.now).jobs client ≡ Some found → found ≡ told.grown known commit count
reached state client known others clients oracle table commit count reach found has = some_same found (told.grown known commit count) (sym has ∙ reach.has)
  where
    some_same : (a b : told.Job) → Some a ≡ Some b → a ≡ b
    some_same a b e = cc

-- one more that goes on
pub reach_more : (state : State) (client : ℕ) (known : told.Job) (others : List Actor) (clients : List Busy) (oracle : Option Block) (table : Table) (commit : Option ℕ) (count : ℕ) (reach : Reach state client known others clients oracle table commit count) (event : JobEvent) (new : List Busy) (oracle' : Option Block) (table' : Table) →
    IsJobStep reach.job client clients oracle table event new oracle' table' → is_end event ≡ false → next_number oracle' table' ≤ 2 ^ 48 → Reach state client known others new oracle' table' (commit_then commit (commit_told event)) (count + 1)
reach_more state client known others clients oracle table commit count reach event new oracle' table' step going last = record {
  job = step.after;
  some = ap (λ cs. job_of cs client) (step.left ∙ ap (λ b. if b then without_job clients client else with_client clients client step.after) going) ∙ with_own clients client reach.job step.after reach.some;
  sound = subst (λ (cs : List Busy). Sound (state_of oracle' table' (actors_of cs ++ others))) (sym step.left) (keeps_all_sound clients client reach.job step.after event oracle oracle' table table' reach.some step.sound others reach.sound);
  now = stepped state client known (commit_then commit (commit_told event)) (Some (told.grown known (commit_then commit (commit_told event)) (count + 1))) (count + 1);
  agrees = agrees;
  has = ap (λ b. if b then Some (told.grown known (commit_then commit (commit_told event)) (count + 1)) else all_beside (joined_by state known (commit_then commit (commit_told event))) (names_joined known (commit_then commit (commit_told event))) state.jobs client) (eq-eqb client client refl);
  commits = commits_then state.queries (reach.now).queries known commit (commit_told event) count reach.same reach.commits may;
  goes = λ more after one. stepped_then state client known (commit_then commit (commit_told event)) more (Some (told.grown known (commit_then commit (commit_told event)) (count + 1))) after (count + 1) one;
  triples = λ none. subst (HasTriples (row_at table')) (ap (λ c. state.triples ++ joined_by state known c) none ∙ append_nil state.triples) agrees.triples;
  queries = λ none. subst (HasRegistered (row_at table')) (ap (queries_after state.queries known) none) agrees.queries;
  same = λ none. ap (queries_after state.queries known) none;
  is = inr (omega arith, refl);
}
  where
    found : (k : told.Job) × StepsKnown client clients oracle table event new oracle' table' reach.now k
    found = step_agrees client clients oracle table event new oracle' table' reach.job others reach.now reach.some step reach.sound last reach.agrees

    same : found.0 ≡ told.grown known commit count
    same = reached state client known others clients oracle table commit count reach found.0 (found.1).has

    may : told.MayCommit (reach.now).queries (told.grown known commit count) (commit_told event)
    may = subst (λ k. told.MayCommit (reach.now).queries k (commit_told event)) same (found.1).commits

    one : (commit ≡ None) ⊎ (commit_told event ≡ None)
    one = once (reach.now).queries known commit (commit_told event) count may

    here : Agrees oracle' table' new (stepped reach.now client (told.grown known commit count) (commit_told event) (Some (told.grown known (commit_then commit (commit_told event)) (count + 1))) 1)
    here = subst (λ a. Agrees oracle' table' new (stepped reach.now client (told.grown known commit count) (commit_told event) a 1))
        (ap (λ b. if b then None else Some (told.grown (told.grown known commit count) (commit_told event) 1)) going ∙ ap Some (grown_then known commit (commit_told event) count one))
        (subst (λ k. Agrees oracle' table' new (stepped reach.now client k (commit_told event) (known_after k event) 1)) same (found.1).agrees)

    agrees : Agrees oracle' table' new (stepped state client known (commit_then commit (commit_told event)) (Some (told.grown known (commit_then commit (commit_told event)) (count + 1))) (count + 1))
    agrees = agrees_as oracle' table' new _ _ (reach.goes (commit_told event) (Some (told.grown known (commit_then commit (commit_told event)) (count + 1))) one) here

-- ---- up to the last

-- all but the last go on
abbrev pub but_last : List Told → Bool
but_last [] = true
but_last (told ∷ []) = true
but_last (told ∷ next ∷ more) = goes_on told && but_last (next ∷ more)

pub record AtLast (state : State) (client : ℕ) (known : told.Job) (others : List Actor) (events : List Told) (before : Stepped) (count : ℕ) (new : List Busy) (oracle' : Option Block) (table' : Table) : Type 0 where
  pub last : Told
  pub came : Stepped
  pub is : stepped_from before events ≡ with_told came last
  pub commit : Option ℕ
  pub made : ℕ
  pub commit_is : came.commit ≡ commit
  pub count_is : came.count ≡ made
  pub end_is : came.end ≡ all.AllMade
  pub clients : List Busy
  pub oracle : Option Block
  pub table : Table
  pub reach : Reach state client known others clients oracle table commit made
  pub step : IsStepOf last client clients oracle table new oracle' table'
  pub len : count + length events ≡ made + 1
  pub memory : all_had_memory events ≡ had_memory last
  pub going : goes_on last ≡ true → all_go_on events ≡ true

and_true : (b : Bool) → (b && true) ≡ b
and_true true = refl
and_true false = refl

not_end : (b : Bool) → not b ≡ true → b ≡ false
not_end true e = absurd cc
not_end false e = refl

pub at_last : (first : Told) (rest : List Told) (state : State) (client : ℕ) (known : told.Job) (others : List Actor) (before : Stepped) (commit : Option ℕ) (count : ℕ) (clients : List Busy) (oracle : Option Block) (table : Table) (new : List Busy) (oracle' : Option Block) (table' : Table) →
    Reach state client known others clients oracle table commit count → before.commit ≡ commit → before.count ≡ count → before.end ≡ all.AllMade → AreSteps (first ∷ rest) client clients oracle table new oracle' table' → but_last (first ∷ rest) ≡ true → next_number oracle' table' ≤ 2 ^ 48 →
    AtLast state client known others (first ∷ rest) before count new oracle' table'
at_last first [] state client known others before commit count clients oracle table new oracle' table' reach commit_is count_is end_is steps but last = record {
  last = first;
  came = before;
  is = refl;
  commit = commit;
  made = count;
  commit_is = commit_is;
  count_is = count_is;
  end_is = end_is;
  clients = clients;
  oracle = oracle;
  table = table;
  reach = reach;
  step = subst (λ (cs : List Busy). IsStepOf first client clients oracle table cs oracle' table') (sym (steps.4).0) (subst (λ o. IsStepOf first client clients oracle table steps.0 o table') (sym (steps.4).1) (subst (λ t. IsStepOf first client clients oracle table steps.0 steps.1 t) (sym (steps.4).2) steps.3));
  len = refl;
  memory = and_true (had_memory first);
  going = λ goes. ap (λ b. b && true) goes;
}
at_last (Err error) (next ∷ rest) state client known others before commit count clients oracle table new oracle' table' reach commit_is count_is end_is steps but last = absurd cc
at_last (Ok None) (next ∷ rest) state client known others before commit count clients oracle table new oracle' table' reach commit_is count_is end_is steps but last = absurd cc
at_last (Ok (Some event)) (next ∷ rest) state client known others before commit count clients oracle table new oracle' table' reach commit_is count_is end_is steps but last =
    more (at_last next rest state client known others (with_told before (Ok (Some event))) (commit_then commit (commit_told event)) (count + 1) steps.0 steps.1 steps.2 new oracle' table' reached_more
    (commit_then_is event) (count_then_is event ∙ ap suc count_is ∙ (let e : suc count ≡ count + 1 = omega arith in e)) (end_then_is event (is_going)) steps.4 (and_parts (goes_on (Ok (Some event))) (but_last (next ∷ rest)) but).1 last)
  where
    is_going : is_end event ≡ false
    is_going = not_end (is_end event) (and_parts (not (is_end event)) (but_last (next ∷ rest)) but).0

    made : (e : JobEvent) × (Some event ≡ Some e) × IsJobStep reach.job client clients oracle table e steps.0 steps.1 steps.2
    made = made_by (Some event) client clients oracle table steps.0 steps.1 steps.2 reach.job reach.some steps.3

    its : IsJobStep reach.job client clients oracle table event steps.0 steps.1 steps.2
    its = let same : made.0 ≡ event = (let e = made.1 in cc) in subst (λ e. IsJobStep reach.job client clients oracle table e steps.0 steps.1 steps.2) same made.2

    after : Sound (state_of steps.1 steps.2 (actors_of steps.0 ++ others)) × (next_number oracle table ≤ next_number steps.1 steps.2)
    after = sound_then (Ok (Some event)) client clients oracle table steps.0 steps.1 steps.2 others steps.3 reach.sound

    reached_more : Reach state client known others steps.0 steps.1 steps.2 (commit_then commit (commit_told event)) (count + 1)
    reached_more = reach_more state client known others clients oracle table commit count reach event steps.0 steps.1 steps.2 its is_going
        (let rise = numbers_never_fall (next ∷ rest) client steps.0 steps.1 steps.2 new oracle' table' others steps.4 after.0 in omega (arith, rise, last))

    commit_then_is : (e : JobEvent) → (with_told before (Ok (Some e))).commit ≡ commit_then commit (commit_told e)
    commit_then_is does.Worked = commit_is
    commit_then_is (does.Committed c) = refl
    commit_then_is does.Done = commit_is
    commit_then_is does.Aborted = commit_is
    commit_then_is does.Taken = commit_is

    count_then_is : (e : JobEvent) → (with_told before (Ok (Some e))).count ≡ suc before.count
    count_then_is does.Worked = refl
    count_then_is (does.Committed c) = refl
    count_then_is does.Done = refl
    count_then_is does.Aborted = refl
    count_then_is does.Taken = refl

    end_then_is : (e : JobEvent) → is_end e ≡ false → (with_told before (Ok (Some e))).end ≡ all.AllMade
    end_then_is does.Worked going = end_is
    end_then_is (does.Committed c) going = end_is
    end_then_is does.Done going = absurd cc
    end_then_is does.Aborted going = absurd cc
    end_then_is does.Taken going = absurd cc

    more : AtLast state client known others (next ∷ rest) (with_told before (Ok (Some event))) (count + 1) new oracle' table' → AtLast state client known others (Ok (Some event) ∷ next ∷ rest) before count new oracle' table'
    more at = record {
      last = at.last;
      came = at.came;
      is = at.is;
      commit = at.commit;
      made = at.made;
      commit_is = at.commit_is;
      count_is = at.count_is;
      end_is = at.end_is;
      clients = at.clients;
      oracle = at.oracle;
      table = at.table;
      reach = at.reach;
      step = at.step;
      len = (let e = at.len in omega (arith, e));
      memory = at.memory;
      going = λ goes. ap (λ b. b && all_go_on (next ∷ rest)) (and_parts (goes_on (Ok (Some event))) (but_last (next ∷ rest)) but).0 ∙ at.going goes;
    }
