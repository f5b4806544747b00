-- How the steps of a command are answered, by the last of them.
use Rattle.std.proofs.Common.{◌≡◌, ◌≢◌, ◌⊎◌, inl, inr, ◌≤◌, ◌+◌, ◌-◌, ◌^◌, ℕ, suc, Bool, true, false, not, ◌||◌, ◌&&◌, is_some, List, [], ◌∷◌, ◌++◌, length, slice_get, Option, Some, None, Ok, Err, refl, ap, sym, subst, ◌∙◌, arith}
use Rattle.std.proofs.lemmas.Bool.{and_parts, or_cases}
use Rattle.std.proofs.lemmas.List.Elements.{Contains-append_left}
use Rattle.pcj_table.specs.declared.write.Write.{Write}
use Rattle.pcj_table.specs.Table.{Table, row_at}
use Rattle.pcj_oracle.specs.Clock.{next_number}
use Rattle.pcj_oracle.specs.Draw.{Keeps}
use Rattle.pcj_oracle.specs.declared.block.Block.{Block}
use Rattle.pcj_moves.specs.Actors.{Actor, IsSound}
use Rattle.pcj_moves.specs.Traces.{traces}
use Rattle.pcj_moves.specs.Transactions.{Transaction}
use Rattle.pcj_moves.proofs.ActorLemmas.{each_contains, each_sound}
use Rattle.pcj_moves.proofs.WriteLemmas.{undrawn_is_undone}
use Rattle.pcj_txn.specs.declared.error.TxnError.TheVariants as txn_error
use Rattle.pcj_txn.specs.Progress.{Draw, due_commit, due_last, due_of}
use Rattle.pcj_actor.specs.StepLaws.{state_of}
use Rattle.pcj_fit.specs.Sound.{Sound}
use Rattle.pcj_rows.specs.Triples.{HasTriples}
use Rattle.pcj_pending.specs.Pending.{IsQuiet, locks_of, notifications_of}
use Rattle.pcj_client.specs.Job.{Job}
use Rattle.pcj_client.specs.Events.{IsDrawing}
use Rattle.pcj_client.specs.declared.event.JobEvent.{JobEvent}
use Rattle.pcj_client.specs.declared.event.JobEvent.TheVariants as does
use Rattle.pcj_clients.specs.Clients.{actors_of, is_end, job_of}
use Rattle.pcj_clients.specs.Laws.{DrawsNext, IsJobStep}
use Rattle.pcj_clients.specs.Steps.{AreSteps, AreStepsOf, GoOnUpTo, IsStepOf, Told, all_go_on, all_had_memory, goes_on, had_memory, no_steps, stepped_from, with_told}
use Rattle.pcj_clients.specs.declared.busy.Busy.{Busy}
use Rattle.pcj_clients.specs.declared.stepped.Stepped.{Stepped}
use Rattle.pcj_clients.specs.declared.stepped.StepsEnd.TheVariants as all
use Rattle.pcj_model.specs.Job as told
use Rattle.pcj_model.specs.Queries.{Registration}
use Rattle.pcj_model.specs.State.{State, stepped}
use Rattle.pcj_jobs.specs.Agrees.{Agrees, EndsAs, HasRegistered, commit_told, known_after}
use Rattle.pcj_jobs.specs.Known.{AreKnown}
use Rattle.pcj_jobs.specs.Laws.{IsEndOf, ShortAgrees, ShortKnown, SpentAgrees, SpentKnown, StepsAgree, StepsAnswer, StepsKnown}
use Rattle.pcj_jobs.proofs.AgreeLemmas.{HasKnown, its_known}
use Rattle.pcj_jobs.proofs.BesideLemmas.{or_parts}
use Rattle.pcj_jobs.proofs.ClientLemmas.{its_actor}
use Rattle.pcj_jobs.proofs.ComposeLemmas.{agrees_as, commit_then, grown_then}
use Rattle.pcj_jobs.proofs.JobLemmas.{IsWriting, is_writing}
use Rattle.pcj_jobs.proofs.LawLemmas.{fault_agrees, step_agrees}
use Rattle.pcj_jobs.proofs.ReachLemmas.{AtLast, Reach, at_last, but_last, commits_then, made_by, none_of, once, reach_first, reached}

-- ---- all but the last go on

all_but_last : (events : List Told) → all_go_on events ≡ true → but_last events ≡ true
all_but_last [] all = refl
all_but_last (told ∷ []) all = refl
all_but_last (told ∷ next ∷ more) all = let parts = and_parts (goes_on told) (all_go_on (next ∷ more)) all in ap (λ b. b && but_last (next ∷ more)) parts.0 ∙ all_but_last (next ∷ more) parts.1

front_but_last : (front : List Told) (last : Told) → all_go_on front ≡ true → but_last (front ++ last ∷ []) ≡ true
front_but_last [] last all = refl
front_but_last (told ∷ []) last all = ap (λ b. b && true) (and_parts (goes_on told) true all).0
front_but_last (told ∷ next ∷ more) last all = let parts = and_parts (goes_on told) (all_go_on (next ∷ more)) all in ap (λ b. b && but_last (next ∷ more ++ last ∷ [])) parts.0 ∙ front_but_last (next ∷ more) last parts.1

go_but_last : (going : Bool) (events : List Told) → GoOnUpTo going events → but_last events ≡ true
go_but_last true events go = all_but_last events go
go_but_last false events go = let (front, last, is, all_on, ends) = go in ap but_last is ∙ front_but_last front last all_on

last_goes : (front : List Told) (last : Told) → all_go_on (front ++ last ∷ []) ≡ true → goes_on last ≡ true
last_goes [] last all = (and_parts (goes_on last) true all).0
last_goes (told ∷ front) last all = last_goes front last (and_parts (goes_on told) (all_go_on (front ++ last ∷ [])) all).1

is_going : (going : Bool) (events : List Told) → GoOnUpTo going events → all_go_on events ≡ true → going ≡ true
is_going true events go all = refl
is_going false events go all = let (front, last, is, all_on, ends) = go in absurd (let clash : true ≡ false = sym (last_goes front last (ap all_go_on (sym is) ∙ all)) ∙ ends in cc)

-- ---- an answer

answer_of : (client most : ℕ) (new : List Busy) (oracle' : Option Block) (table' : Table) (state : State) (came : Stepped) (known : told.Job) (commit : Option ℕ) (count : ℕ) (end : told.StepsEnd) (after : Option told.Job) → state.jobs client ≡ Some known →
    came.commit ≡ commit → came.count ≡ count → IsEndOf came.end end → told.MayCommit state.queries known commit → told.MayEnd state.queries known commit end → 1 ≤ count → told.IsCount most count end → after ≡ told.job_after known commit end count →
    Agrees oracle' table' new (stepped state client known commit after count) → StepsAnswer client most new oracle' table' state came
answer_of client most new oracle' table' state came known commit count end after has commit_is count_is ends_as commits ends some counted left agrees = record {
  known = known;
  has = has;
  end = end;
  ends_as = ends_as;
  after = after;
  reply = record {
    count = came.count;
    end = end;
    commits = subst (told.MayCommit state.queries known) (sym commit_is) commits;
    ends = subst (λ c. told.MayEnd state.queries known c end) (sym commit_is) ends;
    tried = omega (arith, some, count_is);
    counted = subst (λ n. told.IsCount most n end) (sym count_is) counted;
    told = refl;
    left = left ∙ ap (λ c. told.job_after known c end count) (sym commit_is) ∙ ap (told.job_after known came.commit end) (sym count_is);
  };
  count = refl;
  agrees = subst (λ c. Agrees oracle' table' new (stepped state client known c after came.count)) (sym commit_is) (subst (λ n. Agrees oracle' table' new (stepped state client known commit after n)) (sym count_is) agrees);
}

-- ---- the last step is one of the job

commit_is_then : (came : Stepped) (commit : Option ℕ) (event : JobEvent) → came.commit ≡ commit → (with_told came (Ok (Some event))).commit ≡ commit_then commit (commit_told event)
commit_is_then came commit does.Worked is = is
commit_is_then came commit (does.Committed c) is = refl
commit_is_then came commit does.Done is = is
commit_is_then came commit does.Aborted is = is
commit_is_then came commit does.Taken is = is

count_is_then : (came : Stepped) (event : JobEvent) → (with_told came (Ok (Some event))).count ≡ suc came.count
count_is_then came does.Worked = refl
count_is_then came (does.Committed c) = refl
count_is_then came does.Done = refl
count_is_then came does.Aborted = refl
count_is_then came does.Taken = refl

end_is_of : (came : Stepped) (event : JobEvent) (end : told.StepsEnd) → came.end ≡ all.AllMade → EndsAs event end → IsEndOf (with_told came (Ok (Some event))).end end
end_is_of came does.Worked end made ends = subst (λ e. IsEndOf e end) (sym made) ends
end_is_of came (does.Committed c) end made ends = subst (λ e. IsEndOf e end) (sym made) ends
end_is_of came does.Done end made ends = ends
end_is_of came does.Aborted end made ends = ends
end_is_of came does.Taken end made ends = ends

left_is : (known : told.Job) (commit : Option ℕ) (made : ℕ) (event : JobEvent) (end : told.StepsEnd) → (commit ≡ None) ⊎ (commit_told event ≡ None) → EndsAs event end →
    known_after (told.grown known commit made) event ≡ told.job_after known (commit_then commit (commit_told event)) end (made + 1)
left_is known commit made does.Worked end one ends = subst (λ e. Some (told.grown (told.grown known commit made) None 1) ≡ told.job_after known commit e (made + 1)) (sym ends) (ap Some (grown_then known commit None made one))
left_is known commit made (does.Committed c) end one ends = subst (λ e. Some (told.grown (told.grown known commit made) (Some c) 1) ≡ told.job_after known (Some c) e (made + 1)) (sym ends) (ap Some (grown_then known commit (Some c) made one))
left_is known commit made does.Done end one ends = subst (λ e. None ≡ told.job_after known commit e (made + 1)) (sym ends) refl
left_is known commit made does.Aborted end one ends = subst (λ e. None ≡ told.job_after known commit e (made + 1)) (sym ends) refl
left_is known commit made does.Taken end one ends = subst (λ e. None ≡ told.job_after known commit e (made + 1)) (sym ends) refl

counted_as : (most count : ℕ) (event : JobEvent) (end : told.StepsEnd) → EndsAs event end → (is_end event ≡ false → count ≡ most) → count ≤ most → told.IsCount most count end
counted_as most count does.Worked end ends goes within = subst (told.IsCount most count) (sym ends) (goes refl)
counted_as most count (does.Committed c) end ends goes within = subst (told.IsCount most count) (sym ends) (goes refl)
counted_as most count does.Done end ends goes within = subst (told.IsCount most count) (sym ends) within
counted_as most count does.Aborted end ends goes within = subst (told.IsCount most count) (sym ends) within
counted_as most count does.Taken end ends goes within = subst (told.IsCount most count) (sym ends) within

some_then : (commit more : Option ℕ) → (is_some commit ≡ true) ⊎ (is_some more ≡ true) → is_some (commit_then commit more) ≡ true
some_then commit None (inl some) = some
some_then commit None (inr some) = absurd cc
some_then commit (Some more) either = refl

ends_then : (queries now : List Registration) (known : told.Job) (commit more : Option ℕ) (made : ℕ) (end : told.StepsEnd) → (commit ≡ None → now ≡ queries) → told.MayEnd now (told.grown known commit made) more end → told.MayEnd queries known (commit_then commit more) end
ends_then queries now known commit more made told.StepsEnd.AllMade same ends = tt
ends_then queries now known commit more made told.StepsEnd.IsDone same ends = by ends
  where
    by : ((known.is_committed || is_some commit) ≡ true) ⊎ (is_some more ≡ true) → (known.is_committed ≡ true) ⊎ (is_some (commit_then commit more) ≡ true)
    by (inl some) = elim (or_cases known.is_committed (is_some commit) some) [ inl first ↦ inl first | inr second ↦ inr (some_then commit more (inl second)) ]
    by (inr some) = inr (some_then commit more (inr some))
ends_then queries now known commit more made told.StepsEnd.IsAborted same ends =
    let parts = or_parts known.is_committed (is_some commit) ends.0 in (parts.0, ap (λ m. commit_then commit m) ends.1 ∙ none_of commit parts.1, ends.2)
ends_then queries now known commit more made told.StepsEnd.IsTaken same ends =
    let parts = or_parts known.is_committed (is_some commit) ends.0 in
    let none = none_of commit parts.1 in (parts.0, ap (λ m. commit_then commit m) ends.1 ∙ none, ap (λ qs. told.is_name_held qs known.content) (sym (same none)) ∙ ends.2)
ends_then queries now known commit more made told.StepsEnd.Fails same ends = tt

-- ---- a step that fails

pub failed_agrees : (state : State) (client : ℕ) (known : told.Job) (others : List Actor) (clients : List Busy) (oracle : Option Block) (table : Table) (commit : Option ℕ) (made : ℕ) (reach : Reach state client known others clients oracle table commit made) (new : List Busy) (oracle' : Option Block) (table' : Table) →
    new ≡ clients → Keeps oracle table oracle' table' → Agrees oracle' table' new (stepped state client known commit (Some (told.grown known commit made)) (made + 1))
failed_agrees state client known others clients oracle table commit made reach new oracle' table' same kept =
    agrees_as oracle' table' new _ _ (reach.goes None (Some (told.grown known commit made)) (inr refl))
    (subst (λ (cs : List Busy). Agrees oracle' table' cs (stepped reach.now client (told.grown known commit made) None (Some (told.grown known commit made)) 1)) (sym same)
    (subst (λ k. Agrees oracle' table' clients (stepped reach.now client k None (Some k) 1)) (reached state client known others clients oracle table commit made reach failed.0 failed.1) failed.2))
  where
    failed : (k : told.Job) × (reach.now.jobs client ≡ Some k) × Agrees oracle' table' clients (stepped reach.now client k None (Some k) 1)
    failed = fault_agrees client clients oracle table oracle' table' reach.job others reach.now reach.some kept reach.sound reach.agrees

-- ---- the answer, by the last step

finish : (client most : ℕ) (new : List Busy) (oracle' : Option Block) (table' : Table) (state : State) (known : told.Job) (others : List Actor) (events : List Told) → state.jobs client ≡ Some known → (at : AtLast state client known others events no_steps 0 new oracle' table') →
    length events ≤ most → (all_go_on events ≡ true → length events ≡ most) → all_had_memory events ≡ true → (stepped_from no_steps events).end ≢ all.Spent → next_number oracle' table' ≤ 2 ^ 48 → StepsAnswer client most new oracle' table' state (stepped_from no_steps events)
finish client most new oracle' table' state known others events has at within whole memory unspent last = subst (StepsAnswer client most new oracle' table' state) (sym at.is) (by at.last at.step (sym at.memory ∙ memory) at.going (λ e. unspent (ap (λ (s : Stepped). s.end) at.is ∙ e)))
  where
    len : length events ≡ at.made + 1
    len = let e = at.len in omega (arith, e)

    by : (told_last : Told) → IsStepOf told_last client at.clients at.oracle at.table new oracle' table' → had_memory told_last ≡ true → (goes_on told_last ≡ true → all_go_on events ≡ true) → ((with_told at.came told_last).end ≢ all.Spent) →
        StepsAnswer client most new oracle' table' state (with_told at.came told_last)
    by (Ok None) step had going unspent = absurd (let made = made_by None client at.clients at.oracle at.table new oracle' table' (at.reach).job (at.reach).some step in let clash = made.1 in cc)
    by (Ok (Some event)) step had going unspent =
        answer_of client most new oracle' table' state (with_told at.came (Ok (Some event))) known (commit_then at.commit (commit_told event)) (at.made + 1) (found.1).end (known_after (told.grown known at.commit at.made) event) has
        (commit_is_then at.came at.commit event at.commit_is) (count_is_then at.came event ∙ ap suc at.count_is ∙ (let e : suc at.made ≡ at.made + 1 = omega arith in e)) (end_is_of at.came event (found.1).end at.end_is (found.1).ends_as)
        (commits_then state.queries (at.reach).now.queries known at.commit (commit_told event) at.made (at.reach).same (at.reach).commits may)
        (ends_then state.queries (at.reach).now.queries known at.commit (commit_told event) at.made (found.1).end (at.reach).same (subst (λ k. told.MayEnd (at.reach).now.queries k (commit_told event) (found.1).end) same (found.1).ends)) (omega arith)
        (counted_as most (at.made + 1) event (found.1).end (found.1).ends_as (λ on. sym len ∙ whole (going (ap not on))) (omega (arith, within, len)))
        (left_is known at.commit at.made event (found.1).end one (found.1).ends_as)
        (agrees_as oracle' table' new _ _ ((at.reach).goes (commit_told event) (known_after (told.grown known at.commit at.made) event) one)
        (subst (λ k. Agrees oracle' table' new (stepped (at.reach).now client k (commit_told event) (known_after k event) 1)) same (found.1).agrees))
      where
        made : (e : JobEvent) × (Some event ≡ Some e) × IsJobStep (at.reach).job client at.clients at.oracle at.table e new oracle' table'
        made = made_by (Some event) client at.clients at.oracle at.table new oracle' table' (at.reach).job (at.reach).some step

        its : IsJobStep (at.reach).job client at.clients at.oracle at.table event new oracle' table'
        its = let is : made.0 ≡ event = (let e = made.1 in cc) in subst (λ e. IsJobStep (at.reach).job client at.clients at.oracle at.table e new oracle' table') is made.2

        found : (k : told.Job) × StepsKnown client at.clients at.oracle at.table event new oracle' table' (at.reach).now k
        found = step_agrees client at.clients at.oracle at.table event new oracle' table' (at.reach).job others (at.reach).now (at.reach).some its (at.reach).sound last (at.reach).agrees

        same : found.0 ≡ told.grown known at.commit at.made
        same = reached state client known others at.clients at.oracle at.table at.commit at.made at.reach found.0 (found.1).has

        may : told.MayCommit (at.reach).now.queries (told.grown known at.commit at.made) (commit_told event)
        may = subst (λ k. told.MayCommit (at.reach).now.queries k (commit_told event)) same (found.1).commits

        one : (at.commit ≡ None) ⊎ (commit_told event ≡ None)
        one = once (at.reach).now.queries known at.commit (commit_told event) at.made may
    by (Err txn_error.Failed) step had going unspent =
        answer_of client most new oracle' table' state (with_told at.came (Err txn_error.Failed)) known at.commit (at.made + 1) told.StepsEnd.Fails (Some (told.grown known at.commit at.made)) has
        at.commit_is (ap suc at.count_is ∙ (let e : suc at.made ≡ at.made + 1 = omega arith in e)) refl (at.reach).commits tt (omega arith) (omega (arith, within, len))
        (ap (λ n. Some (told.grown known at.commit n)) (let e : at.made ≡ (at.made + 1) - 1 = omega arith in e))
        (failed_agrees state client known others at.clients at.oracle at.table at.commit at.made at.reach new oracle' table' step.0 step.1)
    by (Err txn_error.Spent) step had going unspent = absurd (unspent refl)
    by (Err txn_error.Memory) step had going unspent = absurd cc

not_empty : (events : List Told) (most : ℕ) (going : Bool) → GoOnUpTo going events → (going ≡ true → length events ≡ most) → 1 ≤ most → (first : Told) × (rest : List Told) × (events ≡ first ∷ rest)
not_empty (first ∷ rest) most going go whole some = (first, rest, refl)
not_empty [] most true go whole some = absurd (let e = whole refl in omega (arith, e, some))
not_empty [] most false go whole some = let (front, last, is, all_on, ends) = go in absurd (none front last is)
  where
    none : (front : List Told) (last : Told) → [] ≡ front ++ last ∷ [] → ⊥
    none [] last is = cc
    none (told ∷ front) last is = cc

begun : (client most : ℕ) (old : List Busy) (oracle : Option Block) (table : Table) (events : List Told) (new : List Busy) (oracle' : Option Block) (table' : Table) (job : Job) (others : List Actor) (state : State) (found : HasKnown (row_at table) job (state.jobs client)) → job_of old client ≡ Some job → 1 ≤ most →
    AreStepsOf client most old oracle table events new oracle' table' → Sound (state_of oracle table (actors_of old ++ others)) → next_number oracle' table' ≤ 2 ^ 48 → Agrees oracle table old state →
    AtLast state client found.known others events no_steps 0 new oracle' table'
begun client most old oracle table events new oracle' table' job others state found some asked are sound last agrees =
    let (first, rest, is) = not_empty events most are.going are.go_on are.all asked in
    subst (λ es. AtLast state client found.known others es no_steps 0 new oracle' table') (sym is)
    (at_last first rest state client found.known others no_steps None 0 old oracle table new oracle' table' (reach_first state client found.known others old oracle table job some sound agrees found.has) refl refl refl
    (subst (λ es. AreSteps es client old oracle table new oracle' table') is are.steps) (ap but_last (sym is) ∙ go_but_last are.going events are.go_on) last)

pub steps_agree : StepsAgree
steps_agree client most old oracle table events new oracle' table' job others state some asked are unspent sound last agrees =
    let found = its_known (row_at table) old state.jobs client job agrees.known some in
    finish client most new oracle' table' state found.known others events found.has (begun client most old oracle table events new oracle' table' job others state found some asked are sound last agrees)
    are.within (λ on. are.all (is_going are.going events are.go_on on)) are.memory unspent last

-- ---- no timestamp is left

draw_due : (writes : List Write) (prewritten : ℕ) (commit : Option ℕ) (committed : Bool) (settled : ℕ) → due_of writes prewritten commit committed settled ≡ Draw → commit ≡ None
draw_due writes prewritten None committed settled e = refl
draw_due writes prewritten (Some commit) false settled e = absurd (never (slice_get writes 0) e)
  where
    never : (found : Option Write) → due_commit found commit ≡ Draw → ⊥
    never None due = cc
    never (Some w) due = cc
draw_due writes prewritten (Some commit) true settled e = absurd (never (slice_get writes settled) e)
  where
    never : (found : Option Write) → due_last found commit ≡ Draw → ⊥
    never None due = cc
    never (Some w) due = cc

-- a job that is to draw its commit isn't committed
drawing_undone : (state : State) (client : ℕ) (known : told.Job) (others : List Actor) (clients : List Busy) (oracle : Option Block) (table : Table) (commit : Option ℕ) (made : ℕ) (reach : Reach state client known others clients oracle table commit made) → IsDrawing reach.job → (known.is_committed ≡ false) × (commit ≡ None)
drawing_undone state client known others clients oracle table commit made reach drawing = (parts.0, none_of commit parts.1)
  where
    found : HasKnown (row_at table) reach.job (reach.now.jobs client)
    found = its_known (row_at table) clients reach.now.jobs client reach.job reach.agrees.known reach.some

    come : IsWriting reach.job drawing.0
    come = is_writing reach.job drawing.0 found.is.is drawing.1

    sound : IsSound (row_at table) reach.job.actor
    sound = each_contains (IsSound (row_at table)) (actors_of clients ++ others) reach.job.actor (each_sound (row_at table) (actors_of clients ++ others) reach.sound.consistent.sound)
        (Contains-append_left (actors_of clients) others reach.job.actor (its_actor clients client reach.job reach.some))

    undone : reach.job.actor.transaction.committed ≡ false
    undone = undrawn_is_undone reach.job.actor.start reach.job.actor.transaction (traces reach.job.actor.start (row_at table)) sound.transacts
        (ap (λ (t : Transaction). t.commit) come.transaction ∙ draw_due drawing.0.transaction.writes drawing.0.transaction.prewritten drawing.0.transaction.commit drawing.0.transaction.committed drawing.0.settled drawing.2)

    parts : (known.is_committed ≡ false) × (is_some commit ≡ false)
    parts = or_parts known.is_committed (is_some commit) (ap (λ (k : told.Job). k.is_committed) (sym (reached state client known others clients oracle table commit made reach found.known found.has)) ∙ found.is.is_committed ∙ undone)

spent_last : (client : ℕ) (new : List Busy) (oracle' : Option Block) (table' : Table) (state : State) (known : told.Job) (others : List Actor) (events : List Told) → state.jobs client ≡ Some known → (at : AtLast state client known others events no_steps 0 new oracle' table') →
    (stepped_from no_steps events).end ≡ all.Spent → SpentKnown client new oracle' table' state (stepped_from no_steps events)
spent_last client new oracle' table' state known others events has at spent = subst (SpentKnown client new oracle' table' state) (sym at.is) (by at.last at.step (ap (λ (s : Stepped). s.end) (sym at.is) ∙ spent))
  where
    never : (event : JobEvent) → (with_told at.came (Ok (Some event))).end ≡ all.Spent → ⊥
    never does.Worked e = let clash : all.AllMade ≡ all.Spent = sym at.end_is ∙ e in cc
    never (does.Committed c) e = let clash : all.AllMade ≡ all.Spent = sym at.end_is ∙ e in cc
    never does.Done e = cc
    never does.Aborted e = cc
    never does.Taken e = cc

    by : (told_last : Told) → IsStepOf told_last client at.clients at.oracle at.table new oracle' table' → (with_told at.came told_last).end ≡ all.Spent → SpentKnown client new oracle' table' state (with_told at.came told_last)
    by (Ok None) step e = absurd cc
    by (Ok (Some event)) step e = absurd (never event e)
    by (Err txn_error.Failed) step e = absurd cc
    by (Err txn_error.Memory) step e = absurd (let clash : all.AllMade ≡ all.Spent = sym at.end_is ∙ e in cc)
    by (Err txn_error.Spent) step e = record {
      known = known;
      has = has;
      undone = facts.0;
      commit = at.commit_is ∙ facts.1;
      made = at.made;
      count = ap suc at.count_is ∙ (let e : suc at.made ≡ at.made + 1 = omega arith in e);
      agrees = subst (λ n. Agrees oracle' table' new (stepped state client known None (Some (told.grown known None at.made)) n)) (sym (ap suc at.count_is ∙ (let e : suc at.made ≡ at.made + 1 = omega arith in e)))
          (subst (λ c. Agrees oracle' table' new (stepped state client known c (Some (told.grown known c at.made)) (at.made + 1))) facts.1
          (failed_agrees state client known others at.clients at.oracle at.table at.commit at.made at.reach new oracle' table' step.0 step.1));
      triples = subst (λ t. HasTriples (row_at t) state.triples) (sym (step.1).same) ((at.reach).triples facts.1);
      queries = subst (λ t. HasRegistered (row_at t) state.queries) (sym (step.1).same) ((at.reach).queries facts.1);
    }
      where
        facts : (known.is_committed ≡ false) × (at.commit ≡ None)
        facts = drawing_undone state client known others at.clients at.oracle at.table at.commit at.made at.reach (subst DrawsNext (at.reach).some ((step.2 refl).1))

pub spent_agrees : SpentAgrees
spent_agrees client most old oracle table events new oracle' table' job others state some asked are spent sound last agrees =
    let found = its_known (row_at table) old state.jobs client job agrees.known some in
    spent_last client new oracle' table' state found.known others events found.has (begun client most old oracle table events new oracle' table' job others state found some asked are sound last agrees) spent

-- ---- there was no memory for the last

short_of : (front : List Told) → all_go_on front ≡ true → all_had_memory (front ++ Err txn_error.Memory ∷ []) ≡ false
short_of [] on = refl
short_of (Ok told ∷ front) on = short_of front (and_parts (goes_on (Ok told)) (all_go_on front) on).1
short_of (Err error ∷ front) on = absurd cc

agrees_kept : (oracle : Option Block) (table : Table) (clients : List Busy) (oracle' : Option Block) (table' : Table) (new : List Busy) (state : State) → new ≡ clients → Keeps oracle table oracle' table' → Agrees oracle table clients state → Agrees oracle' table' new state
agrees_kept oracle table clients oracle' table' new state same kept agrees = record {
  known = subst (λ (cs : List Busy). AreKnown (row_at table') cs state.jobs) (sym same) (subst (λ t. AreKnown (row_at t) clients state.jobs) (sym kept.same) agrees.known);
  triples = subst (λ t. HasTriples (row_at t) state.triples) (sym kept.same) agrees.triples;
  queries = subst (λ t. HasRegistered (row_at t) state.queries) (sym kept.same) agrees.queries;
  last = let less = agrees.last in let next = kept.next in omega (arith, less, next);
  locks = subst (λ t. locks_of t ≤ state.backlog.most_locks) (sym kept.same) agrees.locks;
  notifications = subst (λ t. notifications_of t ≤ state.backlog.most_locks + state.backlog.old_notifications) (sym kept.same) agrees.notifications;
  idle = λ is. ap notifications_of kept.same ∙ agrees.idle is;
  quiet = λ is. subst IsQuiet (sym kept.same) (agrees.quiet is);
}

short_last : (client most : ℕ) (new : List Busy) (oracle' : Option Block) (table' : Table) (state : State) (known : told.Job) (others : List Actor) (events : List Told) → state.jobs client ≡ Some known → (at : AtLast state client known others events no_steps 0 new oracle' table') →
    length events ≤ most → all_had_memory events ≡ false → ShortKnown client most new oracle' table' state
short_last client most new oracle' table' state known others events has at within short = by at.last at.step (sym at.memory ∙ short)
  where
    by : (told_last : Told) → IsStepOf told_last client at.clients at.oracle at.table new oracle' table' → had_memory told_last ≡ false → ShortKnown client most new oracle' table' state
    by (Ok told) step had = absurd cc
    by (Err txn_error.Failed) step had = absurd cc
    by (Err txn_error.Spent) step had = absurd cc
    by (Err txn_error.Memory) step had = record { known = known; has = has; commit = at.commit; count = at.made; commits = (at.reach).commits; left = left at.commit refl }
      where
        left : (commit : Option ℕ) → at.commit ≡ commit → (HasTriples (row_at table') state.triples × HasRegistered (row_at table') state.queries) ⊎ ((1 ≤ at.made) × (at.made ≤ most) × Agrees oracle' table' new (stepped state client known at.commit (Some (told.grown known at.commit at.made)) at.made))
        left None e = inl (subst (λ t. HasTriples (row_at t) state.triples) (sym (step.1).same) ((at.reach).triples e), subst (λ t. HasRegistered (row_at t) state.queries) (sym (step.1).same) ((at.reach).queries e))
        left (Some commit) e = elim (at.reach).is [
          | inl none ↦ absurd (let clash : Some commit ≡ None = sym e ∙ none in cc)
          | inr made ↦ inr (
            made.0,
            (let len = at.len in omega (arith, len, within)),
            subst (Agrees oracle' table' new) made.1 (agrees_kept at.oracle at.table at.clients oracle' table' new (at.reach).now step.0 step.1 (at.reach).agrees),
          )
        ]

pub short_agrees : ShortAgrees
short_agrees client most old oracle table events new oracle' table' job others state some are sound last agrees =
    short_last client most new oracle' table' state found.known others events found.has at are.within (ap all_had_memory are.is ∙ short_of are.front are.go_on)
  where
    found : HasKnown (row_at table) job (state.jobs client)
    found = its_known (row_at table) old state.jobs client job agrees.known some

    first_of_them : (front : List Told) → events ≡ front ++ Err txn_error.Memory ∷ [] → (first : Told) × (rest : List Told) × (events ≡ first ∷ rest)
    first_of_them [] is = (Err txn_error.Memory, [], is)
    first_of_them (told ∷ front) is = (told, front ++ Err txn_error.Memory ∷ [], is)

    parts : (first : Told) × (rest : List Told) × (events ≡ first ∷ rest)
    parts = first_of_them are.front are.is

    at : AtLast state client found.known others events no_steps 0 new oracle' table'
    at = subst (λ es. AtLast state client found.known others es no_steps 0 new oracle' table') (sym parts.2)
        (at_last parts.0 parts.1 state client found.known others no_steps None 0 old oracle table new oracle' table' (reach_first state client found.known others old oracle table job some sound agrees found.has) refl refl refl
        (subst (λ es. AreSteps es client old oracle table new oracle' table') parts.2 are.steps) (ap but_last (sym parts.2 ∙ are.is) ∙ front_but_last are.front (Err txn_error.Memory) are.go_on) last)
