-- What a reply changes of a state.
use Rattle.std.proofs.Common.{◌≡◌, ℕ, ◌^◌, ◌<◌, ◌≤◌, Bool, true, false, List, [], ◌∷◌, ◌++◌, Option, Some, None, refl, ap, sym, subst, ◌∙◌, inl, inr, length, arith}
use Rattle.std.specs.Prelude.{◌||◌, ◌⊎◌, option_map, ◌==◌, if◌then◌else◌}
use Rattle.std.specs.List.{list_any}
use Rattle.pcj_term.specs.declared.triple.Triple.{Triple}
use Rattle.pcj_algebra.specs.declared.query.Query.{Query}
use Rattle.pcj_script.specs.declared.command.Crashed.{Crashed}
use Rattle.pcj_script.specs.declared.command.Crashed.TheVariants as whose
use Rattle.pcj_script.specs.Commands.{Command}
use Rattle.pcj_script.specs.Commands.Command.{Load, Register, StepClient, Crash, Status as AsksStatus, Answers, Scan}
use Rattle.pcj_model.specs.Job.{Content, Job, MayCommit, IsTimestampAbove, StepsEnd, beside, job_after, new_job}
use Rattle.pcj_model.specs.Job.Content.{Load as Loads, Registration as Registers}
use Rattle.pcj_model.specs.Job.StepsEnd.{AllMade, IsDone, IsAborted, IsTaken, Fails}
use Rattle.pcj_model.specs.Line.{Line}
use Rattle.pcj_model.specs.Line.Event.{Loaded, Registered}
use Rattle.pcj_model.specs.Line.Line.{Client}
use Rattle.pcj_model.specs.Queries.{Registration}
use Rattle.pcj_model.specs.State.{State, last_after, all_beside, joined_by, names_joined, with_job}
use Rattle.pcj_model.specs.Reply.{Language, Reply, jobs_left}
use Rattle.pcj_model.specs.Run.{Run, all_lines}
use Rattle.pcj_model.specs.Laws.{TimestampsRise, NothingIsLeft, JoinsWhole, QueryJoins, opens_load, opens_registration}
use Rattle.pcj_model.proofs.JoinLaws.{loads_join_whole, queries_join}

-- ---- timestamps

abbrev Rises : ℕ → ℕ → Type 0
Rises old new = old < 2 ^ 48 → (old ≤ new) × (new < 2 ^ 48)

rises_not : (old : ℕ) → Rises old old
rises_not old h = (omega (arith), h)

rises_to : (old new : ℕ) → IsTimestampAbove old new → Rises old new
rises_to old new above h = (omega (arith, above.0), above.1)

rises_by_commit : (last : ℕ) (queries : List Registration) (job : Job) (commit : Option ℕ) → MayCommit queries job commit → Rises last (last_after last commit)
rises_by_commit last queries job None may h = (omega (arith), h)
rises_by_commit last queries job (Some commit) may h =
    let below : commit < 2 ^ 48 = may.1.1 in
    (omega (arith), omega (arith, h, below))

moved : (old : ℕ) (new : State) (state : State) → new ≡ state → Rises old state.last → Rises old new.last
moved old new state e rises = subst (λ (s : State). Rises old s.last) (sym e) rises

reply_rises : (language : Language) (old : State) (command : Command) (lines : List Line) (new : State) → Reply language old command lines new → Rises old.last new.last
reply_rises language old (Load client text) lines new (inl a) = moved old.last new _ a.same (rises_not old.last)
reply_rises language old (Load client text) lines new (inr (inl a)) = moved old.last new _ a.same (rises_not old.last)
reply_rises language old (Load client text) lines new (inr (inr (inl a))) = moved old.last new _ a.opened (rises_to old.last a.number a.drawn)
reply_rises language old (Load client text) lines new (inr (inr (inr a))) = moved old.last new _ a.same (rises_not old.last)
reply_rises language old (Register client name text) lines new (inl a) = moved old.last new _ a.same (rises_not old.last)
reply_rises language old (Register client name text) lines new (inr (inl a)) = moved old.last new _ a.same (rises_not old.last)
reply_rises language old (Register client name text) lines new (inr (inr (inl a))) = moved old.last new _ a.opened (rises_to old.last a.number a.drawn)
reply_rises language old (Register client name text) lines new (inr (inr (inr a))) = moved old.last new _ a.same (rises_not old.last)
reply_rises language old (StepClient client most) lines new (inl a) = moved old.last new _ a.same (rises_not old.last)
reply_rises language old (StepClient client most) lines new (inr a) = moved old.last new _ a.left (rises_by_commit old.last old.queries a.job a.commit a.steps.commits)
reply_rises language old (Crash crashed) lines new a = moved old.last new _ a.left (rises_not old.last)
reply_rises language old AsksStatus lines new (inl a) = moved old.last new _ a.known (rises_not old.last)
reply_rises language old AsksStatus lines new (inr a) = moved old.last new _ a.same (rises_not old.last)
reply_rises language old (Answers name) lines new (inl a) = moved old.last new _ a.same (rises_not old.last)
reply_rises language old (Answers name) lines new (inr (inl a)) = moved old.last new _ a.met (rises_not old.last)
reply_rises language old (Answers name) lines new (inr (inr a)) = moved old.last new _ a.met (rises_not old.last)
reply_rises language old (Scan text) lines new (inl a) = moved old.last new _ a.same (rises_not old.last)
reply_rises language old (Scan text) lines new (inr (inl a)) = moved old.last new _ a.met (rises_not old.last)
reply_rises language old (Scan text) lines new (inr (inr a)) = moved old.last new _ a.met (rises_not old.last)

pub timestamps_rise : TimestampsRise
timestamps_rise language old [] [] new a h = moved old.last new old a (rises_not old.last) h
timestamps_rise language old [] (lines ∷ transcript) new a h = absurd a
timestamps_rise language old (command ∷ commands) [] new a h = absurd a
timestamps_rise language old (command ∷ commands) (lines ∷ transcript) new a h =
    let first = reply_rises language old command lines a.0 a.1 h in
    let rest = timestamps_rise language a.0 commands transcript new a.2 first.1 in
    (omega (arith, first.0, rest.0), rest.1)

-- ---- nothing in flight

abbrev has_job : (Content → Bool) → Option Job → Bool
has_job test None = false
has_job test (Some job) = test job.content

-- nobody has a job in flight whose content passes the test
abbrev NobodyHas : (Content → Bool) → (ℕ → Option Job) → Type 0
NobodyHas test jobs = (client : ℕ) → has_job test (jobs client) ≡ false

beside_others : (test : Content → Bool) (joined : List Triple) (names : List (List ℕ)) (jobs : ℕ → Option Job) → NobodyHas test jobs → NobodyHas test (all_beside joined names jobs)
beside_others test joined names jobs none client = by (jobs client) (none client)
  where
    by : (job : Option Job) → has_job test job ≡ false → has_job test (option_map (beside joined names) job) ≡ false
    by None e = refl
    by (Some job) e = e

one_changed : (test : Content → Bool) (jobs : ℕ → Option Job) (client : ℕ) (job : Option Job) → NobodyHas test jobs → has_job test job ≡ false → NobodyHas test (with_job jobs client job)
one_changed test jobs client job none e other = by (other == client)
  where
    by : (same : Bool) → has_job test (if same then job else jobs other) ≡ false
    by true = e
    by false = none other

job_left : (test : Content → Bool) (job : Job) (commit : Option ℕ) (end : StepsEnd) (count : ℕ) → test job.content ≡ false → has_job test (job_after job commit end count) ≡ false
job_left test job commit AllMade count e = e
job_left test job commit IsDone count e = refl
job_left test job commit IsAborted count e = refl
job_left test job commit IsTaken count e = refl
job_left test job commit Fails count e = e

crash_leaves : (test : Content → Bool) (jobs : ℕ → Option Job) (crashed : Crashed) → NobodyHas test jobs → NobodyHas test (jobs_left jobs crashed)
crash_leaves test jobs (whose.Client client) none = one_changed test jobs client None none refl
crash_leaves test jobs whose.All none = λ client. refl
crash_leaves test jobs whose.Oracle none = none

-- the line with which a job begins passes just where its content does
record IsTold (test : Content → Bool) (opens : Line → Bool) : Type 0 where
  loads : (client number count : ℕ) (triples : List Triple) → opens (Client client (Loaded number count)) ≡ test (Loads triples)
  registers : (client number : ℕ) (name : List ℕ) (query : Query) → opens (Client client (Registered number name)) ≡ test (Registers name query)

only : (passes : Bool) → (passes || false) ≡ false → passes ≡ false
only true e = absurd cc
only false e = refl

left_so : (test : Content → Bool) (new state : State) → new ≡ state → NobodyHas test state.jobs → NobodyHas test new.jobs
left_so test new state e none = subst (λ (s : State). NobodyHas test s.jobs) (sym e) none

still_nobody : (test : Content → Bool) (opens : Line → Bool) → IsTold test opens → (language : Language) (old : State) (command : Command) (lines : List Line) (new : State) →
    Reply language old command lines new → NobodyHas test old.jobs → list_any opens lines ≡ false → NobodyHas test new.jobs
still_nobody test opens is language old (Load client text) lines new (inl a) none unopened = left_so test new old a.same none
still_nobody test opens is language old (Load client text) lines new (inr (inl a)) none unopened = left_so test new old a.same none
still_nobody test opens is language old (Load client text) lines new (inr (inr (inl a))) none unopened =
    let line : opens (Client client (Loaded a.number (length a.triples))) ≡ false = only (opens (Client client (Loaded a.number (length a.triples)))) (ap (list_any opens) (sym a.told) ∙ unopened) in
    left_so test new _ a.opened (one_changed test old.jobs client (Some (new_job a.number (Loads a.triples))) none (sym (is.loads client a.number (length a.triples) a.triples) ∙ line))
still_nobody test opens is language old (Load client text) lines new (inr (inr (inr a))) none unopened = left_so test new old a.same none
still_nobody test opens is language old (Register client name text) lines new (inl a) none unopened = left_so test new old a.same none
still_nobody test opens is language old (Register client name text) lines new (inr (inl a)) none unopened = left_so test new old a.same none
still_nobody test opens is language old (Register client name text) lines new (inr (inr (inl a))) none unopened =
    let line : opens (Client client (Registered a.number name)) ≡ false = only (opens (Client client (Registered a.number name))) (ap (list_any opens) (sym a.told) ∙ unopened) in
    left_so test new _ a.opened
    (one_changed test old.jobs client (Some (new_job a.number (Registers name (language.query_of text)))) none (sym (is.registers client a.number name (language.query_of text)) ∙ line))
still_nobody test opens is language old (Register client name text) lines new (inr (inr (inr a))) none unopened = left_so test new old a.same none
still_nobody test opens is language old (StepClient client most) lines new (inl a) none unopened = left_so test new old a.same none
still_nobody test opens is language old (StepClient client most) lines new (inr a) none unopened =
    let this : test a.job.content ≡ false = ap (has_job test) (sym a.has) ∙ none client in
    let left : has_job test a.after ≡ false = ap (has_job test) a.steps.left ∙ job_left test a.job a.commit a.steps.end a.steps.count this in
    let others = beside_others test (joined_by old a.job a.commit) (names_joined a.job a.commit) old.jobs none in
    left_so test new _ a.left (one_changed test (all_beside (joined_by old a.job a.commit) (names_joined a.job a.commit) old.jobs) client a.after others left)
still_nobody test opens is language old (Crash crashed) lines new a none unopened = left_so test new _ a.left (crash_leaves test old.jobs crashed none)
still_nobody test opens is language old AsksStatus lines new (inl a) none unopened = left_so test new _ a.known none
still_nobody test opens is language old AsksStatus lines new (inr a) none unopened = left_so test new old a.same none
still_nobody test opens is language old (Answers name) lines new (inl a) none unopened = left_so test new old a.same none
still_nobody test opens is language old (Answers name) lines new (inr (inl a)) none unopened = left_so test new _ a.met (beside_others test [] [] old.jobs none)
still_nobody test opens is language old (Answers name) lines new (inr (inr a)) none unopened = left_so test new _ a.met (beside_others test [] [] old.jobs none)
still_nobody test opens is language old (Scan text) lines new (inl a) none unopened = left_so test new old a.same none
still_nobody test opens is language old (Scan text) lines new (inr (inl a)) none unopened = left_so test new _ a.met (beside_others test [] [] old.jobs none)
still_nobody test opens is language old (Scan text) lines new (inr (inr a)) none unopened = left_so test new _ a.met (beside_others test [] [] old.jobs none)

none_first : (passes before : Bool) (Rest : Type 0) → (before ≡ false → Rest) → (passes || before) ≡ false → Rest
none_first true before Rest f none = absurd cc
none_first false before Rest f none = f none

none_before : (test : Line → Bool) (lines more : List Line) → list_any test (lines ++ more) ≡ false → (list_any test lines ≡ false) × (list_any test more ≡ false)
none_before test [] more none = (refl, none)
none_before test (line ∷ lines) more none =
    let rest = none_before test lines more (none_first (test line) (list_any test (lines ++ more)) (list_any test (lines ++ more) ≡ false) (λ h. h) none) in
    (by (test line) none rest.0, rest.1)
  where
    by : (passes : Bool) → (passes || list_any test (lines ++ more)) ≡ false → list_any test lines ≡ false → (passes || list_any test lines) ≡ false
    by true bad rest = absurd cc
    by false some rest = rest

abbrev is_load : Content → Bool
is_load (Loads triples) = true
is_load (Registers name query) = false

abbrev is_registration : Content → Bool
is_registration (Loads triples) = false
is_registration (Registers name query) = true

loads_told : IsTold is_load opens_load
loads_told = record { loads = λ client number count triples. refl; registers = λ client number name query. refl }

registrations_told : IsTold is_registration opens_registration
registrations_told = record { loads = λ client number count triples. refl; registers = λ client number name query. refl }

no_load : (old : State) (lines : List Line) (new : State) → NobodyHas is_load old.jobs → (new.triples ≡ old.triples) ⊎ JoinsWhole old lines new → new.triples ≡ old.triples
no_load old lines new none (inl same) = same
no_load old lines new none (inr (client, job, commit, triples, has, is, told, joins)) =
    let bad : true ≡ false = sym (ap is_load is) ∙ ap (has_job is_load) (sym has) ∙ none client in
    absurd cc

no_registration : (old : State) (lines : List Line) (new : State) → NobodyHas is_registration old.jobs → (new.queries ≡ old.queries) ⊎ QueryJoins old lines new → new.queries ≡ old.queries
no_registration old lines new none (inl same) = same
no_registration old lines new none (inr joins) =
    let bad : true ≡ false = sym (ap is_registration joins.of) ∙ ap (has_job is_registration) (sym joins.has) ∙ none joins.client in
    absurd cc

no_triples : (language : Language) (old : State) (commands : List Command) (transcript : List (List Line)) (new : State) → Run language old commands transcript new →
    NobodyHas is_load old.jobs → list_any opens_load (all_lines transcript) ≡ false → new.triples ≡ old.triples
no_triples language old [] [] new a none unopened = ap (λ (s : State). s.triples) a
no_triples language old [] (lines ∷ transcript) new a none unopened = absurd a
no_triples language old (command ∷ commands) [] new a none unopened = absurd a
no_triples language old (command ∷ commands) (lines ∷ transcript) new a none unopened =
    let parts = none_before opens_load lines (all_lines transcript) unopened in
    let here = no_load old lines a.0 none (loads_join_whole language old command lines a.0 a.1) in
    let still = still_nobody is_load opens_load loads_told language old command lines a.0 a.1 none parts.0 in
    no_triples language a.0 commands transcript new a.2 still parts.1 ∙ here

no_queries : (language : Language) (old : State) (commands : List Command) (transcript : List (List Line)) (new : State) → Run language old commands transcript new →
    NobodyHas is_registration old.jobs → list_any opens_registration (all_lines transcript) ≡ false → new.queries ≡ old.queries
no_queries language old [] [] new a none unopened = ap (λ (s : State). s.queries) a
no_queries language old [] (lines ∷ transcript) new a none unopened = absurd a
no_queries language old (command ∷ commands) [] new a none unopened = absurd a
no_queries language old (command ∷ commands) (lines ∷ transcript) new a none unopened =
    let parts = none_before opens_registration lines (all_lines transcript) unopened in
    let here = no_registration old lines a.0 none (queries_join language old command lines a.0 a.1) in
    let still = still_nobody is_registration opens_registration registrations_told language old command lines a.0 a.1 none parts.0 in
    no_queries language a.0 commands transcript new a.2 still parts.1 ∙ here

nobody : (test : Content → Bool) (jobs : ℕ → Option Job) → ((client : ℕ) → jobs client ≡ None) → NobodyHas test jobs
nobody test jobs free client = ap (has_job test) (free client)

pub nothing_is_left : NothingIsLeft
nothing_is_left language old commands transcript new a free =
    (no_triples language old commands transcript new a (nobody is_load old.jobs free), no_queries language old commands transcript new a (nobody is_registration old.jobs free))
