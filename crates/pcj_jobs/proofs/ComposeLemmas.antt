-- The steps of a command come to one change of the state of a transcript.
use Rattle.std.proofs.Common.{◌≡◌, ◌⊎◌, inl, inr, ◌≤◌, ◌+◌, ℕ, Bool, true, false, ◌||◌, ◌==◌, is_some, nat_le, List, [], ◌++◌, filter, not, Option, Some, None, refl, ap, ap₂, sym, subst, ◌∙◌, arith, if◌then◌else◌}
use Rattle.std.specs.Option.{option_map}
use Rattle.pcj_term.specs.declared.triple.Triple.{Triple}
use Rattle.pcj_table.specs.Table.{Table, row_at}
use Rattle.pcj_oracle.specs.declared.block.Block.{Block}
use Rattle.pcj_rows.specs.Triples.{HasTriples}
use Rattle.pcj_pending.specs.Pending.{locks_of, notifications_of}
use Rattle.pcj_clients.specs.Clients.{job_of}
use Rattle.pcj_clients.specs.declared.busy.Busy.{Busy}
use Rattle.pcj_model.specs.Job as told
use Rattle.pcj_model.specs.State.{Backlog, State, all_beside, joined_by, names_joined, stepped, with_job}
use Rattle.pcj_jobs.specs.Agrees.{Agrees, HasRegistered}
use Rattle.pcj_jobs.specs.Known.{IsKnownOf}
use Rattle.pcj_jobs.proofs.AgreeLemmas.{append_nil}

-- ---- states that say the same

pub record SayTheSame (state other : State) : Type 0 where
  pub triples : other.triples ≡ state.triples
  pub queries : other.queries ≡ state.queries
  pub jobs : (client : ℕ) → other.jobs client ≡ state.jobs client
  pub last : other.last ≡ state.last
  pub backlog : other.backlog ≡ state.backlog

pub agrees_as : (oracle : Option Block) (table : Table) (clients : List Busy) (state other : State) → SayTheSame state other → Agrees oracle table clients state → Agrees oracle table clients other
agrees_as oracle table clients state other same agrees = record {
  known = record { apart = agrees.known.apart; each = λ client. subst (λ k. IsKnownOf (row_at table) (job_of clients client) k) (sym (same.jobs client)) (agrees.known.each client) };
  triples = subst (HasTriples (row_at table)) (sym same.triples) agrees.triples;
  queries = subst (HasRegistered (row_at table)) (sym same.queries) agrees.queries;
  last = let less = agrees.last in let is = same.last in omega (arith, less, is);
  locks = subst (λ (b : Backlog). locks_of table ≤ b.most_locks) (sym same.backlog) agrees.locks;
  notifications = subst (λ (b : Backlog). notifications_of table ≤ b.most_locks + b.old_notifications) (sym same.backlog) agrees.notifications;
  idle = λ is. agrees.idle (ap (λ (b : Backlog). b.is_idle) (sym same.backlog) ∙ is);
  quiet = λ is. agrees.quiet (ap (λ (b : Backlog). b.is_quiet) (sym same.backlog) ∙ is);
}

-- ---- one job

or_false : (b : Bool) → (b || false) ≡ b
or_false true = refl
or_false false = refl

or_twice : (a b : Bool) → ((a || b) || b) ≡ (a || b)
or_twice true b = refl
or_twice false true = refl
or_twice false false = refl

abbrev job_as : told.Job → Bool → Bool → told.Job
job_as job met rival = record { start = job.start; content = job.content; is_committed = job.is_committed; steps = job.steps; met = met; rival = rival }

-- where nothing joined nobody is a rival
no_rival : (content : told.Content) → told.is_rival content [] [] ≡ false
no_rival (told.Content.Load triples) = refl
no_rival (told.Content.Registration name query) = refl

none_joined : (b : Bool) (content : told.Content) → (b || told.is_rival content [] []) ≡ b
none_joined b content = ap (λ rival. b || rival) (no_rival content) ∙ or_false b

beside_then : (joined : List Triple) (names : List (List ℕ)) (job : told.Job) → told.beside joined names (told.beside [] [] job) ≡ told.beside joined names job
beside_then joined names job =
    ap₂ (job_as job) (or_twice job.met (nat_le (told.first_of job.content) job.steps)) (ap (λ b. b || told.is_rival job.content joined names) (none_joined job.rival job.content))

then_beside : (joined : List Triple) (names : List (List ℕ)) (job : told.Job) → told.beside [] [] (told.beside joined names job) ≡ told.beside joined names job
then_beside joined names job =
    ap₂ (job_as job) (or_twice job.met (nat_le (told.first_of job.content) job.steps)) (none_joined (job.rival || told.is_rival job.content joined names) job.content)

map_beside_then : (joined : List Triple) (names : List (List ℕ)) (found : Option told.Job) → option_map (told.beside joined names) (option_map (told.beside [] []) found) ≡ option_map (told.beside joined names) found
map_beside_then joined names None = refl
map_beside_then joined names (Some job) = ap Some (beside_then joined names job)

map_then_beside : (joined : List Triple) (names : List (List ℕ)) (found : Option told.Job) → option_map (told.beside [] []) (option_map (told.beside joined names) found) ≡ option_map (told.beside joined names) found
map_then_beside joined names None = refl
map_then_beside joined names (Some job) = ap Some (then_beside joined names job)

-- ---- the commit so far, and with one more step

abbrev pub commit_then : Option ℕ → Option ℕ → Option ℕ
commit_then commit None = commit
commit_then commit (Some more) = Some more

abbrev job_made : told.Job → Bool → ℕ → told.Job
job_made job committed steps = record { start = job.start; content = job.content; is_committed = committed; steps = steps; met = job.met; rival = job.rival }

or_then : (b : Bool) (commit more : Option ℕ) → (commit ≡ None) ⊎ (more ≡ None) → ((b || is_some commit) || is_some more) ≡ (b || is_some (commit_then commit more))
or_then b commit None one = or_false (b || is_some commit)
or_then b commit (Some more) one = by b commit
  where
    by : (c : Bool) (found : Option ℕ) → ((c || is_some found) || true) ≡ (c || true)
    by true found = refl
    by false None = refl
    by false (Some x) = refl

pub grown_then : (job : told.Job) (commit more : Option ℕ) (count : ℕ) → (commit ≡ None) ⊎ (more ≡ None) → told.grown (told.grown job commit count) more 1 ≡ told.grown job (commit_then commit more) (count + 1)
grown_then job commit more count one = ap₂ (job_made job) (or_then job.is_committed commit more one) (let same : (job.steps + count) + 1 ≡ job.steps + (count + 1) = omega arith in same)

pub grown_none : (job : told.Job) → told.grown job None 0 ≡ job
grown_none job = ap₂ (job_made job) (or_false job.is_committed) (let same : job.steps + 0 ≡ job.steps = omega arith in same)

-- ---- one more step of a command

abbrev backlog_as : ℕ → ℕ → Backlog
backlog_as locks notifications = record { most_locks = locks; old_notifications = notifications; is_idle = false; is_quiet = false }

backlog_then : (backlog : Backlog) (count : ℕ) → backlog_as (backlog.most_locks + (count + 1)) backlog.old_notifications ≡ backlog_as ((backlog.most_locks + count) + 1) backlog.old_notifications
backlog_then backlog count = let same : backlog.most_locks + (count + 1) ≡ (backlog.most_locks + count) + 1 = omega arith in ap (λ n. backlog_as n backlog.old_notifications) same

pub stepped_then : (state : State) (client : ℕ) (job : told.Job) (commit more : Option ℕ) (left after : Option told.Job) (count : ℕ) → (commit ≡ None) ⊎ (more ≡ None) →
    SayTheSame (stepped (stepped state client job commit left count) client (told.grown job commit count) more after 1) (stepped state client job (commit_then commit more) after (count + 1))
stepped_then state client job commit None left after count one = record {
  triples = sym (append_nil (state.triples ++ joined_by state job commit));
  queries = refl;
  jobs = λ other. by other (other == client) refl;
  last = refl;
  backlog = backlog_then state.backlog count;
}
  where
    by : (other : ℕ) (b : Bool) → (other == client) ≡ b →
        with_job (all_beside (joined_by state job commit) (names_joined job commit) state.jobs) client after other ≡ with_job (all_beside [] [] (with_job (all_beside (joined_by state job commit) (names_joined job commit) state.jobs) client left)) client after other
    by other true e = ap (λ b. if b then after else all_beside (joined_by state job commit) (names_joined job commit) state.jobs other) e ∙ sym (ap (λ b. if b then after else all_beside [] [] (with_job (all_beside (joined_by state job commit) (names_joined job commit) state.jobs) client left) other) e)
    by other false e = ap (λ b. if b then after else all_beside (joined_by state job commit) (names_joined job commit) state.jobs other) e ∙ sym (map_then_beside (joined_by state job commit) (names_joined job commit) (state.jobs other))
        ∙ sym (ap (λ b. if b then after else option_map (told.beside [] []) (if b then left else all_beside (joined_by state job commit) (names_joined job commit) state.jobs other)) e)
stepped_then state client job (Some commit) (Some more) left after count one = absurd (elim one [ inl e ↦ cc | inr e ↦ cc ])
stepped_then state client job None (Some more) left after count one = record {
  triples = ap (λ ts. state.triples ++ joined_of ts) (sym nil) ∙ ap (λ ts. ts ++ joined_of (state.triples ++ [])) (sym nil);
  queries = refl;
  jobs = λ other. by other (other == client) refl;
  last = refl;
  backlog = backlog_then state.backlog count;
}
  where
    nil : state.triples ++ [] ≡ state.triples
    nil = append_nil state.triples

    joined_of : List Triple → List Triple
    joined_of known = filter (λ triple. not (told.is_among known triple)) (told.triples_of job.content)

    by : (other : ℕ) (b : Bool) → (other == client) ≡ b →
        with_job (all_beside (joined_by state job (Some more)) (names_joined job (Some more)) state.jobs) client after other ≡ with_job (all_beside (joined_by (stepped state client job None left count) (told.grown job None count) (Some more)) (names_joined job (Some more)) (with_job (all_beside [] [] state.jobs) client left)) client after other
    by other true e = ap (λ b. if b then after else all_beside (joined_by state job (Some more)) (names_joined job (Some more)) state.jobs other) e
        ∙ sym (ap (λ b. if b then after else all_beside (joined_by (stepped state client job None left count) (told.grown job None count) (Some more)) (names_joined job (Some more)) (with_job (all_beside [] [] state.jobs) client left) other) e)
    by other false e = ap (λ b. if b then after else all_beside (joined_by state job (Some more)) (names_joined job (Some more)) state.jobs other) e
        ∙ sym (map_beside_then (joined_by state job (Some more)) (names_joined job (Some more)) (state.jobs other))
        ∙ ap (λ ts. option_map (told.beside (filter (λ triple. not (told.is_among ts triple)) (told.triples_of job.content)) (told.names_of job.content)) (option_map (told.beside [] []) (state.jobs other))) (sym nil)
        ∙ sym (ap (λ b. if b then after else option_map (told.beside (joined_by (stepped state client job None left count) (told.grown job None count) (Some more)) (names_joined job (Some more))) (if b then left else all_beside [] [] state.jobs other)) e)
