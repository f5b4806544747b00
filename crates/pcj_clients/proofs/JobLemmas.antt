-- The clients with one more job, another in the place of one, or without one.
use Rattle.std.proofs.Common.{◌≡◌, ℕ, zero, suc, Bool, true, false, not, ◌==◌, ◌&&◌, is_some, List, [], ◌∷◌, ◌++◌, get_or, take, remove, slice_set, Option, Some, None, refl, ap, sym, ◌∙◌, if◌then◌else◌}
use Rattle.std.proofs.lemmas.Bool.{eq-eqb, eqb-true}
use Rattle.std.specs.List.{slice_get}
use Rattle.pcj_moves.specs.Actors.{Actor}
use Rattle.pcj_client.specs.Job.{Job}
use Rattle.pcj_client.specs.declared.event.JobEvent.{JobEvent}
use Rattle.pcj_clients.specs.Clients.{IsPlaceOf, actors_of, after_step, are_apart, is_end, job_of, with_job, without_job}
use Rattle.pcj_clients.specs.declared.busy.Busy.{Busy}
use Rattle.pcj_clients.proofs.PlaceLemmas.{busy_there}

-- which job is the client's, as `if` has it
abbrev pub choice : Busy → List Busy → ℕ → Bool → Option Job
choice busy clients client b = if b then Some busy.job else job_of clients client

abbrev kept_job : Busy → List Busy → ℕ → Bool → List Busy
kept_job busy clients client b = if b then clients else busy ∷ without_job clients client

abbrev changed_job : Busy → List Busy → ℕ → Job → Bool → List Busy
changed_job busy clients client job b = if b then record { client = busy.client; job = job } ∷ clients else busy ∷ with_job clients client job

-- ---- without a job

-- nothing is left out where the client has none
pub without_none : (clients : List Busy) (client : ℕ) → job_of clients client ≡ None → without_job clients client ≡ clients
without_none [] client none = refl
without_none (busy ∷ clients) client none = by (busy.client == client) refl (without_none clients client)
  where
    by : (b : Bool) → (busy.client == client) ≡ b → (job_of clients client ≡ None → without_job clients client ≡ clients) → without_job (busy ∷ clients) client ≡ busy ∷ clients
    by true e rest = absurd (let clash : Some busy.job ≡ None = ap (choice busy clients client) (sym e) ∙ none in cc)
    by false e rest = ap (kept_job busy clients client) e ∙ ap (λ cs. busy ∷ cs) (rest (ap (choice busy clients client) (sym e) ∙ none))

-- who had none has none
none_without : (clients : List Busy) (client other : ℕ) → is_some (job_of clients other) ≡ false → is_some (job_of (without_job clients client) other) ≡ false
none_without [] client other none = refl
none_without (busy ∷ clients) client other none = by (busy.client == client) refl (busy.client == other) refl (none_without clients client other)
  where
    by : (b : Bool) → (busy.client == client) ≡ b → (d : Bool) → (busy.client == other) ≡ d → (is_some (job_of clients other) ≡ false → is_some (job_of (without_job clients client) other) ≡ false) →
        is_some (job_of (without_job (busy ∷ clients) client) other) ≡ false
    by b e true f rest = absurd (let clash : true ≡ false = ap (λ x. is_some (choice busy clients other x)) (sym f) ∙ none in cc)
    by true e false f rest = ap (λ x. is_some (job_of (kept_job busy clients client x) other)) e ∙ ap (λ x. is_some (choice busy clients other x)) (sym f) ∙ none
    by false e false f rest = ap (λ x. is_some (job_of (kept_job busy clients client x) other)) e ∙ ap (λ x. is_some (choice busy (without_job clients client) other x)) f
        ∙ rest (ap (λ x. is_some (choice busy clients other x)) (sym f) ∙ none)

not_false : (b : Bool) → not b ≡ true → b ≡ false
not_false true e = absurd cc
not_false false e = refl

both : (a b : Bool) → (a && b) ≡ true → (a ≡ true) × (b ≡ true)
both true true e = (refl, refl)
both true false e = absurd cc
both false b e = absurd cc

apart_front : (busy : Busy) (clients : List Busy) → are_apart (busy ∷ clients) ≡ true → (is_some (job_of clients busy.client) ≡ false) × (are_apart clients ≡ true)
apart_front busy clients apart = let two = both (not (is_some (job_of clients busy.client))) (are_apart clients) apart in (not_false _ two.0, two.1)

apart_back : (busy : Busy) (clients : List Busy) → is_some (job_of clients busy.client) ≡ false → are_apart clients ≡ true → are_apart (busy ∷ clients) ≡ true
apart_back busy clients none apart = ap (λ b. not b && are_apart clients) none ∙ apart

pub apart_without : (clients : List Busy) (client : ℕ) → are_apart clients ≡ true → are_apart (without_job clients client) ≡ true
apart_without [] client apart = refl
apart_without (busy ∷ clients) client apart = by (busy.client == client) refl (apart_without clients client)
  where
    by : (b : Bool) → (busy.client == client) ≡ b → (are_apart clients ≡ true → are_apart (without_job clients client) ≡ true) → are_apart (without_job (busy ∷ clients) client) ≡ true
    by true e rest = ap (λ x. are_apart (kept_job busy clients client x)) e ∙ (apart_front busy clients apart).1
    by false e rest = ap (λ x. are_apart (kept_job busy clients client x)) e
        ∙ apart_back busy (without_job clients client) (none_without clients client busy.client (apart_front busy clients apart).0) (rest (apart_front busy clients apart).1)

-- ---- another job

some_with : (clients : List Busy) (client : ℕ) (job : Job) (other : ℕ) → is_some (job_of (with_job clients client job) other) ≡ is_some (job_of clients other)
some_with [] client job other = refl
some_with (busy ∷ clients) client job other = by (busy.client == client) refl (busy.client == other) refl (some_with clients client job other)
  where
    by : (b : Bool) → (busy.client == client) ≡ b → (d : Bool) → (busy.client == other) ≡ d → is_some (job_of (with_job clients client job) other) ≡ is_some (job_of clients other) →
        is_some (job_of (with_job (busy ∷ clients) client job) other) ≡ is_some (job_of (busy ∷ clients) other)
    by true e true f rest = ap (λ x. is_some (job_of (changed_job busy clients client job x) other)) e ∙ ap (λ x. is_some (if x then Some job else job_of clients other)) f ∙ ap (λ x. is_some (choice busy clients other x)) (sym f)
    by true e false f rest = ap (λ x. is_some (job_of (changed_job busy clients client job x) other)) e ∙ ap (λ x. is_some (if x then Some job else job_of clients other)) f ∙ ap (λ x. is_some (choice busy clients other x)) (sym f)
    by false e true f rest = ap (λ x. is_some (job_of (changed_job busy clients client job x) other)) e ∙ ap (λ x. is_some (choice busy (with_job clients client job) other x)) f ∙ ap (λ x. is_some (choice busy clients other x)) (sym f)
    by false e false f rest = ap (λ x. is_some (job_of (changed_job busy clients client job x) other)) e ∙ ap (λ x. is_some (choice busy (with_job clients client job) other x)) f ∙ rest ∙ ap (λ x. is_some (choice busy clients other x)) (sym f)

pub apart_with : (clients : List Busy) (client : ℕ) (job : Job) → are_apart clients ≡ true → are_apart (with_job clients client job) ≡ true
apart_with [] client job apart = refl
apart_with (busy ∷ clients) client job apart = by (busy.client == client) refl (apart_with clients client job)
  where
    by : (b : Bool) → (busy.client == client) ≡ b → (are_apart clients ≡ true → are_apart (with_job clients client job) ≡ true) → are_apart (with_job (busy ∷ clients) client job) ≡ true
    by true e rest = ap (λ x. are_apart (changed_job busy clients client job x)) e ∙ apart
    by false e rest = ap (λ x. are_apart (changed_job busy clients client job x)) e
        ∙ apart_back busy (with_job clients client job) (some_with clients client job busy.client ∙ (apart_front busy clients apart).0) (rest (apart_front busy clients apart).1)

-- ---- one more

none_of_more : (clients : List Busy) (client : ℕ) (job : Job) (other : ℕ) → (other == client) ≡ false → is_some (job_of clients other) ≡ false → is_some (job_of (clients ++ (record { client = client; job = job }) ∷ []) other) ≡ false
none_of_more [] client job other apart none = by (client == other) refl
  where
    by : (b : Bool) → (client == other) ≡ b → is_some (if client == other then Some job else None) ≡ false
    by true e = absurd (let clash : true ≡ false = sym (eq-eqb other client (sym (eqb-true client other e))) ∙ apart in cc)
    by false e = ap (λ x. is_some (if x then Some job else None)) e
none_of_more (busy ∷ clients) client job other apart none = by (busy.client == other) refl (none_of_more clients client job other apart)
  where
    by : (b : Bool) → (busy.client == other) ≡ b → (is_some (job_of clients other) ≡ false → is_some (job_of (clients ++ (record { client = client; job = job }) ∷ []) other) ≡ false) →
        is_some (job_of ((busy ∷ clients) ++ (record { client = client; job = job }) ∷ []) other) ≡ false
    by true e rest = absurd (let clash : true ≡ false = ap (λ x. is_some (choice busy clients other x)) (sym e) ∙ none in cc)
    by false e rest = ap (λ x. is_some (choice busy (clients ++ (record { client = client; job = job }) ∷ []) other x)) e ∙ rest (ap (λ x. is_some (choice busy clients other x)) (sym e) ∙ none)

pub apart_more : (clients : List Busy) (client : ℕ) (job : Job) → are_apart clients ≡ true → job_of clients client ≡ None → are_apart (clients ++ (record { client = client; job = job }) ∷ []) ≡ true
apart_more [] client job apart none = refl
apart_more (busy ∷ clients) client job apart none = by (busy.client == client) refl (apart_more clients client job)
  where
    by : (b : Bool) → (busy.client == client) ≡ b → (are_apart clients ≡ true → job_of clients client ≡ None → are_apart (clients ++ (record { client = client; job = job }) ∷ []) ≡ true) →
        are_apart ((busy ∷ clients) ++ (record { client = client; job = job }) ∷ []) ≡ true
    by true e rest = absurd (let clash : Some busy.job ≡ None = ap (choice busy clients client) (sym e) ∙ none in cc)
    by false e rest = apart_back busy (clients ++ (record { client = client; job = job }) ∷ []) (none_of_more clients client job busy.client e (apart_front busy clients apart).0)
        (rest (apart_front busy clients apart).1 (ap (choice busy clients client) (sym e) ∙ none))

-- ---- by place

pub removes : (clients : List Busy) (client place : ℕ) (busy : Busy) → slice_get clients place ≡ Some busy → busy.client ≡ client → job_of (take place clients) client ≡ None → remove clients place ≡ without_job clients client
removes [] client place busy at is none = absurd cc
removes (first ∷ clients) client zero busy at is none = let same : first ≡ busy = cc in ap (kept_job first clients client) (sym (eq-eqb first.client client (ap (λ (e : Busy). e.client) same ∙ is)))
removes (first ∷ clients) client (suc place) busy at is none = by (first.client == client) refl (removes clients client place busy at is)
  where
    by : (b : Bool) → (first.client == client) ≡ b → (job_of (take place clients) client ≡ None → remove clients place ≡ without_job clients client) → remove (first ∷ clients) (suc place) ≡ without_job (first ∷ clients) client
    by true e rest = absurd (let clash : Some first.job ≡ None = ap (choice first (take place clients) client) (sym e) ∙ none in cc)
    by false e rest = ap (λ cs. first ∷ cs) (rest (ap (choice first (take place clients) client) (sym e) ∙ none)) ∙ ap (kept_job first clients client) (sym e)

pub removes_at : (clients : List Busy) (client place : ℕ) → IsPlaceOf clients client place → remove clients place ≡ without_job clients client
removes_at clients client place is = removes clients client place is.busy is.at is.is is.before

pub sets : (clients : List Busy) (client place : ℕ) (busy : Busy) (job : Job) → slice_get clients place ≡ Some busy → busy.client ≡ client → job_of (take place clients) client ≡ None →
    slice_set clients place (record { client = busy.client; job = job }) ≡ with_job clients client job
sets [] client place busy job at is none = absurd cc
sets (first ∷ clients) client zero busy job at is none = let same : first ≡ busy = cc in
    ap (λ (e : Busy). record { client = e.client; job = job } ∷ clients) (sym same) ∙ ap (changed_job first clients client job) (sym (eq-eqb first.client client (ap (λ (e : Busy). e.client) same ∙ is)))
sets (first ∷ clients) client (suc place) busy job at is none = by (first.client == client) refl (sets clients client place busy job at is)
  where
    by : (b : Bool) → (first.client == client) ≡ b → (job_of (take place clients) client ≡ None → slice_set clients place (record { client = busy.client; job = job }) ≡ with_job clients client job) →
        slice_set (first ∷ clients) (suc place) (record { client = busy.client; job = job }) ≡ with_job (first ∷ clients) client job
    by true e rest = absurd (let clash : Some first.job ≡ None = ap (choice first (take place clients) client) (sym e) ∙ none in cc)
    by false e rest = ap (λ cs. first ∷ cs) (rest (ap (choice first (take place clients) client) (sym e) ∙ none)) ∙ ap (changed_job first clients client job) (sym e)

-- ---- the actors

-- those before the client's and those behind it
pub record AreAround (clients : List Busy) (client : ℕ) (job : Job) (front back : List Actor) : Type 0 where
  pub now : actors_of clients ≡ front ++ (job.actor ∷ back)
  pub with : (job' : Job) → actors_of (with_job clients client job') ≡ front ++ (job'.actor ∷ back)
  pub without : actors_of (without_job clients client) ≡ front ++ back

pub around : (clients : List Busy) (client : ℕ) (job : Job) → job_of clients client ≡ Some job → (front : List Actor) × (back : List Actor) × AreAround clients client job front back
around [] client job some = absurd cc
around (busy ∷ clients) client job some = by (busy.client == client) refl (around clients client job)
  where
    by : (b : Bool) → (busy.client == client) ≡ b → (job_of clients client ≡ Some job → (front : List Actor) × (back : List Actor) × AreAround clients client job front back) →
        (front : List Actor) × (back : List Actor) × AreAround (busy ∷ clients) client job front back
    by true e rest = let same : Some busy.job ≡ Some job = ap (choice busy clients client) (sym e) ∙ some in let is : busy.job ≡ job = cc in (
      [],
      actors_of clients,
      record {
        now = ap (λ (j : Job). j.actor ∷ actors_of clients) is;
        with = λ job'. ap (λ x. actors_of (changed_job busy clients client job' x)) e;
        without = ap (λ x. actors_of (kept_job busy clients client x)) e;
      },
    )
    by false e rest = let (front, back, are) = rest (ap (choice busy clients client) (sym e) ∙ some) in (
      busy.job.actor ∷ front,
      back,
      record {
        now = ap (λ actors. busy.job.actor ∷ actors) are.now;
        with = λ job'. ap (λ x. actors_of (changed_job busy clients client job' x)) e ∙ ap (λ actors. busy.job.actor ∷ actors) (are.with job');
        without = ap (λ x. actors_of (kept_job busy clients client x)) e ∙ ap (λ actors. busy.job.actor ∷ actors) are.without;
      },
    )

-- a job that was changed and is left out
pub remove_changed : (clients : List Busy) (place : ℕ) (busy : Busy) → remove (slice_set clients place busy) place ≡ remove clients place
remove_changed [] place busy = refl
remove_changed (first ∷ clients) zero busy = refl
remove_changed (first ∷ clients) (suc place) busy = ap (λ cs. first ∷ cs) (remove_changed clients place busy)

pub sets_at : (clients : List Busy) (client place : ℕ) (busy : Busy) (job : Job) → IsPlaceOf clients client place → busy ≡ get_or clients place busy →
    slice_set clients place (record { client = busy.client; job = job }) ≡ with_job clients client job
sets_at clients client place busy job is read =
    ap (λ (e : Busy). slice_set clients place (record { client = e.client; job = job })) (busy_there clients client place busy is read) ∙ sets clients client place is.busy job is.at is.is is.before

-- ---- a step

-- the client's job goes on
pub goes_on_is : (clients : List Busy) (client place : ℕ) (busy : Busy) (job : Job) (told : JobEvent) → IsPlaceOf clients client place → busy ≡ get_or clients place busy → is_end told ≡ false →
    slice_set clients place (record { client = busy.client; job = job }) ≡ after_step clients client job told
goes_on_is clients client place busy job told is read end = sets_at clients client place busy job is read ∙ ap (λ b. if b then without_job clients client else with_job clients client job) (sym end)

-- or is over
pub is_over_is : (clients : List Busy) (client place : ℕ) (busy : Busy) (job : Job) (told : JobEvent) → IsPlaceOf clients client place → is_end told ≡ true →
    remove (slice_set clients place (record { client = busy.client; job = job })) place ≡ after_step clients client job told
is_over_is clients client place busy job told is end = remove_changed clients place (record { client = busy.client; job = job }) ∙ removes_at clients client place is
    ∙ ap (λ b. if b then without_job clients client else with_job clients client job) (sym end)

pub apart_after : (clients : List Busy) (client : ℕ) (job : Job) (told : JobEvent) → are_apart clients ≡ true → are_apart (after_step clients client job told) ≡ true
apart_after clients client job told apart = by (is_end told) refl
  where
    by : (b : Bool) → is_end told ≡ b → are_apart (after_step clients client job told) ≡ true
    by true e = ap (λ b. are_apart (if b then without_job clients client else with_job clients client job)) e ∙ apart_without clients client apart
    by false e = ap (λ b. are_apart (if b then without_job clients client else with_job clients client job)) e ∙ apart_with clients client job apart
