-- The job of each client, where one of them gets a job, another one, or none.
use Rattle.std.proofs.Common.{◌≡◌, ℕ, Bool, true, false, not, ◌==◌, is_some, List, [], ◌∷◌, ◌++◌, Option, Some, None, refl, ap, sym, subst, ◌∙◌, if◌then◌else◌}
use Rattle.std.proofs.lemmas.Bool.{and_parts, eq-eqb, eqb-true}
use Rattle.pcj_term.proofs.ListLemmas.{first_there, later_there}
use Rattle.std.specs.List.{Contains}
use Rattle.pcj_client.specs.Job.{Job}
use Rattle.pcj_clients.specs.Clients.{actors_of, are_apart, job_of, with_job, without_job}
use Rattle.pcj_clients.specs.declared.busy.Busy.{Busy}

abbrev choice : Busy → List Busy → ℕ → Bool → Option Job
choice busy clients client b = if b then Some busy.job else job_of clients client

-- who is one client isn't another
apart_of : (at client other : ℕ) → (other == client) ≡ false → (at == client) ≡ true → (at == other) ≡ false
apart_of at client other apart is = by (at == other) refl
  where
    by : (b : Bool) → (at == other) ≡ b → (at == other) ≡ false
    by true e = absurd (let same : other ≡ client = sym (eqb-true at other e) ∙ eqb-true at client is in let clash : true ≡ false = sym (eq-eqb other client same) ∙ apart in cc)
    by false e = e

-- ---- without a job

pub without_other : (clients : List Busy) (client other : ℕ) → (other == client) ≡ false → job_of (without_job clients client) other ≡ job_of clients other
without_other [] client other apart = refl
without_other (busy ∷ clients) client other apart = by (busy.client == client) refl (busy.client == other) refl (without_other clients client other apart)
  where
    by : (b : Bool) → (busy.client == client) ≡ b → (d : Bool) → (busy.client == other) ≡ d → job_of (without_job clients client) other ≡ job_of clients other → job_of (without_job (busy ∷ clients) client) other ≡ job_of (busy ∷ clients) other
    by true e d f rest = ap (λ x. job_of (if x then clients else busy ∷ without_job clients client) other) e ∙ sym (ap (choice busy clients other) (apart_of busy.client client other apart e))
    by false e true f rest = ap (λ x. job_of (if x then clients else busy ∷ without_job clients client) other) e ∙ ap (choice busy (without_job clients client) other) f ∙ sym (ap (choice busy clients other) f)
    by false e false f rest = ap (λ x. job_of (if x then clients else busy ∷ without_job clients client) other) e ∙ ap (choice busy (without_job clients client) other) f ∙ rest ∙ sym (ap (choice busy clients other) f)

none_of : {X : Type 0} (found : Option X) → not (is_some found) ≡ true → found ≡ None
none_of None e = refl
none_of (Some x) e = absurd cc

pub without_own : (clients : List Busy) (client : ℕ) → are_apart clients ≡ true → job_of (without_job clients client) client ≡ None
without_own [] client apart = refl
without_own (busy ∷ clients) client apart = by (busy.client == client) refl (without_own clients client (and_parts _ _ apart).1)
  where
    by : (b : Bool) → (busy.client == client) ≡ b → job_of (without_job clients client) client ≡ None → job_of (without_job (busy ∷ clients) client) client ≡ None
    by true e rest = ap (λ x. job_of (if x then clients else busy ∷ without_job clients client) client) e ∙ ap (job_of clients) (sym (eqb-true busy.client client e)) ∙ none_of (job_of clients busy.client) (and_parts (not (is_some (job_of clients busy.client))) (are_apart clients) apart).0
    by false e rest = ap (λ x. job_of (if x then clients else busy ∷ without_job clients client) client) e ∙ ap (choice busy (without_job clients client) client) e ∙ rest

-- ---- with another job

abbrev changed : Busy → List Busy → ℕ → Job → Bool → List Busy
changed busy clients client job b = if b then (record { client = busy.client; job = job }) ∷ clients else busy ∷ with_job clients client job

pub with_other : (clients : List Busy) (client other : ℕ) (job : Job) → (other == client) ≡ false → job_of (with_job clients client job) other ≡ job_of clients other
with_other [] client other job apart = refl
with_other (busy ∷ clients) client other job apart = by (busy.client == client) refl (busy.client == other) refl (with_other clients client other job apart)
  where
    by : (b : Bool) → (busy.client == client) ≡ b → (d : Bool) → (busy.client == other) ≡ d → job_of (with_job clients client job) other ≡ job_of clients other → job_of (with_job (busy ∷ clients) client job) other ≡ job_of (busy ∷ clients) other
    by true e d f rest = ap (λ x. job_of (changed busy clients client job x) other) e ∙ ap (λ x. if x then Some job else job_of clients other) (apart_of busy.client client other apart e) ∙ sym (ap (choice busy clients other) (apart_of busy.client client other apart e))
    by false e true f rest = ap (λ x. job_of (changed busy clients client job x) other) e ∙ ap (choice busy (with_job clients client job) other) f ∙ sym (ap (choice busy clients other) f)
    by false e false f rest = ap (λ x. job_of (changed busy clients client job x) other) e ∙ ap (choice busy (with_job clients client job) other) f ∙ rest ∙ sym (ap (choice busy clients other) f)

pub with_own : (clients : List Busy) (client : ℕ) (job job' : Job) → job_of clients client ≡ Some job → job_of (with_job clients client job') client ≡ Some job'
with_own [] client job job' some = absurd cc
with_own (busy ∷ clients) client job job' some = by (busy.client == client) refl (with_own clients client job job')
  where
    by : (b : Bool) → (busy.client == client) ≡ b → (job_of clients client ≡ Some job → job_of (with_job clients client job') client ≡ Some job') → job_of (with_job (busy ∷ clients) client job') client ≡ Some job'
    by true e rest = ap (λ x. job_of (changed busy clients client job' x) client) e ∙ ap (λ x. if x then Some job' else job_of clients client) e
    by false e rest = ap (λ x. job_of (changed busy clients client job' x) client) e ∙ ap (choice busy (with_job clients client job') client) e ∙ rest (ap (choice busy clients client) (sym e) ∙ some)

-- ---- one more

pub more_own : (clients : List Busy) (client : ℕ) (job : Job) → job_of clients client ≡ None → job_of (clients ++ (record { client = client; job = job }) ∷ []) client ≡ Some job
more_own [] client job none = ap (λ x. if x then Some job else None) (eq-eqb client client refl)
more_own (busy ∷ clients) client job none = by (busy.client == client) refl (more_own clients client job)
  where
    by : (b : Bool) → (busy.client == client) ≡ b → (job_of clients client ≡ None → job_of (clients ++ (record { client = client; job = job }) ∷ []) client ≡ Some job) → job_of ((busy ∷ clients) ++ (record { client = client; job = job }) ∷ []) client ≡ Some job
    by true e rest = absurd (let clash : Some busy.job ≡ None = ap (choice busy clients client) (sym e) ∙ none in cc)
    by false e rest = ap (choice busy (clients ++ (record { client = client; job = job }) ∷ []) client) e ∙ rest (ap (choice busy clients client) (sym e) ∙ none)

pub more_other : (clients : List Busy) (client other : ℕ) (job : Job) → (other == client) ≡ false → job_of (clients ++ (record { client = client; job = job }) ∷ []) other ≡ job_of clients other
more_other [] client other job apart = ap (λ x. if x then Some job else None) (apart_of client client other apart (eq-eqb client client refl))
more_other (busy ∷ clients) client other job apart = by (busy.client == other) refl (more_other clients client other job apart)
  where
    by : (b : Bool) → (busy.client == other) ≡ b → job_of (clients ++ (record { client = client; job = job }) ∷ []) other ≡ job_of clients other → job_of ((busy ∷ clients) ++ (record { client = client; job = job }) ∷ []) other ≡ job_of (busy ∷ clients) other
    by true e rest = ap (choice busy (clients ++ (record { client = client; job = job }) ∷ []) other) e ∙ sym (ap (choice busy clients other) e)
    by false e rest = ap (choice busy (clients ++ (record { client = client; job = job }) ∷ []) other) e ∙ rest ∙ sym (ap (choice busy clients other) e)

-- ---- the actors

pub its_actor : (clients : List Busy) (client : ℕ) (job : Job) → job_of clients client ≡ Some job → Contains (actors_of clients) job.actor
its_actor [] client job some = absurd cc
its_actor (busy ∷ clients) client job some = by (busy.client == client) refl (its_actor clients client job)
  where
    by : (b : Bool) → (busy.client == client) ≡ b → (job_of clients client ≡ Some job → Contains (actors_of clients) job.actor) → Contains (actors_of (busy ∷ clients)) job.actor
    by true e rest = let same : Some busy.job ≡ Some job = ap (choice busy clients client) (sym e) ∙ some in let is : busy.job ≡ job = cc in
        subst (λ (j : Job). Contains (actors_of (busy ∷ clients)) j.actor) is (first_there busy.job.actor (actors_of clients))
    by false e rest = later_there busy.job.actor (actors_of clients) job.actor (rest (ap (choice busy clients client) (sym e) ∙ some))
