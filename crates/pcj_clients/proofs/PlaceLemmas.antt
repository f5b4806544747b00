-- Where a client's job stands.
use Rattle.std.proofs.Common.{IfSome, IfNone, ◌≡◌, ◌<◌, ◌≤◌, ℕ, zero, suc, Bool, true, false, ◌==◌, is_some, List, [], ◌∷◌, length, take, get_or, Option, Some, None, refl, ap, sym, ◌∙◌, arith, if◌then◌else◌}
use Rattle.std.proofs.lemmas.Bool.{eq-eqb}
use Rattle.std.proofs.lemmas.List.{take_all}
use Rattle.std.proofs.lemmas.Option.{slice_get_read}
use Rattle.std.specs.List.{slice_get}
use Rattle.pcj_clients.specs.Clients.{IsPlaceOf, job_of}
use Rattle.pcj_clients.specs.declared.busy.Busy.{Busy}

-- one more that isn't the client
pub passed : (clients : List Busy) (client place : ℕ) (busy : Busy) → slice_get clients place ≡ Some busy → job_of (take place clients) client ≡ None → (busy.client == client) ≡ false → job_of (take (suc place) clients) client ≡ None
passed [] client zero busy at none other = refl
passed [] client (suc place) busy at none other = refl
passed (first ∷ clients) client zero busy at none other = let same : first ≡ busy = cc in ap (λ b. if b then Some first.job else None) (ap (λ (e : Busy). e.client == client) same ∙ other)
passed (first ∷ clients) client (suc place) busy at none other = by (first.client == client) refl (λ rest. passed clients client place busy at rest other)
  where
    by : (b : Bool) → (first.client == client) ≡ b → (job_of (take place clients) client ≡ None → job_of (take (suc place) clients) client ≡ None) → job_of (take (suc (suc place)) (first ∷ clients)) client ≡ None
    by true e later = absurd (let clash : Some first.job ≡ None = ap (λ b. if b then Some first.job else job_of (take place clients) client) (sym e) ∙ none in cc)
    by false e later = ap (λ b. if b then Some first.job else job_of (take (suc place) clients) client) e
        ∙ later (ap (λ b. if b then Some first.job else job_of (take place clients) client) (sym e) ∙ none)

-- ---- the place

-- the job that stands there is the client's
pub job_there : (clients : List Busy) (client place : ℕ) (busy : Busy) → slice_get clients place ≡ Some busy → busy.client ≡ client → job_of (take place clients) client ≡ None → job_of clients client ≡ Some busy.job
job_there [] client place busy at is none = absurd cc
job_there (first ∷ clients) client zero busy at is none = let same : first ≡ busy = cc in
    ap (λ b. if b then Some first.job else job_of clients client) (eq-eqb first.client client (ap (λ (e : Busy). e.client) same ∙ is)) ∙ ap (λ (e : Busy). Some e.job) same
job_there (first ∷ clients) client (suc place) busy at is none = by (first.client == client) refl (λ rest. job_there clients client place busy at is rest)
  where
    by : (b : Bool) → (first.client == client) ≡ b → (job_of (take place clients) client ≡ None → job_of clients client ≡ Some busy.job) → job_of (first ∷ clients) client ≡ Some busy.job
    by true e later = absurd (let clash : Some first.job ≡ None = ap (λ b. if b then Some first.job else job_of (take place clients) client) (sym e) ∙ none in cc)
    by false e later = ap (λ b. if b then Some first.job else job_of clients client) e ∙ later (ap (λ b. if b then Some first.job else job_of (take place clients) client) (sym e) ∙ none)

-- a place past the end has all before it
pub all_before : (clients : List Busy) (client place : ℕ) → length clients ≤ place → job_of (take place clients) client ≡ None → job_of clients client ≡ None
all_before clients client place past none = ap (λ cs. job_of cs client) (sym (take_all place clients past)) ∙ none

-- a place is found where the client has a job
pub found_is_busy : (clients : List Busy) (client : ℕ) (found : Option ℕ) → IfSome found (λ place. IsPlaceOf clients client place) → IfNone found (job_of clients client ≡ None) → is_some found ≡ is_some (job_of clients client)
found_is_busy clients client None some none = sym (ap is_some none)
found_is_busy clients client (Some place) some none = sym (ap is_some (job_there clients client place some.busy some.at some.is some.before))

pub place_within : (clients : List Busy) (place : ℕ) (busy : Busy) → slice_get clients place ≡ Some busy → place < length clients
place_within [] place busy at = absurd cc
place_within (first ∷ clients) zero busy at = omega arith
place_within (first ∷ clients) (suc place) busy at = let rest = place_within clients place busy at in omega arith

-- what is read at the place is the client's
pub busy_there : (clients : List Busy) (client place : ℕ) (busy : Busy) → (is : IsPlaceOf clients client place) → busy ≡ get_or clients place busy → busy ≡ is.busy
busy_there clients client place busy is read =
    let at : Some busy ≡ Some is.busy = sym (slice_get_read clients (length clients) place busy refl (place_within clients place is.busy is.at) read) ∙ is.at in cc

pub job_read : (clients : List Busy) (client place : ℕ) (busy : Busy) → IsPlaceOf clients client place → busy ≡ get_or clients place busy → job_of clients client ≡ Some busy.job
job_read clients client place busy is read = job_there clients client place is.busy is.at is.is is.before ∙ ap (λ (e : Busy). Some e.job) (sym (busy_there clients client place busy is read))
