-- The steps of one command, one after another.
use Rattle.std.proofs.Common.{◌≡◌, ◌≤◌, ◌<◌, ◌^◌, ◌+◌, ℕ, zero, suc, Bool, true, false, not, ◌==◌, ◌&&◌, List, [], ◌∷◌, ◌++◌, length, Option, Some, None, Result, Ok, Err, IfOk, OnErr, IsErrOf, refl, ap, sym, subst, ◌∙◌, arith, if◌then◌else◌}
use Rattle.pcj_term.specs.declared.triple.Triple.{Triple}
use Rattle.pcj_io.specs.Faults.{Rose}
use Rattle.pcj_table.specs.Table.{Table, row_at}
use Rattle.pcj_table.specs.Calls.{counted}
use Rattle.pcj_oracle.specs.Clock.{next_number}
use Rattle.pcj_oracle.specs.Calls.{after_calls}
use Rattle.pcj_oracle.specs.Draw.{Keeps}
use Rattle.pcj_oracle.specs.declared.block.Block.{Block}
use Rattle.pcj_txn.specs.declared.error.TxnError.TheVariants as txn_error
use Rattle.pcj_txn.specs.Errors.{MakesOneCall}
use Rattle.pcj_actor.specs.Progress.{MakesUpTo}
use Rattle.pcj_fit.specs.Queries.{HasQueries, Registration, added}
use Rattle.pcj_rows.specs.Triples.{HasTriples}
use Rattle.pcj_moves.specs.Actors.{Actor}
use Rattle.pcj_client.specs.Job.{Content, Job, Loads, Registers, loaded}
use Rattle.pcj_client.specs.Events.{joined, queries_after, triples_after}
use Rattle.pcj_client.specs.declared.event.JobEvent.{JobEvent}
use Rattle.pcj_client.specs.declared.event.JobEvent.TheVariants as event
use Rattle.pcj_clients.specs.Clients.{is_end, job_of, with_job, without_job}
use Rattle.pcj_clients.specs.Laws.{ChangesQueries, ChangesTriples, DrawsNext, IsClientStep, KeepsAllSound, calls_of, queries_then, triples_then}
use Rattle.pcj_clients.specs.Steps.{AreSteps, AreStepsOf, GoOnUpTo, IsStepOf, MakesCallsOf, Told, WantsMemory, all_go_on, all_had_memory, goes_on, had_memory, known_after, no_steps, queries_known_after, stepped_from, with_told}
use Rattle.pcj_clients.specs.declared.busy.Busy.{Busy}
use Rattle.pcj_clients.specs.declared.stepped.Stepped.{Stepped}
use Rattle.pcj_clients.specs.declared.stepped.StepsEnd.TheVariants as end
use Rattle.pcj_clients.proofs.JobLemmas.{choice}

-- ---- one step

-- what a step's clauses say of it, whatever it answers
pub is_step_of : (told : Told) (client : ℕ) (old new : List Busy) (oracle oracle' : Option Block) (table table' : Table) → IfOk told (λ event. IsClientStep (job_of old client) client old oracle table event new oracle' table') →
    OnErr told (new ≡ old) → OnErr told (Keeps oracle table oracle' table') → (IsErrOf told txn_error.Spent → next_number oracle table ≡ 2 ^ 48) → (IsErrOf told txn_error.Spent → DrawsNext (job_of old client)) →
    IsStepOf told client old oracle table new oracle' table'
is_step_of (Ok event) client old new oracle oracle' table table' tells same keeps spent draws = tells
is_step_of (Err error) client old new oracle oracle' table table' tells same keeps spent draws = (same, keeps, λ is. (spent (ap (λ e. Err e) is), draws (ap (λ e. Err e) is)))

-- ---- what a job is for

-- and its number, which its query has
pub record Aim : Type 0 where
  pub content : Content
  pub start : ℕ

abbrev aim : Job → Aim
aim job = record { content = job.content; start = job.actor.start }

abbrev pub aim_of : Option Job → Option Aim
aim_of None = None
aim_of (Some job) = Some (aim job)

same_triples : (a b : Option Job) (event : Option JobEvent) (known : List Triple) → aim_of a ≡ aim_of b → triples_then a event known ≡ triples_then b event known
same_triples None None event known same = refl
same_triples None (Some b) event known same = absurd cc
same_triples (Some a) None event known same = absurd cc
same_triples (Some a) (Some b) None known same = refl
same_triples (Some a) (Some b) (Some event) known same = let is : aim a ≡ aim b = cc in ap (λ (x : Aim). triples_after event known (loaded x.content)) is

same_joined : (content : Content) (a b : Actor) (known : List Registration) → a.start ≡ b.start → joined content a known ≡ joined content b known
same_joined (Loads triples) a b known same = refl
same_joined (Registers name tree) a b known same = ap (λ number. added (record { name = name; number = number; tree = tree }) known) same

same_queries : (a b : Option Job) (event : Option JobEvent) (known : List Registration) → aim_of a ≡ aim_of b → queries_then a event known ≡ queries_then b event known
same_queries None None event known same = refl
same_queries None (Some b) event known same = absurd cc
same_queries (Some a) None event known same = absurd cc
same_queries (Some a) (Some b) None known same = refl
same_queries (Some a) (Some b) (Some told) known same = let is : aim a ≡ aim b = cc in by is told
  where
    by : aim a ≡ aim b → (e : JobEvent) → queries_after e a known ≡ queries_after e b known
    by is event.Worked = refl
    by is (event.Committed commit) = same_joined a.content a.actor b.actor known (ap (λ (x : Aim). x.start) is) ∙ ap (λ (x : Aim). joined x.content b.actor known) is
    by is event.Done = refl
    by is event.Aborted = refl
    by is event.Taken = refl

job_with : (clients : List Busy) (client : ℕ) (job job' : Job) → job_of clients client ≡ Some job → job_of (with_job clients client job') client ≡ Some job'
job_with [] client job job' some = absurd cc
job_with (busy ∷ clients) client job job' some = by (busy.client == client) refl (job_with clients client job job')
  where
    by : (b : Bool) → (busy.client == client) ≡ b → (job_of clients client ≡ Some job → job_of (with_job clients client job') client ≡ Some job') → job_of (with_job (busy ∷ clients) client job') client ≡ Some job'
    by true e rest = ap (λ x. job_of (if x then (record { client = busy.client; job = job' }) ∷ clients else busy ∷ with_job clients client job') client) e ∙ ap (λ x. if x then Some job' else job_of clients client) e
    by false e rest = ap (λ x. job_of (if x then (record { client = busy.client; job = job' }) ∷ clients else busy ∷ with_job clients client job') client) e
        ∙ ap (choice busy (with_job clients client job') client) e ∙ rest (ap (choice busy clients client) (sym e) ∙ some)

-- a job that goes on is for the same still
keeps_aim : (told : Told) (client : ℕ) (old new : List Busy) (oracle oracle' : Option Block) (table table' : Table) → IsStepOf told client old oracle table new oracle' table' → goes_on told ≡ true → aim_of (job_of new client) ≡ aim_of (job_of old client)
keeps_aim (Err error) client old new oracle oracle' table table' step goes = absurd cc
keeps_aim (Ok None) client old new oracle oracle' table table' step goes = absurd cc
keeps_aim (Ok (Some event)) client old new oracle oracle' table table' step goes = by (job_of old client) refl step
  where
    not_true : (b : Bool) → not b ≡ true → b ≡ false
    not_true true e = absurd cc
    not_true false e = refl

    by : (found : Option Job) → job_of old client ≡ found → IsClientStep found client old oracle table (Some event) new oracle' table' → aim_of (job_of new client) ≡ aim_of (job_of old client)
    by None e step = absurd (let clash = step.0 in cc)
    by (Some job) e step = let (told, is, made) = step in
        let same : Some event ≡ Some told = is in
        let going : is_end told ≡ false = subst (λ x. is_end x ≡ false) (let s : event ≡ told = cc in s) (not_true (is_end event) goes) in
        let now : new ≡ with_job old client made.after = made.left ∙ ap (λ b. if b then without_job old client else with_job old client made.after) going in
        ap (λ cs. aim_of (job_of cs client)) now ∙ ap aim_of (job_with old client job made.after e) ∙ ap (λ content. Some (record { content = content; start = made.after.actor.start })) made.content
        ∙ ap (λ start. Some (record { content = job.content; start = start })) made.on.start ∙ sym (ap aim_of e)

-- ---- one more at the end

steps_then : (told : List Told) (more : Told) (client : ℕ) (old mid new : List Busy) (oracle between oracle' : Option Block) (table rows table' : Table) → AreSteps told client old oracle table mid between rows →
    IsStepOf more client mid between rows new oracle' table' → AreSteps (told ++ more ∷ []) client old oracle table new oracle' table'
steps_then [] more client old mid new oracle between oracle' table rows table' steps step = let (clients, numbers, same) = steps in
    (new, oracle', table', subst (λ cs. IsStepOf more client cs oracle table new oracle' table') clients (subst (λ o. IsStepOf more client mid o table new oracle' table') numbers (subst (λ t. IsStepOf more client mid between t new oracle' table') same step)), (refl, refl, refl))
steps_then (first ∷ told) more client old mid new oracle between oracle' table rows table' steps step = let (clients, o, t, one, rest) = steps in
    (clients, o, t, one, steps_then told more client clients mid new o between oracle' t rows table' rest step)

from_then : (stepped : Stepped) (told : List Told) (more : Told) → stepped_from stepped (told ++ more ∷ []) ≡ with_told (stepped_from stepped told) more
from_then stepped [] more = refl
from_then stepped (first ∷ told) more = from_then (with_told stepped first) told more

abbrev known_then : Option Job → Told → List Triple → List Triple
known_then job (Ok event) known = triples_then job event known
known_then job (Err error) known = known

after_then : (job : Option Job) (told : List Told) (more : Told) (known : List Triple) → known_after job (told ++ more ∷ []) known ≡ known_then job more (known_after job told known)
after_then job [] (Ok event) known = refl
after_then job [] (Err error) known = refl
after_then job (Ok event ∷ told) more known = after_then job told more (triples_then job event known)
after_then job (Err error ∷ told) more known = after_then job told more known

abbrev pub queries_known_then : Option Job → Told → List Registration → List Registration
queries_known_then job (Ok event) known = queries_then job event known
queries_known_then job (Err error) known = known

queries_after_then : (job : Option Job) (told : List Told) (more : Told) (known : List Registration) → queries_known_after job (told ++ more ∷ []) known ≡ queries_known_then job more (queries_known_after job told known)
queries_after_then job [] (Ok event) known = refl
queries_after_then job [] (Err error) known = refl
queries_after_then job (Ok event ∷ told) more known = queries_after_then job told more (queries_then job event known)
queries_after_then job (Err error ∷ told) more known = queries_after_then job told more known

all_then : (told : List Told) (more : Told) → all_go_on told ≡ true → goes_on more ≡ true → all_go_on (told ++ more ∷ []) ≡ true
all_then [] more all goes = ap (λ b. b && true) goes
all_then (first ∷ told) more all goes = by (goes_on first) refl (all_then told more)
  where
    by : (b : Bool) → goes_on first ≡ b → (all_go_on told ≡ true → goes_on more ≡ true → all_go_on (told ++ more ∷ []) ≡ true) → all_go_on ((first ∷ told) ++ more ∷ []) ≡ true
    by true e rest = ap (λ b. b && all_go_on (told ++ more ∷ [])) e ∙ rest (ap (λ b. b && all_go_on told) (sym e) ∙ all) goes
    by false e rest = absurd (let clash : false ≡ true = ap (λ b. b && all_go_on told) (sym e) ∙ all in cc)

length_then : (told : List Told) (more : Told) → length (told ++ more ∷ []) ≡ suc (length told)
length_then [] more = refl
length_then (first ∷ told) more = ap suc (length_then told more)

counts : (stepped : Stepped) (told : Told) → goes_on told ≡ true → (with_told stepped told).count ≡ suc stepped.count
counts stepped (Err error) goes = absurd cc
counts stepped (Ok None) goes = absurd cc
counts stepped (Ok (Some event.Worked)) goes = refl
counts stepped (Ok (Some (event.Committed commit))) goes = refl
counts stepped (Ok (Some event.Done)) goes = absurd cc
counts stepped (Ok (Some event.Aborted)) goes = absurd cc
counts stepped (Ok (Some event.Taken)) goes = absurd cc

stays_all_made : (stepped : Stepped) (told : Told) → stepped.end ≡ end.AllMade → goes_on told ≡ true → (with_told stepped told).end ≡ end.AllMade
stays_all_made stepped (Err error) all goes = absurd cc
stays_all_made stepped (Ok None) all goes = absurd cc
stays_all_made stepped (Ok (Some event.Worked)) all goes = all
stays_all_made stepped (Ok (Some (event.Committed commit))) all goes = all
stays_all_made stepped (Ok (Some event.Done)) all goes = absurd cc
stays_all_made stepped (Ok (Some event.Aborted)) all goes = absurd cc
stays_all_made stepped (Ok (Some event.Taken)) all goes = absurd cc

all_had_then : (told : List Told) (more : Told) → all_had_memory told ≡ true → all_had_memory (told ++ more ∷ []) ≡ had_memory more
all_had_then [] more all = by (had_memory more)
  where
    by : (b : Bool) → (b && true) ≡ b
    by true = refl
    by false = refl
all_had_then (first ∷ told) more all = by (had_memory first) refl (all_had_then told more)
  where
    by : (b : Bool) → had_memory first ≡ b → (all_had_memory told ≡ true → all_had_memory (told ++ more ∷ []) ≡ had_memory more) → all_had_memory ((first ∷ told) ++ more ∷ []) ≡ had_memory more
    by true e rest = ap (λ b. b && all_had_memory (told ++ more ∷ [])) e ∙ rest (ap (λ b. b && all_had_memory told) (sym e) ∙ all)
    by false e rest = absurd (let clash : false ≡ true = ap (λ b. b && all_had_memory told) (sym e) ∙ all in cc)

-- ---- calls of the table

calls_then : (more calls before : ℕ) → after_calls (more + calls) before ≡ after_calls more (after_calls calls before)
calls_then zero calls before = let same : 0 + calls ≡ calls = omega arith in ap (λ n. after_calls n before) same
calls_then (suc more) calls before = let same : suc more + calls ≡ suc (more + calls) = omega arith in ap (λ n. after_calls n before) same ∙ ap counted (calls_then more calls before)

makes_then : (len len' : ℕ) (oracle between oracle' : Option Block) (before middle now : ℕ) → len' ≡ suc len → MakesCallsOf len oracle between before middle → MakesOneCall between oracle' middle now → MakesCallsOf len' oracle oracle' before now
makes_then len len' oracle between oracle' before middle now is made more = record {
  calls = more.calls + made.calls;
  made = more.made ∙ ap (λ n. after_calls more.calls n) made.made ∙ sym (calls_then more.calls made.calls before);
  within = let a = made.within in let b = more.within in omega arith;
}

pub up_to : (len most : ℕ) (oracle oracle' : Option Block) (before now : ℕ) → len ≤ most → MakesCallsOf len oracle oracle' before now → MakesCallsOf most oracle oracle' before now
up_to len most oracle oracle' before now less makes = record { calls = makes.calls; made = makes.made; within = let a = makes.within in omega arith }

pub no_call : (oracle : Option Block) (made : ℕ) → MakesOneCall oracle oracle made made
no_call oracle made = record { calls = 0; made = refl; within = omega arith }

-- a client without a job makes none
none_called : (client : ℕ) (mid new : List Busy) (between oracle' : Option Block) (rows table' : Table) (middle now : ℕ) → IsStepOf (Ok None) client mid between rows new oracle' table' → MakesUpTo (calls_of (job_of mid client) between rows) middle now → (oracle' ≡ between) × (now ≡ middle)
none_called client mid new between oracle' rows table' middle now step calls = by (job_of mid client) step calls
  where
    none : (n : ℕ) → n ≤ 0 → now ≡ after_calls n middle → now ≡ middle
    none zero le made = made
    none (suc n) le made = absurd (omega (arith, le))

    by : (found : Option Job) → IsClientStep found client mid between rows None new oracle' table' → MakesUpTo (calls_of found between rows) middle now → (oracle' ≡ between) × (now ≡ middle)
    by None step calls = (step.2, none calls.calls calls.within calls.made)
    by (Some job) step calls = absurd (let clash = step.1 in cc)

-- as many calls as were counted
count_then : (told : Told) (client len : ℕ) (stepped : Stepped) (mid new : List Busy) (oracle between oracle' : Option Block) (rows table' : Table) (before middle now : ℕ) → stepped.count ≡ len → had_memory told ≡ true →
    IsStepOf told client mid between rows new oracle' table' → MakesUpTo (calls_of (job_of mid client) between rows) middle now → MakesOneCall between oracle' middle now → MakesCallsOf len oracle between before middle →
    MakesCallsOf (with_told stepped told).count oracle oracle' before now
count_then (Ok None) client len stepped mid new oracle between oracle' rows table' before middle now is had step few one made =
    let none = none_called client mid new between oracle' rows table' middle now step few in
    subst (λ n. MakesCallsOf n oracle oracle' before now) (sym is) (subst (λ o. MakesCallsOf len oracle o before now) (sym none.0) (subst (λ m. MakesCallsOf len oracle between before m) (sym none.1) made))
count_then (Ok (Some event.Worked)) client len stepped mid new oracle between oracle' rows table' before middle now is had step few one made = makes_then len _ oracle between oracle' before middle now (ap suc is) made one
count_then (Ok (Some (event.Committed commit))) client len stepped mid new oracle between oracle' rows table' before middle now is had step few one made = makes_then len _ oracle between oracle' before middle now (ap suc is) made one
count_then (Ok (Some event.Done)) client len stepped mid new oracle between oracle' rows table' before middle now is had step few one made = makes_then len _ oracle between oracle' before middle now (ap suc is) made one
count_then (Ok (Some event.Aborted)) client len stepped mid new oracle between oracle' rows table' before middle now is had step few one made = makes_then len _ oracle between oracle' before middle now (ap suc is) made one
count_then (Ok (Some event.Taken)) client len stepped mid new oracle between oracle' rows table' before middle now is had step few one made = makes_then len _ oracle between oracle' before middle now (ap suc is) made one
count_then (Err txn_error.Failed) client len stepped mid new oracle between oracle' rows table' before middle now is had step few one made = makes_then len _ oracle between oracle' before middle now (ap suc is) made one
count_then (Err txn_error.Spent) client len stepped mid new oracle between oracle' rows table' before middle now is had step few one made = makes_then len _ oracle between oracle' before middle now (ap suc is) made one
count_then (Err txn_error.Memory) client len stepped mid new oracle between oracle' rows table' before middle now is had step few one made = absurd cc

-- ---- the steps so far

pub record SoFar (client most : ℕ) (old : List Busy) (oracle : Option Block) (table : Table) (made : ℕ) (going had : Bool) (stepped : Stepped) (new : List Busy) (oracle' : Option Block) (table' : Table) (made' : ℕ) : Type 0 where
  pub told : List Told
  pub steps : AreSteps told client old oracle table new oracle' table'
  pub is : stepped ≡ stepped_from no_steps told
  pub go_on : GoOnUpTo going told
  pub within : length told ≤ most
  pub counted : going ≡ true → stepped.count ≡ length told
  pub end : going ≡ true → stepped.end ≡ end.AllMade
  pub same : going ≡ true → aim_of (job_of new client) ≡ aim_of (job_of old client)
  pub sound : KeepsAllSound old oracle table new oracle' table'
  pub triples : (known : List Triple) → ChangesTriples old oracle table table' known (known_after (job_of old client) told known)
  pub queries : (known : List Registration) → ChangesQueries old oracle table table' known (queries_known_after (job_of old client) told known)
  pub memory : all_had_memory told ≡ had
  pub calls : MakesCallsOf (length told) oracle oracle' made made'
  pub count_calls : had ≡ true → MakesCallsOf stepped.count oracle oracle' made made'

pub so_far_none : (client most : ℕ) (old : List Busy) (oracle : Option Block) (table : Table) (made : ℕ) → SoFar client most old oracle table made true true no_steps old oracle table made
so_far_none client most old oracle table made = record {
  told = [];
  steps = (refl, refl, refl);
  is = refl;
  go_on = refl;
  within = omega arith;
  counted = λ t. refl;
  end = λ t. refl;
  same = λ t. refl;
  sound = λ others sound. sound;
  triples = λ known others sound has. has;
  queries = λ known others sound has. has;
  memory = refl;
  calls = record { calls = 0; made = refl; within = omega arith };
  count_calls = λ t. record { calls = 0; made = refl; within = omega arith };
}

-- what a step leaves of the triples, whatever it answers
abbrev pub LeavesOf : Told → ℕ → List Busy → Option Block → Table → Table → Type 0
LeavesOf told client old oracle table table' = (known : List Triple) → IfOk told (λ event. ChangesTriples old oracle table table' known (triples_then (job_of old client) event known))

leaves : (told : Told) (client : ℕ) (old mid new : List Busy) (between oracle' : Option Block) (rows table' : Table) (known : List Triple) → IsStepOf told client mid between rows new oracle' table' → LeavesOf told client mid between rows table' →
    aim_of (job_of mid client) ≡ aim_of (job_of old client) → ChangesTriples mid between rows table' known (known_then (job_of old client) told known)
leaves (Ok event) client old mid new between oracle' rows table' known step left same others sound has =
    subst (λ triples. HasTriples (row_at table') triples) (same_triples (job_of mid client) (job_of old client) event known same) (left known others sound has)
leaves (Err error) client old mid new between oracle' rows table' known step left same others sound has =
    subst (λ t. HasTriples (row_at t) known) (sym ((step.1).same)) has

more_triples : (told : Told) (client most : ℕ) (old mid new : List Busy) (oracle between oracle' : Option Block) (table rows table' : Table) (made middle : ℕ) (stepped : Stepped) (far : SoFar client most old oracle table made true true stepped mid between rows middle) →
    IsStepOf told client mid between rows new oracle' table' → LeavesOf told client mid between rows table' → (known : List Triple) → ChangesTriples old oracle table table' known (known_after (job_of old client) (far.told ++ told ∷ []) known)
more_triples told client most old mid new oracle between oracle' table rows table' made middle stepped far step left known others sound has =
    subst (λ triples. HasTriples (row_at table') triples) (sym (after_then (job_of old client) far.told told known))
    (leaves told client old mid new between oracle' rows table' (known_after (job_of old client) far.told known) step left (far.same refl) others (far.sound others sound) (far.triples known others sound has))

-- and of the queries
abbrev pub LeavesQueriesOf : Told → ℕ → List Busy → Option Block → Table → Table → Type 0
LeavesQueriesOf told client old oracle table table' = (known : List Registration) → IfOk told (λ event. ChangesQueries old oracle table table' known (queries_then (job_of old client) event known))

leaves_queries : (told : Told) (client : ℕ) (old mid new : List Busy) (between oracle' : Option Block) (rows table' : Table) (known : List Registration) → IsStepOf told client mid between rows new oracle' table' → LeavesQueriesOf told client mid between rows table' →
    aim_of (job_of mid client) ≡ aim_of (job_of old client) → ChangesQueries mid between rows table' known (queries_known_then (job_of old client) told known)
leaves_queries (Ok event) client old mid new between oracle' rows table' known step left same others sound has =
    subst (λ queries. HasQueries (row_at table') queries) (same_queries (job_of mid client) (job_of old client) event known same) (left known others sound has)
leaves_queries (Err error) client old mid new between oracle' rows table' known step left same others sound has =
    subst (λ t. HasQueries (row_at t) known) (sym ((step.1).same)) has

more_queries : (told : Told) (client most : ℕ) (old mid new : List Busy) (oracle between oracle' : Option Block) (table rows table' : Table) (made middle : ℕ) (stepped : Stepped) (far : SoFar client most old oracle table made true true stepped mid between rows middle) →
    IsStepOf told client mid between rows new oracle' table' → LeavesQueriesOf told client mid between rows table' → (known : List Registration) → ChangesQueries old oracle table table' known (queries_known_after (job_of old client) (far.told ++ told ∷ []) known)
more_queries told client most old mid new oracle between oracle' table rows table' made middle stepped far step left known others sound has =
    subst (λ queries. HasQueries (row_at table') queries) (sym (queries_after_then (job_of old client) far.told told known))
    (leaves_queries told client old mid new between oracle' rows table' (queries_known_after (job_of old client) far.told known) step left (far.same refl) others (far.sound others sound) (far.queries known others sound has))

pub one_more : (told : Told) (client most : ℕ) (old mid new : List Busy) (oracle between oracle' : Option Block) (table rows table' : Table) (made middle made' : ℕ) (stepped stepped' : Stepped) → SoFar client most old oracle table made true true stepped mid between rows middle → stepped.count < most →
    IsStepOf told client mid between rows new oracle' table' → KeepsAllSound mid between rows new oracle' table' → LeavesOf told client mid between rows table' → LeavesQueriesOf told client mid between rows table' → stepped' ≡ with_told stepped told →
    MakesUpTo (calls_of (job_of mid client) between rows) middle made' → MakesOneCall between oracle' middle made' → SoFar client most old oracle table made (goes_on told) (had_memory told) stepped' new oracle' table' made'
one_more told client most old mid new oracle between oracle' table rows table' made middle made' stepped stepped' far less step keeps left queries is calls one = record {
  told = far.told ++ told ∷ [];
  steps = steps_then far.told told client old mid new oracle between oracle' table rows table' far.steps step;
  is = is ∙ ap (λ s. with_told s told) far.is ∙ sym (from_then no_steps far.told told);
  go_on = goes (goes_on told) refl;
  within = let len = length_then far.told told in let count = far.counted refl in omega arith;
  counted = λ t. ap (λ (s : Stepped). s.count) is ∙ counts stepped told t ∙ ap suc (far.counted refl) ∙ sym (length_then far.told told);
  end = λ t. ap (λ (s : Stepped). s.end) is ∙ stays_all_made stepped told (far.end refl) t;
  same = λ t. keeps_aim told client mid new between oracle' rows table' step t ∙ far.same refl;
  sound = λ others sound. keeps others (far.sound others sound);
  triples = more_triples told client most old mid new oracle between oracle' table rows table' made middle stepped far step left;
  queries = more_queries told client most old mid new oracle between oracle' table rows table' made middle stepped far step queries;
  memory = all_had_then far.told told far.memory;
  calls = makes_then (length far.told) _ oracle between oracle' made middle made' (length_then far.told told) far.calls one;
  count_calls = λ had. subst (λ (s : Stepped). MakesCallsOf s.count oracle oracle' made made') (sym is)
      (count_then told client (length far.told) stepped mid new oracle between oracle' rows table' made middle made' (far.counted refl) had step calls one far.calls);
}
  where
    goes : (b : Bool) → goes_on told ≡ b → GoOnUpTo (goes_on told) (far.told ++ told ∷ [])
    goes true e = subst (λ b. GoOnUpTo b (far.told ++ told ∷ [])) (sym e) (all_then far.told told far.go_on e)
    goes false e = subst (λ b. GoOnUpTo b (far.told ++ told ∷ [])) (sym e) (far.told, told, refl, far.go_on, e)

-- ---- how they end

-- what the steps came to, where there was memory
pub are_steps_of : (client most : ℕ) (old : List Busy) (oracle : Option Block) (table : Table) (made : ℕ) (going : Bool) (stepped : Stepped) (new : List Busy) (oracle' : Option Block) (table' : Table) (made' : ℕ) →
    SoFar client most old oracle table made going true stepped new oracle' table' made' → (going ≡ true → stepped.count < most → ⊥) →
    (told : List Told) × (stepped ≡ stepped_from no_steps told) × AreStepsOf client most old oracle table told new oracle' table' × ((known : List Triple) → ChangesTriples old oracle table table' known (known_after (job_of old client) told known)) × ((known : List Registration) → ChangesQueries old oracle table table' known (queries_known_after (job_of old client) told known))
are_steps_of client most old oracle table made going stepped new oracle' table' made' far last = (
  far.told,
  far.is,
  record {
    steps = far.steps;
    going = going;
    go_on = far.go_on;
    within = far.within;
    all = λ t. (let count = far.counted t in let more : stepped.count < most → ⊥ = last t in let within = far.within in omega (arith, more));
    memory = far.memory;
  },
  far.triples,
  far.queries,
)

-- and where there was none for the last
pub wants_memory : (told : Told) (client most : ℕ) (old mid new : List Busy) (oracle between oracle' : Option Block) (table rows table' : Table) (made middle : ℕ) (stepped : Stepped) → SoFar client most old oracle table made true true stepped mid between rows middle → stepped.count < most →
    IsStepOf told client mid between rows new oracle' table' → LeavesOf told client mid between rows table' → LeavesQueriesOf told client mid between rows table' → told ≡ Err txn_error.Memory →
    (all : List Told) × WantsMemory client most old oracle table all new oracle' table' × ((known : List Triple) → ChangesTriples old oracle table table' known (known_after (job_of old client) all known)) × ((known : List Registration) → ChangesQueries old oracle table table' known (queries_known_after (job_of old client) all known))
wants_memory told client most old mid new oracle between oracle' table rows table' made middle stepped far less step left queries short = (
  far.told ++ told ∷ [],
  record {
    steps = steps_then far.told told client old mid new oracle between oracle' table rows table' far.steps step;
    front = far.told;
    is = ap (λ t. far.told ++ t ∷ []) short;
    go_on = far.go_on;
    within = let len = length_then far.told told in let count = far.counted refl in omega arith;
  },
  more_triples told client most old mid new oracle between oracle' table rows table' made middle stepped far step left,
  more_queries told client most old mid new oracle between oracle' table rows table' made middle stepped far step queries,
)

-- ---- faults

-- a fault is told where a step failed
pub fault_rose : (stepped : Stepped) (told : Told) (before between now : ℕ) → stepped.end ≡ end.AllMade → before ≤ between → (IsErrOf told txn_error.Failed → Rose between now) → (with_told stepped told).end ≡ end.Fault → Rose before now
fault_rose stepped (Ok None) before between now all later rose is = absurd cc
fault_rose stepped (Ok (Some event.Worked)) before between now all later rose is = absurd (let clash : end.AllMade ≡ end.Fault = sym all ∙ is in cc)
fault_rose stepped (Ok (Some (event.Committed commit))) before between now all later rose is = absurd (let clash : end.AllMade ≡ end.Fault = sym all ∙ is in cc)
fault_rose stepped (Ok (Some event.Done)) before between now all later rose is = absurd cc
fault_rose stepped (Ok (Some event.Aborted)) before between now all later rose is = absurd cc
fault_rose stepped (Ok (Some event.Taken)) before between now all later rose is = absurd cc
fault_rose stepped (Err txn_error.Failed) before between now all later rose is = let r = rose refl in omega arith
fault_rose stepped (Err txn_error.Spent) before between now all later rose is = absurd cc
fault_rose stepped (Err txn_error.Memory) before between now all later rose is = absurd (let clash : end.AllMade ≡ end.Fault = sym all ∙ is in cc)

-- what is true anyhow is true where there is an error
pub on_error : {T E P : Type 0} (result : Result T E) → P → OnErr result P
on_error (Ok value) p = tt
on_error (Err error) p = p
