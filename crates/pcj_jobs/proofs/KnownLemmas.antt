-- What is known stays true where jobs begin and end, and where plain values alone are written.
use Rattle.std.proofs.Common.{◌≡◌, ◌≤◌, ℕ, Bool, true, false, ◌==◌, nat_lt, [], ◌∷◌, ◌++◌, length, Option, Some, None, refl, ap, ap₂, sym, subst, ◌∙◌, arith, if◌then◌else◌}
use Rattle.std.proofs.lemmas.Bool.{eqb-true}
use Rattle.std.specs.List.{find}
use Rattle.pcj_table.specs.Row.{are_below}
use Rattle.pcj_table.specs.Table.{Key}
use Rattle.pcj_table.specs.declared.lock.Lock.{Lock}
use Rattle.pcj_mvcc.proofs.Versions.{all_added, below_more, version_of_start}
use Rattle.pcj_mvcc.specs.Acts.{version_of}
use Rattle.pcj_mvcc.specs.Reading.{Rows, SameReading, commit_of, committed, reading, versions_read, with_lock}
use Rattle.pcj_moves.specs.Actors.{Actor}
use Rattle.pcj_moves.specs.Moves.{AreBelow}
use Rattle.pcj_moves.specs.Traces.{lock_from, traces}
use Rattle.pcj_moves.specs.Transactions.{IsHeld, Transaction, lock_at, new_transaction}
use Rattle.pcj_moves.proofs.MoveLemmas.{nothing_of}
use Rattle.pcj_moves.proofs.TraceLemmas.{both, traces_alike}
use Rattle.pcj_client.specs.Job.{Content, Job}
use Rattle.pcj_client.specs.Job.Content.{Loads, Registers}
use Rattle.pcj_clients.specs.Clients.{job_of, without_job}
use Rattle.pcj_clients.proofs.JobLemmas.{apart_more, apart_without}
use Rattle.pcj_model.specs.Job as told
use Rattle.pcj_model.specs.State.{with_job}
use Rattle.pcj_jobs.specs.Known.{AreUntouched, IsKnown, IsKnownOf}
use Rattle.pcj_jobs.specs.Laws.{AllEndKnown, EndsKnown, OpensKnown, PlainStaysKnown, SameButPlain}
use Rattle.pcj_jobs.proofs.ClientLemmas.{more_other, more_own, without_other, without_own}

-- ---- by client

pub known_as : (rows : Rows) (job job' : Option Job) (known known' : Option told.Job) → job' ≡ job → known' ≡ known → IsKnownOf rows job known → IsKnownOf rows job' known'
known_as rows job job' known known' same same' is = subst (λ k. IsKnownOf rows job' k) (sym same') (subst (λ j. IsKnownOf rows j known) (sym same) is)

-- ---- rows that are read as before

pub untouched_alike : (before after : Rows) (time : ℕ) (content : Content) → SameReading before after → AreUntouched before time content → AreUntouched after time content
untouched_alike before after time (Loads triples) same untouched = λ triple its key row. ap (are_below time) (same key) ∙ untouched triple its key row
untouched_alike before after time (Registers name tree) same untouched = λ key row. ap (are_below time) (same key) ∙ untouched key row

pub known_stays : (before after : Rows) (job : Job) (known : told.Job) → SameReading before after → traces job.actor.start after ≡ traces job.actor.start before → IsKnown before job known → IsKnown after job known
known_stays before after job known same has is = record {
  start = is.start;
  content = is.content;
  is_committed = is.is_committed;
  is = is.is;
  answers = is.answers;
  prewritten = is.prewritten;
  held = λ undone met. subst (IsHeld (lock_at job.actor.start job.actor.transaction)) (sym has) (is.held undone met);
  untouched = λ undone rival. untouched_alike before after job.actor.start job.content same (is.untouched undone rival);
}

pub read_alike : (before after : Rows) → SameButPlain before after → SameReading before after
read_alike before after same key =
    ap (λ l. reading (committed after) l (after key).versions) (same key).0 ∙ ap (λ vs. reading (committed after) (before key).lock vs) (same key).1 ∙ by (before key).lock
  where
    by : (lock : Option Lock) → reading (committed after) lock (before key).versions ≡ reading (committed before) lock (before key).versions
    by None = refl
    by (Some lock) = ap (λ vs. with_lock lock (commit_of lock.start vs) (before key).versions) (same lock.primary).1

has_alike : (before after : Rows) (start : ℕ) → SameButPlain before after → traces start after ≡ traces start before
has_alike before after start same = traces_alike (traces start after) (traces start before)
    (λ key. ap₂ both (ap (lock_from start) (same key).0) (ap (find (λ version. version.start == start)) (same key).1))

pub plain_stays_known : PlainStaysKnown
plain_stays_known before after clients jobs same are = record { apart = are.apart; each = λ client. by (job_of clients client) (jobs client) (are.each client) }
  where
    by : (job : Option Job) (known : Option told.Job) → IsKnownOf before job known → IsKnownOf after job known
    by None None is = tt
    by None (Some known) is = absurd is
    by (Some job) None is = absurd is
    by (Some job) (Some known) is = known_stays before after job known (read_alike before after same) (has_alike before after job.actor.start same) is

-- ---- a job that begins

-- all versions that are read are below the next number
pub read_below : (number : ℕ) (rows : Rows) (key : Key) → AreBelow number rows → are_below number (versions_read rows key) ≡ true
read_below number rows key below = by (rows key).lock
  where
    with_commit : (lock : Lock) (commit : Option ℕ) → committed rows lock.primary lock.start ≡ commit → are_below number (with_lock lock commit (rows key).versions) ≡ true
    with_commit lock None e = below.versions key
    with_commit lock (Some commit) e =
        let found = version_of_start (λ v. nat_lt v.commit number) lock.start commit (rows lock.primary).versions (below.versions lock.primary) e in
        all_added (λ v. nat_lt v.commit number) (version_of lock commit) (rows key).versions (ap (λ c. nat_lt c number) (sym found.2) ∙ found.3) (below.versions key)

    by : (lock : Option Lock) → are_below number (reading (committed rows) lock (rows key).versions) ≡ true
    by None = below.versions key
    by (Some lock) = with_commit lock (committed rows lock.primary lock.start) refl

untouched_yet : (number time : ℕ) (rows : Rows) (content : Content) → number ≤ time → AreBelow number rows → AreUntouched rows time content
untouched_yet number time rows (Loads triples) later below = λ triple its key row. below_more number time (versions_read rows key) later (read_below number rows key below)
untouched_yet number time rows (Registers name tree) later below = λ key row. below_more number time (versions_read rows key) later (read_below number rows key below)

pub opens_known : OpensKnown
opens_known number rows others clients jobs client job content sound later its told_of new free are = record {
  apart = apart_more clients client job are.apart free;
  each = λ other. by other (other == client) refl;
}
  where
    none : job.actor.transaction ≡ new_transaction []
    none = ap (λ (a : Actor). a.transaction) new

    held : IsHeld (lock_at job.actor.start job.actor.transaction) (traces job.actor.start rows)
    held = subst (λ (t : Transaction). IsHeld (lock_at job.actor.start t) (traces job.actor.start rows)) (sym none) (nothing_of number job.actor.start rows later sound.consistent.times sound.consistent.below)

    known : IsKnown rows job (told.new_job job.actor.start content)
    known = record {
      start = refl;
      content = told_of;
      is_committed = sym (ap (λ (t : Transaction). t.committed) none);
      is = its;
      answers = (let e = ap (λ (a : Actor). length a.answers) new in omega arith);
      prewritten = λ some. absurd (let e = ap (λ (t : Transaction). t.prewritten) none in omega arith);
      held = λ undone met. held;
      untouched = λ undone rival. untouched_yet number job.actor.start rows job.content later sound.consistent.below;
    }

    by : (other : ℕ) (b : Bool) → (other == client) ≡ b → IsKnownOf rows (job_of (clients ++ (record { client = client; job = job }) ∷ []) other) (with_job jobs client (Some (told.new_job job.actor.start content)) other)
    by other true e = known_as rows (Some job) _ (Some (told.new_job job.actor.start content)) _
        (ap (job_of (clients ++ (record { client = client; job = job }) ∷ [])) (eqb-true other client e) ∙ more_own clients client job free) (ap (λ b. if b then Some (told.new_job job.actor.start content) else jobs other) e) known
    by other false e = known_as rows (job_of clients other) _ (jobs other) _ (more_other clients client other job e) (ap (λ b. if b then Some (told.new_job job.actor.start content) else jobs other) e) (are.each other)

-- ---- a job that ends

pub ends_known : EndsKnown
ends_known rows clients jobs client are = record {
  apart = apart_without clients client are.apart;
  each = λ other. by other (other == client) refl;
}
  where
    by : (other : ℕ) (b : Bool) → (other == client) ≡ b → IsKnownOf rows (job_of (without_job clients client) other) (with_job jobs client None other)
    by other true e = known_as rows None _ None _ (ap (job_of (without_job clients client)) (eqb-true other client e) ∙ without_own clients client are.apart) (ap (λ b. if b then None else jobs other) e) tt
    by other false e = known_as rows (job_of clients other) _ (jobs other) _ (without_other clients client other e) (ap (λ b. if b then None else jobs other) e) (are.each other)

pub all_end_known : AllEndKnown
all_end_known rows = record { apart = refl; each = λ client. tt }
