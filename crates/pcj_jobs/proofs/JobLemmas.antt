-- What holds of a job of either kind.
use Rattle.std.proofs.Common.{◌≡◌, inl, inr, ◌≤◌, ◌+◌, ℕ, true, false, [], length, Option, Some, None, refl, ap, sym, subst, ◌∙◌, arith}
use Rattle.pcj_moves.specs.Transactions.{Transaction, new_transaction}
use Rattle.pcj_txn.specs.Progress.{Progress as TxnProgress}
use Rattle.pcj_client.specs.Job.{Content, HasCome, HasRegistered, IsJob, Job}
use Rattle.pcj_client.specs.Job.Content.{Loads, Registers}
use Rattle.pcj_model.specs.Job as told
use Rattle.pcj_jobs.specs.Known.{IsContentOf}
use Rattle.pcj_jobs.proofs.ContentLemmas.{IsPlanOf, IsValidContent}

-- its transaction has come so far, and writes what its plan says
pub record IsWriting (job : Job) (progress : TxnProgress) : Type 0 where
  pub transaction : job.actor.transaction ≡ progress.transaction
  pub start : progress.start ≡ job.actor.start
  pub plan : IsPlanOf job.content job.actor.start job.actor.answers job.actor.transaction.writes

pub is_writing : (job : Job) (progress : TxnProgress) → IsJob job → job.writing ≡ Some progress → IsWriting job progress
is_writing job progress (inl (triples, is)) writing =
    let come : HasCome (Some progress) job.actor triples = subst (λ w. HasCome w job.actor triples) writing is.come in
    record { transaction = come.0; start = come.1; plan = subst (λ c. IsPlanOf c job.actor.start job.actor.answers job.actor.transaction.writes) (sym is.content) come.2 }
is_writing job progress (inr (name, tree, is)) writing =
    let come : HasRegistered (Some progress) job.actor name tree = subst (λ w. HasRegistered w job.actor name tree) writing is.come in
    record { transaction = come.0; start = come.1; plan = subst (λ c. IsPlanOf c job.actor.start job.actor.answers job.actor.transaction.writes) (sym is.content) come.2 }

-- before that it writes nothing
pub writes_nothing : (job : Job) → IsJob job → job.writing ≡ None → job.actor.transaction ≡ new_transaction []
writes_nothing job (inl (triples, is)) writing = (subst (λ w. HasCome w job.actor triples) writing is.come).0
writes_nothing job (inr (name, tree, is)) writing = subst (λ w. HasRegistered w job.actor name tree) writing is.come

-- the plan of a job that is committed
pub plan_of : (job : Job) → IsJob job → job.actor.transaction.committed ≡ true → IsPlanOf job.content job.actor.start job.actor.answers job.actor.transaction.writes
plan_of job is done = by job.writing refl
  where
    by : (writing : Option TxnProgress) → job.writing ≡ writing → IsPlanOf job.content job.actor.start job.actor.answers job.actor.transaction.writes
    by None e = absurd (let clash : true ≡ false = sym done ∙ ap (λ (t : Transaction). t.committed) (writes_nothing job is e) in cc)
    by (Some progress) e = (is_writing job progress is e).plan

pub valid_content : (job : Job) → IsJob job → IsValidContent job.actor.start job.content
valid_content job (inl (triples, is)) = subst (IsValidContent job.actor.start) (sym is.content) is.load.valid
valid_content job (inr (name, tree, is)) = subst (IsValidContent job.actor.start) (sym is.content) (is.number, is.of_query)

-- so many answers it has before it prewrites
first_by : (content : Content) (told_of : told.Content) (job : Job) (steps : ℕ) → IsContentOf content told_of → IsPlanOf content job.actor.start job.actor.answers job.actor.transaction.writes → length job.actor.answers ≤ steps → told.first_of told_of ≤ steps + 1
first_by (Loads triples) (told.Content.Load known) job steps is plan few = let all = plan.all in let same = ap length is in omega (arith, all, same, few)
first_by (Loads triples) (told.Content.Registration name query) job steps is plan few = absurd is
first_by (Registers name tree) (told.Content.Load known) job steps is plan few = absurd is
first_by (Registers name tree) (told.Content.Registration known query) job steps is plan few = let all = ap length plan.reads in omega (arith, all, few)

pub first_step : (job : Job) (told_of : told.Content) (steps : ℕ) → IsJob job → IsContentOf job.content told_of → length job.actor.answers ≤ steps → 1 ≤ job.actor.transaction.prewritten → told.first_of told_of ≤ steps + 1
first_step job told_of steps is content few some = by job.writing refl
  where
    by : (writing : Option TxnProgress) → job.writing ≡ writing → told.first_of told_of ≤ steps + 1
    by None e = absurd (let none = ap (λ (t : Transaction). t.prewritten) (writes_nothing job is e) in omega (arith, none, some))
    by (Some progress) e = first_by job.content told_of job steps content (is_writing job progress is e).plan few
