-- A step of one of the jobs, and what is known of it and of the others then.
use Rattle.std.proofs.Common.{◌≡◌, ◌≢◌, ◌⊎◌, inl, inr, ◌≤◌, ◌+◌, ℕ, Bool, true, false, not, ◌||◌, is_some, List, [], ◌∷◌, length, filter, Option, Some, None, refl, ap, sym, subst, ◌∙◌, arith}
use Rattle.pcj_term.specs.declared.triple.Triple.{Triple}
use Rattle.pcj_mvcc.specs.Reading.{Rows, SameReading}
use Rattle.pcj_moves.specs.Actors.{Actor}
use Rattle.pcj_moves.specs.Moves.{IsConsistent, Makes, Move}
use Rattle.pcj_moves.specs.Reads.{Reads}
use Rattle.pcj_rows.specs.Triples.{HasTriples}
use Rattle.pcj_client.specs.Job.{Content, IsJob, Job}
use Rattle.pcj_client.specs.Events.{CommitsOnce, PrewritesOne, ReadsOne}
use Rattle.pcj_client.specs.declared.event.JobEvent.{JobEvent}
use Rattle.pcj_client.specs.declared.event.JobEvent.TheVariants as does
use Rattle.pcj_model.specs.Job as told
use Rattle.pcj_jobs.specs.Agrees.{commit_told}
use Rattle.pcj_jobs.specs.Known.{AreUntouched, IsContentOf, IsKnown}
use Rattle.pcj_jobs.proofs.BesideLemmas.{moves_read_alike, stays_committed}
use Rattle.pcj_jobs.proofs.ContentLemmas.{IsPlanOf, IsValidContent, untouched_by_commit}
use Rattle.pcj_jobs.proofs.JobLemmas.{first_step, plan_of}
use Rattle.pcj_jobs.proofs.KnownLemmas.{untouched_alike}
use Rattle.pcj_jobs.proofs.MovesLemmas.{CommitsAmong, commits_among, moves_keep_own}

-- ---- what a step of a job says of its commit

-- it commits, with this, or it doesn't
pub committed_same : (event : JobEvent) (old new : Job) → CommitsOnce old event new → commit_told event ≡ None → new.actor.transaction.committed ≡ old.actor.transaction.committed
committed_same does.Worked old new once none = once
committed_same (does.Committed commit) old new once none = absurd cc
committed_same does.Done old new once none = once
committed_same does.Aborted old new once none = once
committed_same does.Taken old new once none = once

pub committed_with : (event : JobEvent) (old new : Job) (commit : ℕ) → CommitsOnce old event new → commit_told event ≡ Some commit →
    (old.actor.transaction.commit ≡ Some commit) × (old.actor.transaction.committed ≡ false) × (new.actor.transaction.committed ≡ true)
committed_with does.Worked old new commit once some = absurd cc
committed_with (does.Committed other) old new commit once some = (once.0 ∙ some, once.1, once.2)
committed_with does.Done old new commit once some = absurd cc
committed_with does.Aborted old new commit once some = absurd cc
committed_with does.Taken old new commit once some = absurd cc

-- ---- another job

abbrev pub joins : List Triple → told.Content → Option ℕ → List Triple
joins known content None = []
joins known content (Some commit) = filter (λ triple. not (told.is_among known triple)) (told.triples_of content)

abbrev pub names_joining : told.Content → Option ℕ → List (List ℕ)
names_joining content None = []
names_joining content (Some commit) = told.names_of content

-- what is untouched beside a step
pub step_untouched : (job after : Job) (event : JobEvent) (number : ℕ) (rows : Rows) (number' : ℕ) (rows' : Rows) (others : List Actor) (moves : List Move) (told_of : told.Content) (known : List Triple) (its : Content) (told_its : told.Content) (time : ℕ) → CommitsOnce job event after → IsJob after → after.content ≡ job.content →
    Makes moves number rows job.actor number' rows' after.actor → IsConsistent (record { number = number; rows = rows; actors = job.actor ∷ others }) → Reads rows' after.actor.start after.actor.answers → HasTriples rows known →
    IsContentOf job.content told_of → IsContentOf its told_its → IsValidContent time its → time ≢ after.actor.start →
    told.is_rival told_its (joins known told_of (commit_told event)) (names_joining told_of (commit_told event)) ≡ false → AreUntouched rows time its → AreUntouched rows' time its
step_untouched job after event number rows number' rows' others moves told_of known its told_its time once is content makes consistent reads has told_content told_other valid differs none untouched = by (commit_told event) refl none
  where
    alike : SameReading rows rows' → AreUntouched rows' time its
    alike same = untouched_alike rows rows' time its same untouched

    by : (commit : Option ℕ) → commit_told event ≡ commit → told.is_rival told_its (joins known told_of commit) (names_joining told_of commit) ≡ false → AreUntouched rows' time its
    by None e none = alike (moves_read_alike moves number rows job.actor number' rows' after.actor others makes consistent (committed_same event job after once e))
    by (Some commit) e none = either (commits_among moves number rows job.actor number' rows' after.actor others makes consistent facts.1 facts.2)
      where
        facts : (job.actor.transaction.commit ≡ Some commit) × (job.actor.transaction.committed ≡ false) × (after.actor.transaction.committed ≡ true)
        facts = committed_with event job after commit once e

        plan : IsPlanOf job.content after.actor.start after.actor.answers after.actor.transaction.writes
        plan = subst (λ c. IsPlanOf c after.actor.start after.actor.answers after.actor.transaction.writes) content (plan_of after is facts.2)

        either : CommitsAmong rows job.actor rows' after.actor others ⊎ SameReading rows rows' → AreUntouched rows' time its
        either (inr same) = alike same
        either (inl c) = untouched_by_commit c.number c.at c.by others c.write c.commit rows rows' after.actor.answers job.content told_of known time its told_its c.is c.may c.before c.after
            (subst (λ ws. IsPlanOf job.content c.by.start after.actor.answers ws) c.writes (subst (λ s. IsPlanOf job.content s after.actor.answers after.actor.transaction.writes) c.start plan))
            (subst (λ s. Reads rows' s after.actor.answers) c.start reads) has told_content told_other valid (λ same. differs (same ∙ sym c.start)) none untouched

-- ---- its own job

pub own_known : (job after : Job) (event : JobEvent) (number : ℕ) (rows : Rows) (number' : ℕ) (rows' : Rows) (others : List Actor) (moves : List Move) (known : told.Job) → CommitsOnce job event after → IsJob after → after.content ≡ job.content → after.actor.start ≡ job.actor.start → ReadsOne job after ⊎ PrewritesOne job after →
    Makes moves number rows job.actor number' rows' after.actor → IsConsistent (record { number = number; rows = rows; actors = job.actor ∷ others }) → IsKnown rows job known → IsKnown rows' after (told.grown known (commit_told event) 1)
own_known job after event number rows number' rows' others moves known once its content start one makes consistent is = record {
  start = is.start ∙ sym start;
  content = told_of;
  is_committed = committed_is (commit_told event) refl;
  is = its;
  answers = answers one;
  prewritten = prewritten one;
  held = λ undone met. moves_keep_own moves number rows job.actor number' rows' after.actor others makes consistent undone (is.held (before undone) met);
  untouched = λ undone rival. subst (AreUntouched rows' after.actor.start) (sym content) (subst (λ s. AreUntouched rows' s job.content) (sym start)
      (untouched_alike rows rows' job.actor.start job.content (moves_read_alike moves number rows job.actor number' rows' after.actor others makes consistent (undone ∙ sym (before undone))) (is.untouched (before undone) rival)));
}
  where
    told_of : IsContentOf after.content known.content
    told_of = subst (λ c. IsContentOf c known.content) (sym content) is.content

    or_false : (b : Bool) → (b || false) ≡ b
    or_false true = refl
    or_false false = refl

    or_true : (b : Bool) → (b || true) ≡ true
    or_true true = refl
    or_true false = refl

    committed_is : (commit : Option ℕ) → commit_told event ≡ commit → (known.is_committed || is_some (commit_told event)) ≡ after.actor.transaction.committed
    committed_is None e = ap (λ c. known.is_committed || is_some c) e ∙ or_false known.is_committed ∙ is.is_committed ∙ sym (committed_same event job after once e)
    committed_is (Some commit) e = ap (λ c. known.is_committed || is_some c) e ∙ or_true known.is_committed ∙ sym (committed_with event job after commit once e).2

    before : after.actor.transaction.committed ≡ false → job.actor.transaction.committed ≡ false
    before undone = by job.actor.transaction.committed refl
      where
        by : (b : Bool) → job.actor.transaction.committed ≡ b → job.actor.transaction.committed ≡ false
        by true e = absurd (let clash : true ≡ false = sym (stays_committed moves number rows job.actor number' rows' after.actor makes e) ∙ undone in cc)
        by false e = e

    answers : ReadsOne job after ⊎ PrewritesOne job after → length after.actor.answers ≤ known.steps + 1
    answers (inl reads) = let more = reads.answers in let few = is.answers in omega arith
    answers (inr prewrites) = let same = ap length prewrites.answers in let few = is.answers in omega (arith, same, few)

    prewritten : ReadsOne job after ⊎ PrewritesOne job after → 1 ≤ after.actor.transaction.prewritten → told.first_of known.content ≤ known.steps + 1
    prewritten (inl reads) some = let was : told.first_of known.content ≤ known.steps = is.prewritten (let same = reads.prewritten in omega (arith, same, some)) in omega (arith, was)
    prewritten (inr prewrites) some = first_step after known.content known.steps its told_of (let same = ap length prewrites.answers in let le = is.answers in omega (arith, same, le)) some
