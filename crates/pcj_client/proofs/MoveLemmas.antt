-- What a job's step is to others, and how far it goes.
use Rattle.std.proofs.Common.{◌≡◌, ◌⊎◌, ◌≤◌, ◌+◌, inl, inr, ℕ, List, [], ◌∷◌, ◌++◌, length, Option, refl, ap, sym, subst, ◌∙◌, arith}
use Rattle.pcj_table.specs.Table.{Table, row_at}
use Rattle.pcj_table.specs.declared.write.Write.{Write}
use Rattle.pcj_oracle.specs.Clock.{next_number}
use Rattle.pcj_oracle.specs.Draw.{Keeps}
use Rattle.pcj_oracle.specs.declared.block.Block.{Block}
use Rattle.pcj_moves.specs.declared.answer.Answer.{Answer}
use Rattle.pcj_moves.specs.Actors.{Actor}
use Rattle.pcj_moves.specs.Moves.{Makes, Move, Plan}
use Rattle.pcj_moves.specs.Transactions.{Transaction}
use Rattle.pcj_txn.specs.Progress.{Progress as TxnProgress, new_progress as new_txn}
use Rattle.pcj_txn.specs.Steps as steps
use Rattle.pcj_txn.specs.Steps.{Steps as TxnSteps}
use Rattle.pcj_txn.specs.declared.event.TxnEvent.{TxnEvent}
use Rattle.pcj_txn.specs.declared.event.TxnEvent.TheVariants as txn
use Rattle.pcj_recover.specs.declared.event.RecoveryEvent.{RecoveryEvent}
use Rattle.pcj_recover.specs.declared.event.RecoveryEvent.TheVariants as recovery
use Rattle.pcj_actor.specs.StepLaws.{state_of}
use Rattle.pcj_actor.specs.declared.event.ActorEvent.{ActorEvent}
use Rattle.pcj_actor.specs.declared.event.ActorEvent.TheVariants as event
use Rattle.pcj_actor.specs.declared.task.Task.TheVariants.{Write as Writes}
use Rattle.pcj_actor.specs.Progress.{AreStepMoves, Carries, IsDrawing as ActorDraws, Progress, Tells, transaction_of, with_recovered, with_task}
use Rattle.pcj_actor.proofs.ActorLemmas.{makes_then}
use Rattle.pcj_fit.specs.Laws.{AreSteady}
use Rattle.pcj_duties.specs.Observers.{EndsNoExport}
use Rattle.pcj_fit.specs.Sound.{Sound}
use Rattle.pcj_client.specs.Job.{Content, GoesOn, Job, job_of, writing_of}
use Rattle.pcj_client.specs.Events.{HasMoved, IsDrawing, PrewritesOne, ReadsOne, StepsOn, WriteClockAlone}
use Rattle.pcj_client.proofs.SoundLemmas.{IsQuiet, IsWorking, no_plain, steady}

-- ---- its moves

clock_alone : (moves : List Move) → AreSteady moves → WriteClockAlone moves
clock_alone [] steady = tt
clock_alone (move ∷ moves) steady = (steady.1, clock_alone moves steady.2)

then_plans : (moves : List Move) (writes : List Write) → EndsNoExport writes → WriteClockAlone moves → WriteClockAlone (moves ++ Plan writes ∷ [])
then_plans [] writes none clock = (none, tt)
then_plans (move ∷ moves) writes none clock = (clock.0, then_plans moves writes none clock.1)

-- a step that fails moves nothing
pub nothing_moved : (job : Job) (oracle oracle' : Option Block) (table table' : Table) → Keeps oracle table oracle' table' → HasMoved job oracle table job oracle' table'
nothing_moved job oracle oracle' table table' kept = record { moves = []; clock = tt; makes = (kept.next, ap row_at kept.same, refl) }

pub step_moves : (before after done : Progress) (oracle oracle' : Option Block) (table table' : Table) (content : Content) → IsWorking before → Carries before oracle table after oracle' table' → GoesOn after done → IsWorking done →
    (others : List Actor) → Sound (state_of oracle table (before.actor ∷ others)) → HasMoved (job_of before content) oracle table (job_of done content) oracle' table'
step_moves before after done oracle oracle' table table' content work carries goes end others sound = by goes
  where
    moved : (moves : List Move) × AreStepMoves before.task moves × Makes moves (next_number oracle table) (row_at table) before.actor (next_number oracle' table') (row_at table') after.actor
    moved = carries others (no_plain before (row_at table) work) sound.consistent

    clock : (moves : List Move) → AreStepMoves before.task moves → WriteClockAlone moves
    clock moves (inl read) = subst WriteClockAlone (sym read.2) (tt, tt)
    clock moves (inr all) = clock_alone moves (steady before moves work all)

    by : GoesOn after done → HasMoved (job_of before content) oracle table (job_of done content) oracle' table'
    by (inl same) = record {
      moves = moved.0;
      clock = clock moved.0 moved.1;
      makes = subst (λ (p : Progress). Makes moved.0 (next_number oracle table) (row_at table) before.actor (next_number oracle' table') (row_at table') p.actor) (sym same) moved.2;
    }
    by (inr begins) = record {
      moves = moved.0 ++ Plan begins.0 ∷ [];
      clock = then_plans moved.0 begins.0 (subst (λ (p : Progress). EndsNoExport p.actor.transaction.writes) begins.3 end.ends_none) (clock moved.0 moved.1);
      makes = makes_then moved.0 (Plan begins.0 ∷ []) (next_number oracle table) (row_at table) before.actor (next_number oracle' table') (row_at table') after.actor (next_number oracle' table') (row_at table') done.actor moved.2
          ((begins.1, begins.2), (refl, refl, ap (λ (p : Progress). p.actor) begins.3));
    }

-- ---- how far it goes

more_answers : (answers : List Answer) (answer : Answer) → length (answers ++ answer ∷ []) ≤ length answers + 1
more_answers [] answer = omega arith
more_answers (other ∷ answers) answer = let le = more_answers answers answer in omega arith

-- nothing is read or prewritten
pub stays : (old new : Job) → new.actor.start ≡ old.actor.start → new.actor.transaction.prewritten ≡ old.actor.transaction.prewritten → new.actor.answers ≡ old.actor.answers → StepsOn old new
stays old new start prewritten answers = record { start = start; one = inl (record { prewritten = prewritten; answers = let e = ap length answers in omega arith }) }

txn_on : (old new : Job) (before : TxnProgress) (oracle : Option Block) (table : Table) (told : TxnEvent) (after : TxnProgress) (oracle' : Option Block) (table' : Table) → TxnSteps before oracle table told after oracle' table' → old.actor.transaction ≡ before.transaction → new.actor.transaction ≡ after.transaction →
    new.actor.start ≡ old.actor.start → new.actor.answers ≡ old.actor.answers → StepsOn old new
txn_on old new before oracle table told after oracle' table' does was is start answers = by told does
  where
    same : after.transaction.prewritten ≡ before.transaction.prewritten → StepsOn old new
    same e = stays old new start (ap (λ t. t.prewritten) is ∙ e ∙ sym (ap (λ t. t.prewritten) was)) answers

    commits : (commit : ℕ) → steps.CommitsPrimary before table commit after table' ⊎ steps.CommitsNone before table commit after table' → after.transaction.prewritten ≡ before.transaction.prewritten
    commits commit (inl some) = ap (λ (p : TxnProgress). p.transaction.prewritten) some.next
    commits commit (inr none) = ap (λ (p : TxnProgress). p.transaction.prewritten) none.next

    by : (e : TxnEvent) → TxnSteps before oracle table e after oracle' table' → StepsOn old new
    by txn.Prewrote steps = record {
      start = start;
      one = inr (record { prewritten = (let e = ap (λ (p : TxnProgress). p.transaction.prewritten) (steps.0).next in let w = ap (λ t. t.prewritten) was in let n = ap (λ t. t.prewritten) is in omega arith); answers = answers });
    }
    by (txn.MetLock key lock) steps = same (ap (λ (p : TxnProgress). p.transaction.prewritten) (steps.1).progress)
    by (txn.Conflict key commit) steps = same (ap (λ (p : TxnProgress). p.transaction.prewritten) (steps.1).progress)
    by (txn.DrewCommit commit) steps = same (ap (λ (p : TxnProgress). p.transaction.prewritten) steps.next)
    by (txn.Committed commit) steps = same (commits commit steps.0)
    by (txn.PrimaryLost row) steps = same (ap (λ (p : TxnProgress). p.transaction.prewritten) (steps.1).progress)
    by txn.SecondaryDone steps = same (ap (λ (p : TxnProgress). p.transaction.prewritten) steps.1)
    by txn.Done steps = same (ap (λ (p : TxnProgress). p.transaction.prewritten) (steps.1).progress)

-- by the actor's step alone
actor_on : (before after : Progress) (oracle oracle' : Option Block) (table table' : Table) (told : ActorEvent) (content : Content) → IsWorking before →
    Tells before oracle table told after oracle' table' → StepsOn (job_of before content) (job_of after content)
actor_on before after oracle oracle' table table' event.Rests content work tells =
    stays (job_of before content) (job_of after content) (ap (λ (p : Progress). p.actor.start) tells.1) (ap (λ (p : Progress). p.actor.transaction.prewritten) tells.1) (ap (λ (p : Progress). p.actor.answers) tells.1)
actor_on before after oracle oracle' table table' event.Answered content work tells = record {
  start = ap (λ (p : Progress). p.actor.start) (tells.0).next;
  one = inl (record {
    prewritten = ap (λ (p : Progress). p.actor.transaction.prewritten) (tells.0).next;
    answers = subst (λ (p : Progress). length p.actor.answers ≤ length before.actor.answers + 1) (sym (tells.0).next) (more_answers before.actor.answers (tells.0).answer);
  });
}
actor_on before after oracle oracle' table table' event.Met content work tells =
    stays (job_of before content) (job_of after content) (ap (λ (p : Progress). p.actor.start) (tells.0).next) (ap (λ (p : Progress). p.actor.transaction.prewritten) (tells.0).next) (ap (λ (p : Progress). p.actor.answers) (tells.0).next)
actor_on before after oracle oracle' table table' (event.Recovers told) content work tells =
    subst (λ (p : Progress). StepsOn (job_of before content) (job_of p content)) (sym (tells.0).next) (by told)
  where
    by : (e : RecoveryEvent) → StepsOn (job_of before content) (job_of (with_recovered before e (tells.0).after) content)
    by recovery.Working = stays (job_of before content) (job_of (with_recovered before recovery.Working (tells.0).after) content) refl refl refl
    by recovery.RolledForward = stays (job_of before content) (job_of (with_recovered before recovery.RolledForward (tells.0).after) content) refl refl refl
    by recovery.RolledBack = stays (job_of before content) (job_of (with_recovered before recovery.RolledBack (tells.0).after) content) refl refl refl
actor_on before after oracle oracle' table table' (event.Put applied) content work tells = absurd (subst IsQuiet (tells.0).is work.quiet)
actor_on before after oracle oracle' table table' (event.Writes told) content work tells =
    txn_on (job_of before content) (job_of after content) tells.before oracle table told tells.after oracle' table' tells.steps (work.transaction ∙ ap transaction_of tells.is) (ap (λ (p : Progress). p.actor.transaction) tells.next)
    (ap (λ (p : Progress). p.actor.start) tells.next) (ap (λ (p : Progress). p.actor.answers) tells.next)

-- the beginning of the writes reads and prewrites nothing
pub step_on : (before after done : Progress) (oracle oracle' : Option Block) (table table' : Table) (told : ActorEvent) (content : Content) → IsWorking before →
    Tells before oracle table told after oracle' table' → GoesOn after done → StepsOn (job_of before content) (job_of done content)
step_on before after done oracle oracle' table table' told content work tells goes = by goes
  where
    first : StepsOn (job_of before content) (job_of after content)
    first = actor_on before after oracle oracle' table table' told content work tells

    by : GoesOn after done → StepsOn (job_of before content) (job_of done content)
    by (inl same) = subst (λ (p : Progress). StepsOn (job_of before content) (job_of p content)) (sym same) first
    by (inr begins) = subst (λ (p : Progress). StepsOn (job_of before content) (job_of p content)) (sym begins.3) (begun first.one)
      where
        none : after.actor.transaction.prewritten ≡ 0
        none = ap (λ (t : Transaction). t.prewritten) begins.1

        begun : ReadsOne (job_of before content) (job_of after content) ⊎ PrewritesOne (job_of before content) (job_of after content) → StepsOn (job_of before content) (job_of (with_task after (Writes (new_txn after.actor.start begins.0))) content)
        begun (inl reads) = record { start = first.start; one = inl (record { prewritten = sym none ∙ reads.prewritten; answers = reads.answers }) }
        begun (inr prewrites) = absurd (let one = prewrites.prewritten in let e = none in omega arith)

-- ---- a draw

pub draws : (before asked : Progress) (content : Content) (old : Job) → writing_of asked.task ≡ writing_of before.task → job_of before content ≡ old → ActorDraws asked.task → IsDrawing old
draws before asked content old writing view drawing = (drawing.0, sym (ap (λ (j : Job). j.writing) view) ∙ sym writing ∙ ap writing_of drawing.1, drawing.2)
