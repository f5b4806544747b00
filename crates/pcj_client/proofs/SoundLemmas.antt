-- What a job's step leaves of all who are at work, and of what the table has.
use Rattle.std.proofs.Common.{◌≡◌, ◌⊎◌, inl, inr, ℕ, Bool, true, false, is_some, List, [], ◌∷◌, Option, Some, None, refl, ap, sym, subst, ◌∙◌, arith, if◌then◌else◌}
use Rattle.pcj_table.specs.Table.{Key, Table, row_at}
use Rattle.pcj_table.specs.declared.plain.Plain.{Plain}
use Rattle.pcj_oracle.specs.Clock.{clock_key, next_number}
use Rattle.pcj_oracle.specs.declared.block.Block.{Block}
use Rattle.pcj_mvcc.specs.Reading.{Rows}
use Rattle.pcj_moves.specs.declared.answer.Answer.{Answer}
use Rattle.pcj_moves.specs.Actors.{Actor}
use Rattle.pcj_moves.specs.Moves.{CommitNothing, CommitPrimary, CommitSecondary, Draw, DropPrimary, EndRecovery, Learn, Makes, Meet, Move, Plan, Prewrite, Read, RollBack, RollForward, WritePlain}
use Rattle.pcj_txn.specs.Progress.{Progress as TxnProgress}
use Rattle.pcj_txn.specs.Steps as steps
use Rattle.pcj_txn.specs.Steps.{Steps as TxnSteps}
use Rattle.pcj_txn.specs.declared.event.TxnEvent.{TxnEvent}
use Rattle.pcj_txn.specs.declared.event.TxnEvent.TheVariants as txn
use Rattle.pcj_actor.specs.StepLaws.{state_of}
use Rattle.pcj_actor.specs.declared.event.ActorEvent.{ActorEvent}
use Rattle.pcj_actor.specs.declared.event.ActorEvent.TheVariants as event
use Rattle.pcj_actor.specs.declared.task.Task.{Task}
use Rattle.pcj_actor.specs.declared.task.Task.TheVariants.{Rest, Get, Next, Put, Write as Writes}
use Rattle.pcj_actor.specs.Progress.{AreAllStepMoves, AreStepMoves, Carries, IsAnswerOf, IsReading, IsStepMove, MayWritePlain, Progress, MakesUpTo, ReadsNoPlain, Tells, calls_of, is_recovery, task_calls, transaction_of}
use Rattle.pcj_actor.proofs.TxnLemmas.{none_due, primary_due}
use Rattle.pcj_fit.specs.Laws.{AreSteady}
use Rattle.pcj_fit.specs.Sound.{IsPlanned, Sound}
use Rattle.pcj_duties.specs.Observers.{EndsNoExport}
use Rattle.pcj_fit.proofs.SoundLemmas.{clock_line, move_is_sound}
use Rattle.pcj_fit.proofs.StepLemmas.{step_is_sound}
use Rattle.pcj_client.specs.Job.{Content, GoesOn, Job, Loads, job_of, writing_of}
use Rattle.pcj_client.specs.Events.{CommitsOnce, IsTold, event_of, job_calls, job_event, writing_calls}
use Rattle.pcj_client.specs.declared.event.JobEvent.{JobEvent}
use Rattle.pcj_client.specs.declared.event.JobEvent.TheVariants as job

-- ---- a job at work

-- what it carries out is neither a range nor a plain value
abbrev pub IsQuiet : Task → Type 0
IsQuiet Rest = Unit {0}
IsQuiet (Get key) = Unit {0}
IsQuiet (Next range) = ⊥
IsQuiet (Put key plain) = ⊥
IsQuiet (Writes txn) = Unit {0}

-- what jobs of either kind have in common
pub record IsWorking (progress : Progress) : Type 0 where
  pub transaction : progress.actor.transaction ≡ transaction_of progress.task
  pub quiet : IsQuiet progress.task
  pub planned : IsPlanned progress.actor
  pub ends_none : EndsNoExport progress.actor.transaction.writes

nothing_read : (task : Task) → IsReading task → (transaction_of task).writes ≡ []
nothing_read Rest reading = absurd reading
nothing_read (Get key) reading = refl
nothing_read (Next range) reading = refl
nothing_read (Put key plain) reading = absurd reading
nothing_read (Writes progress) reading = absurd reading

pub no_plain : (progress : Progress) (rows : Rows) → IsWorking progress → ReadsNoPlain progress.task rows
no_plain progress rows work = by progress.task work.quiet
  where
    by : (task : Task) → IsQuiet task → ReadsNoPlain task rows
    by Rest at = tt
    by (Get key) at = tt
    by (Next range) at = absurd at
    by (Put key plain) at = tt
    by (Writes txn) at = tt

-- ---- the moves of a step

puts_nothing : (progress : Progress) (key : Key) (plain : Plain) → IsWorking progress → MayWritePlain progress.task key plain → (key ≡ clock_key) × (plain.value ≡ Some [])
puts_nothing progress key plain work may = by may
  where
    by : ((key ≡ clock_key) × (plain.value ≡ Some [])) ⊎ (progress.task ≡ Put key plain) → (key ≡ clock_key) × (plain.value ≡ Some [])
    by (inl clock) = clock
    by (inr puts) = absurd (subst IsQuiet puts work.quiet)

pub steady : (progress : Progress) (moves : List Move) → IsWorking progress → AreAllStepMoves progress.task moves → AreSteady moves
steady progress [] work all = tt
steady progress (Plan new ∷ moves) work all = absurd all.0
steady progress (Prewrite write ∷ moves) work all = (refl, tt, steady progress moves work all.1)
steady progress (Draw commit ∷ moves) work all = (refl, tt, steady progress moves work all.1)
steady progress (CommitPrimary write commit ∷ moves) work all = (refl, tt, steady progress moves work all.1)
steady progress (CommitSecondary write commit ∷ moves) work all = (refl, tt, steady progress moves work all.1)
steady progress (CommitNothing commit ∷ moves) work all = (refl, tt, steady progress moves work all.1)
steady progress (Read answer ∷ moves) work all = absurd all.0
steady progress (Meet key lock ∷ moves) work all = (refl, tt, steady progress moves work all.1)
steady progress (Learn recovery ∷ moves) work all = (refl, tt, steady progress moves work all.1)
steady progress (DropPrimary recovery ∷ moves) work all = (refl, tt, steady progress moves work all.1)
steady progress (RollBack recovery ∷ moves) work all = (refl, tt, steady progress moves work all.1)
steady progress (RollForward recovery commit ∷ moves) work all = (refl, tt, steady progress moves work all.1)
steady progress (EndRecovery ∷ moves) work all = (refl, tt, steady progress moves work all.1)
steady progress (WritePlain key plain ∷ moves) work all = (refl, puts_nothing progress key plain work all.0, steady progress moves work all.1)

-- the actor's step, whoever the others are
pub stepped_sound : (before after : Progress) (oracle oracle' : Option Block) (table table' : Table) → IsWorking before → Carries before oracle table after oracle' table' →
    (others : List Actor) → Sound (state_of oracle table (before.actor ∷ others)) → Sound (state_of oracle' table' (after.actor ∷ others))
stepped_sound before after oracle oracle' table table' work carries others sound = by moved.1
  where
    moved : (moves : List Move) × AreStepMoves before.task moves × Makes moves (next_number oracle table) (row_at table) before.actor (next_number oracle' table') (row_at table') after.actor
    moved = carries others (no_plain before (row_at table) work) sound.consistent

    by : ((answer : Answer) × IsReading before.task × (moved.0 ≡ Read answer ∷ [])) ⊎ AreAllStepMoves before.task moved.0 → Sound (state_of oracle' table' (after.actor ∷ others))
    by (inl read) =
        let makes = subst (λ ms. Makes ms (next_number oracle table) (row_at table) before.actor (next_number oracle' table') (row_at table') after.actor) read.2 moved.2 in
        let none : before.actor.transaction.writes ≡ [] = ap (λ t. t.writes) work.transaction ∙ nothing_read before.task read.1 in
        let here = move_is_sound (next_number oracle table) (row_at table) before.actor others (Read read.0) makes.0 tt (inl none) sound in
        subst (λ n. Sound (record { number = n; rows = row_at table'; actors = after.actor ∷ others })) (sym (makes.1).0)
        (subst (λ r. Sound (record { number = next_number oracle table; rows = r; actors = after.actor ∷ others })) (sym (makes.1).1)
        (subst (λ a. Sound (record { number = next_number oracle table; rows = row_at table; actors = a ∷ others })) (sym (makes.1).2) here))
    by (inr all) = step_is_sound moved.0 (next_number oracle table) (row_at table) before.actor (next_number oracle' table') (row_at table') after.actor others (steady before moved.0 work all) moved.2 sound

-- ---- the step of the job

pub step_keeps_sound : (before after done : Progress) (oracle oracle' : Option Block) (table table' : Table) → IsWorking before → Carries before oracle table after oracle' table' → GoesOn after done → IsWorking done → (others : List Actor) → Sound (state_of oracle table (before.actor ∷ others)) → Sound (state_of oracle' table' (done.actor ∷ others))
step_keeps_sound before after done oracle oracle' table table' work carries goes end others sound = by goes
  where
    here : Sound (state_of oracle' table' (after.actor ∷ others))
    here = stepped_sound before after oracle oracle' table table' work carries others sound

    by : GoesOn after done → Sound (state_of oracle' table' (done.actor ∷ others))
    by (inl same) = subst (λ (p : Progress). Sound (state_of oracle' table' (p.actor ∷ others))) (sym same) here
    by (inr begins) = subst (λ (p : Progress). Sound (state_of oracle' table' (p.actor ∷ others))) (sym begins.3)
        (move_is_sound (next_number oracle' table') (row_at table') after.actor others (Plan begins.0) (begins.1, begins.2)
        (clock_line (row_at table') after.actor (Plan begins.0) (subst (λ (p : Progress). EndsNoExport p.actor.transaction.writes) begins.3 end.ends_none))
        (subst (λ (p : Progress). IsPlanned p.actor) begins.3 end.planned) here)

-- ---- what is committed

txn_commits_once : (old : TxnProgress) (oracle : Option Block) (table : Table) (told : TxnEvent) (new : TxnProgress) (oracle' : Option Block) (table' : Table) → TxnSteps old oracle table told new oracle' table' → (before after : Job) →
    before.actor.transaction ≡ old.transaction → after.actor.transaction ≡ new.transaction → CommitsOnce before (job_event told) after
txn_commits_once old oracle table txn.Prewrote new oracle' table' does before after was is = ap (λ t. t.committed) is ∙ ap (λ (p : TxnProgress). p.transaction.committed) (does.0).next ∙ ap (λ t. t.committed) (sym was)
txn_commits_once old oracle table (txn.MetLock key lock) new oracle' table' does before after was is = ap (λ t. t.committed) is ∙ ap (λ (p : TxnProgress). p.transaction.committed) (does.1).progress ∙ ap (λ t. t.committed) (sym was)
txn_commits_once old oracle table (txn.Conflict key commit) new oracle' table' does before after was is = ap (λ t. t.committed) is ∙ ap (λ (p : TxnProgress). p.transaction.committed) (does.1).progress ∙ ap (λ t. t.committed) (sym was)
txn_commits_once old oracle table (txn.DrewCommit commit) new oracle' table' does before after was is = ap (λ t. t.committed) is ∙ ap (λ (p : TxnProgress). p.transaction.committed) does.next ∙ ap (λ t. t.committed) (sym was)
txn_commits_once old oracle table (txn.Committed commit) new oracle' table' does before after was is = by does.0
  where
    by : steps.CommitsPrimary old table commit new table' ⊎ steps.CommitsNone old table commit new table' → (before.actor.transaction.commit ≡ Some commit) × (before.actor.transaction.committed ≡ false) × (after.actor.transaction.committed ≡ true)
    by (inl some) =
        let its = primary_due old.transaction.writes old.transaction.prewritten old.transaction.commit old.transaction.committed old.settled some.write commit some.due in
        (ap (λ t. t.commit) was ∙ its.1, ap (λ t. t.committed) was ∙ its.2, ap (λ t. t.committed) is ∙ ap (λ (p : TxnProgress). p.transaction.committed) some.next)
    by (inr none) =
        let its = none_due old.transaction.writes old.transaction.prewritten old.transaction.commit old.transaction.committed old.settled commit none.due in
        (ap (λ t. t.commit) was ∙ its.1, ap (λ t. t.committed) was ∙ its.2, ap (λ t. t.committed) is ∙ ap (λ (p : TxnProgress). p.transaction.committed) none.next)
txn_commits_once old oracle table (txn.PrimaryLost row) new oracle' table' does before after was is = ap (λ t. t.committed) is ∙ ap (λ (p : TxnProgress). p.transaction.committed) (does.1).progress ∙ ap (λ t. t.committed) (sym was)
txn_commits_once old oracle table txn.SecondaryDone new oracle' table' does before after was is = ap (λ t. t.committed) is ∙ ap (λ (p : TxnProgress). p.transaction.committed) does.1 ∙ ap (λ t. t.committed) (sym was)
txn_commits_once old oracle table txn.Done new oracle' table' does before after was is = ap (λ t. t.committed) is ∙ ap (λ (p : TxnProgress). p.transaction.committed) (does.1).progress ∙ ap (λ t. t.committed) (sym was)

-- by the actor's step alone
stepped_once : (before after : Progress) (oracle oracle' : Option Block) (table table' : Table) (told : ActorEvent) (content : Content) → IsWorking before → Tells before oracle table told after oracle' table' → CommitsOnce (job_of before content) (event_of told) (job_of after content)
stepped_once before after oracle oracle' table table' event.Rests content work tells = ap (λ (p : Progress). p.actor.transaction.committed) tells.1
stepped_once before after oracle oracle' table table' event.Answered content work tells = ap (λ (p : Progress). p.actor.transaction.committed) (tells.0).next
stepped_once before after oracle oracle' table table' event.Met content work tells = ap (λ (p : Progress). p.actor.transaction.committed) (tells.0).next
stepped_once before after oracle oracle' table table' (event.Recovers told) content work tells = ap (λ (p : Progress). p.actor.transaction.committed) (tells.0).next ∙ same told
  where
    same : (e : _) → (Rattle.pcj_actor.specs.Progress.with_recovered before e (tells.0).after).actor.transaction.committed ≡ before.actor.transaction.committed
    same Rattle.pcj_recover.specs.declared.event.RecoveryEvent.TheVariants.Working = refl
    same Rattle.pcj_recover.specs.declared.event.RecoveryEvent.TheVariants.RolledForward = refl
    same Rattle.pcj_recover.specs.declared.event.RecoveryEvent.TheVariants.RolledBack = refl
stepped_once before after oracle oracle' table table' (event.Put applied) content work tells = absurd (subst IsQuiet (tells.0).is work.quiet)
stepped_once before after oracle oracle' table table' (event.Writes told) content work tells =
    txn_commits_once tells.before oracle table told tells.after oracle' table' tells.steps (job_of before content) (job_of after content)
    (work.transaction ∙ ap transaction_of tells.is) (ap (λ (p : Progress). p.actor.transaction) tells.next)

-- the beginning of the writes commits nothing
goes_on_once : (told : JobEvent) (before after done : Progress) (content : Content) → GoesOn after done → CommitsOnce (job_of before content) told (job_of after content) → CommitsOnce (job_of before content) told (job_of done content)
goes_on_once told before after done content goes once = with_same told once
  where
    same : GoesOn after done → done.actor.transaction.committed ≡ after.actor.transaction.committed
    same (inl is) = ap (λ (p : Progress). p.actor.transaction.committed) is
    same (inr begins) = ap (λ (p : Progress). p.actor.transaction.committed) begins.3 ∙ sym (ap (λ t. t.committed) begins.1)

    with_same : (e : JobEvent) → CommitsOnce (job_of before content) e (job_of after content) → CommitsOnce (job_of before content) e (job_of done content)
    with_same job.Worked is = same goes ∙ is
    with_same (job.Committed commit) is = (is.0, is.1, same goes ∙ is.2)
    with_same job.Done is = same goes ∙ is
    with_same job.Aborted is = same goes ∙ is
    with_same job.Taken is = same goes ∙ is

pub step_commits_once : (before after done : Progress) (oracle oracle' : Option Block) (table table' : Table) (told : ActorEvent) (content : Content) → IsWorking before → Tells before oracle table told after oracle' table' → GoesOn after done →
    CommitsOnce (job_of before content) (event_of told) (job_of done content)
step_commits_once before after done oracle oracle' table table' told content work tells goes =
    goes_on_once (event_of told) before after done content goes (stepped_once before after oracle oracle' table table' told content work tells)

-- ---- what the table has

-- what holds of the rows after a step: what did before, or, with the commit, something else
abbrev pub Changed : (Rows → Type 0) → (Rows → Type 0) → JobEvent → Rows → Type 0
Changed P Q job.Worked rows = P rows
Changed P Q (job.Committed commit) rows = Q rows
Changed P Q job.Done rows = P rows
Changed P Q job.Aborted rows = P rows
Changed P Q job.Taken rows = ⊥

-- the moves of the step, where they read nothing
abbrev pub Moved : Progress → Option Block → Table → Progress → Option Block → Table → List Move → Type 0
Moved before oracle table after oracle' table' moves = AreSteady moves × Makes moves (next_number oracle table) (row_at table) before.actor (next_number oracle' table') (row_at table') after.actor

pub step_changes : (P Q : Rows → Type 0) (before after : Progress) (oracle oracle' : Option Block) (table table' : Table) (told : ActorEvent) (others : List Actor) → IsWorking before → Tells before oracle table told after oracle' table' → Carries before oracle table after oracle' table' →
    Sound (state_of oracle table (before.actor ∷ others)) →
    ((moves : List Move) → Moved before oracle table after oracle' table' moves → after.actor.transaction.committed ≡ before.actor.transaction.committed → P (row_at table) → P (row_at table')) →
    ((moves : List Move) (txn : TxnProgress) → before.task ≡ Writes txn → Moved before oracle table after oracle' table' moves → before.actor.transaction.committed ≡ false → after.actor.transaction.committed ≡ true → P (row_at table) → Q (row_at table')) →
    P (row_at table) → Changed P Q (event_of told) (row_at table')
step_changes P Q before after oracle oracle' table table' told others work tells carries sound leaves adds has =
    by told tells (stepped_once before after oracle oracle' table table' told (Loads []) work tells)
  where
    moved : (moves : List Move) × AreStepMoves before.task moves × Makes moves (next_number oracle table) (row_at table) before.actor (next_number oracle' table') (row_at table') after.actor
    moved = carries others (no_plain before (row_at table) work) sound.consistent

    same : after.actor.transaction.committed ≡ before.actor.transaction.committed → P (row_at table')
    same is = all moved.1
      where
        all : ((answer : Answer) × IsReading before.task × (moved.0 ≡ Read answer ∷ [])) ⊎ AreAllStepMoves before.task moved.0 → P (row_at table')
        all (inl read) =
            let makes = subst (λ ms. Makes ms (next_number oracle table) (row_at table) before.actor (next_number oracle' table') (row_at table') after.actor) read.2 moved.2 in
            subst P (sym (makes.1).1) has
        all (inr steps) = leaves moved.0 (steady before moved.0 work steps, moved.2) is has

    more : (txn : TxnProgress) → before.task ≡ Writes txn → before.actor.transaction.committed ≡ false → after.actor.transaction.committed ≡ true → Q (row_at table')
    more txn is undone done = all moved.1
      where
        all : ((answer : Answer) × IsReading before.task × (moved.0 ≡ Read answer ∷ [])) ⊎ AreAllStepMoves before.task moved.0 → Q (row_at table')
        all (inl read) = absurd (subst IsReading is read.1)
        all (inr steps) = adds moved.0 txn is (steady before moved.0 work steps, moved.2) undone done has

    by_txn : (e : TxnEvent) → Tells before oracle table (event.Writes e) after oracle' table' → CommitsOnce (job_of before (Loads [])) (job_event e) (job_of after (Loads [])) → Changed P Q (job_event e) (row_at table')
    by_txn txn.Prewrote does once = same once
    by_txn (txn.MetLock key lock) does once = same once
    by_txn (txn.Conflict key commit) does once = same once
    by_txn (txn.DrewCommit commit) does once = same once
    by_txn (txn.Committed commit) does once = more does.before does.is once.1 once.2
    by_txn (txn.PrimaryLost row) does once = same once
    by_txn txn.SecondaryDone does once = same once
    by_txn txn.Done does once = same once

    by : (e : ActorEvent) → Tells before oracle table e after oracle' table' → CommitsOnce (job_of before (Loads [])) (event_of e) (job_of after (Loads [])) → Changed P Q (event_of e) (row_at table')
    by event.Rests does once = same once
    by event.Answered does once = same once
    by event.Met does once = same once
    by (event.Recovers e) does once = same once
    by (event.Put applied) does once = same once
    by (event.Writes e) does once = by_txn e does once

-- ---- what is told

same_recovery : (after done : Progress) → GoesOn after done → done.actor.recovery ≡ after.actor.recovery
same_recovery after done (inl is) = ap (λ (p : Progress). p.actor.recovery) is
same_recovery after done (inr begins) = ap (λ (p : Progress). p.actor.recovery) begins.3

none_of : {X : Type 0} (found : Option X) → false ≡ is_some found → found ≡ None
none_of None e = refl
none_of (Some x) e = absurd cc

-- nothing is carried out while a row is read
pub reads_nothing : (task : Task) (answer : Answer) → IsAnswerOf task answer → writing_of task ≡ None
reads_nothing Rest answer of = refl
reads_nothing (Get key) answer of = refl
reads_nothing (Next range) answer of = refl
reads_nothing (Put key plain) answer of = refl
reads_nothing (Writes txn) answer of = absurd of

pub none_recovers : (before : Progress) → false ≡ is_some before.actor.recovery → before.actor.recovery ≡ None
none_recovers before first = none_of before.actor.recovery first

-- a row was read, or nothing was to be carried out
abbrev pub has_read : ActorEvent → Bool
has_read event.Rests = true
has_read event.Answered = true
has_read event.Met = false
has_read (event.Recovers told) = false
has_read (event.Put applied) = false
has_read (event.Writes told) = false

-- else the job tells what its actor's step does
pub step_tells : (before after done : Progress) (oracle oracle' : Option Block) (table table' : Table) (told : ActorEvent) (content : Content) → IsWorking before → Tells before oracle table told after oracle' table' → is_recovery told ≡ is_some before.actor.recovery → GoesOn after done →
    has_read told ≡ false → IsTold (job_of before content) oracle table (event_of told) (job_of done content) oracle' table'
step_tells before after done oracle oracle' table table' event.Rests content work tells first goes read = absurd cc
step_tells before after done oracle oracle' table table' event.Answered content work tells first goes read = absurd cc
step_tells before after done oracle oracle' table table' event.Met content work tells first goes read = inl (
  refl,
  inr (inr (λ order. (
    (tells.0).key,
    (tells.0).lock,
    (tells.0).stands (order, no_plain before (row_at table) work),
    same_recovery after done goes ∙ ap (λ (p : Progress). p.actor.recovery) (tells.0).next,
  ))),
)
step_tells before after done oracle oracle' table table' (event.Recovers told) content work tells first goes read = inl (refl, inl (sym first))
step_tells before after done oracle oracle' table table' (event.Put applied) content work tells first goes read = absurd (subst IsQuiet (tells.0).is work.quiet)
step_tells before after done oracle oracle' table table' (event.Writes told) content work tells first goes read =
    inr (inl (none_of before.actor.recovery first, tells.before, ap writing_of tells.is, told, tells.after, tells.steps, refl))

-- what is asked for doesn't change what others see of the job
pub asks_nothing : (before asked : Progress) (content : Content) (old : Job) → asked.actor ≡ before.actor → writing_of asked.task ≡ writing_of before.task → asked.locked ≡ before.locked → job_of before content ≡ old → job_of asked content ≡ old
asks_nothing before asked content old actor writing locked view =
    ap (λ (a : Actor). made a (writing_of asked.task) asked.locked) actor ∙ ap (λ w. made before.actor w asked.locked) writing ∙ ap (λ l. made before.actor (writing_of before.task) l) locked ∙ view
  where
    made : Actor → Option TxnProgress → Bool → Job
    made a w l = record { actor = a; writing = w; locked = l; content = content }

-- ---- calls

pub step_calls_few : (asked : Progress) (content : Content) (oracle : Option Block) (table : Table) (before now : ℕ) (old : Job) → IsWorking asked → job_of asked content ≡ old →
    MakesUpTo (calls_of asked oracle table) before now → MakesUpTo (job_calls old oracle table) before now
step_calls_few asked content oracle table before now old work same made = subst (λ j. MakesUpTo (job_calls j oracle table) before now) same (by (is_some asked.actor.recovery) asked.task refl refl work.quiet made)
  where
    by : (b : Bool) (task : Task) → is_some asked.actor.recovery ≡ b → asked.task ≡ task → IsQuiet task → MakesUpTo (calls_of asked oracle table) before now → MakesUpTo (job_calls (job_of asked content) oracle table) before now
    by true task e is at calls = subst (λ b. MakesUpTo (if b then 1 else writing_calls (writing_of asked.task) oracle table) before now) (sym e)
        (subst (λ b. MakesUpTo (if b then 1 else task_calls asked.task oracle table) before now) e calls)
    by false task e is at calls = subst (λ b. MakesUpTo (if b then 1 else writing_calls (writing_of asked.task) oracle table) before now) (sym e)
        (subst (λ t. MakesUpTo (writing_calls (writing_of t) oracle table) before now) (sym is)
        (task_few task at (subst (λ t. MakesUpTo (task_calls t oracle table) before now) is (subst (λ b. MakesUpTo (if b then 1 else task_calls asked.task oracle table) before now) e calls))))
      where
        task_few : (t : Task) → IsQuiet t → MakesUpTo (task_calls t oracle table) before now → MakesUpTo (writing_calls (writing_of t) oracle table) before now
        task_few Rest at few = record { calls = few.calls; made = few.made; within = (let le = few.within in omega arith) }
        task_few (Get key) at few = few
        task_few (Next range) at few = absurd at
        task_few (Put key plain) at few = few
        task_few (Writes txn) at few = few
