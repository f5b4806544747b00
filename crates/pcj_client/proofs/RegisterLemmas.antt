-- What a registration begins, what its step leaves of what the table has, and what it tells.
use Rattle.std.proofs.Common.{◌≡◌, ◌≢◌, inl, inr, ℕ, ◌≤◌, Bool, true, false, not, is_some, List, [], ◌∷◌, ◌++◌, Option, Some, None, refl, ap, sym, subst, ◌∙◌, if◌then◌else◌}
use Rattle.std.specs.List.{All, Contains}
use Rattle.pcj_term.specs.declared.triple.Triple.{Triple}
use Rattle.pcj_term.proofs.ListLemmas.{first_there}
use Rattle.pcj_table.specs.Table.{Table, row_at}
use Rattle.pcj_table.specs.declared.write.Write.{Write}
use Rattle.pcj_encode.specs.declared.key_name.KeyName.TheVariants as row
use Rattle.pcj_encode.specs.Name.{IsRegistration, key_of}
use Rattle.pcj_tree.specs.declared.tree.Tree.{Tree}
use Rattle.pcj_oracle.specs.Clock.{next_number}
use Rattle.pcj_oracle.specs.declared.block.Block.{Block}
use Rattle.pcj_mvcc.specs.Reading.{Rows}
use Rattle.pcj_moves.specs.declared.answer.Answer.{Answer}
use Rattle.pcj_moves.specs.declared.answer.Answer.TheVariants.{OfRange, OfRow}
use Rattle.pcj_moves.specs.Actors.{Actor}
use Rattle.pcj_moves.specs.Transactions.{are_distinct, new_transaction}
use Rattle.pcj_txn.specs.Progress.{Progress as TxnProgress, new_progress as new_txn}
use Rattle.pcj_recover.specs.Progress.{Progress as RecoveryProgress}
use Rattle.pcj_recover.specs.declared.event.RecoveryEvent.{RecoveryEvent}
use Rattle.pcj_recover.specs.declared.event.RecoveryEvent.TheVariants.{RolledBack, RolledForward, Working}
use Rattle.pcj_actor.specs.StepLaws.{state_of}
use Rattle.pcj_actor.specs.declared.event.ActorEvent.{ActorEvent}
use Rattle.pcj_actor.specs.declared.event.ActorEvent.TheVariants as event
use Rattle.pcj_actor.specs.declared.task.Task.{Task}
use Rattle.pcj_actor.specs.declared.task.Task.TheVariants.{Rest, Get, Next, Put, Write as Writes}
use Rattle.pcj_actor.specs.Progress.{Carries, IsAnswerOf, IsOfStart, Progress, Tells, is_recovery, new_progress, transaction_of, with_held, with_recovered, with_task, with_txn}
use Rattle.pcj_moves.specs.Transactions.{write_at}
use Rattle.pcj_encode.specs.declared.task_name.TaskName.TheVariants as task_name
use Rattle.pcj_duties.specs.Observers.{EndsNoExport}
use Rattle.pcj_duties.proofs.PurposeLemmas.{register_ends_none}
use Rattle.pcj_rows.specs.Plans.{IsRegisterPlan, registration_writes}
use Rattle.pcj_fit.specs.Queries.{HasQueries, Registration, added}
use Rattle.pcj_fit.specs.QueryLaws.{registration_of}
use Rattle.pcj_rows.specs.Registrations.{IsQueryTree}
use Rattle.pcj_fit.specs.Sound.{IsPlanned, Sound}
use Rattle.pcj_rows.specs.Triples.{HasTriples}
use Rattle.pcj_fit.proofs.QueryLemmas.{read_names_are_known}
use Rattle.pcj_rows.proofs.RegisterLemmas.{registration_distinct}
use Rattle.pcj_fit.proofs.StepLemmas.{register_step_leaves_triples, step_adds_query, step_leaves_queries, step_leaves_triples}
use Rattle.pcj_client.specs.Begun.{MayBegin, begins, begun, left}
use Rattle.pcj_client.specs.Job.{Content, GoesOn, HasReadName, HasRegistered, IsRegisterJob, IsRegisterTask, IsRegistering, Registers, has_found, job_of, writing_of}
use Rattle.pcj_client.specs.Events.{CommitsOnce, IsNamed, IsTold, event_of, queries_after, register_event, triples_after}
use Rattle.pcj_client.specs.declared.event.JobEvent.{JobEvent}
use Rattle.pcj_client.specs.declared.event.JobEvent.TheVariants as job
use Rattle.pcj_client.proofs.StepLemmas.{txn_start_same, txn_writes_same}
use Rattle.pcj_client.proofs.SoundLemmas.{Changed, IsQuiet, IsWorking, has_read, none_recovers, reads_nothing, step_changes, step_commits_once, step_tells, stepped_sound}

-- ---- the plan

pub register_plan_of : (progress : Progress) (name : List ℕ) (tree : Tree) (writes : List Write) (txn : TxnProgress) → IsRegistering progress name tree writes → progress.task ≡ Writes txn →
    IsRegisterPlan progress.actor.start progress.actor.answers progress.actor.transaction.writes name tree
register_plan_of progress name tree writes txn work is = let at = subst (λ t. IsRegisterTask t progress.actor name tree writes) is work.task in record {
  first = work.first;
  number = work.number;
  of_query = work.of_query;
  reads = at.0;
  writes_are = ap (λ t. t.writes) work.transaction ∙ ap (λ t. (transaction_of t).writes) is ∙ at.1;
}

pub registers_work : (progress : Progress) (name : List ℕ) (tree : Tree) (writes : List Write) → IsRegistering progress name tree writes → IsWorking progress
registers_work progress name tree writes work = record { transaction = work.transaction; quiet = quiet progress.task work.task; planned = planned progress.task refl work.task; ends_none = ends_none progress.task refl work.task }
  where
    quiet : (task : Task) → IsRegisterTask task progress.actor name tree writes → IsQuiet task
    quiet Rest at = tt
    quiet (Get key) at = tt
    quiet (Next range) at = absurd at
    quiet (Put key plain) at = absurd at
    quiet (Writes txn) at = tt

    nothing : (task : Task) → progress.task ≡ task → (transaction_of task).writes ≡ [] → IsPlanned progress.actor
    nothing task is none = inl (ap (λ t. t.writes) work.transaction ∙ ap (λ t. (transaction_of t).writes) is ∙ none)

    planned : (task : Task) → progress.task ≡ task → IsRegisterTask task progress.actor name tree writes → IsPlanned progress.actor
    planned Rest is at = nothing Rest is refl
    planned (Get key) is at = nothing (Get key) is refl
    planned (Next range) is at = absurd at
    planned (Put key plain) is at = absurd at
    planned (Writes txn) is at = inr (inr (inl (name, tree, register_plan_of progress name tree writes txn work is)))

    none_of : (task : Task) → progress.task ≡ task → (transaction_of task).writes ≡ [] → EndsNoExport progress.actor.transaction.writes
    none_of task is none registration cells named = ap (λ ws. write_at ws (key_of (row.Task (task_name.Export registration cells)))) (ap (λ t. t.writes) work.transaction ∙ ap (λ t. (transaction_of t).writes) is ∙ none)

    ends_none : (task : Task) → progress.task ≡ task → IsRegisterTask task progress.actor name tree writes → EndsNoExport progress.actor.transaction.writes
    ends_none Rest is at = none_of Rest is refl
    ends_none (Get key) is at = none_of (Get key) is refl
    ends_none (Next range) is at = absurd at
    ends_none (Put key plain) is at = absurd at
    ends_none (Writes txn) is at = register_ends_none progress.actor.start progress.actor.answers progress.actor.transaction.writes name tree (register_plan_of progress name tree writes txn work is)

-- ---- what the job is

pub register_job_of : (progress : Progress) (name : List ℕ) (tree : Tree) (writes : List Write) → IsRegistering progress name tree writes → IsRegisterJob (job_of progress (Registers name tree)) name tree
register_job_of progress name tree writes work = record {
  content = refl;
  first = work.first;
  number = work.number;
  of_query = work.of_query;
  reads = reads progress.task work.task;
  come = come progress.task refl work.task work.start;
}
  where
    reads : (task : Task) → IsRegisterTask task progress.actor name tree writes → HasReadName name progress.actor.answers
    reads Rest at = inr (Some at.0, at.1)
    reads (Get key) at = inl at.1
    reads (Next range) at = absurd at
    reads (Put key plain) at = absurd at
    reads (Writes txn) at = inr (None, at.0)

    nothing : (task : Task) → progress.task ≡ task → progress.actor.transaction ≡ transaction_of task
    nothing task is = work.transaction ∙ ap transaction_of is

    come : (task : Task) → progress.task ≡ task → IsRegisterTask task progress.actor name tree writes → IsOfStart progress.actor.start task → HasRegistered (writing_of task) progress.actor name tree
    come Rest is at start = nothing Rest is
    come (Get key) is at start = nothing (Get key) is
    come (Next range) is at start = absurd at
    come (Put key plain) is at start = absurd at
    come (Writes txn) is at start = (nothing (Writes txn) is, start, register_plan_of progress name tree writes txn work is)

-- ---- the beginning

pub registers : (registration : ℕ) (name : List ℕ) (tree : Tree) (writes : List Write) (progress : Progress) → 1 ≤ registration → IsRegistration registration → IsQueryTree tree → writes ≡ registration_writes registration name tree →
    progress ≡ with_task (new_progress registration) (Get (key_of (row.Name name))) → IsRegistering progress name tree writes
registers registration name tree writes progress first number of_query are begun_so = subst (λ p. IsRegistering p name tree writes) (sym begun_so) (record {
  first = first;
  number = number;
  of_query = of_query;
  transaction = refl;
  start = tt;
  task = (refl, refl, are);
})

-- ---- an answer

-- the row of the name was read, and all is as it was but for that
pub record HasAnswered (before : Progress) (name : List ℕ) (tree : Tree) (writes : List Write) (after : Progress) (found : Option (List ℕ)) : Type 0 where
  pub answers : after.actor.answers ≡ OfRow (key_of (row.Name name)) found ∷ []
  pub next : after ≡ with_held before (OfRow (key_of (row.Name name)) found)
  pub nothing : before.actor.transaction ≡ new_transaction []
  pub writes_are : writes ≡ registration_writes before.actor.start name tree

has_answered : (before after : Progress) (name : List ℕ) (tree : Tree) (writes : List Write) (answer : Answer) → IsRegistering before name tree writes → IsAnswerOf before.task answer → after ≡ with_held before answer →
    (found : Option (List ℕ)) × HasAnswered before name tree writes after found
has_answered before after name tree writes answer work of next = by before.task refl answer work.task of next
  where
    by : (task : Task) → before.task ≡ task → (given : Answer) → IsRegisterTask task before.actor name tree writes → IsAnswerOf task given → after ≡ with_held before given → (found : Option (List ℕ)) × HasAnswered before name tree writes after found
    by Rest is given at of next = absurd of
    by (Get key) is (OfRow other found) at of next =
        let same : after ≡ with_held before (OfRow (key_of (row.Name name)) found) = next ∙ ap (λ k. with_held before (OfRow k found)) (of ∙ at.0) in (
          found,
          record {
            answers = ap (λ (p : Progress). p.actor.answers) same ∙ ap (λ held. held ++ (OfRow (key_of (row.Name name)) found ∷ [])) at.1;
            next = same;
            nothing = work.transaction ∙ ap transaction_of is;
            writes_are = at.2;
          },
        )
    by (Get key) is (OfRange after end found) at of next = absurd of
    by (Next range) is given at of next = absurd at
    by (Put key plain) is given at of next = absurd at
    by (Writes txn) is given at of next = absurd of

-- ---- what is begun

pub may_begin : (before after : Progress) (oracle oracle' : Option Block) (table table' : Table) (told : ActorEvent) (name : List ℕ) (tree : Tree) (writes : List Write) → IsRegistering before name tree writes → Tells before oracle table told after oracle' table' → MayBegin told after writes
may_begin before after oracle oracle' table table' event.Rests name tree writes work tells begin = absurd (let clash : not true ≡ true = ap (λ held. not (has_found held)) (sym at.1) ∙ ap (λ (p : Progress). not (has_found p.actor.answers)) (sym tells.1) ∙ begin in cc)
  where
    at : (value : List ℕ) × (before.actor.answers ≡ OfRow (key_of (row.Name name)) (Some value) ∷ [])
    at = subst (λ t. IsRegisterTask t before.actor name tree writes) tells.0 work.task
may_begin before after oracle oracle' table table' event.Answered name tree writes work tells begin =
    let (found, has) = has_answered before after name tree writes (tells.0).answer work (tells.0).of (tells.0).next in
    (ap (λ (p : Progress). p.actor.transaction) has.next ∙ has.nothing, ap are_distinct has.writes_are ∙ registration_distinct before.actor.start name tree work.number work.of_query)
may_begin before after oracle oracle' table table' event.Met name tree writes work tells begin = absurd cc
may_begin before after oracle oracle' table table' (event.Recovers e) name tree writes work tells begin = absurd cc
may_begin before after oracle oracle' table table' (event.Put applied) name tree writes work tells begin = absurd cc
may_begin before after oracle oracle' table table' (event.Writes e) name tree writes work tells begin = absurd cc

-- it goes on as it is, or has its writes
pub goes_on_begun : (told : ActorEvent) (after : Progress) (writes : List Write) → MayBegin told after writes → GoesOn after (begun told after writes)
goes_on_begun told after writes may = by (begins told (has_found after.actor.answers)) refl
  where
    by : (b : Bool) → begins told (has_found after.actor.answers) ≡ b → GoesOn after (begun told after writes)
    by true e = inr (writes, (may e).0, (may e).1, ap (λ x. if x then with_task after (Writes (new_txn after.actor.start writes)) else after) e)
    by false e = inl (ap (λ x. if x then with_task after (Writes (new_txn after.actor.start writes)) else after) e)

-- ---- what is left to do

same_task : (task : Task) (actor other : Actor) (name : List ℕ) (tree : Tree) (writes : List Write) → other.answers ≡ actor.answers → other.start ≡ actor.start → IsRegisterTask task actor name tree writes → IsRegisterTask task other name tree writes
same_task Rest actor other name tree writes answers start at = (at.0, answers ∙ at.1)
same_task (Get key) actor other name tree writes answers start at = (at.0, answers ∙ at.1, at.2 ∙ ap (λ n. registration_writes n name tree) (sym start))
same_task (Next range) actor other name tree writes answers start at = at
same_task (Put key plain) actor other name tree writes answers start at = at
same_task (Writes txn) actor other name tree writes answers start at = (answers ∙ at.0, at.1 ∙ ap (λ n. registration_writes n name tree) (sym start))

-- what is carried out is the same
still : (before after : Progress) (name : List ℕ) (tree : Tree) (writes : List Write) → IsRegistering before name tree writes → after.actor.start ≡ before.actor.start → after.actor.answers ≡ before.actor.answers → after.actor.transaction ≡ before.actor.transaction → after.task ≡ before.task →
    IsRegistering after name tree writes
still before after name tree writes work start answers transaction task = record {
  first = subst (λ n. 1 ≤ n) (sym start) work.first;
  number = subst IsRegistration (sym start) work.number;
  of_query = work.of_query;
  transaction = transaction ∙ work.transaction ∙ ap transaction_of (sym task);
  start = subst (λ t. IsOfStart after.actor.start t) (sym task) (subst (λ n. IsOfStart n before.task) (sym start) work.start);
  task = subst (λ t. IsRegisterTask t after.actor name tree writes) (sym task) (same_task before.task before.actor after.actor name tree writes answers start work.task);
}

-- the transaction has come further
writes_on : (before after : Progress) (name : List ℕ) (tree : Tree) (writes : List Write) (old next : TxnProgress) → IsRegistering before name tree writes → before.task ≡ Writes old → next.transaction.writes ≡ old.transaction.writes → next.start ≡ old.start → after ≡ with_txn before next →
    IsRegistering after name tree writes
writes_on before after name tree writes old next work is same start on = subst (λ p. IsRegistering p name tree writes) (sym on) (record {
  first = work.first;
  number = work.number;
  of_query = work.of_query;
  transaction = refl;
  start = start ∙ subst (λ t. IsOfStart before.actor.start t) is work.start;
  task = (let at = subst (λ t. IsRegisterTask t before.actor name tree writes) is work.task in (at.0, same ∙ at.1));
})

-- the name was read and isn't taken
begins_writes : (before after done : Progress) (name : List ℕ) (tree : Tree) (writes rest : List Write) → IsRegistering before name tree writes → HasAnswered before name tree writes after None → done ≡ with_task after (Writes (new_txn after.actor.start writes)) → IsRegistering done name tree rest
begins_writes before after done name tree writes rest work has next =
    subst (λ p. IsRegistering p name tree rest) (sym (next ∙ ap (λ p. with_task p (Writes (new_txn p.actor.start writes))) has.next)) (record {
      first = work.first;
      number = work.number;
      of_query = work.of_query;
      transaction = refl;
      start = refl;
      task = (ap (λ (p : Progress). p.actor.answers) (sym has.next) ∙ has.answers, has.writes_are);
    })

-- or it is taken
rests : (before after : Progress) (name : List ℕ) (tree : Tree) (writes : List Write) (value : List ℕ) → IsRegistering before name tree writes → HasAnswered before name tree writes after (Some value) → IsRegistering after name tree writes
rests before after name tree writes value work has = subst (λ p. IsRegistering p name tree writes) (sym has.next) (record {
  first = work.first;
  number = work.number;
  of_query = work.of_query;
  transaction = has.nothing;
  start = tt;
  task = (value, ap (λ (p : Progress). p.actor.answers) (sym has.next) ∙ has.answers);
})

pub registers_on : (before after done : Progress) (oracle oracle' : Option Block) (table table' : Table) (told : ActorEvent) (name : List ℕ) (tree : Tree) (writes rest : List Write) → IsRegistering before name tree writes → Tells before oracle table told after oracle' table' →
    done ≡ begun told after writes → rest ≡ left told after writes → IsRegistering done name tree rest
registers_on before after done oracle oracle' table table' told name tree writes rest work tells next is = by told tells next is
  where
    as_it_is : IsRegistering after name tree writes → done ≡ after → rest ≡ writes → IsRegistering done name tree rest
    as_it_is work same all = subst (λ p. IsRegistering p name tree rest) (sym same) (subst (λ ws. IsRegistering after name tree ws) (sym all) work)

    chosen : (b : Bool) → Progress
    chosen b = if b then with_task after (Writes (new_txn after.actor.start writes)) else after

    rested : (b : Bool) → List Write
    rested b = if b then [] else writes

    by : (e : ActorEvent) → Tells before oracle table e after oracle' table' → done ≡ begun e after writes → rest ≡ left e after writes → IsRegistering done name tree rest
    by event.Rests does next is =
        let at = subst (λ t. IsRegisterTask t before.actor name tree writes) does.0 work.task in
        let found : has_found after.actor.answers ≡ true = ap (λ (p : Progress). has_found p.actor.answers) does.1 ∙ ap has_found at.1 in
        as_it_is (subst (λ p. IsRegistering p name tree writes) (sym does.1) work) (next ∙ ap (λ b. chosen (not b)) found) (is ∙ ap (λ b. rested (not b)) found)
    by event.Answered does next is = answered (has_answered before after name tree writes (does.0).answer work (does.0).of (does.0).next)
      where
        answered : ((found : Option (List ℕ)) × HasAnswered before name tree writes after found) → IsRegistering done name tree rest
        answered (None, has) = begins_writes before after done name tree writes rest work has (next ∙ ap (λ held. chosen (not (has_found held))) has.answers)
        answered (Some value, has) = as_it_is (rests before after name tree writes value work has) (next ∙ ap (λ held. chosen (not (has_found held))) has.answers) (is ∙ ap (λ held. rested (not (has_found held))) has.answers)
    by event.Met does next is = as_it_is (still before after name tree writes work (ap (λ (p : Progress). p.actor.start) (does.0).next) (ap (λ (p : Progress). p.actor.answers) (does.0).next) (ap (λ (p : Progress). p.actor.transaction) (does.0).next) (ap (λ (p : Progress). p.task) (does.0).next)) next is
    by (event.Recovers e) does next is = as_it_is (recovers e (does.0).after (does.0).next) next is
      where
        recovers : (r : RecoveryEvent) (left_over : RecoveryProgress) → after ≡ with_recovered before r left_over → IsRegistering after name tree writes
        recovers Working left_over on = still before after name tree writes work (ap (λ (p : Progress). p.actor.start) on) (ap (λ (p : Progress). p.actor.answers) on) (ap (λ (p : Progress). p.actor.transaction) on) (ap (λ (p : Progress). p.task) on)
        recovers RolledForward left_over on = still before after name tree writes work (ap (λ (p : Progress). p.actor.start) on) (ap (λ (p : Progress). p.actor.answers) on) (ap (λ (p : Progress). p.actor.transaction) on) (ap (λ (p : Progress). p.task) on)
        recovers RolledBack left_over on = still before after name tree writes work (ap (λ (p : Progress). p.actor.start) on) (ap (λ (p : Progress). p.actor.answers) on) (ap (λ (p : Progress). p.actor.transaction) on) (ap (λ (p : Progress). p.task) on)
    by (event.Put applied) does next is = absurd (subst (λ t. IsRegisterTask t before.actor name tree writes) (does.0).is work.task)
    by (event.Writes e) does next is = as_it_is (writes_on before after name tree writes does.before does.after work does.is (txn_writes_same does.before oracle table e does.after oracle' table' does.steps) (txn_start_same does.before oracle table e does.after oracle' table' does.steps) does.next) next is

-- ---- a step

-- what is read is the same, whatever is begun
pub same_answers : (told : ActorEvent) (after : Progress) (writes : List Write) → (begun told after writes).actor.answers ≡ after.actor.answers
same_answers told after writes = by (begins told (has_found after.actor.answers))
  where
    by : (b : Bool) → (if b then with_task after (Writes (new_txn after.actor.start writes)) else after).actor.answers ≡ after.actor.answers
    by true = refl
    by false = refl

pub register_commits_once : (before after done : Progress) (oracle oracle' : Option Block) (table table' : Table) (told : ActorEvent) (content : Content) → IsWorking before → Tells before oracle table told after oracle' table' → GoesOn after done →
    CommitsOnce (job_of before content) (register_event told (has_found after.actor.answers)) (job_of done content)
register_commits_once before after done oracle oracle' table table' told content work tells goes =
    by told (has_found after.actor.answers) (step_commits_once before after done oracle oracle' table table' told content work tells goes)
  where
    by : (e : ActorEvent) (found : Bool) → CommitsOnce (job_of before content) (event_of e) (job_of done content) → CommitsOnce (job_of before content) (register_event e found) (job_of done content)
    by event.Rests true once = once
    by event.Rests false once = once
    by event.Answered true once = once
    by event.Answered false once = once
    by event.Met found once = once
    by (event.Recovers e) found once = once
    by (event.Put applied) found once = once
    by (event.Writes e) found once = once

pub register_tells : (before after done : Progress) (oracle oracle' : Option Block) (table table' : Table) (told : ActorEvent) (name : List ℕ) (tree : Tree) → IsWorking before → Tells before oracle table told after oracle' table' → is_recovery told ≡ is_some before.actor.recovery →
    GoesOn after done → done.actor.answers ≡ after.actor.answers → IsTold (job_of before (Registers name tree)) oracle table (register_event told (has_found after.actor.answers)) (job_of done (Registers name tree)) oracle' table'
register_tells before after done oracle oracle' table table' told name tree work tells first goes answers = by told tells first
  where
    its : (found : Bool) → Rattle.pcj_client.specs.declared.event.JobEvent.JobEvent
    its found = if found then job.Taken else job.Worked

    read : writing_of before.task ≡ None → false ≡ is_some before.actor.recovery → (found : Bool) → has_found after.actor.answers ≡ found →
        IsTold (job_of before (Registers name tree)) oracle table (its (has_found after.actor.answers)) (job_of done (Registers name tree)) oracle' table'
    read nothing first true e = subst (λ b. IsTold (job_of before (Registers name tree)) oracle table (its b) (job_of done (Registers name tree)) oracle' table') (sym e)
        (inr (inr (refl, none_recovers before first, nothing, ap has_found answers ∙ e)))
    read nothing first false e = subst (λ b. IsTold (job_of before (Registers name tree)) oracle table (its b) (job_of done (Registers name tree)) oracle' table') (sym e)
        (inl (refl, inr (inl (nothing, ap has_found answers ∙ e))))

    by : (e : ActorEvent) → Tells before oracle table e after oracle' table' → is_recovery e ≡ is_some before.actor.recovery →
        IsTold (job_of before (Registers name tree)) oracle table (register_event e (has_found after.actor.answers)) (job_of done (Registers name tree)) oracle' table'
    by event.Rests does first = read (ap writing_of does.0) first (has_found after.actor.answers) refl
    by event.Answered does first = read (reads_nothing before.task (does.0).answer (does.0).of) first (has_found after.actor.answers) refl
    by event.Met does first = step_tells before after done oracle oracle' table table' event.Met (Registers name tree) work does first goes refl
    by (event.Recovers e) does first = step_tells before after done oracle oracle' table table' (event.Recovers e) (Registers name tree) work does first goes refl
    by (event.Put applied) does first = step_tells before after done oracle oracle' table table' (event.Put applied) (Registers name tree) work does first goes refl
    by (event.Writes e) does first = step_tells before after done oracle oracle' table table' (event.Writes e) (Registers name tree) work does first goes refl

append_nil : {X : Type 0} (xs : List X) → xs ++ [] ≡ xs
append_nil [] = refl
append_nil (x ∷ xs) = ap (λ ys. x ∷ ys) (append_nil xs)

-- the triples stay
pub register_keeps_triples : (before after : Progress) (oracle oracle' : Option Block) (table table' : Table) (told : ActorEvent) (found : Bool) (name : List ℕ) (tree : Tree) (writes : List Write) (known : List Triple) (others : List Actor) → IsRegistering before name tree writes →
    Tells before oracle table told after oracle' table' → Carries before oracle table after oracle' table' → Sound (state_of oracle table (before.actor ∷ others)) → HasTriples (row_at table) known → HasTriples (row_at table') (triples_after (register_event told found) known [])
register_keeps_triples before after oracle oracle' table table' told found name tree writes known others work tells carries sound has =
    by told found (step_changes (λ rows. HasTriples rows known) (λ rows. HasTriples rows known) before after oracle oracle' table table' told others (registers_work before name tree writes work) tells carries sound
    (λ moves moved same had. step_leaves_triples moves (next_number oracle table) (row_at table) before.actor (next_number oracle' table') (row_at table') after.actor others known moved.0 moved.1 sound same had)
    (λ moves txn is moved undone done had. register_step_leaves_triples moves (next_number oracle table) (row_at table) before.actor (next_number oracle' table') (row_at table') after.actor others name tree known moved.0 moved.1 sound
    (register_plan_of before name tree writes txn work is) undone done had) has)
  where
    by_txn : (e : JobEvent) → Changed (λ rows. HasTriples rows known) (λ rows. HasTriples rows known) e (row_at table') → HasTriples (row_at table') (triples_after e known [])
    by_txn job.Worked left = left
    by_txn (job.Committed commit) left = subst (λ ts. HasTriples (row_at table') ts) (sym (append_nil known)) left
    by_txn job.Done left = left
    by_txn job.Aborted left = left
    by_txn job.Taken left = absurd left

    by : (e : ActorEvent) (found : Bool) → Changed (λ rows. HasTriples rows known) (λ rows. HasTriples rows known) (event_of e) (row_at table') → HasTriples (row_at table') (triples_after (register_event e found) known [])
    by event.Rests true left = left
    by event.Rests false left = left
    by event.Answered true left = left
    by event.Answered false left = left
    by event.Met found left = left
    by (event.Recovers e) found left = left
    by (event.Put applied) found left = left
    by (event.Writes e) found left = by_txn (Rattle.pcj_client.specs.Events.job_event e) left

-- ---- the queries

-- a name that was found was read
value_read : (before after : Progress) (oracle oracle' : Option Block) (table table' : Table) (told : ActorEvent) (name : List ℕ) (tree : Tree) (writes : List Write) → IsRegistering before name tree writes → Tells before oracle table told after oracle' table' → has_read told ≡ true →
    has_found after.actor.answers ≡ true → (value : List ℕ) × (after.actor.answers ≡ OfRow (key_of (row.Name name)) (Some value) ∷ [])
value_read before after oracle oracle' table table' event.Rests name tree writes work tells read found =
    let at = subst (λ t. IsRegisterTask t before.actor name tree writes) tells.0 work.task in (at.0, ap (λ (p : Progress). p.actor.answers) tells.1 ∙ at.1)
value_read before after oracle oracle' table table' event.Answered name tree writes work tells read found = by (has_answered before after name tree writes (tells.0).answer work (tells.0).of (tells.0).next)
  where
    by : ((seen : Option (List ℕ)) × HasAnswered before name tree writes after seen) → (value : List ℕ) × (after.actor.answers ≡ OfRow (key_of (row.Name name)) (Some value) ∷ [])
    by (None, has) = absurd (let clash : false ≡ true = ap has_found (sym has.answers) ∙ found in cc)
    by (Some value, has) = (value, has.answers)
value_read before after oracle oracle' table table' event.Met name tree writes work tells read found = absurd cc
value_read before after oracle oracle' table table' (event.Recovers e) name tree writes work tells read found = absurd cc
value_read before after oracle oracle' table table' (event.Put applied) name tree writes work tells read found = absurd cc
value_read before after oracle oracle' table table' (event.Writes e) name tree writes work tells read found = absurd cc

-- then a query has the name
is_known : (actor : Actor) (others : List Actor) (oracle : Option Block) (table : Table) (name value : List ℕ) (known : List Registration) → actor.answers ≡ OfRow (key_of (row.Name name)) (Some value) ∷ [] → Sound (state_of oracle table (actor ∷ others)) → HasQueries (row_at table) known →
    (registration : Registration) × Contains known registration × (registration.name ≡ name)
is_known actor others oracle table name value known answers sound has =
    read_names_are_known (next_number oracle table) (row_at table) actor others name value known (subst (λ held. Contains held (OfRow (key_of (row.Name name)) (Some value))) (sym answers) (first_there (OfRow (key_of (row.Name name)) (Some value)) [])) sound has

-- its query joins with its commit
pub step_changes_queries : (before after : Progress) (oracle oracle' : Option Block) (table table' : Table) (told : ActorEvent) (name : List ℕ) (tree : Tree) (writes : List Write) (known : List Registration) (others : List Actor) → IsRegistering before name tree writes →
    Tells before oracle table told after oracle' table' → Carries before oracle table after oracle' table' → Sound (state_of oracle table (before.actor ∷ others)) → HasQueries (row_at table) known →
    IsNamed (register_event told (has_found after.actor.answers)) (Registers name tree) known
    × HasQueries (row_at table') (queries_after (register_event told (has_found after.actor.answers)) (job_of before (Registers name tree)) known)
step_changes_queries before after oracle oracle' table table' told name tree writes known others work tells carries sound has =
    by told tells (step_changes P Q before after oracle oracle' table table' told others working tells carries sound
    (λ moves moved same had. step_leaves_queries moves (next_number oracle table) (row_at table) before.actor (next_number oracle' table') (row_at table') after.actor others known moved.0 moved.1 sound same had)
    (λ moves txn is moved undone done had. step_adds_query moves (next_number oracle table) (row_at table) before.actor (next_number oracle' table') (row_at table') after.actor others name tree known moved.0 moved.1 sound
    (register_plan_of before name tree writes txn work is) undone done had) has)
  where
    P : Rows → Type 0
    P rows = HasQueries rows known

    Q : Rows → Type 0
    Q rows = All (λ (other : Registration). other.name ≢ name) known × HasQueries rows (added (registration_of before.actor name tree) known)

    working : IsWorking before
    working = registers_work before name tree writes work

    Left : JobEvent → Type 0
    Left e = IsNamed e (Registers name tree) known × HasQueries (row_at table') (queries_after e (job_of before (Registers name tree)) known)

    read : (e : ActorEvent) → Tells before oracle table e after oracle' table' → has_read e ≡ true → P (row_at table') → (found : Bool) → has_found after.actor.answers ≡ found → Left (if found then job.Taken else job.Worked)
    read e does is had true found =
        let seen = value_read before after oracle oracle' table table' e name tree writes work does is found in
        (is_known after.actor others oracle' table' name seen.0 known seen.1 (stepped_sound before after oracle oracle' table table' working carries others sound) had, had)
    read e does is had false found = (tt, had)

    by_txn : (e : JobEvent) → Changed P Q e (row_at table') → Left e
    by_txn job.Worked left = (tt, left)
    by_txn (job.Committed commit) left = left
    by_txn job.Done left = (tt, left)
    by_txn job.Aborted left = (tt, left)
    by_txn job.Taken left = absurd left

    by : (e : ActorEvent) → Tells before oracle table e after oracle' table' → Changed P Q (event_of e) (row_at table') → Left (register_event e (has_found after.actor.answers))
    by event.Rests does left = read event.Rests does refl left (has_found after.actor.answers) refl
    by event.Answered does left = read event.Answered does refl left (has_found after.actor.answers) refl
    by event.Met does left = (tt, left)
    by (event.Recovers e) does left = (tt, left)
    by (event.Put applied) does left = (tt, left)
    by (event.Writes e) does left = by_txn (Rattle.pcj_client.specs.Events.job_event e) left
