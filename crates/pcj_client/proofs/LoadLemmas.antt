-- What a load's step leaves of what the table has, and what it tells.
use Rattle.std.proofs.Common.{◌≡◌, inl, inr, ℕ, zero, suc, ◌≤◌, is_some, List, [], ◌∷◌, ◌++◌, length, Option, Some, refl, ap, subst, ◌∙◌, arith}
use Rattle.std.specs.List.{slice_get}
use Rattle.pcj_term.specs.declared.triple.Triple.{Triple}
use Rattle.pcj_table.specs.Table.{Table, row_at}
use Rattle.pcj_table.specs.declared.write.Write.{Write}
use Rattle.pcj_oracle.specs.Clock.{next_number}
use Rattle.pcj_oracle.specs.declared.block.Block.{Block}
use Rattle.pcj_moves.specs.Actors.{Actor}
use Rattle.pcj_txn.specs.Progress.{Progress as TxnProgress}
use Rattle.pcj_actor.specs.StepLaws.{state_of}
use Rattle.pcj_actor.specs.declared.event.ActorEvent.{ActorEvent}
use Rattle.pcj_actor.specs.declared.event.ActorEvent.TheVariants as event
use Rattle.pcj_actor.specs.declared.task.Task.{Task}
use Rattle.pcj_actor.specs.declared.task.Task.TheVariants.{Rest, Get, Next, Put, Write as Writes}
use Rattle.pcj_actor.specs.Progress.{Carries, IsOfStart, Progress, Tells, is_recovery, transaction_of}
use Rattle.pcj_encode.specs.declared.task_name.TaskName.TheVariants as task_name
use Rattle.pcj_encode.specs.declared.key_name.KeyName.TheVariants as row
use Rattle.pcj_encode.specs.Name.{key_of}
use Rattle.pcj_moves.specs.Transactions.{write_at}
use Rattle.pcj_rows.specs.Plans.{IsLoadPlan}
use Rattle.pcj_duties.specs.Observers.{EndsNoExport}
use Rattle.pcj_duties.proofs.PurposeLemmas.{load_ends_none}
use Rattle.pcj_fit.specs.Queries.{HasQueries, Registration}
use Rattle.pcj_fit.specs.Sound.{IsPlanned, Sound}
use Rattle.pcj_rows.specs.Triples.{HasTriples}
use Rattle.pcj_fit.proofs.StepLemmas.{load_step_leaves_queries, step_adds_triples, step_leaves_queries, step_leaves_triples}
use Rattle.pcj_client.specs.Job.{GoesOn, HasCome, HasStepped, IsAtWork, IsBusy, IsLoadJob, IsTask, Loads, job_of, writing_of}
use Rattle.pcj_client.specs.Events.{IsNamed, IsTold, event_of, queries_after, triples_after}
use Rattle.pcj_client.specs.declared.event.JobEvent.{JobEvent}
use Rattle.pcj_client.specs.declared.event.JobEvent.TheVariants as job
use Rattle.pcj_client.proofs.StepLemmas.{tells_after}
use Rattle.pcj_client.proofs.SoundLemmas.{Changed, IsQuiet, IsWorking, reads_nothing, step_changes, step_tells}

-- ---- the plan

-- the plan of a load that carries its writes out
pub plan_of : (progress : Progress) (triples : List Triple) (writes : List Write) (kept : Option ℕ) (txn : TxnProgress) → IsAtWork progress triples writes kept → progress.task ≡ Writes txn →
    IsLoadPlan progress.actor.start progress.actor.answers progress.actor.transaction.writes triples
plan_of progress triples writes kept txn work is = let at = subst (λ t. IsTask t progress.actor triples writes kept) is work.task in record {
  load = work.load;
  reads = work.reads;
  all = at.1;
  writes_are = ap (λ t. t.writes) work.transaction ∙ ap (λ t. (transaction_of t).writes) is ∙ at.2;
}

planned : (progress : Progress) (triples : List Triple) (writes : List Write) (kept : Option ℕ) → IsAtWork progress triples writes kept → IsPlanned progress.actor
planned progress triples writes kept work = by progress.task refl work.task
  where
    nothing : (task : Task) → progress.task ≡ task → (transaction_of task).writes ≡ [] → IsPlanned progress.actor
    nothing task is none = inl (ap (λ t. t.writes) work.transaction ∙ ap (λ t. (transaction_of t).writes) is ∙ none)

    by : (task : Task) → progress.task ≡ task → IsTask task progress.actor triples writes kept → IsPlanned progress.actor
    by Rest is at = nothing Rest is refl
    by (Get key) is at = nothing (Get key) is refl
    by (Next range) is at = absurd at
    by (Put key plain) is at = absurd at
    by (Writes txn) is at = inr (inl (triples, plan_of progress triples writes kept txn work is))

-- and no export's task is among its writes
ends_none : (progress : Progress) (triples : List Triple) (writes : List Write) (kept : Option ℕ) → IsAtWork progress triples writes kept → EndsNoExport progress.actor.transaction.writes
ends_none progress triples writes kept work = by progress.task refl work.task
  where
    nothing : (task : Task) → progress.task ≡ task → (transaction_of task).writes ≡ [] → EndsNoExport progress.actor.transaction.writes
    nothing task is none registration cells named = ap (λ ws. write_at ws (key_of (row.Task (task_name.Export registration cells)))) (ap (λ t. t.writes) work.transaction ∙ ap (λ t. (transaction_of t).writes) is ∙ none)

    by : (task : Task) → progress.task ≡ task → IsTask task progress.actor triples writes kept → EndsNoExport progress.actor.transaction.writes
    by Rest is at = nothing Rest is refl
    by (Get key) is at = nothing (Get key) is refl
    by (Next range) is at = absurd at
    by (Put key plain) is at = absurd at
    by (Writes txn) is at = load_ends_none progress.actor.start progress.actor.answers progress.actor.transaction.writes triples (plan_of progress triples writes kept txn work is)

pub loads_work : (progress : Progress) (triples : List Triple) (writes : List Write) (kept : Option ℕ) → IsAtWork progress triples writes kept → IsWorking progress
loads_work progress triples writes kept work = record { transaction = work.transaction; quiet = by progress.task work.task; planned = planned progress triples writes kept work; ends_none = ends_none progress triples writes kept work }
  where
    by : (task : Task) → IsTask task progress.actor triples writes kept → IsQuiet task
    by Rest at = tt
    by (Get key) at = tt
    by (Next range) at = absurd at
    by (Put key plain) at = absurd at
    by (Writes txn) at = tt

-- ---- what the job is

pub load_job_of : (progress : Progress) (triples : List Triple) (writes : List Write) (kept : Option ℕ) → IsAtWork progress triples writes kept → IsLoadJob (job_of progress (Loads triples)) triples
load_job_of progress triples writes kept work = record { content = refl; load = work.load; reads = work.reads; come = by progress.task refl work.task work.start }
  where
    nothing : (task : Task) → progress.task ≡ task → progress.actor.transaction ≡ transaction_of task
    nothing task is = work.transaction ∙ ap transaction_of is

    read : (triples : List Triple) (at : ℕ) (triple : Triple) → slice_get triples at ≡ Some triple → suc at ≤ length triples
    read [] zero triple e = absurd cc
    read [] (suc at) triple e = absurd cc
    read (first ∷ triples) zero triple e = omega arith
    read (first ∷ triples) (suc at) triple e = let lt = read triples at triple e in omega arith

    by : (task : Task) → progress.task ≡ task → IsTask task progress.actor triples writes kept → IsOfStart progress.actor.start task → HasCome (writing_of task) progress.actor triples
    by Rest is at start = (nothing Rest is, at.1)
    by (Get key) is at start = (nothing (Get key) is, let lt = read triples (length progress.actor.answers) at.1 at.2 in omega arith)
    by (Next range) is at start = absurd at
    by (Put key plain) is at start = absurd at
    by (Writes txn) is at start = (nothing (Writes txn) is, start, plan_of progress triples writes kept txn work is)

-- ---- a step

-- and what a step leaves of the actor
pub its_step : (before : Progress) (oracle : Option Block) (table : Table) (told : ActorEvent) (after : Progress) (oracle' : Option Block) (table' : Table) (triples : List Triple) (writes : List Write) (kept : Option ℕ) → IsAtWork before triples writes kept → IsBusy before.task →
    Tells before oracle table told after oracle' table' → HasStepped triples writes kept told after
its_step before oracle table told after oracle' table' triples writes kept work busy tells = (before, work, busy, tells_after before oracle table told after oracle' table' tells)

-- its triples join with its commit
pub step_changes_triples : (before after : Progress) (oracle oracle' : Option Block) (table table' : Table) (told : ActorEvent) (triples : List Triple) (writes : List Write) (kept : Option ℕ) (known : List Triple) (others : List Actor) → IsAtWork before triples writes kept →
    Tells before oracle table told after oracle' table' → Carries before oracle table after oracle' table' → Sound (state_of oracle table (before.actor ∷ others)) → HasTriples (row_at table) known → HasTriples (row_at table') (triples_after (event_of told) known triples)
step_changes_triples before after oracle oracle' table table' told triples writes kept known others work tells carries sound has =
    by (event_of told) (step_changes (λ rows. HasTriples rows known) (λ rows. HasTriples rows (known ++ triples)) before after oracle oracle' table table' told others (loads_work before triples writes kept work) tells carries sound
    (λ moves moved same had. step_leaves_triples moves (next_number oracle table) (row_at table) before.actor (next_number oracle' table') (row_at table') after.actor others known moved.0 moved.1 sound same had)
    (λ moves txn is moved undone done had. step_adds_triples moves (next_number oracle table) (row_at table) before.actor (next_number oracle' table') (row_at table') after.actor others triples known moved.0 moved.1 sound
    (plan_of before triples writes kept txn work is) undone done had) has)
  where
    by : (e : JobEvent) → Changed (λ rows. HasTriples rows known) (λ rows. HasTriples rows (known ++ triples)) e (row_at table') → HasTriples (row_at table') (triples_after e known triples)
    by job.Worked left = left
    by (job.Committed commit) left = left
    by job.Done left = left
    by job.Aborted left = left
    by job.Taken left = absurd left

-- and the queries stay
pub step_keeps_queries : (before after asked : Progress) (oracle oracle' : Option Block) (table table' : Table) (told : ActorEvent) (triples : List Triple) (writes : List Write) (kept : Option ℕ) (known : List Registration) (others : List Actor) → IsAtWork before triples writes kept →
    Tells before oracle table told after oracle' table' → Carries before oracle table after oracle' table' → Sound (state_of oracle table (before.actor ∷ others)) → HasQueries (row_at table) known →
    IsNamed (event_of told) (Loads triples) known × HasQueries (row_at table') (queries_after (event_of told) (job_of asked (Loads triples)) known)
step_keeps_queries before after asked oracle oracle' table table' told triples writes kept known others work tells carries sound has =
    by (event_of told) (step_changes (λ rows. HasQueries rows known) (λ rows. HasQueries rows known) before after oracle oracle' table table' told others (loads_work before triples writes kept work) tells carries sound
    (λ moves moved same had. step_leaves_queries moves (next_number oracle table) (row_at table) before.actor (next_number oracle' table') (row_at table') after.actor others known moved.0 moved.1 sound same had)
    (λ moves txn is moved undone done had. load_step_leaves_queries moves (next_number oracle table) (row_at table) before.actor (next_number oracle' table') (row_at table') after.actor others triples known moved.0 moved.1 sound
    (plan_of before triples writes kept txn work is) undone done had) has)
  where
    by : (e : JobEvent) → Changed (λ rows. HasQueries rows known) (λ rows. HasQueries rows known) e (row_at table') → IsNamed e (Loads triples) known × HasQueries (row_at table') (queries_after e (job_of asked (Loads triples)) known)
    by job.Worked left = (tt, left)
    by (job.Committed commit) left = (tt, left)
    by job.Done left = (tt, left)
    by job.Aborted left = (tt, left)
    by job.Taken left = absurd left

-- what is told
pub load_tells : (before after done : Progress) (oracle oracle' : Option Block) (table table' : Table) (told : ActorEvent) (triples : List Triple) (writes : List Write) (kept : Option ℕ) → IsAtWork before triples writes kept → IsBusy before.task →
    Tells before oracle table told after oracle' table' → is_recovery told ≡ is_some before.actor.recovery → GoesOn after done → IsTold (job_of before (Loads triples)) oracle table (event_of told) (job_of done (Loads triples)) oracle' table'
load_tells before after done oracle oracle' table table' told triples writes kept work busy tells first goes = by told tells first
  where
    working : IsWorking before
    working = loads_work before triples writes kept work

    by : (e : ActorEvent) → Tells before oracle table e after oracle' table' → is_recovery e ≡ is_some before.actor.recovery → IsTold (job_of before (Loads triples)) oracle table (event_of e) (job_of done (Loads triples)) oracle' table'
    by event.Rests does first = absurd (subst IsBusy does.0 busy)
    by event.Answered does first = inl (refl, inr (inl (reads_nothing before.task (does.0).answer (does.0).of, refl)))
    by event.Met does first = step_tells before after done oracle oracle' table table' event.Met (Loads triples) working does first goes refl
    by (event.Recovers e) does first = step_tells before after done oracle oracle' table table' (event.Recovers e) (Loads triples) working does first goes refl
    by (event.Put applied) does first = step_tells before after done oracle oracle' table table' (event.Put applied) (Loads triples) working does first goes refl
    by (event.Writes e) does first = step_tells before after done oracle oracle' table table' (event.Writes e) (Loads triples) working does first goes refl
