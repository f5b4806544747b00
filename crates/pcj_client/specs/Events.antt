-- What a step of a job tells.
use Rattle.std.specs.Prelude.{◌≡◌, ◌≢◌, ◌⊎◌, ◌≤◌, ◌+◌, ℕ, Bool, false, true, is_some, if◌then◌else◌, List, [], ◌∷◌, ◌++◌, length, Option, Some, None}
use Rattle.pcj_term.specs.declared.triple.Triple.{Triple}
use Rattle.pcj_table.specs.Table.{Table, row_at}
use Rattle.pcj_oracle.specs.Clock.{next_number}
use Rattle.pcj_oracle.specs.declared.block.Block.{Block}
use Rattle.pcj_moves.specs.Actors.{Actor}
use Rattle.pcj_moves.specs.Moves.{Makes, Move}
use Rattle.pcj_txn.specs.declared.event.TxnEvent.{TxnEvent}
use Rattle.pcj_txn.specs.declared.event.TxnEvent.TheVariants as txn
use Rattle.pcj_txn.specs.Errors.{step_calls}
use Rattle.pcj_txn.specs.Progress.{Progress as TxnProgress, Draw, due}
use Rattle.pcj_txn.specs.Steps.{Steps as TxnSteps}
use Rattle.pcj_actor.specs.StepLaws.{state_of}
use Rattle.pcj_table.specs.Table.{Key}
use Rattle.pcj_table.specs.declared.lock.Lock.{Lock}
use Rattle.pcj_mvcc.specs.Times.{TimesInOrder}
use Rattle.pcj_moves.specs.Recoveries.{new_recovery}
use Rattle.pcj_actor.specs.declared.event.ActorEvent.{ActorEvent}
use Rattle.pcj_actor.specs.declared.event.ActorEvent.TheVariants as actor
use Rattle.pcj_fit.specs.Laws.{WritesClock}
use Rattle.pcj_fit.specs.Queries.{HasQueries, Registration, added}
use Rattle.pcj_fit.specs.QueryLaws.{registration_of}
use Rattle.pcj_fit.specs.Sound.{Sound}
use Rattle.pcj_rows.specs.Triples.{HasTriples}
use Rattle.std.specs.List.{All, Contains}
use Rattle.pcj_client.specs.Job.{Content, Job, Loads, Registers, finds_name}
use Rattle.pcj_client.specs.declared.event.JobEvent.{JobEvent}
use Rattle.pcj_client.specs.declared.event.JobEvent.TheVariants.{Worked, Committed, Done, Aborted, Taken}

-- of a transaction's step: a conflict and a lost primary end the job
abbrev pub job_event : TxnEvent → JobEvent
job_event txn.Prewrote = Worked
job_event (txn.MetLock key lock) = Worked
job_event (txn.Conflict key commit) = Aborted
job_event (txn.DrewCommit commit) = Worked
job_event (txn.Committed commit) = Committed commit
job_event (txn.PrimaryLost row) = Aborted
job_event txn.SecondaryDone = Worked
job_event txn.Done = Done

-- of an actor's step
abbrev pub event_of : ActorEvent → JobEvent
event_of actor.Rests = Worked
event_of actor.Answered = Worked
event_of actor.Met = Worked
event_of (actor.Recovers told) = Worked
event_of (actor.Put applied) = Worked
event_of (actor.Writes told) = job_event told

-- of a step of a registration's actor, where its name has been found or not
abbrev pub register_event : ActorEvent → Bool → JobEvent
register_event actor.Rests found = if found then Taken else Worked
register_event actor.Answered found = if found then Taken else Worked
register_event actor.Met found = Worked
register_event (actor.Recovers told) found = Worked
register_event (actor.Put applied) found = Worked
register_event (actor.Writes told) found = job_event told

-- the transaction's next row has a lock, which is to be taken away
abbrev pub HasMet : Table → Job → Type 0
HasMet table new = (key : Key) × (lock : Lock) × ((row_at table key).lock ≡ Some lock) × (new.actor.recovery ≡ Some (new_recovery key lock))

-- While it reads or takes a lock away, and where its transaction meets one, the job goes on; then it tells what its
-- transaction's step does. Where a registration has found its name it is taken, and doesn't go on.
abbrev pub IsTold : Job → Option Block → Table → JobEvent → Job → Option Block → Table → Type 0
IsTold old oracle table told new oracle' table' =
    ((told ≡ Worked) × ((is_some old.actor.recovery ≡ true) ⊎ ((old.writing ≡ None) × (finds_name new ≡ false)) ⊎ (TimesInOrder (row_at table) → HasMet table new))) ⊎
    ((old.actor.recovery ≡ None) × (before : TxnProgress) × (old.writing ≡ Some before) × (done : TxnEvent) × (after : TxnProgress) × TxnSteps before oracle table done after oracle' table' × (told ≡ job_event done)) ⊎
    ((told ≡ Taken) × (old.actor.recovery ≡ None) × (old.writing ≡ None) × (finds_name new ≡ true))

-- its own commit is the one that was drawn, and is made once
abbrev pub CommitsOnce : Job → JobEvent → Job → Type 0
CommitsOnce old (Committed commit) new = (old.actor.transaction.commit ≡ Some commit) × (old.actor.transaction.committed ≡ false) × (new.actor.transaction.committed ≡ true)
CommitsOnce old _ new = new.actor.transaction.committed ≡ old.actor.transaction.committed

-- the triples after a step: those of the load have joined with its commit
abbrev pub triples_after : JobEvent → List Triple → List Triple → List Triple
triples_after Worked known triples = known
triples_after (Committed commit) known triples = known ++ triples
triples_after Done known triples = known
triples_after Aborted known triples = known
triples_after Taken known triples = known

-- the queries after a step: that of a registration has joined with its commit
abbrev pub joined : Content → Actor → List Registration → List Registration
joined (Loads triples) actor known = known
joined (Registers name tree) actor known = added (registration_of actor name tree) known

abbrev pub queries_after : JobEvent → Job → List Registration → List Registration
queries_after Worked job known = known
queries_after (Committed commit) job known = joined job.content job.actor known
queries_after Done job known = known
queries_after Aborted job known = known
queries_after Taken job known = known

-- no query has the name of a registration, or one has
abbrev pub IsNew : Content → List Registration → Type 0
IsNew (Loads triples) known = Unit {0}
IsNew (Registers name tree) known = All (λ (other : Registration). other.name ≢ name) known

abbrev pub IsKnown : Content → List Registration → Type 0
IsKnown (Loads triples) known = ⊥
IsKnown (Registers name tree) known = (registration : Registration) × Contains known registration × (registration.name ≡ name)

-- with its commit no other query has its name, and where it is taken one has
abbrev pub IsNamed : JobEvent → Content → List Registration → Type 0
IsNamed Worked content known = Unit {0}
IsNamed (Committed commit) content known = IsNew content known
IsNamed Done content known = Unit {0}
IsNamed Aborted content known = Unit {0}
IsNamed Taken content known = IsKnown content known

-- Whoever else is at work: all stays sound.
abbrev pub KeepsAllSound : Job → Option Block → Table → Job → Option Block → Table → Type 0
KeepsAllSound old oracle table new oracle' table' = (others : List Actor) → Sound (state_of oracle table (old.actor ∷ others)) → Sound (state_of oracle' table' (new.actor ∷ others))

abbrev pub LeavesTriples : Job → Option Block → Table → Table → List Triple → List Triple → Type 0
LeavesTriples old oracle table table' known after = (others : List Actor) → Sound (state_of oracle table (old.actor ∷ others)) → HasTriples (row_at table) known → HasTriples (row_at table') after

abbrev pub LeavesQueries : Job → Option Block → Table → Table → List Registration → JobEvent → Type 0
LeavesQueries old oracle table table' known event = (others : List Actor) → Sound (state_of oracle table (old.actor ∷ others)) → HasQueries (row_at table) known →
    IsNamed event old.content known × HasQueries (row_at table') (queries_after event old known)

-- ---- the moves of a step

-- no plain value is written but the clock's
abbrev pub WriteClockAlone : List Move → Type 0
WriteClockAlone [] = Unit {0}
WriteClockAlone (move ∷ moves) = WritesClock move × WriteClockAlone moves

-- the job has made moves that the rules allow, and nothing else has changed
pub record HasMoved (old : Job) (oracle : Option Block) (table : Table) (new : Job) (oracle' : Option Block) (table' : Table) : Type 0 where
  pub moves : List Move
  pub clock : WriteClockAlone moves
  pub makes : Makes moves (next_number oracle table) (row_at table) old.actor (next_number oracle' table') (row_at table') new.actor

-- Whoever else is at work: a step is such moves.
abbrev pub IsMoved : Job → Option Block → Table → Job → Option Block → Table → Type 0
IsMoved old oracle table new oracle' table' = (others : List Actor) → Sound (state_of oracle table (old.actor ∷ others)) → HasMoved old oracle table new oracle' table'

-- one row is read at most, and nothing is prewritten
pub record ReadsOne (old new : Job) : Type 0 where
  pub prewritten : new.actor.transaction.prewritten ≡ old.actor.transaction.prewritten
  pub answers : length new.actor.answers ≤ length old.actor.answers + 1

-- one row is prewritten, and nothing is read
pub record PrewritesOne (old new : Job) : Type 0 where
  pub prewritten : new.actor.transaction.prewritten ≡ old.actor.transaction.prewritten + 1
  pub answers : new.actor.answers ≡ old.actor.answers

-- how far a step goes
pub record StepsOn (old new : Job) : Type 0 where
  pub start : new.actor.start ≡ old.actor.start
  pub one : ReadsOne old new ⊎ PrewritesOne old new

-- the job's next step draws its commit
abbrev pub IsDrawing : Job → Type 0
IsDrawing job = (progress : TxnProgress) × (job.writing ≡ Some progress) × (due progress ≡ Draw)

-- ---- the calls of a step

-- how many calls of the table a step makes at most: one, or those of a draw
abbrev pub writing_calls : Option TxnProgress → Option Block → Table → ℕ
writing_calls None oracle table = 1
writing_calls (Some progress) oracle table = step_calls (due progress) oracle table

abbrev pub job_calls : Job → Option Block → Table → ℕ
job_calls job oracle table = if is_some job.actor.recovery then 1 else writing_calls job.writing oracle table
