-- What an actor holds, and what it carries out.
use Rattle.std.specs.Prelude.{◌⊎◌, ◌≢◌, List, ◌∷◌, ◌≡◌, ℕ, ◌≤◌, Bool, true, false, is_some, if◌then◌else◌, [], Option, Some, None}
use Rattle.pcj_moves.specs.Transactions.{Transaction, new_transaction}
use Rattle.pcj_moves.specs.Recoveries.{Recovery, new_recovery}
use Rattle.pcj_moves.specs.Actors.{Actor, new_actor, with_answer, with_recovery, with_transaction}
use Rattle.pcj_mvcc.specs.Reading.{Rows, lock_up_to, acted, allows}
use Rattle.pcj_moves.specs.Reads.{IsRead}
use Rattle.pcj_table.specs.declared.lock.Lock.{Lock}
use Rattle.pcj_moves.specs.declared.answer.Answer.{Answer}
use Rattle.pcj_table.specs.Table.{Key, Table, is_between, row_at}
use Rattle.pcj_oracle.specs.declared.block.Block.{Block}
use Rattle.pcj_oracle.specs.Clock.{clock_key, next_number}
use Rattle.pcj_table.specs.declared.plain.Plain.{Plain}
use Rattle.pcj_table.specs.declared.cond.Cond.TheVariants.{PlainBelow}
use Rattle.pcj_table.specs.declared.update.Update.TheVariants.{SetPlain}
use Rattle.pcj_mvcc.specs.declared.act.Act.{Act}
use Rattle.pcj_actor.specs.StepLaws.{state_of}
use Rattle.pcj_moves.specs.Moves.{Move, Makes, IsConsistent}
use Rattle.pcj_moves.specs.Moves as move
use Rattle.pcj_recover.specs.Progress.{Progress as RecoveryProgress}
use Rattle.pcj_snapshot.specs.declared.ask.Ask.TheVariants as ask
use Rattle.pcj_snapshot.specs.Shown as shown
use Rattle.pcj_mvcc.specs.Times.{TimesInOrder}
use Rattle.pcj_moves.specs.declared.answer.Answer.TheVariants.{OfRow, OfRange}
use Rattle.pcj_recover.specs.declared.event.RecoveryEvent.{RecoveryEvent}
use Rattle.pcj_recover.specs.declared.event.RecoveryEvent.TheVariants.{Working, RolledForward, RolledBack}
use Rattle.pcj_recover.specs.Steps.{Steps as RecoverySteps}
use Rattle.pcj_txn.specs.declared.event.TxnEvent.{TxnEvent}
use Rattle.pcj_oracle.specs.Calls.{after_calls}
use Rattle.pcj_txn.specs.Errors.{step_calls}
use Rattle.pcj_txn.specs.Progress.{Progress as TxnProgress, Draw, due}
use Rattle.pcj_txn.specs.Steps.{Steps as TxnSteps}
use Rattle.pcj_actor.specs.declared.event.ActorEvent.{ActorEvent}
use Rattle.pcj_actor.specs.declared.event.ActorEvent.TheVariants as event
use Rattle.pcj_actor.specs.declared.told.Told.{Told}
use Rattle.pcj_actor.specs.declared.told.Told.TheVariants.{Answered, Met}
use Rattle.pcj_actor.specs.declared.task.Task.{Task}
use Rattle.pcj_actor.specs.declared.task.Task.TheVariants.{Rest, Get, Next, Put, Write}

-- the actor as others see it, what it carries out, and whether the lock of its recovery's primary is to be dropped
pub record Progress : Type 0 where
  pub actor : Actor
  pub task : Task
  pub locked : Bool

abbrev pub transaction_of : Task → Transaction
transaction_of Rest = new_transaction []
transaction_of (Get key) = new_transaction []
transaction_of (Next range) = new_transaction []
transaction_of (Put key plain) = new_transaction []
transaction_of (Write progress) = progress.transaction

abbrev pub recovery_of : Option RecoveryProgress → Option Recovery
recovery_of None = None
recovery_of (Some progress) = Some progress.recovery

abbrev pub locked_of : Option RecoveryProgress → Bool
locked_of None = false
locked_of (Some progress) = progress.locked

-- the transaction is of the actor's start, and a plain value isn't written on the clock's row
abbrev pub IsOfStart : ℕ → Task → Type 0
IsOfStart start Rest = Unit {0}
IsOfStart start (Get key) = Unit {0}
IsOfStart start (Next range) = Unit {0}
IsOfStart start (Put key plain) = key ≢ clock_key
IsOfStart start (Write progress) = progress.start ≡ start

abbrev pub new_progress : ℕ → Progress
new_progress start = record { actor = new_actor start; task = Rest; locked = false }

-- no row that a task reads by a range has a plain value
abbrev pub ReadsNoPlain : Task → Rows → Type 0
ReadsNoPlain Rest rows = Unit {0}
ReadsNoPlain (Get key) rows = Unit {0}
ReadsNoPlain (Next range) rows = shown.HasNoPlain (ask.Next range) rows
ReadsNoPlain (Put key plain) rows = Unit {0}
ReadsNoPlain (Write progress) rows = Unit {0}

-- what a walk found lies in its range
abbrev pub IsWithin : Answer → Type 0
IsWithin (OfRow key found) = Unit {0}
IsWithin (OfRange after end None) = Unit {0}
IsWithin (OfRange after end (Some pair)) = is_between after end pair.key ≡ true

-- what was read is what is seen, or a lock of that time or before stands in the row
abbrev pub IsTold : Told → ℕ → Rows → Type 0
IsTold (Answered answer) at rows = IsRead rows at answer × IsWithin answer
IsTold (Met key lock) at rows = lock_up_to at (rows key).lock ≡ Some lock

abbrev pub IsReading : Task → Type 0
IsReading Rest = ⊥
IsReading (Get key) = Unit {0}
IsReading (Next range) = Unit {0}
IsReading (Put key plain) = ⊥
IsReading (Write progress) = ⊥

-- a transaction is carried out whose next step draws its commit
abbrev pub IsDrawing : Task → Type 0
IsDrawing task = (txn : TxnProgress) × (task ≡ Write txn) × (due txn ≡ Draw)

-- with one more answer, after which nothing is to be carried out, or with the recovery of a lock that was met
abbrev pub with_held : Progress → Answer → Progress
with_held progress answer = record { actor = with_answer progress.actor answer; task = Rest; locked = progress.locked }

abbrev pub with_met : Progress → Key → Lock → Progress
with_met progress key lock = record { actor = with_recovery progress.actor (Some (new_recovery key lock)); task = progress.task; locked = false }

-- with something else to carry out
abbrev pub with_task : Progress → Task → Progress
with_task progress task = record { actor = with_transaction progress.actor (transaction_of task); task = task; locked = progress.locked }

-- it makes the recovery's step, and has none once that ended
abbrev pub with_recovered : Progress → RecoveryEvent → RecoveryProgress → Progress
with_recovered progress Working after = record { actor = with_recovery progress.actor (Some after.recovery); task = progress.task; locked = after.locked }
with_recovered progress RolledForward after = record { actor = with_recovery progress.actor None; task = progress.task; locked = false }
with_recovered progress RolledBack after = record { actor = with_recovery progress.actor None; task = progress.task; locked = false }

-- the transaction has come so far
abbrev pub with_txn : Progress → TxnProgress → Progress
with_txn progress after = record { actor = with_transaction progress.actor after.transaction; task = Write after; locked = progress.locked }

-- the answer is of what was asked for
abbrev pub IsAnswerOf : Task → Answer → Type 0
IsAnswerOf (Get key) (OfRow of found) = of ≡ key
IsAnswerOf (Next range) (OfRange after end found) = (after ≡ range.after) × (end ≡ range.end)
IsAnswerOf _ answer = ⊥

abbrev pub told_event : Told → ActorEvent
told_event (Answered answer) = event.Answered
told_event (Met key lock) = event.Met

abbrev pub IsToldOf : Task → Told → Type 0
IsToldOf task (Answered answer) = IsAnswerOf task answer
IsToldOf task (Met key lock) = Unit {0}

-- ---- a step

-- the rows are as they have to be where something is read
abbrev pub AreReadable : Task → Rows → Type 0
AreReadable task rows = TimesInOrder rows × ReadsNoPlain task rows

-- nothing but the actor has changed
pub record TableStays (oracle : Option Block) (table : Table) (oracle' : Option Block) (table' : Table) : Type 0 where
  pub numbers : oracle' ≡ oracle
  pub rows : table' ≡ table

-- the read is answered by what is seen at the start
pub record Answers (old : Progress) (table : Table) (new : Progress) : Type 0 where
  pub answer : Answer
  pub of : IsAnswerOf old.task answer
  pub read : AreReadable old.task (row_at table) → IsRead (row_at table) old.actor.start answer
  pub within : AreReadable old.task (row_at table) → IsWithin answer
  pub next : new ≡ with_held old answer

-- a lock stands in the row that was to be read or locked
pub record Meets (old : Progress) (table : Table) (new : Progress) : Type 0 where
  pub key : Key
  pub lock : Lock
  pub stands : AreReadable old.task (row_at table) → (row_at table key).lock ≡ Some lock
  pub next : new ≡ with_met old key lock

-- a step of the recovery is made
pub record Recovers (old : Progress) (table : Table) (event : RecoveryEvent) (new : Progress) (table' : Table) : Type 0 where
  pub before : RecoveryProgress
  pub after : RecoveryProgress
  pub is : old.actor.recovery ≡ Some before.recovery
  pub locked : old.locked ≡ before.locked
  pub steps : RecoverySteps before table event after table'
  pub next : new ≡ with_recovered old event after

-- a plain value is written where none of its number or a later one stands
abbrev pub plain_act : Plain → Act
plain_act plain = record { conds = PlainBelow plain.seq ∷ []; updates = SetPlain plain ∷ [] }

abbrev pub IsPut : Bool → Key → Plain → Table → Table → Type 0
IsPut true key plain table table' = (allows (plain_act plain) (row_at table key) ≡ true) × (row_at table' ≡ acted (row_at table) key (plain_act plain))
IsPut false key plain table table' = (allows (plain_act plain) (row_at table key) ≡ false) × (table' ≡ table)

pub record Puts (old : Progress) (table : Table) (applied : Bool) (new : Progress) (table' : Table) : Type 0 where
  pub key : Key
  pub plain : Plain
  pub is : old.task ≡ Put key plain
  pub put : IsPut applied key plain table table'
  pub next : new ≡ with_task old Rest

-- a step of the transaction is made
pub record Writes (old : Progress) (oracle : Option Block) (table : Table) (event : TxnEvent) (new : Progress) (oracle' : Option Block) (table' : Table) : Type 0 where
  pub before : TxnProgress
  pub after : TxnProgress
  pub is : old.task ≡ Write before
  pub steps : TxnSteps before oracle table event after oracle' table'
  pub next : new ≡ with_txn old after

-- A step by what it tells. Where there is a recovery its step is made, and else what is carried out goes on.
abbrev pub Tells : Progress → Option Block → Table → ActorEvent → Progress → Option Block → Table → Type 0
Tells old oracle table event.Rests new oracle' table' = (old.task ≡ Rest) × (new ≡ old) × TableStays oracle table oracle' table'
Tells old oracle table event.Answered new oracle' table' = Answers old table new × TableStays oracle table oracle' table'
Tells old oracle table event.Met new oracle' table' = Meets old table new × TableStays oracle table oracle' table'
Tells old oracle table (event.Recovers told) new oracle' table' = Recovers old table told new table' × (oracle' ≡ oracle)
Tells old oracle table (event.Put applied) new oracle' table' = Puts old table applied new table' × (oracle' ≡ oracle)
Tells old oracle table (event.Writes told) new oracle' table' = Writes old oracle table told new oracle' table'

-- an event of a recovery exactly where there is one
abbrev pub is_recovery : ActorEvent → Bool
is_recovery event.Rests = false
is_recovery event.Answered = false
is_recovery event.Met = false
is_recovery (event.Recovers told) = true
is_recovery (event.Put applied) = false
is_recovery (event.Writes told) = false

-- the one plain value that a step writes is that of the clock's row, which is empty, or what was to be put
abbrev pub MayWritePlain : Task → Key → Plain → Type 0
MayWritePlain task key plain = ((key ≡ clock_key) × (plain.value ≡ Some [])) ⊎ (task ≡ Put key plain)

-- a move of a step that leaves what was read and what is to be written
abbrev pub IsStepMove : Task → Move → Type 0
IsStepMove task (move.Plan writes) = ⊥
IsStepMove task (move.Read answer) = ⊥
IsStepMove task (move.WritePlain key plain) = MayWritePlain task key plain
IsStepMove task _ = Unit {0}

abbrev pub AreAllStepMoves : Task → List Move → Type 0
AreAllStepMoves task [] = Unit {0}
AreAllStepMoves task (move ∷ moves) = IsStepMove task move × AreAllStepMoves task moves

-- a step is an answer that was read, or such moves
abbrev pub AreStepMoves : Task → List Move → Type 0
AreStepMoves task moves = ((answer : Answer) × IsReading task × (moves ≡ move.Read answer ∷ [])) ⊎ AreAllStepMoves task moves

-- the actor has made moves that the rules allow, and nothing else has changed
abbrev pub Moved : Progress → ℕ → Table → Progress → ℕ → Table → Type 0
Moved old number table new number' table' = (moves : List Move) × AreStepMoves old.task moves × Makes moves number (row_at table) old.actor number' (row_at table') new.actor

-- Whoever else is at work: where all is as it has to be, an actor makes moves that the rules allow.
abbrev pub Carries : Progress → Option Block → Table → Progress → Option Block → Table → Type 0
Carries old oracle table new oracle' table' = (others : List Actor) → ReadsNoPlain old.task (row_at table) → IsConsistent (state_of oracle table (old.actor ∷ others)) →
    Moved old (next_number oracle table) table new (next_number oracle' table') table'

-- ---- calls

-- so many calls were made at most
pub record MakesUpTo (most before now : ℕ) : Type 0 where
  pub calls : ℕ
  pub made : now ≡ after_calls calls before
  pub within : calls ≤ most

-- how many calls a task's step makes at most: one, or those of a draw
abbrev pub task_calls : Task → Option Block → Table → ℕ
task_calls Rest oracle table = 0
task_calls (Get key) oracle table = 1
task_calls (Next range) oracle table = 1
task_calls (Put key plain) oracle table = 1
task_calls (Write progress) oracle table = step_calls (due progress) oracle table

-- where there is a recovery its step makes one
abbrev pub calls_of : Progress → Option Block → Table → ℕ
calls_of progress oracle table = if is_some progress.actor.recovery then 1 else task_calls progress.task oracle table
