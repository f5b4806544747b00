-- A job at work: what others see of it, and what a load and a registration have gathered so far.
use Rattle.std.specs.Prelude.{◌≡◌, ◌⊎◌, ℕ, ◌≤◌, ◌<◌, Bool, true, false, List, [], ◌∷◌, ◌++◌, length, take, Option, Some, None}
use Rattle.std.specs.List.{slice_get}
use Rattle.pcj_term.specs.declared.triple.Triple.{Triple}
use Rattle.pcj_table.specs.declared.write.Write.{Write}
use Rattle.pcj_encode.specs.declared.order.Order.TheVariants.{Spo}
use Rattle.pcj_rowtables.specs.Rows.{triple_key}
use Rattle.pcj_moves.specs.Transactions.{new_transaction}
use Rattle.pcj_moves.specs.Actors.{Actor}
use Rattle.pcj_txn.specs.Progress.{Progress as TxnProgress}
use Rattle.pcj_actor.specs.Progress.{IsOfStart, Progress, transaction_of}
use Rattle.pcj_actor.specs.declared.task.Task.{Task}
use Rattle.pcj_actor.specs.declared.task.Task.TheVariants.{Rest, Get, Next, Put, Write as Writes}
use Rattle.pcj_table.specs.Table.{Key}
use Rattle.pcj_table.specs.declared.lock.Lock.{Lock}
use Rattle.pcj_table.specs.declared.plain.Plain.{Plain}
use Rattle.pcj_recover.specs.Progress.{Progress as RecoveryProgress}
use Rattle.pcj_txn.specs.Progress.{new_progress as new_txn}
use Rattle.pcj_moves.specs.declared.answer.Answer.{Answer}
use Rattle.pcj_moves.specs.declared.answer.Answer.TheVariants.{OfRange, OfRow}
use Rattle.pcj_moves.specs.Transactions.{are_distinct}
use Rattle.pcj_actor.specs.declared.event.ActorEvent.{ActorEvent}
use Rattle.pcj_actor.specs.declared.event.ActorEvent.TheVariants as event
use Rattle.pcj_actor.specs.Progress.{IsAnswerOf, with_held, with_met, with_recovered, with_task, with_txn}
use Rattle.pcj_encode.specs.Name.{IsRegistration, key_of}
use Rattle.pcj_encode.specs.declared.key_name.KeyName.TheVariants as row
use Rattle.pcj_tree.specs.declared.tree.Tree.{Tree}
use Rattle.pcj_rows.specs.Plans.{AreReadOf, IsLoad, IsLoadPlan, IsRegisterPlan, absent_of, load_writes, registration_writes, triple_writes}
use Rattle.pcj_rows.specs.Registrations.{IsQueryTree}

-- what a job is for: triples to load, or a query to register, by its name and the tree of its nodes
pub data Content : Type 0 where
  Loads : List Triple → Content
  Registers : List ℕ → Tree → Content

-- the triples that join with its commit
abbrev pub loaded : Content → List Triple
loaded (Loads triples) = triples
loaded (Registers name tree) = []

-- The actor, its transaction's progress once all is read, whether the lock of its recovery's primary is to be dropped, and
-- what the job is for.
pub record Job : Type 0 where
  pub actor : Actor
  pub writing : Option TxnProgress
  pub locked : Bool
  pub content : Content

abbrev pub writing_of : Task → Option TxnProgress
writing_of Rest = None
writing_of (Get key) = None
writing_of (Next range) = None
writing_of (Put key plain) = None
writing_of (Writes progress) = Some progress

abbrev pub job_of : Progress → Content → Job
job_of progress content = record { actor = progress.actor; writing = writing_of progress.task; locked = progress.locked; content = content }

-- ---- loads

-- Nothing is prewritten until all is read. Then its transaction is of its start, and writes the rows of the triples that weren't
-- found.
abbrev pub HasCome : Option TxnProgress → Actor → List Triple → Type 0
HasCome None actor triples = (actor.transaction ≡ new_transaction []) × (length actor.answers < length triples)
HasCome (Some progress) actor triples =
    (actor.transaction ≡ progress.transaction) × (progress.start ≡ actor.start) × IsLoadPlan actor.start actor.answers actor.transaction.writes triples

-- the job of a load: its number is its start, and its answers are of its triples, in order
pub record IsLoadJob (job : Job) (triples : List Triple) : Type 0 where
  pub content : job.content ≡ Loads triples
  pub load : IsLoad job.actor.start triples
  pub reads : AreReadOf triples job.actor.answers
  pub come : HasCome job.writing job.actor triples

-- ---- registrations

-- nothing was read yet, or the row of the name, and nothing else
abbrev pub HasReadName : List ℕ → List Answer → Type 0
HasReadName name answers = (answers ≡ []) ⊎ ((found : Option (List ℕ)) × (answers ≡ OfRow (key_of (row.Name name)) found ∷ []))

-- Nothing is prewritten until the name was read and nothing has it. Then its transaction is of its start, and writes the rows
-- of the registration.
abbrev pub HasRegistered : Option TxnProgress → Actor → List ℕ → Tree → Type 0
HasRegistered None actor name tree = actor.transaction ≡ new_transaction []
HasRegistered (Some progress) actor name tree =
    (actor.transaction ≡ progress.transaction) × (progress.start ≡ actor.start) × IsRegisterPlan actor.start actor.answers actor.transaction.writes name tree

-- the job of a registration: its number is its start, and all that it reads is the row of its name
pub record IsRegisterJob (job : Job) (name : List ℕ) (tree : Tree) : Type 0 where
  pub content : job.content ≡ Registers name tree
  pub first : 1 ≤ job.actor.start
  pub number : IsRegistration job.actor.start
  pub of_query : IsQueryTree tree
  pub reads : HasReadName name job.actor.answers
  pub come : HasRegistered job.writing job.actor name tree

-- one or the other
abbrev pub IsJob : Job → Type 0
IsJob job = ((triples : List Triple) × IsLoadJob job triples) ⊎ ((name : List ℕ) × (tree : Tree) × IsRegisterJob job name tree)

-- the row that was read first has a value
abbrev pub has_found : List Answer → Bool
has_found [] = false
has_found (OfRow key None ∷ answers) = false
has_found (OfRow key (Some value) ∷ answers) = true
has_found (OfRange after end found ∷ answers) = false

abbrev pub finds_in : Content → List Answer → Bool
finds_in (Loads triples) answers = false
finds_in (Registers name tree) answers = has_found answers

-- a registration has found a row of its name
abbrev pub finds_name : Job → Bool
finds_name job = finds_in job.content job.actor.answers

-- ---- what a load has gathered

-- What is carried out, what is gathered to be written, and, while a triple is read, how much of that stays where the
-- triple is found: first nothing is asked, then a triple's row is read while its writes stand behind those of the triples
-- that weren't found, and at last those are carried out.
abbrev pub IsTask : Task → Actor → List Triple → List Write → Option ℕ → Type 0
IsTask Rest actor triples writes kept = (kept ≡ None) × (length actor.answers < length triples) × (writes ≡ load_writes (absent_of triples actor.answers))
IsTask (Get key) actor triples writes kept = (kept ≡ Some (length (load_writes (absent_of triples actor.answers)))) ×
    (triple : Triple) × (slice_get triples (length actor.answers) ≡ Some triple) × (key ≡ triple_key Spo triple) ×
    (writes ≡ load_writes (absent_of triples actor.answers) ++ triple_writes triple)
IsTask (Next range) actor triples writes kept = ⊥
IsTask (Put key plain) actor triples writes kept = ⊥
IsTask (Writes progress) actor triples writes kept = (kept ≡ None) × (length actor.answers ≡ length triples) × (progress.transaction.writes ≡ load_writes (absent_of triples actor.answers))

pub record IsAtWork (progress : Progress) (triples : List Triple) (writes : List Write) (kept : Option ℕ) : Type 0 where
  pub load : IsLoad progress.actor.start triples
  pub reads : AreReadOf triples progress.actor.answers
  pub transaction : progress.actor.transaction ≡ transaction_of progress.task
  pub start : IsOfStart progress.actor.start progress.task
  pub task : IsTask progress.task progress.actor triples writes kept

-- ---- what a registration has still to do

-- What is carried out, and what is to be written: first the row of the name is read; where it has a value nothing more is
-- carried out, and else the writes are.
abbrev pub IsRegisterTask : Task → Actor → List ℕ → Tree → List Write → Type 0
IsRegisterTask Rest actor name tree writes = (value : List ℕ) × (actor.answers ≡ OfRow (key_of (row.Name name)) (Some value) ∷ [])
IsRegisterTask (Get key) actor name tree writes = (key ≡ key_of (row.Name name)) × (actor.answers ≡ []) × (writes ≡ registration_writes actor.start name tree)
IsRegisterTask (Next range) actor name tree writes = ⊥
IsRegisterTask (Put key plain) actor name tree writes = ⊥
IsRegisterTask (Writes progress) actor name tree writes = (actor.answers ≡ OfRow (key_of (row.Name name)) None ∷ []) × (progress.transaction.writes ≡ registration_writes actor.start name tree)

pub record IsRegistering (progress : Progress) (name : List ℕ) (tree : Tree) (writes : List Write) : Type 0 where
  pub first : 1 ≤ progress.actor.start
  pub number : IsRegistration progress.actor.start
  pub of_query : IsQueryTree tree
  pub transaction : progress.actor.transaction ≡ transaction_of progress.task
  pub start : IsOfStart progress.actor.start progress.task
  pub task : IsRegisterTask progress.task progress.actor name tree writes

-- ---- a step

-- something is carried out
abbrev pub IsBusy : Task → Type 0
IsBusy Rest = ⊥
IsBusy _ = Unit {0}

-- what a step of the actor leaves of it, by what it tells
abbrev pub IsAfter : Progress → ActorEvent → Progress → Type 0
IsAfter before event.Rests after = before.task ≡ Rest
IsAfter before event.Answered after = (answer : Answer) × IsAnswerOf before.task answer × (after ≡ with_held before answer)
IsAfter before event.Met after = (key : Key) × (lock : Lock) × (after ≡ with_met before key lock)
IsAfter before (event.Recovers told) after = (progress : RecoveryProgress) × (after ≡ with_recovered before told progress)
IsAfter before (event.Put applied) after = (key : Key) × (plain : Plain) × (before.task ≡ Put key plain)
IsAfter before (event.Writes told) after =
    (txn : TxnProgress) × (next : TxnProgress) × (before.task ≡ Writes txn) × (next.transaction.writes ≡ txn.transaction.writes) × (next.start ≡ txn.start) × (after ≡ with_txn before next)

-- the load was at work, and its actor made a step
abbrev pub HasStepped : List Triple → List Write → Option ℕ → ActorEvent → Progress → Type 0
HasStepped triples writes kept told after = (before : Progress) × IsAtWork before triples writes kept × IsBusy before.task × IsAfter before told after

-- it goes on as it is, or has its writes
abbrev pub GoesOn : Progress → Progress → Type 0
GoesOn before after = (after ≡ before) ⊎
    ((writes : List Write) × (before.actor.transaction ≡ new_transaction []) × (are_distinct writes ≡ true) × (after ≡ with_task before (Writes (new_txn before.actor.start writes))))

-- the row that was read has a value
abbrev pub is_found : Option Answer → Bool
is_found (Some (OfRow key (Some value))) = true
is_found _ = false

-- the writes that stay where a triple was found, or wasn't
abbrev pub kept_writes : Option ℕ → Bool → List Write → List Write
kept_writes None found writes = writes
kept_writes (Some len) true writes = take len writes
kept_writes (Some len) false writes = writes
