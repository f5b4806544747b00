-- How what is known of the jobs in flight stays true.
use Rattle.std.specs.Prelude.{◌≡◌, ◌≢◌, ◌⊎◌, ◌≤◌, ◌+◌, ◌^◌, ℕ, false, List, [], ◌∷◌, ◌++◌, Option, Some, None}
use Rattle.pcj_table.specs.Table.{Key, Table, row_at}
use Rattle.pcj_oracle.specs.Clock.{IsClock, next_number}
use Rattle.pcj_oracle.specs.Draw.{IsNumber, Keeps}
use Rattle.pcj_oracle.specs.declared.block.Block.{Block}
use Rattle.pcj_mvcc.specs.Reading.{Rows}
use Rattle.pcj_moves.specs.Actors.{Actor, new_actor}
use Rattle.pcj_moves.specs.Moves.{Makes, Move}
use Rattle.pcj_actor.specs.StepLaws as step
use Rattle.pcj_fit.specs.Laws.{state_of}
use Rattle.pcj_fit.specs.Sound.{Sound}
use Rattle.pcj_rows.specs.Triples.{HasTriples}
use Rattle.pcj_client.specs.Job.{IsJob, Job}
use Rattle.pcj_client.specs.declared.event.JobEvent.{JobEvent}
use Rattle.pcj_clients.specs.Clients.{actors_of, job_of, without_job}
use Rattle.pcj_clients.specs.Laws.{IsJobStep}
use Rattle.pcj_clients.specs.Steps.{AreSteps, AreStepsOf, Told, WantsMemory, no_steps, stepped_from}
use Rattle.pcj_clients.specs.declared.stepped.Stepped.{Stepped}
use Rattle.pcj_clients.specs.declared.stepped.StepsEnd.{StepsEnd}
use Rattle.pcj_clients.specs.declared.stepped.StepsEnd.TheVariants as all
use Rattle.pcj_clients.specs.declared.busy.Busy.{Busy}
use Rattle.pcj_model.specs.Job as told
use Rattle.pcj_model.specs.State.{State, all_beside, opened, stepped, with_job, with_jobs}
use Rattle.pcj_jobs.specs.Agrees.{Agrees, EndsAs, HasRegistered, commit_told, known_after}
use Rattle.pcj_jobs.specs.Known.{AreKnown, IsContentOf}

-- ---- jobs that begin and end

-- no lock and no version is another, as after a draw, which writes the clock's plain value alone
abbrev pub SameButPlain : Rows → Rows → Type 0
SameButPlain before after = (key : Key) → ((after key).lock ≡ (before key).lock) × ((after key).versions ≡ (before key).versions)

abbrev pub PlainStaysKnown : Type 0
PlainStaysKnown = (before after : Rows) (clients : List Busy) (jobs : ℕ → Option told.Job) → SameButPlain before after → AreKnown before clients jobs → AreKnown after clients jobs

-- a job that begins with a number that wasn't granted before: a load of these triples, or a registration of this query
abbrev pub OpensKnown : Type 0
OpensKnown = (number : ℕ) (rows : Rows) (others : List Actor) (clients : List Busy) (jobs : ℕ → Option told.Job) (client : ℕ) (job : Job) (content : told.Content) → Sound (state_of number rows others) → number ≤ job.actor.start →
    IsJob job → IsContentOf job.content content → job.actor ≡ new_actor job.actor.start → job_of clients client ≡ None → AreKnown rows clients jobs →
    AreKnown rows (clients ++ (record { client = client; job = job }) ∷ []) (with_job jobs client (Some (told.new_job job.actor.start content)))

-- the job of a client that ends where it stands, and all of them
abbrev pub EndsKnown : Type 0
EndsKnown = (rows : Rows) (clients : List Busy) (jobs : ℕ → Option told.Job) (client : ℕ) → AreKnown rows clients jobs → AreKnown rows (without_job clients client) (with_job jobs client None)

abbrev pub AllEndKnown : Type 0
AllEndKnown = (rows : Rows) → AreKnown rows [] (λ client. None)

-- ---- others beside them

-- Moves of somebody else that don't commit a transaction, as those of a reader.
abbrev pub BesideKnown : Type 0
BesideKnown = (moves : List Move) (number : ℕ) (rows : Rows) (actor : Actor) (number' : ℕ) (rows' : Rows) (actor' : Actor) (others : List Actor) (clients : List Busy) (jobs : ℕ → Option told.Job) →
    Makes moves number rows actor number' rows' actor' → actor'.transaction.committed ≡ actor.transaction.committed → Sound (state_of number rows (actor ∷ (actors_of clients ++ others))) →
    AreKnown rows clients jobs → AreKnown rows' clients (all_beside [] [] jobs)

-- ---- a step of one of them

-- the step of a client's job, which is known
pub record StepsKnown (client : ℕ) (old : List Busy) (oracle : Option Block) (table : Table) (event : JobEvent) (new : List Busy) (oracle' : Option Block) (table' : Table) (state : State) (known : told.Job) : Type 0 where
  pub has : state.jobs client ≡ Some known
  pub commits : told.MayCommit state.queries known (commit_told event)
  pub end : told.StepsEnd
  pub ends_as : EndsAs event end
  pub ends : told.MayEnd state.queries known (commit_told event) end
  pub agrees : Agrees oracle' table' new (stepped state client known (commit_told event) (known_after known event) 1)

-- It tells what may be told of a job of which so much is known, and what is known after it is true.
abbrev pub StepAgrees : Type 0
StepAgrees = (client : ℕ) (old : List Busy) (oracle : Option Block) (table : Table) (event : JobEvent) (new : List Busy) (oracle' : Option Block) (table' : Table) (job : Job) (others : List Actor) (state : State) →
    job_of old client ≡ Some job → IsJobStep job client old oracle table event new oracle' table' → Sound (step.state_of oracle table (actors_of old ++ others)) → next_number oracle' table' ≤ 2 ^ 48 → Agrees oracle table old state →
    (known : told.Job) × StepsKnown client old oracle table event new oracle' table' state known

-- a step that fails is one more that was tried, and leaves all as it was
abbrev pub FaultAgrees : Type 0
FaultAgrees = (client : ℕ) (clients : List Busy) (oracle : Option Block) (table : Table) (oracle' : Option Block) (table' : Table) (job : Job) (others : List Actor) (state : State) →
    job_of clients client ≡ Some job → Keeps oracle table oracle' table' → Sound (step.state_of oracle table (actors_of clients ++ others)) → Agrees oracle table clients state →
    (known : told.Job) × (state.jobs client ≡ Some known) × Agrees oracle' table' clients (stepped state client known None (Some known) 1)

-- ---- the steps of a command

-- how they end
abbrev pub IsEndOf : StepsEnd → told.StepsEnd → Type 0
IsEndOf all.AllMade end = end ≡ told.StepsEnd.AllMade
IsEndOf all.Nothing end = ⊥
IsEndOf all.Done end = end ≡ told.StepsEnd.IsDone
IsEndOf all.Aborted end = end ≡ told.StepsEnd.IsAborted
IsEndOf all.Taken end = end ≡ told.StepsEnd.IsTaken
IsEndOf all.Fault end = end ≡ told.StepsEnd.Fails
IsEndOf all.Spent end = ⊥

-- They are answered as the job allows of which so much is known, and the state behind the answer is true.
pub record StepsAnswer (client most : ℕ) (new : List Busy) (oracle' : Option Block) (table' : Table) (state : State) (came : Stepped) : Type 0 where
  pub known : told.Job
  pub has : state.jobs client ≡ Some known
  pub end : told.StepsEnd
  pub ends_as : IsEndOf came.end end
  pub after : Option told.Job
  pub reply : told.StepsReply state.queries known client most (told.steps_lines client came.commit end came.count) came.commit after
  pub count : reply.count ≡ came.count
  pub agrees : Agrees oracle' table' new (stepped state client known came.commit after came.count)

abbrev pub StepsAgree : Type 0
StepsAgree = (client most : ℕ) (old : List Busy) (oracle : Option Block) (table : Table) (events : List Told) (new : List Busy) (oracle' : Option Block) (table' : Table) (job : Job) (others : List Actor) (state : State) →
    job_of old client ≡ Some job → 1 ≤ most → AreStepsOf client most old oracle table events new oracle' table' → (stepped_from no_steps events).end ≢ all.Spent → Sound (step.state_of oracle table (actors_of old ++ others)) →
    next_number oracle' table' ≤ 2 ^ 48 → Agrees oracle table old state → StepsAnswer client most new oracle' table' state (stepped_from no_steps events)

-- Where the last would draw 2^48, none of them drew a commit, and the triples and the queries are those from before.
pub record SpentKnown (client : ℕ) (new : List Busy) (oracle' : Option Block) (table' : Table) (state : State) (came : Stepped) : Type 0 where
  pub known : told.Job
  pub has : state.jobs client ≡ Some known
  pub undone : known.is_committed ≡ false
  pub commit : came.commit ≡ None
  pub made : ℕ
  pub count : came.count ≡ made + 1
  pub agrees : Agrees oracle' table' new (stepped state client known None (Some (told.grown known None made)) came.count)
  pub triples : HasTriples (row_at table') state.triples
  pub queries : HasRegistered (row_at table') state.queries

abbrev pub SpentAgrees : Type 0
SpentAgrees = (client most : ℕ) (old : List Busy) (oracle : Option Block) (table : Table) (events : List Told) (new : List Busy) (oracle' : Option Block) (table' : Table) (job : Job) (others : List Actor) (state : State) →
    job_of old client ≡ Some job → 1 ≤ most → AreStepsOf client most old oracle table events new oracle' table' → (stepped_from no_steps events).end ≡ all.Spent → Sound (step.state_of oracle table (actors_of old ++ others)) →
    next_number oracle' table' ≤ 2 ^ 48 → Agrees oracle table old state → SpentKnown client new oracle' table' state (stepped_from no_steps events)

-- Where there was no memory for the last, no triple and no query joined, or the job's did, and the state behind the steps before is true.
pub record ShortKnown (client most : ℕ) (new : List Busy) (oracle' : Option Block) (table' : Table) (state : State) : Type 0 where
  pub known : told.Job
  pub has : state.jobs client ≡ Some known
  pub commit : Option ℕ
  pub count : ℕ
  pub commits : told.MayCommit state.queries known commit
  pub left : (HasTriples (row_at table') state.triples × HasRegistered (row_at table') state.queries) ⊎ ((1 ≤ count) × (count ≤ most) × Agrees oracle' table' new (stepped state client known commit (Some (told.grown known commit count)) count))

abbrev pub ShortAgrees : Type 0
ShortAgrees = (client most : ℕ) (old : List Busy) (oracle : Option Block) (table : Table) (events : List Told) (new : List Busy) (oracle' : Option Block) (table' : Table) (job : Job) (others : List Actor) (state : State) →
    job_of old client ≡ Some job → WantsMemory client most old oracle table events new oracle' table' → Sound (step.state_of oracle table (actors_of old ++ others)) → next_number oracle' table' ≤ 2 ^ 48 → Agrees oracle table old state →
    ShortKnown client most new oracle' table' state

-- ---- numbers

-- no step makes the next number fall
abbrev pub NumbersNeverFall : Type 0
NumbersNeverFall = (events : List Told) (client : ℕ) (old : List Busy) (oracle : Option Block) (table : Table) (new : List Busy) (oracle' : Option Block) (table' : Table) (others : List Actor) → AreSteps events client old oracle table new oracle' table' →
    Sound (step.state_of oracle table (actors_of old ++ others)) → next_number oracle table ≤ next_number oracle' table'

-- ---- whole states

-- a draw, which writes the clock's plain value at most
abbrev pub DrawAgrees : Type 0
DrawAgrees = (number : ℕ) (clients : List Busy) (oracle : Option Block) (table : Table) (oracle' : Option Block) (table' : Table) (state : State) → IsNumber number oracle table oracle' table' → Agrees oracle table clients state → Agrees oracle' table' clients state

-- a job that begins with the number that was drawn for it
abbrev pub OpensAgrees : Type 0
OpensAgrees = (number : ℕ) (clients : List Busy) (oracle : Option Block) (table : Table) (oracle' : Option Block) (table' : Table) (others : List Actor) (state : State) (client : ℕ) (job : Job) (content : told.Content) → IsNumber number oracle table oracle' table' →
    Sound (step.state_of oracle table others) → IsJob job → IsContentOf job.content content → job.actor ≡ new_actor number → job_of clients client ≡ None → Agrees oracle table clients state →
    Agrees oracle' table' (clients ++ (record { client = client; job = job }) ∷ []) (opened state client number content)

-- the job of a client that ends where it stands, and all of them
abbrev pub CrashAgrees : Type 0
CrashAgrees = (clients : List Busy) (oracle : Option Block) (table : Table) (state : State) (client : ℕ) → Agrees oracle table clients state → Agrees oracle table (without_job clients client) (with_jobs state (with_job state.jobs client None))

abbrev pub AllCrashAgree : Type 0
AllCrashAgree = (clients : List Busy) (oracle : Option Block) (table : Table) (state : State) → Agrees oracle table clients state → Agrees oracle table [] (with_jobs state (λ client. None))

-- an oracle that is lost: the next number is the stored one then
abbrev pub LostAgrees : Type 0
LostAgrees = (clients : List Busy) (oracle : Option Block) (table : Table) (state : State) → IsClock oracle table → Agrees oracle table clients state → Agrees None table clients state

-- moves of somebody else that prewrite and commit nothing, as those of a reader
abbrev pub BesideAgrees : Type 0
BesideAgrees = (moves : List Move) (clients : List Busy) (oracle : Option Block) (table : Table) (actor : Actor) (oracle' : Option Block) (table' : Table) (actor' : Actor) (others : List Actor) (state : State) →
    Makes moves (next_number oracle table) (row_at table) actor (next_number oracle' table') (row_at table') actor' → actor'.transaction.committed ≡ actor.transaction.committed → actor'.transaction.prewritten ≤ actor.transaction.prewritten →
    Sound (step.state_of oracle table (actor ∷ (actors_of clients ++ others))) → Agrees oracle table clients state → Agrees oracle' table' clients (with_jobs state (all_beside [] [] state.jobs))
