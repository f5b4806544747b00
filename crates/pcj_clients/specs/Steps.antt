-- The steps of one command, one after another.
use Rattle.std.specs.Prelude.{◌≡◌, ◌≤◌, ◌+◌, ◌^◌, ℕ, suc, Bool, true, false, not, ◌&&◌, List, [], ◌∷◌, ◌++◌, length, Option, Some, None, Result, Ok, Err}
use Rattle.pcj_term.specs.declared.triple.Triple.{Triple}
use Rattle.pcj_table.specs.Table.{Table}
use Rattle.pcj_oracle.specs.Clock.{next_number}
use Rattle.pcj_oracle.specs.Calls.{after_calls, reads}
use Rattle.pcj_oracle.specs.Draw.{Keeps}
use Rattle.pcj_oracle.specs.declared.block.Block.{Block}
use Rattle.pcj_txn.specs.declared.error.TxnError.{TxnError}
use Rattle.pcj_txn.specs.declared.error.TxnError.TheVariants as txn_error
use Rattle.pcj_fit.specs.Queries.{Registration}
use Rattle.pcj_client.specs.Job.{Job}
use Rattle.pcj_client.specs.declared.event.JobEvent.{JobEvent}
use Rattle.pcj_client.specs.declared.event.JobEvent.TheVariants as event
use Rattle.pcj_clients.specs.Clients.{is_end, job_of}
use Rattle.pcj_clients.specs.Laws.{DrawsNext, IsClientStep, queries_then, triples_then}
use Rattle.pcj_clients.specs.declared.busy.Busy.{Busy}
use Rattle.pcj_clients.specs.declared.stepped.Stepped.{Stepped}
use Rattle.pcj_clients.specs.declared.stepped.StepsEnd.TheVariants as end

-- what a step answers
abbrev pub Told : Type 0
Told = Result (Option JobEvent) TxnError

-- the client's next step may follow
abbrev pub goes_on : Told → Bool
goes_on (Ok (Some event)) = not (is_end event)
goes_on (Ok None) = false
goes_on (Err error) = false

-- what the steps came to, with one more
abbrev pub with_told : Stepped → Told → Stepped
with_told stepped (Ok None) = record { commit = stepped.commit; end = end.Nothing; count = stepped.count }
with_told stepped (Ok (Some event.Worked)) = record { commit = stepped.commit; end = stepped.end; count = suc stepped.count }
with_told stepped (Ok (Some (event.Committed commit))) = record { commit = Some commit; end = stepped.end; count = suc stepped.count }
with_told stepped (Ok (Some event.Done)) = record { commit = stepped.commit; end = end.Done; count = suc stepped.count }
with_told stepped (Ok (Some event.Aborted)) = record { commit = stepped.commit; end = end.Aborted; count = suc stepped.count }
with_told stepped (Ok (Some event.Taken)) = record { commit = stepped.commit; end = end.Taken; count = suc stepped.count }
with_told stepped (Err txn_error.Failed) = record { commit = stepped.commit; end = end.Fault; count = suc stepped.count }
with_told stepped (Err txn_error.Spent) = record { commit = stepped.commit; end = end.Spent; count = suc stepped.count }
with_told stepped (Err txn_error.Memory) = stepped

abbrev pub no_steps : Stepped
no_steps = record { commit = None; end = end.AllMade; count = 0 }

abbrev pub stepped_from : Stepped → List Told → Stepped
stepped_from stepped [] = stepped
stepped_from stepped (told ∷ more) = stepped_from (with_told stepped told) more

-- a step that fails changes nothing, and one that would draw 2^48 doesn't draw
abbrev pub IsStepOf : Told → ℕ → List Busy → Option Block → Table → List Busy → Option Block → Table → Type 0
IsStepOf (Ok event) client old oracle table new oracle' table' = IsClientStep (job_of old client) client old oracle table event new oracle' table'
IsStepOf (Err error) client old oracle table new oracle' table' = (new ≡ old) × Keeps oracle table oracle' table' × (error ≡ txn_error.Spent → (next_number oracle table ≡ 2 ^ 48) × DrawsNext (job_of old client))

abbrev pub AreSteps : List Told → ℕ → List Busy → Option Block → Table → List Busy → Option Block → Table → Type 0
AreSteps [] client old oracle table new oracle' table' = (new ≡ old) × (oracle' ≡ oracle) × (table' ≡ table)
AreSteps (told ∷ more) client old oracle table new oracle' table' =
    (clients : List Busy) × (between : Option Block) × (rows : Table) × IsStepOf told client old oracle table clients between rows × AreSteps more client clients between rows new oracle' table'

abbrev pub all_go_on : List Told → Bool
all_go_on [] = true
all_go_on (told ∷ more) = goes_on told && all_go_on more

-- All go on but the last, which doesn't where it is so said.
abbrev pub GoOnUpTo : Bool → List Told → Type 0
GoOnUpTo true told = all_go_on told ≡ true
GoOnUpTo false told = (front : List Told) × (last : Told) × (told ≡ front ++ last ∷ []) × (all_go_on front ≡ true) × (goes_on last ≡ false)

-- there was memory for a step, and for all
abbrev pub had_memory : Told → Bool
had_memory (Ok event) = true
had_memory (Err txn_error.Failed) = true
had_memory (Err txn_error.Spent) = true
had_memory (Err txn_error.Memory) = false

abbrev pub all_had_memory : List Told → Bool
all_had_memory [] = true
all_had_memory (told ∷ more) = had_memory told && all_had_memory more

-- the triples after the steps of a job
abbrev pub known_after : Option Job → List Told → List Triple → List Triple
known_after job [] known = known
known_after job (Ok event ∷ more) known = known_after job more (triples_then job event known)
known_after job (Err error ∷ more) known = known_after job more known

-- and the queries
abbrev pub queries_known_after : Option Job → List Told → List Registration → List Registration
queries_known_after job [] known = known
queries_known_after job (Ok event ∷ more) known = queries_known_after job more (queries_then job event known)
queries_known_after job (Err error ∷ more) known = queries_known_after job more known

-- The steps of a command that asks for so many: all of them, each after which the client has its job still, or fewer, up to one
-- that ends the job or fails, or finds none. There was memory for each.
pub record AreStepsOf (client most : ℕ) (old : List Busy) (oracle : Option Block) (table : Table) (told : List Told) (new : List Busy) (oracle' : Option Block) (table' : Table) : Type 0 where
  pub steps : AreSteps told client old oracle table new oracle' table'
  pub going : Bool
  pub go_on : GoOnUpTo going told
  pub within : length told ≤ most
  pub all : going ≡ true → length told ≡ most
  pub memory : all_had_memory told ≡ true

-- The steps of a command up to one for which there was no memory.
pub record WantsMemory (client most : ℕ) (old : List Busy) (oracle : Option Block) (table : Table) (told : List Told) (new : List Busy) (oracle' : Option Block) (table' : Table) : Type 0 where
  pub steps : AreSteps told client old oracle table new oracle' table'
  pub front : List Told
  pub is : told ≡ front ++ Err txn_error.Memory ∷ []
  pub go_on : all_go_on front ≡ true
  pub within : length told ≤ most

-- So many steps make one call of the table each at most, and one more for an oracle that they attach.
pub record MakesCallsOf (steps : ℕ) (oracle oracle' : Option Block) (before now : ℕ) : Type 0 where
  pub calls : ℕ
  pub made : now ≡ after_calls calls before
  pub within : calls + reads oracle' ≤ steps + reads oracle
