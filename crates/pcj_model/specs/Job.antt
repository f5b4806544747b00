-- A job in flight, a load or a registration, and what the steps of one command come to.
use Rattle.std.specs.Prelude.{◌≡◌, ◌⊎◌, ℕ, ◌+◌, ◌-◌, ◌^◌, ◌<◌, ◌≤◌, nat_le, Bool, true, false, ◌||◌, List, [], ◌∷◌, ◌++◌, length, map, Option, Some, None, is_some}
use Rattle.std.specs.List.{list_any}
use Rattle.pcj_term.specs.declared.triple.Triple.{Triple}
use Rattle.pcj_term.specs.Order.{same_bytes}
use Rattle.pcj_term.specs.Triple.{same_triple}
use Rattle.pcj_algebra.specs.declared.query.Query.{Query}
use Rattle.pcj_model.specs.Line.{Event, Line}
use Rattle.pcj_model.specs.Line.Event.{Committed, Done, Aborted, Taken, Fault, Steps}
use Rattle.pcj_model.specs.Line.Line.{Client}
use Rattle.pcj_model.specs.Queries.{Registration as Registered, named}

-- what a job brings: a load its distinct triples, a registration a name and a query
pub data Content : Type 0 where
  Load : List Triple → Content
  Registration : List ℕ → Query → Content

-- the triples that join with its commit
abbrev pub triples_of : Content → List Triple
triples_of (Load triples) = triples
triples_of (Registration name query) = []

-- the names that are taken with its commit
abbrev pub names_of : Content → List (List ℕ)
names_of (Load triples) = []
names_of (Registration name query) = name ∷ []

-- The steps after which its primary can be there to be met: of a load the reads of its n triples and a prewrite, of a registration
-- the read of its name and a prewrite. Before those no row of it can be locked.
abbrev pub first_of : Content → ℕ
first_of (Load triples) = length triples + 1
first_of (Registration name query) = 2

-- a job in flight: its number, which is its start, and what it brings
pub record Job : Type 0 where
  pub start : ℕ
  pub content : Content
  pub is_committed : Bool
  -- the steps that it made without a fault
  pub steps : ℕ
  -- whether somebody else made a step after those with which its primary can be there
  pub met : Bool
  -- whether one of its triples joined those that are committed since its opening line, or its name those that are taken
  pub rival : Bool

-- a job that begins
abbrev pub new_job : ℕ → Content → Job
new_job start content = record { start = start; content = content; is_committed = false; steps = 0; met = false; rival = false }

abbrev pub is_among : List Triple → Triple → Bool
is_among triples triple = list_any (same_triple triple) triples

-- one of its triples is among those that joined, or its name among the names
abbrev pub is_rival : Content → List Triple → List (List ℕ) → Bool
is_rival (Load triples) joined names = list_any (is_among triples) joined
is_rival (Registration name query) joined names = list_any (same_bytes name) names

-- the job, where somebody else made a step with which these triples joined and these names were taken
abbrev pub beside : List Triple → List (List ℕ) → Job → Job
beside joined names job = record {
  start = job.start;
  content = job.content;
  is_committed = job.is_committed;
  steps = job.steps;
  met = job.met || nat_le (first_of job.content) job.steps;
  rival = job.rival || is_rival job.content joined names;
}

-- it is a registration, and one of the queries has its name
abbrev pub is_name_held : List Registered → Content → Bool
is_name_held queries (Load triples) = false
is_name_held queries (Registration name query) = is_some (named name queries)

-- a timestamp above another number: there are none from 2^48 on
abbrev pub IsTimestampAbove : ℕ → ℕ → Type 0
IsTimestampAbove below number = (below < number) × (number < 2 ^ 48)

-- ---- the steps of one command

-- the steps are all made; or the job ends: done, aborted, or a registration whose name is taken; or a call of the table fails
pub data StepsEnd : Type 0 where
  AllMade : StepsEnd
  IsDone : StepsEnd
  IsAborted : StepsEnd
  IsTaken : StepsEnd
  Fails : StepsEnd

abbrev pub commit_events : Option ℕ → List Event
commit_events None = []
commit_events (Some commit) = Committed commit ∷ []

abbrev pub end_events : StepsEnd → List Event
end_events AllMade = []
end_events IsDone = Done ∷ []
end_events IsAborted = Aborted ∷ []
end_events IsTaken = Taken ∷ []
end_events Fails = Fault ∷ []

-- the commit comes first, then how the steps end, and then how many were tried, a failed one too
abbrev pub steps_lines : ℕ → Option ℕ → StepsEnd → ℕ → List Line
steps_lines client commit end count = map (Client client) (commit_events commit ++ end_events end ++ Steps count ∷ [])

-- a commit is a timestamp above the job's start, and comes once; a registration's comes where no query has its name
abbrev pub MayCommit : List Registered → Job → Option ℕ → Type 0
MayCommit queries job None = Unit {0}
MayCommit queries job (Some commit) = (job.is_committed ≡ false) × IsTimestampAbove job.start commit × (is_name_held queries job.content ≡ false)

-- A job is done once it is committed, and aborted only before that, where another came between. A registration is taken only before
-- that too, where a query has its name.
abbrev pub MayEnd : List Registered → Job → Option ℕ → StepsEnd → Type 0
MayEnd queries job commit AllMade = Unit {0}
MayEnd queries job commit IsDone = (job.is_committed ≡ true) ⊎ (is_some commit ≡ true)
MayEnd queries job commit IsAborted = (job.is_committed ≡ false) × (commit ≡ None) × ((job.met ≡ true) ⊎ (job.rival ≡ true))
MayEnd queries job commit IsTaken = (job.is_committed ≡ false) × (commit ≡ None) × (is_name_held queries job.content ≡ true)
MayEnd queries job commit Fails = Unit {0}

-- fewer steps than asked for are made only where the command ends with the job or with a fault
abbrev pub IsCount : ℕ → ℕ → StepsEnd → Type 0
IsCount most count AllMade = count ≡ most
IsCount most count IsDone = count ≤ most
IsCount most count IsAborted = count ≤ most
IsCount most count IsTaken = count ≤ most
IsCount most count Fails = count ≤ most

abbrev pub grown : Job → Option ℕ → ℕ → Job
grown job commit made = record {
  start = job.start;
  content = job.content;
  is_committed = job.is_committed || is_some commit;
  steps = job.steps + made;
  met = job.met;
  rival = job.rival;
}

-- the job behind the command, if it hasn't ended; a failed step leaves it as it was
abbrev pub job_after : Job → Option ℕ → StepsEnd → ℕ → Option Job
job_after job commit AllMade count = Some (grown job commit count)
job_after job commit IsDone count = None
job_after job commit IsAborted count = None
job_after job commit IsTaken count = None
job_after job commit Fails count = Some (grown job commit (count - 1))

-- what a client with a job answers to a command that asks for so many steps, where these queries are registered
pub record StepsReply (queries : List Registered) (job : Job) (client most : ℕ) (lines : List Line) (commit : Option ℕ) (after : Option Job) : Type 0 where
  pub count : ℕ
  pub end : StepsEnd
  pub commits : MayCommit queries job commit
  pub ends : MayEnd queries job commit end
  pub tried : 1 ≤ count
  pub counted : IsCount most count end
  pub told : lines ≡ steps_lines client commit end count
  pub left : after ≡ job_after job commit end count
