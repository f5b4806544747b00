-- What a reader of the transcript knows after some commands. It speaks of no row, no lock's key and no oracle.
use Rattle.std.specs.Prelude.{ℕ, ◌+◌, ◌-◌, Bool, false, not, ◌&&◌, ◌||◌, ◌==◌, List, [], ◌++◌, max, filter, Option, Some, None, option_map, if◌then◌else◌}
use Rattle.pcj_term.specs.declared.triple.Triple.{Triple}
use Rattle.pcj_model.specs.Job.{Content, Job, beside, is_among, names_of, new_job, triples_of}
use Rattle.pcj_model.specs.Job.Content.{Load as Loads, Registration as Registers}
use Rattle.pcj_model.specs.Queries.{Registration, placed}

-- what is known of the locks and notifications that stand
pub record Backlog : Type 0 where
  -- the locks that stood before the first command and the steps tried since, each of which sets one lock at most
  pub most_locks : ℕ
  -- the notifications that stood before the first command
  pub old_notifications : ℕ
  -- no notification stands
  pub is_idle : Bool
  -- no notification and no lock stands
  pub is_quiet : Bool

pub record State : Type 0 where
  -- the triples of the loads that are committed
  pub triples : List Triple
  -- the registered queries, in the order of their numbers
  pub queries : List Registration
  -- the job that a client has in flight, if it has one
  pub jobs : ℕ → Option Job
  -- the greatest timestamp that was told
  pub last : ℕ
  pub backlog : Backlog

-- Before the first command: these triples are committed, these queries are registered, this is the number that is granted first,
-- and so many notifications and locks stand. Nobody has a job in flight.
abbrev pub start_state : List Triple → List Registration → ℕ → ℕ → ℕ → State
start_state triples queries first notifications locks = record {
  triples = triples;
  queries = queries;
  jobs = λ client. None;
  last = first - 1;
  backlog = record {
    most_locks = locks;
    old_notifications = notifications;
    is_idle = notifications == 0;
    is_quiet = (notifications == 0) && (locks == 0);
  };
}

-- ---- what changes

abbrev pub with_jobs : State → (ℕ → Option Job) → State
with_jobs old jobs = record { triples = old.triples; queries = old.queries; jobs = jobs; last = old.last; backlog = old.backlog }

-- this client's job is this one, or it has none
abbrev pub with_job : (ℕ → Option Job) → ℕ → Option Job → (ℕ → Option Job)
with_job jobs client job = λ other. if other == client then job else jobs other

-- somebody made a step beside these jobs, with which these triples joined and these names were taken
abbrev pub all_beside : List Triple → List (List ℕ) → (ℕ → Option Job) → (ℕ → Option Job)
all_beside joined names jobs = λ client. option_map (beside joined names) (jobs client)

-- a job begins
abbrev pub opened : State → ℕ → ℕ → Content → State
opened old client number content = record {
  triples = old.triples;
  queries = old.queries;
  jobs = with_job old.jobs client (Some (new_job number content));
  last = number;
  backlog = old.backlog;
}

-- so many notifications and locks were told to stand
abbrev pub with_status : State → ℕ → ℕ → State
with_status old notifications locks = record {
  triples = old.triples;
  queries = old.queries;
  jobs = old.jobs;
  last = old.last;
  backlog = record {
    most_locks = old.backlog.most_locks;
    old_notifications = old.backlog.old_notifications;
    is_idle = old.backlog.is_idle || (notifications == 0);
    is_quiet = old.backlog.is_quiet || ((notifications == 0) && (locks == 0));
  };
}

-- ---- steps

-- the triples that join with a job's commit, if it comes: those that aren't there yet
abbrev pub joined_by : State → Job → Option ℕ → List Triple
joined_by old job None = []
joined_by old job (Some commit) = filter (λ triple. not (is_among old.triples triple)) (triples_of job.content)

-- the names that are taken with a job's commit, if it comes
abbrev pub names_joined : Job → Option ℕ → List (List ℕ)
names_joined job None = []
names_joined job (Some commit) = names_of job.content

-- these queries, and that of a registration with its number
abbrev pub with_content : List Registration → ℕ → Content → List Registration
with_content queries number (Loads triples) = queries
with_content queries number (Registers name query) = placed (record { name = name; number = number; query = query }) queries

-- the queries behind a job's commit, if it comes
abbrev pub queries_after : List Registration → Job → Option ℕ → List Registration
queries_after queries job None = queries
queries_after queries job (Some commit) = with_content queries job.start job.content

abbrev pub last_after : ℕ → Option ℕ → ℕ
last_after last None = last
last_after last (Some commit) = max last commit

-- A client tried so many steps. Its job's triples or its query have joined with its commit, if that came, and this is left of the job.
abbrev pub stepped : State → ℕ → Job → Option ℕ → Option Job → ℕ → State
stepped old client job commit after count = record {
  triples = old.triples ++ joined_by old job commit;
  queries = queries_after old.queries job commit;
  jobs = with_job (all_beside (joined_by old job commit) (names_joined job commit) old.jobs) client after;
  last = last_after old.last commit;
  backlog = record {
    most_locks = old.backlog.most_locks + count;
    old_notifications = old.backlog.old_notifications;
    is_idle = false;
    is_quiet = false;
  };
}
