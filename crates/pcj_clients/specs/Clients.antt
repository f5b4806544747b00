-- Clients, and the job that each has in flight.
use Rattle.std.specs.Prelude.{◌≡◌, ℕ, Bool, true, false, not, ◌==◌, ◌&&◌, List, [], ◌∷◌, map, take, Option, Some, None, is_some, if◌then◌else◌}
use Rattle.std.specs.List.{slice_get}
use Rattle.pcj_moves.specs.Actors.{Actor}
use Rattle.pcj_client.specs.Job.{Job}
use Rattle.pcj_client.specs.declared.event.JobEvent.{JobEvent}
use Rattle.pcj_client.specs.declared.event.JobEvent.TheVariants as event
use Rattle.pcj_clients.specs.declared.busy.Busy.{Busy}

-- the actors that are at work, in the order in which their jobs began
abbrev pub actors_of : List Busy → List Actor
actors_of clients = map (λ busy. busy.job.actor) clients

-- the job that a client has in flight
abbrev pub job_of : List Busy → ℕ → Option Job
job_of [] client = None
job_of (busy ∷ clients) client = if busy.client == client then Some busy.job else job_of clients client

-- no client has two jobs
abbrev pub are_apart : List Busy → Bool
are_apart [] = true
are_apart (busy ∷ clients) = not (is_some (job_of clients busy.client)) && are_apart clients

-- the clients with another job for one of them
abbrev pub with_job : List Busy → ℕ → Job → List Busy
with_job [] client job = []
with_job (busy ∷ clients) client job = if busy.client == client then record { client = busy.client; job = job } ∷ clients else busy ∷ with_job clients client job

-- and without the job of one of them
abbrev pub without_job : List Busy → ℕ → List Busy
without_job [] client = []
without_job (busy ∷ clients) client = if busy.client == client then clients else busy ∷ without_job clients client

-- whether a job ends with what it tells
abbrev pub is_end : JobEvent → Bool
is_end event.Worked = false
is_end (event.Committed commit) = false
is_end event.Done = true
is_end event.Aborted = true
is_end event.Taken = true

-- the clients after a job's step
abbrev pub after_step : List Busy → ℕ → Job → JobEvent → List Busy
after_step clients client job told = if is_end told then without_job clients client else with_job clients client job

-- the client's job stands at this place, and no job of it before
pub record IsPlaceOf (clients : List Busy) (client place : ℕ) : Type 0 where
  pub busy : Busy
  pub at : slice_get clients place ≡ Some busy
  pub is : busy.client ≡ client
  pub before : job_of (take place clients) client ≡ None
