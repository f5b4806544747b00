-- What a client's step leaves of all.
use Rattle.std.specs.Prelude.{◌≡◌, ◌≤◌, ℕ, suc, List, ◌++◌, Option, Some, None}
use Rattle.pcj_term.specs.declared.triple.Triple.{Triple}
use Rattle.pcj_table.specs.Table.{Table, row_at}
use Rattle.pcj_oracle.specs.declared.block.Block.{Block}
use Rattle.pcj_mvcc.specs.Reading.{Rows}
use Rattle.pcj_moves.specs.Actors.{Actor, new_actor}
use Rattle.pcj_actor.specs.StepLaws.{state_of}
use Rattle.pcj_fit.specs.Laws as fit
use Rattle.pcj_fit.specs.Queries.{HasQueries, Registration}
use Rattle.pcj_fit.specs.Sound.{Sound}
use Rattle.pcj_rows.specs.Triples.{HasTriples}
use Rattle.pcj_client.specs.Job.{IsJob, Job, loaded}
use Rattle.pcj_client.specs.Events as job_law
use Rattle.pcj_client.specs.Events.{CommitsOnce, IsDrawing, IsMoved, IsTold, LeavesQueries, LeavesTriples, StepsOn, job_calls, queries_after, triples_after}
use Rattle.pcj_client.specs.declared.event.JobEvent.{JobEvent}
use Rattle.pcj_clients.specs.Clients.{actors_of, after_step}
use Rattle.pcj_clients.specs.declared.busy.Busy.{Busy}

-- What a step of a client's job comes to, whoever else is at work: what it tells, that it is moves which the rules allow, and
-- that all stays sound; then the job is over or goes on.
pub record IsJobStep (job : Job) (client : ℕ) (old : List Busy) (oracle : Option Block) (table : Table) (event : JobEvent) (new : List Busy) (oracle' : Option Block) (table' : Table) : Type 0 where
  pub after : Job
  pub told : IsTold job oracle table event after oracle' table'
  pub commits : CommitsOnce job event after
  pub moves : IsMoved job oracle table after oracle' table'
  pub on : StepsOn job after
  pub is : IsJob after
  pub content : after.content ≡ job.content
  pub sound : job_law.KeepsAllSound job oracle table after oracle' table'
  pub triples : (known : List Triple) → LeavesTriples job oracle table table' known (triples_after event known (loaded job.content))
  pub queries : (known : List Registration) → LeavesQueries job oracle table table' known event
  pub left : new ≡ after_step old client after event

-- A client without a job changes nothing.
abbrev pub IsClientStep : Option Job → ℕ → List Busy → Option Block → Table → Option JobEvent → List Busy → Option Block → Table → Type 0
IsClientStep None client old oracle table told new oracle' table' = (told ≡ None) × (new ≡ old) × (oracle' ≡ oracle) × (table' ≡ table)
IsClientStep (Some job) client old oracle table told new oracle' table' = (event : JobEvent) × (told ≡ Some event) × IsJobStep job client old oracle table event new oracle' table'

-- the next step of the client's job draws its commit
abbrev pub DrawsNext : Option Job → Type 0
DrawsNext None = ⊥
DrawsNext (Some job) = IsDrawing job

-- the triples after a step of a client
abbrev pub triples_then : Option Job → Option JobEvent → List Triple → List Triple
triples_then (Some job) (Some event) known = triples_after event known (loaded job.content)
triples_then _ _ known = known

-- and the queries
abbrev pub queries_then : Option Job → Option JobEvent → List Registration → List Registration
queries_then (Some job) (Some event) known = queries_after event job known
queries_then _ _ known = known

-- how many calls of the table a step of a client makes at most
abbrev pub calls_of : Option Job → Option Block → Table → ℕ
calls_of None oracle table = 0
calls_of (Some job) oracle table = job_calls job oracle table

-- Whoever else is at work beside the clients: all stays sound.
abbrev pub KeepsAllSound : List Busy → Option Block → Table → List Busy → Option Block → Table → Type 0
KeepsAllSound old oracle table new oracle' table' = (others : List Actor) → Sound (state_of oracle table (actors_of old ++ others)) → Sound (state_of oracle' table' (actors_of new ++ others))

-- and the table then has these triples, where it had those before
abbrev pub ChangesTriples : List Busy → Option Block → Table → Table → List Triple → List Triple → Type 0
ChangesTriples old oracle table table' before after = (others : List Actor) → Sound (state_of oracle table (actors_of old ++ others)) → HasTriples (row_at table) before → HasTriples (row_at table') after

-- and these queries
abbrev pub ChangesQueries : List Busy → Option Block → Table → Table → List Registration → List Registration → Type 0
ChangesQueries old oracle table table' before after = (others : List Actor) → Sound (state_of oracle table (actors_of old ++ others)) → HasQueries (row_at table) before → HasQueries (row_at table') after

-- ---- jobs that begin and end

-- A job begins with a number that was drawn.
abbrev pub BeginsSound : List Busy → Job → List Busy → Type 0
BeginsSound old job new = (number : ℕ) (rows : Rows) (others : List Actor) → number ≤ job.actor.start → job.actor ≡ new_actor job.actor.start →
    Sound (fit.state_of number rows (actors_of old ++ others)) → Sound (fit.state_of (suc job.actor.start) rows (actors_of new ++ others))

-- A job may end wherever it is.
abbrev pub EndsSound : List Busy → List Busy → Type 0
EndsSound old new = (number : ℕ) (rows : Rows) (others : List Actor) → Sound (fit.state_of number rows (actors_of old ++ others)) → Sound (fit.state_of number rows (actors_of new ++ others))
