-- What the state of a transcript says is true of the table, its oracle and the clients.
use Rattle.std.specs.Prelude.{◌≡◌, ◌≤◌, ◌<◌, ◌+◌, ℕ, true, List, [], ◌∷◌, Option, Some, None, if◌then◌else◌}
use Rattle.pcj_table.specs.Table.{Table, row_at}
use Rattle.pcj_oracle.specs.Clock.{next_number}
use Rattle.pcj_oracle.specs.declared.block.Block.{Block}
use Rattle.pcj_tree.specs.Tree.{IsTree}
use Rattle.pcj_mvcc.specs.Reading.{Rows}
use Rattle.pcj_fit.specs.Queries as fit
use Rattle.pcj_rows.specs.Triples.{HasTriples}
use Rattle.pcj_pending.specs.Pending.{IsQuiet, locks_of, notifications_of}
use Rattle.pcj_client.specs.declared.event.JobEvent.{JobEvent}
use Rattle.pcj_client.specs.declared.event.JobEvent.TheVariants as does
use Rattle.pcj_clients.specs.Clients.{is_end}
use Rattle.pcj_clients.specs.declared.busy.Busy.{Busy}
use Rattle.pcj_model.specs.Job as told
use Rattle.pcj_model.specs.Queries.{Registration}
use Rattle.pcj_model.specs.State.{State}
use Rattle.pcj_jobs.specs.Known.{AreKnown}

-- ---- registered queries

-- the tree of a query that is told, under its name and its number
pub record IsTreeOf (query : Registration) (known : fit.Registration) : Type 0 where
  pub name : query.name ≡ known.name
  pub number : query.number ≡ known.number
  pub tree : IsTree query.query known.tree

-- of each of them in order
abbrev pub AreTreesOf : List Registration → List fit.Registration → Type 0
AreTreesOf [] [] = Unit {0}
AreTreesOf [] (registration ∷ known) = ⊥
AreTreesOf (query ∷ queries) [] = ⊥
AreTreesOf (query ∷ queries) (registration ∷ known) = IsTreeOf query registration × AreTreesOf queries known

-- The registrations that stand in a table are these queries'.
pub record HasRegistered (rows : Rows) (queries : List Registration) : Type 0 where
  pub known : List fit.Registration
  pub has : fit.HasQueries rows known
  pub trees : AreTreesOf queries known

-- ---- whole states

-- The jobs in flight are known, the triples and the queries are those of the table, the greatest number that was told was granted,
-- and no more stands than is known to.
pub record Agrees (oracle : Option Block) (table : Table) (clients : List Busy) (state : State) : Type 0 where
  pub known : AreKnown (row_at table) clients state.jobs
  pub triples : HasTriples (row_at table) state.triples
  pub queries : HasRegistered (row_at table) state.queries
  pub last : state.last < next_number oracle table
  pub locks : locks_of table ≤ state.backlog.most_locks
  pub notifications : notifications_of table ≤ state.backlog.most_locks + state.backlog.old_notifications
  pub idle : state.backlog.is_idle ≡ true → notifications_of table ≡ 0
  pub quiet : state.backlog.is_quiet ≡ true → IsQuiet table

-- ---- a step

-- the commit that it tells
abbrev pub commit_told : JobEvent → Option ℕ
commit_told does.Worked = None
commit_told (does.Committed commit) = Some commit
commit_told does.Done = None
commit_told does.Aborted = None
commit_told does.Taken = None

-- how the steps of a command end with it
abbrev pub EndsAs : JobEvent → told.StepsEnd → Type 0
EndsAs does.Worked end = end ≡ told.StepsEnd.AllMade
EndsAs (does.Committed commit) end = end ≡ told.StepsEnd.AllMade
EndsAs does.Done end = end ≡ told.StepsEnd.IsDone
EndsAs does.Aborted end = end ≡ told.StepsEnd.IsAborted
EndsAs does.Taken end = end ≡ told.StepsEnd.IsTaken

-- what is left of the job
abbrev pub known_after : told.Job → JobEvent → Option told.Job
known_after known event = if is_end event then None else Some (told.grown known (commit_told event) 1)
