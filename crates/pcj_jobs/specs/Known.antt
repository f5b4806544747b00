-- What a reader of the transcript knows of the jobs in flight, and that it is true of the rows.
use Rattle.std.specs.Prelude.{◌≡◌, ◌≤◌, ℕ, Bool, true, false, is_some, List, length, Option, Some, None}
use Rattle.std.specs.List.{Contains}
use Rattle.pcj_term.specs.declared.triple.Triple.{Triple}
use Rattle.pcj_table.specs.Row.{are_below}
use Rattle.pcj_table.specs.Table.{Key}
use Rattle.pcj_mvcc.specs.Reading.{Rows, versions_read}
use Rattle.pcj_tree.specs.Tree.{IsTree}
use Rattle.pcj_tree.specs.declared.tree.Tree.{Tree}
use Rattle.pcj_moves.specs.Traces.{traces}
use Rattle.pcj_moves.specs.Transactions.{IsHeld, lock_at, write_at}
use Rattle.pcj_rows.specs.Plans.{registration_writes, triple_writes}
use Rattle.pcj_client.specs.Job.{Content, IsJob, Job}
use Rattle.pcj_client.specs.Job.Content.{Loads, Registers}
use Rattle.pcj_clients.specs.Clients.{are_apart, job_of}
use Rattle.pcj_clients.specs.declared.busy.Busy.{Busy}
use Rattle.pcj_model.specs.Job as told

-- ---- what a job is about

-- a load's triples; or a registration's name, and the query whose tree it is to write
abbrev pub IsContentOf : Content → told.Content → Type 0
IsContentOf (Loads triples) (told.Content.Load known) = known ≡ triples
IsContentOf (Loads triples) (told.Content.Registration name query) = ⊥
IsContentOf (Registers name tree) (told.Content.Load known) = ⊥
IsContentOf (Registers name tree) (told.Content.Registration known query) = (known ≡ name) × IsTree query tree

-- ---- the rows that it writes

-- the row is one of those that are written for a triple
abbrev pub is_row_of : Triple → Key → Bool
is_row_of triple key = is_some (write_at (triple_writes triple) key)

-- or that the registration with this number writes
abbrev pub is_row_of_query : ℕ → List ℕ → Tree → Key → Bool
is_row_of_query number name tree key = is_some (write_at (registration_writes number name tree) key)

-- No row of these triples, or of the registration that began then, has a version of this time or later. The lock of a committed
-- transaction counts as its version.
abbrev pub AreUntouched : Rows → ℕ → Content → Type 0
AreUntouched rows time (Loads triples) = (triple : Triple) → Contains triples triple → (key : Key) → is_row_of triple key ≡ true → are_below time (versions_read rows key) ≡ true
AreUntouched rows time (Registers name tree) = (key : Key) → is_row_of_query time name tree key ≡ true → are_below time (versions_read rows key) ≡ true

-- ---- what is known of it

-- A job in flight, and what is known of it. It has made a step for each answer, and as many as it takes to come so far before its
-- primary was prewritten: of a load one for each triple and one more, of a registration two. Until it is committed each row
-- that it has prewritten has its lock, unless somebody met it, and no row that it may write has a version of its start or later,
-- unless it has a rival.
pub record IsKnown (rows : Rows) (job : Job) (known : told.Job) : Type 0 where
  pub start : known.start ≡ job.actor.start
  pub content : IsContentOf job.content known.content
  pub is_committed : known.is_committed ≡ job.actor.transaction.committed
  pub is : IsJob job
  pub answers : length job.actor.answers ≤ known.steps
  pub prewritten : 1 ≤ job.actor.transaction.prewritten → told.first_of known.content ≤ known.steps
  pub held : job.actor.transaction.committed ≡ false → known.met ≡ false → IsHeld (lock_at job.actor.start job.actor.transaction) (traces job.actor.start rows)
  pub untouched : job.actor.transaction.committed ≡ false → known.rival ≡ false → AreUntouched rows job.actor.start job.content

-- what is known of a client's job, if it has one
abbrev pub IsKnownOf : Rows → Option Job → Option told.Job → Type 0
IsKnownOf rows None None = Unit {0}
IsKnownOf rows None (Some known) = ⊥
IsKnownOf rows (Some job) None = ⊥
IsKnownOf rows (Some job) (Some known) = IsKnown rows job known

-- The job of each client is known, and no client has two.
pub record AreKnown (rows : Rows) (clients : List Busy) (jobs : ℕ → Option told.Job) : Type 0 where
  pub apart : are_apart clients ≡ true
  pub each : (client : ℕ) → IsKnownOf rows (job_of clients client) (jobs client)
