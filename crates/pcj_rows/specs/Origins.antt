-- The row that a task was made for.
use Rattle.std.specs.Prelude.{◌≡◌, ◌≤◌, ℕ, Option, Some, None, IsSome}
use Rattle.pcj_term.specs.declared.triple.Triple.{Triple}
use Rattle.pcj_table.specs.Table.{Key}
use Rattle.pcj_encode.specs.declared.order.Order.TheVariants.{Spo}
use Rattle.pcj_encode.specs.declared.task_name.TaskName.TheVariants as task
use Rattle.pcj_encode.specs.declared.key_name.KeyName.TheVariants as row
use Rattle.pcj_encode.specs.Name.{IsNode, IsRegistration, IsTriple, key_of}
use Rattle.pcj_rowtables.specs.Rows.{triple_key}
use Rattle.pcj_mvcc.specs.Reading.{Put, Rows, seen, standing}

-- where the task stands, so does the other row, with no later commit
abbrev pub IsAfter : Option Put → Option Put → Type 0
IsAfter None origin = Unit {0}
IsAfter (Some task) origin = (put : Put) × (origin ≡ Some put) × (put.1 ≤ task.1)

-- and at each time at which the task was seen, so was that row
pub record HasOrigin (rows : Rows) (task origin : Key) : Type 0 where
  pub stands : IsAfter (standing rows task) (standing rows origin)
  pub was_seen : (at : ℕ) → IsSome (seen rows task at) → IsSome (seen rows origin at)

-- that of a triple's task is the triple's row by subject, that of a backfill its pattern's
pub record TasksHaveOrigins (rows : Rows) : Type 0 where
  pub triples : (triple : Triple) → IsTriple triple → HasOrigin rows (key_of (row.Task (task.Triple triple))) (triple_key Spo triple)
  pub backfills : (registration node : ℕ) → IsRegistration registration → IsNode node → HasOrigin rows (key_of (row.Task (task.Backfill registration node))) (key_of (row.Pattern registration node))
