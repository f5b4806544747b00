-- What is pending in a table: its locks, and its notifications.
use Rattle.std.specs.Prelude.{◌≡◌, ◌≤◌, ◌^◌, ℕ, Bool, is_some, ◌&&◌, ◌||◌}
use Rattle.pcj_table.specs.declared.row.Row.{Row}
use Rattle.pcj_table.specs.Row.{is_put, newest}
use Rattle.pcj_table.specs.Table.{Key, Table, is_between, rows_that}
use Rattle.pcj_encode.specs.Range as kind
use Rattle.pcj_encode.specs.Range.{range_of}
use Rattle.pcj_mvcc.specs.Reading.{Rows}
use Rattle.pcj_fit.specs.Fit.{Fit}

-- the rows that have a lock
abbrev pub locks_of : Table → ℕ
locks_of table = rows_that (λ entry. is_some entry.1.lock) table

-- the key is in the range of tasks
abbrev pub is_of_task : Key → Bool
is_of_task key = is_between (range_of kind.tasks).after (range_of kind.tasks).end key

-- a row that has a lock, or whose newest version is a put
abbrev pub is_standing : Row → Bool
is_standing row = is_some row.lock || is_put (newest row.versions)

-- the rows of tasks that have a lock, or whose newest version is a put
abbrev pub notifications_of : Table → ℕ
notifications_of table = rows_that (λ entry. is_of_task entry.0 && is_standing entry.1) table

-- nothing is pending
pub record IsQuiet (table : Table) : Type 0 where
  pub locks : locks_of table ≡ 0
  pub notifications : notifications_of table ≡ 0

-- rows that are fit below some number, of timestamps that were granted or of those to come
pub record IsFit (rows : Rows) : Type 0 where
  pub next : ℕ
  pub last : next ≤ 2 ^ 48
  pub fit : Fit next rows
