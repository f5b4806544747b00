-- What holds of the rows of a table wherever the program was stopped, and whoever was at work.
use Rattle.std.specs.Prelude.{◌≡◌, ◌≢◌, ℕ, ◌^◌, ◌≤◌, Some}
use Rattle.pcj_table.specs.declared.lock.Lock.{Lock}
use Rattle.pcj_table.specs.Table.{Key, Table, row_at}
use Rattle.pcj_oracle.specs.Clock.{stored_number}
use Rattle.pcj_mvcc.specs.Reading.{Rows, committed}
use Rattle.pcj_mvcc.specs.Times.{AllVersions, TimesInOrder}
use Rattle.pcj_moves.specs.Moves.{LocksNameOne, StartsCommitOnce, is_own}
use Rattle.pcj_rows.specs.Origins.{TasksHaveOrigins}
use Rattle.pcj_rows.specs.Registrations.{RegistrationsStand}
use Rattle.pcj_rows.specs.Rows.{Decodes}
use Rattle.pcj_rows.specs.Triples.{AtomicRows}
use Rattle.pcj_kept.specs.Kept.{Kept}

-- no number is the commit of two starts, or both a start and a commit
pub record NumbersApart (rows : Rows) : Type 0 where
  pub versions : (key : Key) (start commit : ℕ) → committed rows key start ≡ Some commit → AllVersions (λ version. is_own start commit version.start version.commit) rows
  pub locks : (key : Key) (start commit : ℕ) → committed rows key start ≡ Some commit → (other : Key) (lock : Lock) → (rows other).lock ≡ Some lock → lock.start ≢ commit

-- Rows as a table may have them, where `next` is the first number that wasn't granted. Each row decodes. In each the
-- versions ascend, a lock started after them, and each version's transaction started before it committed. Locks of one
-- start name one primary, and versions of one start have one commit. The rows of a triple stand together, and so do those
-- of a registration. A task that stands was made for a row that does. The answers of registered queries are kept, as far as
-- tasks are done.
pub record Fit (next : ℕ) (rows : Rows) : Type 0 where
  pub decodes : Decodes next rows
  pub times : TimesInOrder rows
  pub named : LocksNameOne rows
  pub once : StartsCommitOnce rows
  pub apart : NumbersApart rows
  pub atomic : AtomicRows rows
  pub registered : RegistrationsStand rows
  pub origins : TasksHaveOrigins rows
  pub kept : Kept rows

-- a table that is fit below its clock's number, which is from 1 to 2^48
pub record FitTable (table : Table) : Type 0 where
  pub first : 1 ≤ stored_number table
  pub last : stored_number table ≤ 2 ^ 48
  pub rows : Fit (stored_number table) (row_at table)
