-- What stands in a table, and what is seen there at a time (Percolator, OSDI 2010, section 2.2): a transaction is
-- committed once its primary's row has its version, and from then on each of its locks counts as a version too.
use Rattle.std.specs.Prelude.{◌≡◌, ℕ, Bool, true, false, cond, ◌==◌, nat_le, List, Option, Some, None, if◌then◌else◌}
use Rattle.std.specs.List.{find}
use Rattle.std.specs.Option.{option_map}
use Rattle.pcj_term.specs.Order.{same_bytes}
use Rattle.pcj_table.specs.declared.lock.Lock.{Lock}
use Rattle.pcj_table.specs.declared.version.Version.{Version}
use Rattle.pcj_table.specs.declared.row.Row.{Row}
use Rattle.pcj_table.specs.Row.{newest, versions_up_to, add_version, updated_all, conds_hold, is_locked_at}
use Rattle.pcj_table.specs.declared.mutated.Mutated.{Mutated}
use Rattle.pcj_table.specs.declared.mutated.Mutated.TheVariants.{Applied, Rejected}
use Rattle.pcj_table.specs.Table.{Key, Table, row_at}
use Rattle.pcj_mvcc.specs.declared.act.Act.{Act}
use Rattle.pcj_mvcc.specs.Acts.{version_of}

-- a row for each key, as `row_at` of a table
abbrev pub Rows : Type 0
Rows = Key → Row

-- the rows with another one at a key
abbrev pub put : Rows → Key → Row → Rows
put rows key row other = cond (same_bytes other key) row (rows other)

-- the rows with an act's updates made at a key
abbrev pub acted : Rows → Key → Act → Rows
acted rows key act = put rows key (updated_all (rows key) act.updates)

-- whether an act's conditions hold of a row
abbrev pub allows : Act → Row → Bool
allows act row = conds_hold row act.conds

-- An act carried out on a key's row: where the row allows it, the act's updates are made there, and else nothing is
-- changed and the row is handed back.
abbrev pub CarriesOut : Table → Key → Act → Mutated → Table → Type 0
CarriesOut old key act Applied new = (allows act (row_at old key) ≡ true) × (row_at new ≡ acted (row_at old) key act)
CarriesOut old key act (Rejected row) new = (allows act (row_at old key) ≡ false) × (row ≡ row_at old key) × (new ≡ old)

-- ---- one row

-- the lock where its start is at most this
abbrev pub lock_up_to : ℕ → Option Lock → Option Lock
lock_up_to at None = None
lock_up_to at (Some lock) = if nat_le lock.start at then Some lock else None

-- the commit of the first version with this start
abbrev pub commit_of : ℕ → List Version → Option ℕ
commit_of start versions = option_map (λ version. version.commit) (find (λ version. version.start == start) versions)

-- ---- what counts as committed

-- the commit of the transaction with this primary and start, where it is committed
abbrev pub committed : Rows → Key → ℕ → Option ℕ
committed rows primary start = commit_of start (rows primary).versions

-- the versions with the lock among them, where there is a commit
abbrev pub with_lock : Lock → Option ℕ → List Version → List Version
with_lock lock None versions = versions
with_lock lock (Some commit) versions = add_version (version_of lock commit) versions

abbrev pub reading : (Key → ℕ → Option ℕ) → Option Lock → List Version → List Version
reading commits None versions = versions
reading commits (Some lock) versions = with_lock lock (commits lock.primary lock.start) versions

-- the versions of a row, the lock of a committed transaction among them
abbrev pub versions_read : Rows → Key → List Version
versions_read rows key = reading (committed rows) (rows key).lock (rows key).versions

-- a put with its commit
abbrev pub Put : Type 0
Put = List ℕ × ℕ

-- the put that a version is, unless it is a deletion
abbrev pub put_of : Option Version → Option Put
put_of None = None
put_of (Some version) = option_map (λ value. (value, version.commit)) version.value

-- the put that stands in a row: its newest version, unless that is a deletion
abbrev pub standing : Rows → Key → Option Put
standing rows key = put_of (newest (versions_read rows key))

-- the put that is seen at a time: the newest version up to then, unless that is a deletion
abbrev pub seen : Rows → Key → ℕ → Option Put
seen rows key at = put_of (newest (versions_up_to at (versions_read rows key)))

-- ---- changes

-- each row is read as before
abbrev pub SameReading : Rows → Rows → Type 0
SameReading old new = (key : Key) → versions_read new key ≡ versions_read old key

-- All locks of one start name one primary.
abbrev pub OnePrimary : Rows → Key → ℕ → Type 0
OnePrimary rows primary start = (key : Key) (lock : Lock) → (rows key).lock ≡ Some lock → lock.start ≡ start → lock.primary ≡ primary

-- A lock of this start in the row is this lock.
abbrev pub OnlyLock : Rows → Key → Lock → Type 0
OnlyLock rows key lock = (other : Lock) → (rows key).lock ≡ Some other → other.start ≡ lock.start → other ≡ lock

-- The transaction of a start is committed: each lock of it, which was read as nothing, is read as a version of this
-- commit, and all other rows are read as before.
pub record Commits (start commit : ℕ) (old new : Rows) : Type 0 where
  pub before : (key : Key) (lock : Lock) → (old key).lock ≡ Some lock → lock.start ≡ start → versions_read old key ≡ (old key).versions
  pub after : (key : Key) (lock : Lock) → (old key).lock ≡ Some lock → lock.start ≡ start → versions_read new key ≡ add_version (version_of lock commit) (old key).versions
  pub others : (key : Key) → is_locked_at start (old key).lock ≡ false → versions_read new key ≡ versions_read old key
