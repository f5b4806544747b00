-- What the acts of transactions leave of what is read (Percolator, OSDI 2010, section 2.2).
use Rattle.std.specs.Prelude.{◌≡◌, ◌≢◌, ℕ, ◌<◌, ◌≤◌, true, false, List, [], ◌∷◌, Option, Some, None}
use Rattle.std.specs.Option.{option_map}
use Rattle.pcj_table.specs.declared.lock.Lock.{Lock}
use Rattle.pcj_table.specs.declared.version.Version.{Version}
use Rattle.pcj_table.specs.declared.plain.Plain.{Plain}
use Rattle.pcj_table.specs.declared.row.Row.{Row}
use Rattle.pcj_table.specs.declared.write.Write.{Write}
use Rattle.pcj_table.specs.declared.update.Update.TheVariants.{SetPlain}
use Rattle.pcj_table.specs.declared.mutated.Mutated.TheVariants.{Applied}
use Rattle.pcj_table.specs.Row.{newest, versions_up_to, is_locked_at, is_seen_at}
use Rattle.pcj_table.specs.Table.{Key, Table, row_at, with_row, Mutates}
use Rattle.pcj_mvcc.specs.declared.act.Act.{Act}
use Rattle.pcj_mvcc.specs.Acts.{lock_of, prewrite_act, replace_lock_act, commit_act, roll_forward_act, roll_back_act}
use Rattle.pcj_mvcc.specs.Reading.{Rows, Put, put, acted, allows, lock_up_to, committed, put_of, standing, seen, SameReading, OnePrimary, OnlyLock, Commits}
use Rattle.pcj_mvcc.specs.Times.{LocksAreLast, AllVersions, starts_first, TimesInOrder}

-- ---- tables

-- a table with another row at one key has that row there, and its others as before
abbrev pub ChangesOneRow : Type 0
ChangesOneRow = (table : Table) (key : Key) (row : Row) → row_at (with_row table key row) ≡ put (row_at table) key row

-- a mutation that was applied makes the act's updates on its row
abbrev pub ActsOnOneRow : Type 0
ActsOnOneRow = (old new : Table) (key : Key) (act : Act) → Mutates old key act.conds act.updates Applied new →
    (allows act (row_at old key) ≡ true) × (row_at new ≡ acted (row_at old) key act)

-- ---- acts that change no reading

-- the lock of a transaction that isn't committed is set
abbrev pub PrewriteKeeps : Type 0
PrewriteKeeps = (rows : Rows) (write : Write) (start : ℕ) (primary : Key) →
    allows (prewrite_act write start primary) (rows write.key) ≡ true → committed rows primary start ≡ None →
    SameReading rows (acted rows write.key (prewrite_act write start primary))

-- the lock of a transaction that isn't committed is dropped
abbrev pub RollBackKeeps : Type 0
RollBackKeeps = (rows : Rows) (key : Key) (start : ℕ) (primary : Key) →
    allows (roll_back_act start) (rows key) ≡ true → OnePrimary rows primary start → committed rows primary start ≡ None →
    SameReading rows (acted rows key (roll_back_act start))

-- the lock of a committed transaction becomes its version, in another row than its primary's
abbrev pub RollForwardKeeps : Type 0
RollForwardKeeps = (rows : Rows) (key : Key) (lock : Lock) (commit : ℕ) →
    allows (roll_forward_act lock commit) (rows key) ≡ true → OnlyLock rows key lock → OnePrimary rows lock.primary lock.start →
    key ≢ lock.primary → committed rows lock.primary lock.start ≡ Some commit →
    SameReading rows (acted rows key (roll_forward_act lock commit))

-- the same, by the transaction itself
abbrev pub CommitKeeps : Type 0
CommitKeeps = (rows : Rows) (write : Write) (start commit : ℕ) (primary : Key) →
    allows (commit_act write start commit) (rows write.key) ≡ true → OnlyLock rows write.key (lock_of write start primary) → OnePrimary rows primary start →
    write.key ≢ primary → committed rows primary start ≡ Some commit →
    SameReading rows (acted rows write.key (commit_act write start commit))

-- a value is written without a transaction
abbrev pub PlainKeeps : Type 0
PlainKeeps = (rows : Rows) (key : Key) (act : Act) (plain : Plain) → act.updates ≡ SetPlain plain ∷ [] → SameReading rows (acted rows key act)

-- ---- the commit

-- the commit of the primary's row commits the transaction
abbrev pub PrimaryCommits : Type 0
PrimaryCommits = (rows : Rows) (write : Write) (start commit : ℕ) →
    allows (commit_act write start commit) (rows write.key) ≡ true → OnlyLock rows write.key (lock_of write start write.key) → OnePrimary rows write.key start →
    committed rows write.key start ≡ None →
    Commits start commit rows (acted rows write.key (commit_act write start commit))

-- ---- what is read decides what stands and is seen

-- in this row the same stands, and the same is seen at each time
pub record SameStanding (old new : Rows) (key : Key) : Type 0 where
  pub stands : standing new key ≡ standing old key
  pub sees : (at : ℕ) → seen new key at ≡ seen old key at

abbrev pub ReadingsDecide : Type 0
ReadingsDecide = (old new : Rows) → SameReading old new → (key : Key) → SameStanding old new key

-- in this row the value stands with this commit, and is seen from then on
pub record IsWritten (new : Rows) (key : Key) (value : Option (List ℕ)) (commit : ℕ) : Type 0 where
  pub stands : standing new key ≡ option_map (λ bytes. (bytes, commit)) value
  pub sees : (at : ℕ) → commit ≤ at → seen new key at ≡ option_map (λ bytes. (bytes, commit)) value

-- A commit changes nothing that is seen before it. Each row with a lock of its start then has what the lock was to
-- write, and in all other rows the same stands.
pub record StandsAtOnce (start commit : ℕ) (old new : Rows) : Type 0 where
  pub before : (key : Key) (at : ℕ) → at < commit → seen new key at ≡ seen old key at
  pub locked : (key : Key) (lock : Lock) → (old key).lock ≡ Some lock → lock.start ≡ start → IsWritten new key lock.value commit
  pub others : (key : Key) → is_locked_at start (old key).lock ≡ false → SameStanding old new key

abbrev pub CommitsStand : Type 0
CommitsStand = (start commit : ℕ) (old new : Rows) → Commits start commit old new → LocksAreLast old → start ≤ commit → StandsAtOnce start commit old new

-- what stands is seen from its commit on
abbrev pub StandingIsSeen : Type 0
StandingIsSeen = (rows : Rows) (key : Key) (at : ℕ) (found : Put) → TimesInOrder rows → standing rows key ≡ Some found → found.1 ≤ at → seen rows key at ≡ Some found

-- ---- reads

-- where a row has no lock of this time or before, its newest version up to this time is what is seen
abbrev pub ReadsAreSeen : Type 0
ReadsAreSeen = (rows : Rows) (key : Key) (at : ℕ) → AllVersions starts_first rows → lock_up_to at (rows key).lock ≡ None →
    seen rows key at ≡ put_of (newest (versions_up_to at (rows key).versions))

-- in a row that a walk at this time passes over nothing is seen
abbrev pub PassedRowsShowNothing : Type 0
PassedRowsShowNothing = (rows : Rows) (key : Key) (at : ℕ) → AllVersions starts_first rows → is_seen_at at (rows key) ≡ false → seen rows key at ≡ None

-- ---- the order of timestamps

-- a prewrite turns away a row that has a version of its start or later
abbrev pub PrewriteInOrder : Type 0
PrewriteInOrder = (rows : Rows) (write : Write) (start : ℕ) (primary : Key) →
    allows (prewrite_act write start primary) (rows write.key) ≡ true → TimesInOrder rows →
    TimesInOrder (acted rows write.key (prewrite_act write start primary))

-- a version in place of its lock is the last of its row
abbrev pub ReplaceInOrder : Type 0
ReplaceInOrder = (rows : Rows) (key : Key) (version : Version) →
    allows (replace_lock_act version) (rows key) ≡ true → version.start < version.commit → TimesInOrder rows →
    TimesInOrder (acted rows key (replace_lock_act version))

abbrev pub RollBackInOrder : Type 0
RollBackInOrder = (rows : Rows) (key : Key) (start : ℕ) → TimesInOrder rows → TimesInOrder (acted rows key (roll_back_act start))

abbrev pub PlainInOrder : Type 0
PlainInOrder = (rows : Rows) (key : Key) (act : Act) (plain : Plain) → act.updates ≡ SetPlain plain ∷ [] → TimesInOrder rows → TimesInOrder (acted rows key act)

-- ---- the primary that locks name

-- a prewrite of this start names this primary
abbrev pub PrewriteNamesOne : Type 0
PrewriteNamesOne = (rows : Rows) (write : Write) (own start : ℕ) (primary named : Key) → (own ≡ start → primary ≡ named) → OnePrimary rows named start →
    OnePrimary (acted rows write.key (prewrite_act write own primary)) named start

-- after these acts no lock stands in the row
abbrev pub ReplaceNamesOne : Type 0
ReplaceNamesOne = (rows : Rows) (key : Key) (version : Version) (start : ℕ) (primary : Key) → OnePrimary rows primary start →
    OnePrimary (acted rows key (replace_lock_act version)) primary start

abbrev pub RollBackNamesOne : Type 0
RollBackNamesOne = (rows : Rows) (key : Key) (dropped start : ℕ) (primary : Key) → OnePrimary rows primary start →
    OnePrimary (acted rows key (roll_back_act dropped)) primary start

abbrev pub PlainNamesOne : Type 0
PlainNamesOne = (rows : Rows) (key : Key) (act : Act) (plain : Plain) (start : ℕ) (primary : Key) → act.updates ≡ SetPlain plain ∷ [] →
    OnePrimary rows primary start → OnePrimary (acted rows key act) primary start
