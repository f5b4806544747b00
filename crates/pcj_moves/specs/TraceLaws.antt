-- What each act changes of what rows have of transactions.
use Rattle.std.specs.Prelude.{◌≡◌, ◌≢◌, ℕ, true, [], ◌∷◌, Some}
use Rattle.pcj_table.specs.declared.lock.Lock.{Lock}
use Rattle.pcj_table.specs.declared.version.Version.{Version}
use Rattle.pcj_table.specs.declared.write.Write.{Write}
use Rattle.pcj_table.specs.declared.plain.Plain.{Plain}
use Rattle.pcj_table.specs.declared.row.Row.{Row}
use Rattle.pcj_table.specs.declared.update.Update.TheVariants.{SetPlain}
use Rattle.pcj_table.specs.Row.{is_locked_at}
use Rattle.pcj_table.specs.Table.{Key}
use Rattle.pcj_mvcc.specs.Acts.{lock_of, prewrite_act, replace_lock_act, roll_back_act}
use Rattle.pcj_mvcc.specs.declared.act.Act.{Act}
use Rattle.pcj_mvcc.specs.Reading.{Rows, put, acted, allows, SameReading}
use Rattle.pcj_mvcc.specs.Times.{TimesInOrder}
use Rattle.pcj_moves.specs.Traces.{Trace, traces, no_trace, lock_trace, version_trace, place}

-- one row has something else of the transaction of one start, and of no other transaction has any row something else
pub record ChangesTrace (start : ℕ) (key : Key) (new : Trace) (before after : Rows) : Type 0 where
  pub own : traces start after ≡ place (traces start before) key new
  pub others : (other : ℕ) → other ≢ start → traces other after ≡ traces other before

-- a locked row has the lock alone of its transaction
abbrev pub LockedTrace : Type 0
LockedTrace = (rows : Rows) (key : Key) (start : ℕ) → TimesInOrder rows → is_locked_at start (rows key).lock ≡ true →
    (lock : Lock) × ((rows key).lock ≡ Some lock) × (lock.start ≡ start) × (traces start rows key ≡ lock_trace (Some lock))

abbrev pub PrewriteChanges : Type 0
PrewriteChanges = (rows : Rows) (write : Write) (start : ℕ) (primary : Key) → TimesInOrder rows →
    allows (prewrite_act write start primary) (rows write.key) ≡ true →
    ChangesTrace start write.key (lock_trace (Some (lock_of write start primary))) rows (acted rows write.key (prewrite_act write start primary))

abbrev pub ReplaceChanges : Type 0
ReplaceChanges = (rows : Rows) (key : Key) (version : Version) → TimesInOrder rows →
    allows (replace_lock_act version) (rows key) ≡ true →
    ChangesTrace version.start key (version_trace (Some version)) rows (acted rows key (replace_lock_act version))

abbrev pub RollBackChanges : Type 0
RollBackChanges = (rows : Rows) (key : Key) (start : ℕ) → TimesInOrder rows →
    allows (roll_back_act start) (rows key) ≡ true →
    ChangesTrace start key no_trace rows (acted rows key (roll_back_act start))

-- ---- what changes nothing of any transaction

-- no row is read otherwise, and none has something else of a transaction
pub record Stays (before after : Rows) : Type 0 where
  pub same : SameReading before after
  pub traces_same : (start : ℕ) → traces start after ≡ traces start before

-- a row with the same lock and versions, as the clock's row after a draw
abbrev pub RowStays : Type 0
RowStays = (rows : Rows) (key : Key) (row : Row) → row.lock ≡ (rows key).lock → row.versions ≡ (rows key).versions → Stays rows (put rows key row)

abbrev pub PlainStays : Type 0
PlainStays = (rows : Rows) (key : Key) (act : Act) (plain : Plain) → act.updates ≡ SetPlain plain ∷ [] → Stays rows (acted rows key act)
