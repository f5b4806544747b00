-- What stood in the way of a prewrite.
use Rattle.std.specs.Prelude.{◌≡◌, ℕ, Some, None}
use Rattle.pcj_table.specs.declared.row.Row.{Row}
use Rattle.pcj_table.specs.Table.{Key}
use Rattle.pcj_txn.specs.declared.event.TxnEvent.{TxnEvent}
use Rattle.pcj_txn.specs.declared.event.TxnEvent.TheVariants.{MetLock, Conflict}
use Rattle.pcj_txn.specs.Steps.{newest_from}

-- the lock of the row, or where there is none its newest version of the start or later
abbrev pub Refuses : Key → ℕ → Row → TxnEvent → Type 0
Refuses key start row (MetLock at lock) = (at ≡ key) × (row.lock ≡ Some lock)
Refuses key start row (Conflict at commit) = (at ≡ key) × (row.lock ≡ None) × (newest_from start row.versions ≡ Some commit)
Refuses key start row other = ⊥
