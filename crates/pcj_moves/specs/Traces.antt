-- What rows have of one transaction: its lock, or its version.
use Rattle.std.specs.Prelude.{ℕ, cond, ◌==◌, Option, Some, None, if◌then◌else◌}
use Rattle.std.specs.List.{find}
use Rattle.pcj_term.specs.Order.{same_bytes}
use Rattle.pcj_table.specs.declared.lock.Lock.{Lock}
use Rattle.pcj_table.specs.declared.version.Version.{Version}
use Rattle.pcj_table.specs.declared.row.Row.{Row}
use Rattle.pcj_table.specs.Table.{Key}
use Rattle.pcj_mvcc.specs.Reading.{Rows}

pub record Trace : Type 0 where
  pub lock : Option Lock
  pub version : Option Version

-- the lock where it is of this start
abbrev pub lock_from : ℕ → Option Lock → Option Lock
lock_from start None = None
lock_from start (Some lock) = if lock.start == start then Some lock else None

abbrev pub trace : ℕ → Row → Trace
trace start row = record { lock = lock_from start row.lock; version = find (λ version. version.start == start) row.versions }

abbrev pub Traces : Type 0
Traces = Key → Trace

-- what each row has of the transaction of a start
abbrev pub traces : ℕ → Rows → Traces
traces start rows key = trace start (rows key)

abbrev pub no_trace : Trace
no_trace = record { lock = None; version = None }

abbrev pub lock_trace : Option Lock → Trace
lock_trace lock = record { lock = lock; version = None }

abbrev pub version_trace : Option Version → Trace
version_trace version = record { lock = None; version = version }

-- other traces at one key
abbrev pub place : Traces → Key → Trace → Traces
place at key new other = cond (same_bytes other key) new (at other)
