-- What a read at a time tells of the row that it meets (Percolator, OSDI 2010, section 2.2).
use Rattle.std.specs.Prelude.{ℕ, Option, Some, None}
use Rattle.pcj_table.specs.declared.lock.Lock.{Lock}
use Rattle.pcj_table.specs.declared.row.Row.{Row}
use Rattle.pcj_table.specs.declared.found.Found.{Found}
use Rattle.pcj_table.specs.Row.{newest, versions_up_to}
use Rattle.pcj_table.specs.Table.{Key, Table, row_at, first_row, is_next_at}
use Rattle.pcj_mvcc.specs.Reading.{Put, lock_up_to, put_of}
use Rattle.pcj_snapshot.specs.declared.ask.Ask.{Ask}
use Rattle.pcj_snapshot.specs.declared.ask.Ask.TheVariants.{Get, Next}
use Rattle.pcj_snapshot.specs.declared.event.ReadEvent.{ReadEvent}
use Rattle.pcj_snapshot.specs.declared.event.ReadEvent.TheVariants as event

-- which row is read, and at what time
pub record Read : Type 0 where
  pub ask : Ask
  pub at : ℕ

-- the put of a row's own versions at a time
abbrev pub put_at : ℕ → Row → Option Put
put_at at row = put_of (newest (versions_up_to at row.versions))

abbrev pub put_event : Key → Option Put → ReadEvent
put_event key None = event.Nothing
put_event key (Some put) = event.Found (record { key = key; value = put.0 })

abbrev pub lock_event : Key → Option Lock → Option Put → ReadEvent
lock_event key None put = put_event key put
lock_event key (Some lock) put = event.MetLock key lock

-- a lock of the time or before is met; where there is none, the put of that time is told
abbrev pub row_event : ℕ → Key → Row → ReadEvent
row_event at key row = lock_event key (lock_up_to at row.lock) (put_at at row)

abbrev pub found_event : ℕ → Option Found → ReadEvent
found_event at None = event.Nothing
found_event at (Some found) = row_event at found.key found.row

abbrev pub ask_event : Ask → ℕ → Table → ReadEvent
ask_event (Get key) at table = row_event at key (row_at table key)
ask_event (Next range) at table = found_event at (first_row (is_next_at range.after range.end at) table)

abbrev pub read_event : Read → Table → ReadEvent
read_event read table = ask_event read.ask read.at table
