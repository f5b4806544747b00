-- Numbers rise over all draws, and a draw changes one number of one row.
use Rattle.std.specs.Prelude.{◌≡◌, ◌≢◌, ℕ, List, None}
use Rattle.pcj_table.specs.Table.{Table, Key, row_at}
use Rattle.pcj_oracle.specs.Clock.{clock_key, stored_number}
use Rattle.pcj_oracle.specs.Draw.{table_after}
use Rattle.pcj_oracle.specs.Run.{Event, Oracles, Run, numbers, RiseFrom}

-- oracles that begin without numbers of their own grant rising numbers, whichever draws, fails or crashes in turn
abbrev pub NumbersRise : Type 0
NumbersRise = (oracles : Oracles) (table : Table) (events : List Event) → ((who : ℕ) → oracles who ≡ None) →
    Run oracles table events → RiseFrom (stored_number table) (numbers events)

-- a draw leaves all rows but the clock's
abbrev pub OtherRowsStay : Type 0
OtherRowsStay = (table : Table) (number : ℕ) (key : Key) → key ≢ clock_key → row_at (table_after table number) key ≡ row_at table key

-- and of the clock's row the lock and the versions
abbrev pub ClockKeepsTheRest : Type 0
ClockKeepsTheRest = (table : Table) (number : ℕ) →
    ((row_at (table_after table number) clock_key).lock ≡ (row_at table clock_key).lock)
    × ((row_at (table_after table number) clock_key).versions ≡ (row_at table clock_key).versions)
