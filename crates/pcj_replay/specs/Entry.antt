-- What a run finds and leaves.
use Rattle.std.specs.Prelude.{◌<◌, List, None}
use Rattle.pcj_term.specs.declared.triple.Triple.{Triple}
use Rattle.pcj_table.specs.Table.{Table, row_at}
use Rattle.pcj_oracle.specs.Clock.{IsClock, stored_number}
use Rattle.pcj_fit.specs.Fit.{Fit}
use Rattle.pcj_rows.specs.Triples.{HasTriples}
use Rattle.pcj_pending.specs.Pending.{locks_of, notifications_of}
use Rattle.pcj_model.specs.Queries.{Registration}
use Rattle.pcj_model.specs.State.{State, start_state}
use Rattle.pcj_jobs.specs.Agrees.{HasRegistered}

-- A table that a run may begin with: the clock's number is from 1 to 2^48, and the rows are fit below it. An empty table is one,
-- and so is each that a run has left, wherever it was stopped.
pub record IsOpen (table : Table) : Type 0 where
  pub clock : IsClock None table
  pub fit : Fit (stored_number table) (row_at table)

-- before the first command of a run over a table that has these triples and these registered queries
abbrev pub start_over : List Triple → List Registration → Table → State
start_over triples queries table = start_state triples queries (stored_number table) (notifications_of table) (locks_of table)

-- A run may begin with the table, which has the triples and the registered queries of the state; the numbers that it draws are
-- above each that was told.
pub record IsLeftWith (table : Table) (state : State) : Type 0 where
  pub ready : IsOpen table
  pub triples : HasTriples (row_at table) state.triples
  pub queries : HasRegistered (row_at table) state.queries
  pub last : state.last < stored_number table
