-- Runs may begin with the tables of the cases.
use Rattle.pcj_table.specs.Table.{Table, row_at}
use Rattle.pcj_oracle.specs.Clock.{stored_number}
use Rattle.pcj_fit.proofs.TripleLemmas.{clock_alone_is_fit}
use Rattle.pcj_replay.specs.Entry.{IsOpen}
use Rattle.pcj_samples.specs.Fresh.{IsFresh}

pub fresh_is_open : (table : Table) → IsFresh table → IsOpen table
fresh_is_open table fresh = record {
  clock = record { first = fresh.first; last = fresh.last; attached = tt };
  fit = (clock_alone_is_fit (stored_number table) (row_at table) fresh.alone).0;
}
