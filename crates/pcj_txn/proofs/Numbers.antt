-- The clock's number stays where rows are locked and committed.
use Rattle.std.proofs.Common.{◌≡◌, Result, Ok, Err, IfOk, OnErr, ap}
use Rattle.pcj_table.specs.declared.error.TableError.{TableError}
use Rattle.pcj_table.specs.declared.mutated.Mutated.{Mutated}
use Rattle.pcj_table.specs.Table.{Key, Table}
use Rattle.pcj_oracle.specs.Clock.{clock_key, clock_number, stored_number}
use Rattle.pcj_mvcc.specs.declared.act.Act.{Act}
use Rattle.pcj_mvcc.specs.Reading.{CarriesOut}
use Rattle.pcj_mvcc.proofs.Laws.{KeepsPlain, carried_plain}

-- whatever came of the act
pub number_stays : (old new : Table) (key : Key) (act : Act) (result : Result Mutated TableError) → KeepsPlain act →
    IfOk result (λ done. CarriesOut old key act done new) → OnErr result (new ≡ old) → stored_number new ≡ stored_number old
number_stays old new key act (Ok done) keeps made same = ap clock_number (carried_plain old new key act done keeps made clock_key)
number_stays old new key act (Err cause) keeps made same = ap stored_number same
