-- When a step of a transaction may fail, and how many calls of the table it makes.
use Rattle.std.specs.Prelude.{◌≡◌, ℕ, ◌+◌, ◌≤◌, Bool, true, false, Option, Result, Ok, Err, IsErrOf}
use Rattle.pcj_io.specs.Faults.{Rose}
use Rattle.pcj_table.specs.Table.{Table}
use Rattle.pcj_table.specs.declared.error.TableError.{TableError}
use Rattle.pcj_table.specs.declared.error.TableError.TheVariants as table
use Rattle.pcj_oracle.specs.declared.block.Block.{Block}
use Rattle.pcj_oracle.specs.declared.error.OracleError.{OracleError}
use Rattle.pcj_oracle.specs.declared.error.OracleError.TheVariants as oracle
use Rattle.pcj_oracle.specs.Calls.{after_calls, calls_due, reads}
use Rattle.pcj_txn.specs.declared.error.TxnError.{TxnError}
use Rattle.pcj_txn.specs.declared.error.TxnError.TheVariants.{Failed, Memory, Spent}
use Rattle.pcj_txn.specs.Progress.{Due, Prewrite, Draw, CommitPrimary, CommitNone, CommitSecondary, End}

abbrev pub table_error : TableError → TxnError
table_error table.Failed = Failed
table_error table.Memory = Memory

abbrev pub oracle_error : OracleError → TxnError
oracle_error oracle.Failed = Failed
oracle_error oracle.Memory = Memory
oracle_error oracle.Spent = Spent

-- the table's count of faults doesn't fall, and `Failed` is told only where it rose
pub record HasTxnCause {T : Type 0} (before now : ℕ) (result : Result T TxnError) : Type 0 where
  pub later : before ≤ now
  pub failed : IsErrOf result Failed → Rose before now

-- a step is answered where it tells something or no timestamp is left
abbrev pub is_answered : {T : Type 0} → Result T TxnError → Bool
is_answered (Ok event) = true
is_answered (Err Spent) = true
is_answered (Err Failed) = false
is_answered (Err Memory) = false

-- how many calls a step makes: one for a row, those of its draw, and none where there is no row
abbrev pub step_calls : Due → Option Block → Table → ℕ
step_calls (Prewrite write) oracle table = 1
step_calls Draw oracle table = calls_due oracle table
step_calls (CommitPrimary write commit) oracle table = 1
step_calls (CommitNone commit) oracle table = 0
step_calls (CommitSecondary write commit) oracle table = 1
step_calls End oracle table = 0

-- the calls that are due were made, or fewer where there was no answer, and with none due there is an answer
pub record MakesStepCalls (due before now : ℕ) (answered : Bool) : Type 0 where
  pub calls : ℕ
  pub made : now ≡ after_calls calls before
  pub within : calls ≤ due
  pub all : answered ≡ true → calls ≡ due
  pub none : due ≡ 0 → answered ≡ true

-- One call at most, and one more where it reads the clock's row for an oracle that isn't attached: from then on it is.
pub record MakesOneCall (oracle oracle' : Option Block) (before now : ℕ) : Type 0 where
  pub calls : ℕ
  pub made : now ≡ after_calls calls before
  pub within : calls + reads oracle' ≤ 1 + reads oracle
