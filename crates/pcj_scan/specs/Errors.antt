-- When a scan may fail.
use Rattle.std.specs.Prelude.{ℕ, ◌≤◌, Result, IsErrOf}
use Rattle.pcj_io.specs.Faults.{Rose}
use Rattle.pcj_table.specs.declared.error.TableError.{TableError}
use Rattle.pcj_table.specs.declared.error.TableError.TheVariants as table
use Rattle.pcj_oracle.specs.declared.error.OracleError.{OracleError}
use Rattle.pcj_oracle.specs.declared.error.OracleError.TheVariants as oracle
use Rattle.pcj_scan.specs.declared.error.ScanError.{ScanError}
use Rattle.pcj_scan.specs.declared.error.ScanError.TheVariants.{Failed, Memory, Spent}

abbrev pub table_error : TableError → ScanError
table_error table.Failed = Failed
table_error table.Memory = Memory

abbrev pub oracle_error : OracleError → ScanError
oracle_error oracle.Failed = Failed
oracle_error oracle.Memory = Memory
oracle_error oracle.Spent = Spent

-- the table's count of faults doesn't fall, and `Failed` is told only where it rose
pub record HasScanCause {T : Type 0} (before now : ℕ) (result : Result T ScanError) : Type 0 where
  pub later : before ≤ now
  pub failed : IsErrOf result Failed → Rose before now
