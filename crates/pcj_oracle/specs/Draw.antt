-- What a draw answers and changes.
use Rattle.std.specs.Prelude.{◌≡◌, ℕ, ◌+◌, ◌^◌, ◌<◌, ◌≤◌, ◌==◌, if◌then◌else◌, Option, Some, IsSome, Result, IsErrOf}
use Rattle.pcj_io.specs.Faults.{Rose}
use Rattle.pcj_table.specs.Table.{Table}
use Rattle.pcj_table.specs.declared.error.TableError.{TableError}
use Rattle.pcj_table.specs.declared.error.TableError.TheVariants as table
use Rattle.pcj_oracle.specs.declared.block.Block.{Block}
use Rattle.pcj_oracle.specs.declared.error.OracleError.{OracleError}
use Rattle.pcj_oracle.specs.declared.error.OracleError.TheVariants.{Failed, Memory}
use Rattle.pcj_oracle.specs.Clock.{stored_number, next_number, with_number, limit_after}

abbrev pub oracle_error : TableError → OracleError
oracle_error table.Failed = Failed
oracle_error table.Memory = Memory

-- the stored number after a grant: it is raised by a block where the number that is granted is the stored one
abbrev pub table_after : Table → ℕ → Table
table_after table number =
    if number == stored_number table then with_number table (limit_after (stored_number table)) else table

-- a number is drawn: it is the next one, and below 2^48; then the one after it is next
pub record IsNumber (number : ℕ) (oracle : Option Block) (table : Table) (oracle' : Option Block) (table' : Table) : Type 0 where
  pub is : number ≡ next_number oracle table
  pub below : number < 2 ^ 48
  pub next : next_number oracle' table' ≡ number + 1
  pub stored : table' ≡ table_after table number

-- a draw that grants a number: it lies below the stored one, at which the oracle's own numbers end
pub record Grants (oracle : Option Block) (table : Table) (number : ℕ) (oracle' : Option Block) (table' : Table) : Type 0 where
  pub granted : number ≡ next_number oracle table
  pub below : number < stored_number table'
  pub stored : table' ≡ table_after table number
  pub rest : oracle' ≡ Some (record { next = number + 1; limit = stored_number table' })

-- a draw that grants nothing
pub record Keeps (oracle : Option Block) (table : Table) (oracle' : Option Block) (table' : Table) : Type 0 where
  pub same : table' ≡ table
  pub next : next_number oracle' table' ≡ next_number oracle table
  pub attached : IsSome oracle → IsSome oracle'

-- the table's count of faults doesn't fall, and `Failed` is told only where it rose
pub record HasDrawCause {T : Type 0} (before now : ℕ) (result : Result T OracleError) : Type 0 where
  pub later : before ≤ now
  pub failed : IsErrOf result Failed → Rose before now
