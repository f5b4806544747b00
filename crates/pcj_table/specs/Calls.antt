-- When a call of a table may fail.
use Rattle.std.specs.Prelude.{ℕ, ◌≤◌, Bool, true, false, Result, Ok, Err, IsErrOf}
use Rattle.pcj_io.specs.Faults.{Rose}
use Rattle.pcj_table.specs.declared.error.TableError.{TableError}
use Rattle.pcj_table.specs.declared.error.TableError.TheVariants.{Failed, Memory}
pub use Rattle.pcj_io.specs.Faults.{counted}

-- the count of faults doesn't fall, and `Failed` is told only where it rose
pub record HasTableCause {T : Type 0} (before now : ℕ) (result : Result T TableError) : Type 0 where
  pub later : before ≤ now
  pub failed : IsErrOf result Failed → Rose before now

-- whether the answer is `Failed`
abbrev pub has_failed : {T : Type 0} → Result T TableError → Bool
has_failed (Ok _) = false
has_failed (Err Failed) = true
has_failed (Err Memory) = false
