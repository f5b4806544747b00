-- What writes do to the bytes that a sink has taken, where it tells them.
use Rattle.std.specs.Prelude.{◌≡◌, ℕ, ◌≤◌, Bool, true, false, List, ◌++◌, Option, Result, Ok, Err, IsErrOf}
use Rattle.pcj_io.specs.declared.sink.SinkError.{SinkError}
use Rattle.pcj_io.specs.declared.sink.SinkError.TheVariants.{Failed, Memory}
use Rattle.pcj_io.specs.Faults.{Rose}
pub use Rattle.std.specs.Io.{WritesAtMost}
pub use Rattle.std.specs.Io.KnownBytes.{Appends, WriteAppends, Keeps}

-- the sink took some front of the bytes
abbrev pub AppendsPrefix : Option (List ℕ) → Option (List ℕ) → List ℕ → Type 0
AppendsPrefix old new bytes = (front rest : List ℕ) × (bytes ≡ front ++ rest) × Appends old new front

-- whether the answer is `Failed`
abbrev pub write_has_failed : {T : Type 0} → Result T SinkError → Bool
write_has_failed (Err Failed) = true
write_has_failed (Err Memory) = false
write_has_failed (Ok _) = false

-- the count of faults doesn't fall, and `Failed` is told only where it rose
pub record HasSinkCause {T : Type 0} (before now : ℕ) (result : Result T SinkError) : Type 0 where
  pub later : before ≤ now
  pub failed : IsErrOf result Failed → Rose before now
