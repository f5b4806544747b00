-- Counts of faults, and when a failure may be told.
use Rattle.std.specs.Prelude.{ℕ, ◌+◌, ◌-◌, ◌^◌, ◌≡◌, ◌≤◌, min, Bool, cond, Result, OnErr}

-- one more, up to the last value of a u64
abbrev pub counted : ℕ → ℕ
counted n = min (n + 1) (2 ^ 64 - 1)

-- the count is higher, or stands at its last value
abbrev pub Rose : ℕ → ℕ → Type 0
Rose before now = counted before ≤ now

-- a call that failed counts one fault, and another none
abbrev pub CountsFaults : ℕ → ℕ → Bool → Type 0
CountsFaults before now failed = now ≡ cond failed (counted before) before

-- the count doesn't fall, and an error is told only where it rose
pub record HasCause {T E : Type 0} (before now : ℕ) (result : Result T E) : Type 0 where
  pub later : before ≤ now
  pub failed : OnErr result (Rose before now)
