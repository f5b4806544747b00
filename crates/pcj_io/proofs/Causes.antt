-- Counts of faults over several calls.
use Rattle.std.proofs.Common.{ℕ, ◌≤◌, Result, Ok, Err, arith}
use Rattle.pcj_io.specs.declared.sink.SinkError.{SinkError}
use Rattle.pcj_io.specs.Faults.{Rose, HasCause}
use Rattle.pcj_io.specs.Sink.{HasSinkCause}

-- what rose has risen later too
pub Rose-then : (a b c : ℕ) → Rose a b → b ≤ c → Rose a c
Rose-then a b c p q = omega arith

-- what rose had risen since earlier too
pub Rose-since : (a b c : ℕ) → a ≤ b → Rose b c → Rose a c
Rose-since a b c p q = omega arith

-- the cause of a call is one of the calls from an earlier one on
pub HasCause-since : {T E : Type 0} (a b c : ℕ) (r : Result T E) → a ≤ b → HasCause b c r → HasCause a c r
HasCause-since a b c (Ok x) p q = record { later = omega (arith, q.later); failed = tt }
HasCause-since a b c (Err e) p q = record { later = omega (arith, q.later); failed = Rose-since a b c p q.failed }

-- and of those up to a later one
pub HasCause-then : {T E : Type 0} (a b c : ℕ) (r : Result T E) → HasCause a b r → b ≤ c → HasCause a c r
HasCause-then a b c (Ok x) p q = record { later = omega (arith, p.later); failed = tt }
HasCause-then a b c (Err e) p q = record { later = omega (arith, p.later); failed = Rose-then a b c p.failed q }

pub HasSinkCause-since : {T : Type 0} (a b c : ℕ) (r : Result T SinkError) → a ≤ b → HasSinkCause b c r → HasSinkCause a c r
HasSinkCause-since a b c r p q = record { later = omega (arith, q.later); failed = λ e. Rose-since a b c p (q.failed e) }

pub HasSinkCause-then : {T : Type 0} (a b c : ℕ) (r : Result T SinkError) → HasSinkCause a b r → b ≤ c → HasSinkCause a c r
HasSinkCause-then a b c r p q = record { later = omega (arith, p.later); failed = λ e. Rose-then a b c (p.failed e) q }
