-- Digits read from left to right.
use Rattle.std.proofs.Common.{◌≡◌, ℕ, zero, suc, ◌+◌, ◌-◌, ◌*◌, ◌^◌, ◌<◌, ◌≤◌, true, List, drop, arith}
use Rattle.std.specs.List.{fold, list_all}
use Rattle.pcj_term.specs.Iri.{is_digit}
use Rattle.pcj_script.specs.Places.{value_of}

abbrev pub with_digit : ℕ → ℕ → ℕ
with_digit value digit = 10 * value + (digit - 48)

-- the digits up to a place write this value, which those after it go on from
pub record ReadSoFar (digits : List ℕ) (at value : ℕ) : Type 0 where
  pub rest : fold with_digit value (drop at digits) ≡ value_of digits
  pub few : value < 10 ^ at
  pub all : list_all is_digit (drop at digits) ≡ true

pub power_up : (n : ℕ) → n < 7 → 10 ^ n ≤ 1000000
power_up zero h = omega arith
power_up (suc zero) h = omega arith
power_up (suc (suc zero)) h = omega arith
power_up (suc (suc (suc zero))) h = omega arith
power_up (suc (suc (suc (suc zero)))) h = omega arith
power_up (suc (suc (suc (suc (suc zero))))) h = omega arith
power_up (suc (suc (suc (suc (suc (suc zero)))))) h = omega arith
power_up (suc (suc (suc (suc (suc (suc (suc n))))))) h = absurd (omega arith)
