-- Counts of calls.
use Rattle.std.proofs.Common.{◌≡◌, ℕ, zero, suc, ◌+◌, ◌^◌, ◌<◌, true, Result, Ok, Err, ap, arith, ◌∙◌}
use Rattle.pcj_table.specs.Calls.{counted}
use Rattle.pcj_table.specs.declared.error.TableError.{TableError}
use Rattle.pcj_table.specs.declared.error.TableError.TheVariants as table
use Rattle.std.specs.Result.{IsErrAnd}
use Rattle.pcj_oracle.specs.declared.error.OracleError.{OracleError}
use Rattle.pcj_oracle.specs.declared.error.OracleError.TheVariants.{Failed, Memory, Spent}
use Rattle.pcj_oracle.specs.Draw.{oracle_error}
use Rattle.pcj_oracle.specs.Calls.{after_calls, is_answered, stores}

zero_more : (n : ℕ) → n ≡ 0 + n
zero_more n = omega arith

one_more : (m n : ℕ) → suc (m + n) ≡ suc m + n
one_more m n = omega arith

pub more_calls : (more calls made : ℕ) → after_calls more (after_calls calls made) ≡ after_calls (more + calls) made
more_calls zero calls made = ap (λ n. after_calls n made) (zero_more calls)
more_calls (suc more) calls made = ap counted (more_calls more calls made) ∙ ap (λ n. after_calls n made) (one_more more calls)

-- calls that follow calls
pub all_calls : (first then before mid now : ℕ) → mid ≡ after_calls first before → now ≡ after_calls then mid → now ≡ after_calls (then + first) before
all_calls first then before mid now one two = two ∙ ap (after_calls then) one ∙ more_calls then first before

-- no error of the table is an answer
pub not_answered : (result : Result ℕ OracleError) (cause : TableError) → IsErrAnd result (λ e. e ≡ oracle_error cause) → is_answered result ≡ true → ⊥
not_answered (Ok number) cause is e = is
not_answered (Err Failed) cause is e = absurd cc
not_answered (Err Memory) cause is e = absurd cc
not_answered (Err Spent) table.Failed is e = absurd cc
not_answered (Err Spent) table.Memory is e = absurd cc

-- the stored number is raised where it is granted
pub some_due : (next stored : ℕ) → next ≡ stored → next < 2 ^ 48 → stores next stored ≡ 1
some_due next stored same small = grind (arith, same, small)
