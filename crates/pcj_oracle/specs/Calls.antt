-- How many calls of the table a draw makes.
use Rattle.std.specs.Prelude.{◌≡◌, ℕ, zero, suc, ◌+◌, ◌≤◌, ◌^◌, Bool, true, false, ◌==◌, ◌&&◌, nat_lt, if◌then◌else◌, Option, is_none, IsSome, Result, Ok, Err, OnOk}
use Rattle.pcj_table.specs.Table.{Table}
use Rattle.pcj_table.specs.Calls.{counted}
use Rattle.pcj_oracle.specs.declared.block.Block.{Block}
use Rattle.pcj_oracle.specs.declared.error.OracleError.{OracleError}
use Rattle.pcj_oracle.specs.declared.error.OracleError.TheVariants.{Failed, Memory, Spent}
use Rattle.pcj_oracle.specs.Clock.{stored_number, next_number}

-- the count of calls after some more of them
abbrev pub after_calls : ℕ → ℕ → ℕ
after_calls zero made = made
after_calls (suc calls) made = counted (after_calls calls made)

-- as many calls as are due, or fewer where one failed or there was no memory
pub record MakesCalls {T E : Type 0} (due before now : ℕ) (result : Result T E) : Type 0 where
  pub calls : ℕ
  pub made : now ≡ after_calls calls before
  pub within : calls ≤ due
  pub all : OnOk result (calls ≡ due)

-- a draw is answered where it grants a number or there is none
abbrev pub is_answered : Result ℕ OracleError → Bool
is_answered (Ok number) = true
is_answered (Err Spent) = true
is_answered (Err Failed) = false
is_answered (Err Memory) = false

-- the clock's row is read where the oracle isn't attached
abbrev pub reads : Option Block → ℕ
reads oracle = if is_none oracle then 1 else 0

-- and it is raised where the next number is the stored one and below 2^48
abbrev pub stores : ℕ → ℕ → ℕ
stores next stored = if next == stored && nat_lt next (2 ^ 48) then 1 else 0

-- how many calls a draw makes that the table carries out: none where a number is left
abbrev pub calls_due : Option Block → Table → ℕ
calls_due oracle table = reads oracle + stores (next_number oracle table) (stored_number table)

-- how many calls a draw made
pub record HasDrawCalls (oracle : Option Block) (table : Table) (before now : ℕ) (result : Result ℕ OracleError) (oracle' : Option Block) : Type 0 where
  pub calls : ℕ
  pub made : now ≡ after_calls calls before
  pub within : calls ≤ calls_due oracle table
  pub none : calls_due oracle table ≡ 0 → is_answered result ≡ true
  pub all : is_answered result ≡ true → calls ≡ calls_due oracle table
  -- an oracle whose read was carried out is attached from then on, also where the write failed
  pub attached : calls ≡ 2 → IsSome oracle'
  pub answered : is_answered result ≡ true → IsSome oracle'
