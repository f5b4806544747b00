-- The forms in memory: what they have, and which of their calls fail.
use Rattle.std.specs.Prelude.{◌≡◌, ◌↔◌, ℕ, Bool, true, List}
use Rattle.std.specs.List.{Contains}
use Rattle.pcj_io.specs.Faults.{counted, CountsFaults}

-- the numbers of the calls that fail, from 1, and how many were made and have failed
pub record Calls : Type 0 where
  pub failing : List ℕ
  pub made : ℕ
  pub faults : ℕ

-- a source in memory: the bytes left, and how many a read gives at most
pub record Supply : Type 0 where
  pub left : List ℕ
  pub piece : ℕ
  pub calls : Calls

-- a sink in memory: the bytes taken, and how many a write takes at most
pub record Store : Type 0 where
  pub taken : List ℕ
  pub piece : ℕ
  pub calls : Calls

abbrev pub no_calls : List ℕ → Calls
no_calls failing = record { failing = failing; made = 0; faults = 0 }

-- one more call was made, and it failed exactly where its number is among those that fail
pub record IsNextCall (old new : Calls) (failed : Bool) : Type 0 where
  pub failing : new.failing ≡ old.failing
  pub made : new.made ≡ counted old.made
  pub faults : CountsFaults old.faults new.faults failed
  pub chosen : (failed ≡ true) ↔ Contains old.failing new.made
