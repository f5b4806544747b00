-- Rows of registrations that have a number for their transaction's start.
use Rattle.std.specs.Prelude.{◌≡◌, ℕ, ◌≤◌, true, ◌==◌, Some}
use Rattle.std.specs.List.{list_all}
use Rattle.pcj_table.specs.declared.lock.Lock.{Lock}
use Rattle.pcj_table.specs.declared.row.Row.{Row}
use Rattle.pcj_encode.specs.declared.key_name.KeyName.TheVariants as row
use Rattle.pcj_encode.specs.Name.{IsRegistration, key_of}
use Rattle.pcj_mvcc.specs.Reading.{Rows}

-- all that the row has is of the transaction with this start
pub record IsOwnRow (start : ℕ) (row : Row) : Type 0 where
  pub lock : (lock : Lock) → row.lock ≡ Some lock → lock.start ≡ start
  pub versions : list_all (λ version. version.start == start) row.versions ≡ true

-- so it is in the row of each registration with this number or a higher one
abbrev pub AreOwnFrom : ℕ → Rows → Type 0
AreOwnFrom low rows = (registration : ℕ) → low ≤ registration → IsRegistration registration → IsOwnRow registration (rows (key_of (row.Registration registration)))
