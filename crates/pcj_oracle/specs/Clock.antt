-- The clock's row, and how an oracle stands to it (Percolator, section 2.3).
use Rattle.std.specs.Prelude.{◌≡◌, ℕ, ◌+◌, ◌^◌, ◌<◌, ◌≤◌, min, [], ◌∷◌, Option, Some, None}
use Rattle.pcj_table.specs.declared.plain.Plain.{Plain}
use Rattle.pcj_table.specs.declared.update.Update.TheVariants.{SetPlain}
use Rattle.pcj_table.specs.Row.{updated}
use Rattle.pcj_table.specs.Table.{Table, Key, row_at, with_row}
use Rattle.pcj_oracle.specs.declared.block.Block.{Block}

-- the key of the clock's row: the letter `z` and the byte 0
abbrev pub clock_key : Key
clock_key = 122 ∷ 0 ∷ []

-- the first number that was never granted, by the plain value of the clock's row
abbrev pub clock_number : Option Plain → ℕ
clock_number None = 1
clock_number (Some plain) = plain.seq

-- the first number that was never granted
abbrev pub stored_number : Table → ℕ
stored_number table = clock_number (row_at table clock_key).plain

-- the table with another number as the first that was never granted
abbrev pub with_number : Table → ℕ → Table
with_number table number =
    with_row table clock_key (updated (row_at table clock_key) (SetPlain (record { seq = number; value = Some [] })))

-- the number that is granted next: an oracle that isn't attached goes on at the stored one
abbrev pub next_at : Option Block → ℕ → ℕ
next_at None stored = stored
next_at (Some block) stored = block.next

abbrev pub next_number : Option Block → Table → ℕ
next_number oracle table = next_at oracle (stored_number table)

-- the oracle's own numbers once it is attached
abbrev pub attached : Option Block → Table → Block
attached oracle table = record { next = next_number oracle table; limit = stored_number table }

-- an attached oracle's numbers: they end at the stored one, and are fewer than 1,000
pub record IsBlock (block : Block) (stored : ℕ) : Type 0 where
  pub limit : block.limit ≡ stored
  pub first : 1 ≤ block.next
  pub last : block.next ≤ block.limit
  pub size : block.limit < block.next + 1000

abbrev pub IsAttached : Option Block → ℕ → Type 0
IsAttached None stored = Unit {0}
IsAttached (Some block) stored = IsBlock block stored

-- an oracle fits a stored number, which is from 1 to 2^48
pub record IsClockAt (oracle : Option Block) (stored : ℕ) : Type 0 where
  pub first : 1 ≤ stored
  pub last : stored ≤ 2 ^ 48
  pub attached : IsAttached oracle stored

-- an oracle fits the table that it is used with: of the table the clock's row alone counts
abbrev pub IsClock : Option Block → Table → Type 0
IsClock oracle table = IsClockAt oracle (stored_number table)

-- the limit of a block of 1,000 numbers that begins at another's
abbrev pub limit_after : ℕ → ℕ
limit_after limit = min (limit + 1000) (2 ^ 48)
