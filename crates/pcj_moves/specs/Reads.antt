-- What was read at a time, and which transactions leave it as it was.
use Rattle.std.specs.Prelude.{◌≡◌, ◌≤◌, ℕ, Bool, true, not, ◌&&◌, if◌then◌else◌, List, Option, Some, None}
use Rattle.std.specs.List.{Contains}
use Rattle.std.specs.Option.{option_map}
use Rattle.pcj_term.specs.Order.{is_before, same_bytes}
use Rattle.pcj_table.specs.Table.{Key, found, is_between}
use Rattle.pcj_mvcc.specs.Reading.{Rows, lock_up_to, seen}
use Rattle.pcj_moves.specs.Traces.{Traces}
use Rattle.pcj_moves.specs.declared.answer.Answer.{Answer}
use Rattle.pcj_moves.specs.declared.answer.Answer.TheVariants.{OfRange, OfRow}
use Rattle.pcj_moves.specs.Transactions.{IsRipe, Transaction, write_at}

-- A walk has read the rows up to the one that it found, and all where it found none.
abbrev pub covers : Answer → Key → Bool
covers (OfRow key found) other = same_bytes other key
covers (OfRange after end None) other = is_between after end other
covers (OfRange after end (Some found)) other = is_between after end other && not (is_before found.key other)

-- the value of each row that was read
abbrev pub finds : Answer → Key → Option (List ℕ)
finds (OfRow key found) other = found
finds (OfRange after end None) other = None
finds (OfRange after end (Some found)) other = if same_bytes other found.key then Some found.value else None

-- the value that is seen at a time, whatever its commit
abbrev pub value_seen : Rows → Key → ℕ → Option (List ℕ)
value_seen rows key at = option_map (λ put. put.0) (seen rows key at)

-- each answer is what is seen at the start
abbrev pub Reads : Rows → ℕ → List Answer → Type 0
Reads rows start answers = (answer : Answer) → Contains answers answer → (key : Key) → covers answer key ≡ true → value_seen rows key start ≡ finds answer key

-- an answer is what is seen of rows that have no lock of the start or before
pub record IsRead (rows : Rows) (start : ℕ) (answer : Answer) : Type 0 where
  pub seen_there : (key : Key) → covers answer key ≡ true → value_seen rows key start ≡ finds answer key
  pub unlocked : (key : Key) → covers answer key ≡ true → lock_up_to start (rows key).lock ≡ None

-- where it may be committed at or below the reader's start, it writes no row that the answers cover
abbrev pub IsHidden : ℕ → Transaction → Traces → ℕ → List Answer → Type 0
IsHidden start transaction at reader answers = (commit : ℕ) → IsRipe start transaction at commit → commit ≤ reader →
    (answer : Answer) → Contains answers answer → (key : Key) → covers answer key ≡ true → write_at transaction.writes key ≡ None
