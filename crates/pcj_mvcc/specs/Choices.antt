-- Rows as they would be if some transactions were committed that have drawn their commit and still have their primary's lock.
use Rattle.std.specs.Prelude.{◌≡◌, ℕ, cond, Option, Some, None}
use Rattle.pcj_term.specs.Order.{same_bytes}
use Rattle.pcj_table.specs.declared.lock.Lock.{Lock}
use Rattle.pcj_table.specs.declared.row.Row.{Row}
use Rattle.pcj_table.specs.Row.{updated_all}
use Rattle.pcj_table.specs.Table.{Key}
use Rattle.pcj_mvcc.specs.Acts.{version_of, replace_lock_act, roll_forward_act}
use Rattle.pcj_mvcc.specs.Reading.{Rows, put, acted}

-- for the primary of each transaction that is chosen its commit
abbrev pub Choice : Type 0
Choice = Key → Option ℕ

-- a row with its lock as a version of a commit
abbrev pub committed_row : Option Lock → ℕ → Row → Row
committed_row None commit row = row
committed_row (Some lock) commit row = updated_all row (replace_lock_act (version_of lock commit)).updates

abbrev pub with_commit : Option ℕ → Row → Row
with_commit None row = row
with_commit (Some commit) row = committed_row row.lock commit row

-- the rows in which the chosen transactions are committed
abbrev pub under : Choice → Rows → Rows
under choice rows key = with_commit (choice key) (rows key)

-- a choice that differs at one key
abbrev pub choose : Choice → Key → Option ℕ → Choice
choose choice key commit other = cond (same_bytes other key) commit (choice other)

-- each transaction that is chosen is among these
abbrev pub IsChoice : (Key → ℕ → Type 0) → Choice → Type 0
IsChoice ripe choice = (key : Key) (commit : ℕ) → choice key ≡ Some commit → ripe key commit

-- ---- laws

-- a row that isn't chosen may be changed before or after the choice
abbrev pub ChangeUnderChoice : Type 0
ChangeUnderChoice = (choice : Choice) (rows : Rows) (key : Key) (row : Row) → choice key ≡ None → under choice (put rows key row) ≡ put (under choice rows) key row

-- a chosen transaction is committed over the choice of the others
abbrev pub ChosenIsCommitted : Type 0
ChosenIsCommitted = (choice : Choice) (rows : Rows) (key : Key) (lock : Lock) (commit : ℕ) → (rows key).lock ≡ Some lock → choice key ≡ Some commit →
    under choice rows ≡ acted (under (choose choice key None) rows) key (roll_forward_act lock commit)

-- a choice of others after a commit is one before it that has this transaction too
abbrev pub CommittedIsChosen : Type 0
CommittedIsChosen = (choice : Choice) (rows : Rows) (key : Key) (lock : Lock) (commit : ℕ) → (rows key).lock ≡ Some lock → choice key ≡ None →
    under choice (acted rows key (roll_forward_act lock commit)) ≡ under (choose choice key (Some commit)) rows
