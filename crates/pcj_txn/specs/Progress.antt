-- How far a transaction has come, and which step is due (Percolator, OSDI 2010, section 2.2).
use Rattle.std.specs.Prelude.{ℕ, suc, Bool, true, false, List, Option, Some, None, slice_get}
use Rattle.pcj_table.specs.declared.write.Write.{Write}
use Rattle.pcj_moves.specs.Transactions.{Transaction, new_transaction, with_next, with_commit, as_committed}

-- A transaction with its start, and how many of its rows have had their commit, the primary's first.
pub record Progress : Type 0 where
  pub start : ℕ
  pub transaction : Transaction
  pub settled : ℕ

abbrev pub new_progress : ℕ → List Write → Progress
new_progress start writes = record { start = start; transaction = new_transaction writes; settled = 0 }

-- ---- which step is due

-- A row is locked, the commit is drawn, the primary's row is committed, or there is none, another row is committed, or
-- all is done.
pub data Due : Type 0 where
  Prewrite : (write : Write) → Due
  Draw : Due
  CommitPrimary : (write : Write) (commit : ℕ) → Due
  CommitNone : (commit : ℕ) → Due
  CommitSecondary : (write : Write) (commit : ℕ) → Due
  End : Due

abbrev pub due_first : Option Write → Due
due_first None = Draw
due_first (Some write) = Prewrite write

abbrev pub due_commit : Option Write → ℕ → Due
due_commit None commit = CommitNone commit
due_commit (Some write) commit = CommitPrimary write commit

abbrev pub due_last : Option Write → ℕ → Due
due_last None commit = End
due_last (Some write) commit = CommitSecondary write commit

abbrev pub due_of : List Write → ℕ → Option ℕ → Bool → ℕ → Due
due_of writes prewritten None committed settled = due_first (slice_get writes prewritten)
due_of writes prewritten (Some commit) false settled = due_commit (slice_get writes 0) commit
due_of writes prewritten (Some commit) true settled = due_last (slice_get writes settled) commit

-- the rows are locked in the order of their writes, then the commit is drawn, and then they are committed in that order
abbrev pub due : Progress → Due
due progress = due_of progress.transaction.writes progress.transaction.prewritten progress.transaction.commit progress.transaction.committed progress.settled

-- ---- how it goes on

abbrev pub goes_on : Progress → Transaction → Progress
goes_on progress transaction = record { start = progress.start; transaction = transaction; settled = progress.settled }

abbrev pub one_prewritten : Progress → Progress
one_prewritten progress = goes_on progress (with_next progress.transaction)

abbrev pub commit_drawn : Progress → ℕ → Progress
commit_drawn progress commit = goes_on progress (with_commit progress.transaction commit)

abbrev pub none_committed : Progress → Progress
none_committed progress = goes_on progress (as_committed progress.transaction)

abbrev pub primary_committed : Progress → Progress
primary_committed progress = record { start = progress.start; transaction = as_committed progress.transaction; settled = 1 }

abbrev pub one_settled : Progress → Progress
one_settled progress = record { start = progress.start; transaction = progress.transaction; settled = suc progress.settled }
