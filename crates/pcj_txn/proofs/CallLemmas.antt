-- How many calls of the table a step makes that draws nothing.
use Rattle.std.proofs.Common.{◌≡◌, ◌≤◌, ℕ, Bool, true, false, slice_get, Option, Some, None, sym, subst, arith}
use Rattle.pcj_table.specs.Table.{Table}
use Rattle.pcj_table.specs.declared.write.Write.{Write}
use Rattle.pcj_oracle.specs.declared.block.Block.{Block}
use Rattle.pcj_txn.specs.Errors.{MakesOneCall, MakesStepCalls, step_calls}
use Rattle.pcj_txn.specs.Progress.{Progress, due, due_commit, due_last, due_of}

pub one_of_row : (oracle : Option Block) (most before now : ℕ) (answered : Bool) → most ≤ 1 → MakesStepCalls most before now answered → MakesOneCall oracle oracle before now
one_of_row oracle most before now answered few calls = record { calls = calls.calls; made = calls.made; within = let le = calls.within in omega arith }

few_commit : (write : Option Write) (commit : ℕ) (oracle : Option Block) (table : Table) → step_calls (due_commit write commit) oracle table ≤ 1
few_commit None commit oracle table = omega arith
few_commit (Some write) commit oracle table = omega arith

few_last : (write : Option Write) (commit : ℕ) (oracle : Option Block) (table : Table) → step_calls (due_last write commit) oracle table ≤ 1
few_last None commit oracle table = omega arith
few_last (Some write) commit oracle table = omega arith

-- once the commit is drawn
pub few_drawn : (progress : Progress) (commit : ℕ) (oracle : Option Block) (table : Table) → progress.transaction.commit ≡ Some commit → step_calls (due progress) oracle table ≤ 1
few_drawn progress commit oracle table drawn =
    subst (λ c. step_calls (due_of progress.transaction.writes progress.transaction.prewritten c progress.transaction.committed progress.settled) oracle table ≤ 1) (sym drawn) (by progress.transaction.committed)
  where
    by : (committed : Bool) → step_calls (due_of progress.transaction.writes progress.transaction.prewritten (Some commit) committed progress.settled) oracle table ≤ 1
    by true = few_last (slice_get progress.transaction.writes progress.settled) commit oracle table
    by false = few_commit (slice_get progress.transaction.writes 0) commit oracle table
