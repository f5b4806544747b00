use Rattle.std.proofs.Common.{IfOk, ◌≡◌, ◌≤◌, ◌+◌, ℕ, subst}
use Rattle.pcj_pending.proofs.FitLemmas.{locks_are_met}
use Rattle.pcj_pending.proofs.counts.count_locks.Goals as goal

pub returns-clause-count : goal.returns-clause-count
returns-clause-count g c = λ fit.
    subst (λ (total : ℕ). IfOk c.count_locked.result (λ count. count ≡ total)) (locks_are_met (g.T.RowTable.rows c.args.table.now) fit) c.count_locked.ensures.count

pub returns-clause-calls : goal.returns-clause-calls
returns-clause-calls g c = λ fit.
    subst (λ (total : ℕ). g.T.RowTable.made c.count_locked.new.table ≤ g.T.RowTable.made c.args.table.now + total + 1) (locks_are_met (g.T.RowTable.rows c.args.table.now) fit) c.count_locked.ensures.calls
