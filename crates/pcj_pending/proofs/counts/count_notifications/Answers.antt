use Rattle.std.proofs.Common.{IfOk, ◌≡◌, ◌≤◌, ◌+◌, ◌^◌, ℕ, subst}
use Rattle.pcj_table.specs.Table.{Key, is_next_at, rows_that}
use Rattle.pcj_encode.specs.declared.key_range.KeyRange.{KeyRange}
use Rattle.pcj_pending.proofs.FitLemmas.{notifications_are_seen}
use Rattle.pcj_pending.proofs.counts.count_notifications.Goals as goal

pub returns-clause-count : goal.returns-clause-count
returns-clause-count g c = λ fit.
    let table = g.T.RowTable.rows c.args.table.now in
    let to_end = subst (λ (end : Key). IfOk c.count_seen.result (λ count. count ≡ rows_that (is_next_at c.in_ok-after.field-0.after end (2 ^ 48)) table)) c.as_slice.ensures c.count_seen.ensures.count in
    let over = subst (λ (r : KeyRange). IfOk c.count_seen.result (λ count. count ≡ rows_that (is_next_at r.after r.end (2 ^ 48)) table)) (c.in_ok-after.ensures {u = tt}) to_end in
    subst (λ (total : ℕ). IfOk c.count_seen.result (λ count. count ≡ total)) (notifications_are_seen table fit) over

pub returns-clause-calls : goal.returns-clause-calls
returns-clause-calls g c = λ fit.
    let table = g.T.RowTable.rows c.args.table.now in
    let before = g.T.RowTable.made c.args.table.now in
    let after = g.T.RowTable.made c.count_seen.new.table in
    let to_end = subst (λ (end : Key). after ≤ before + rows_that (is_next_at c.in_ok-after.field-0.after end (2 ^ 48)) table + 1) c.as_slice.ensures c.count_seen.ensures.calls in
    let over = subst (λ (r : KeyRange). after ≤ before + rows_that (is_next_at r.after r.end (2 ^ 48)) table + 1) (c.in_ok-after.ensures {u = tt}) to_end in
    subst (λ (total : ℕ). after ≤ before + total + 1) (notifications_are_seen table fit) over
