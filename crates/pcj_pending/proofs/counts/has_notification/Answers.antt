use Rattle.std.proofs.Common.{IfOk, ◌≡◌, ◌^◌, ℕ, nat_lt, subst}
use Rattle.pcj_table.specs.Table.{Key, is_next_at, rows_that}
use Rattle.pcj_encode.specs.declared.key_range.KeyRange.{KeyRange}
use Rattle.pcj_pending.proofs.FitLemmas.{notifications_are_seen}
use Rattle.pcj_pending.proofs.counts.has_notification.Goals as goal

pub returns-clause-some : goal.returns-clause-some
returns-clause-some g c = λ fit.
    let table = g.T.RowTable.rows c.args.table.now in
    let from = subst (λ (after : Key). IfOk c.is_any_seen.result (λ some. some ≡ nat_lt 0 (rows_that (is_next_at after c.as_slice-2.result.now (2 ^ 48)) table))) c.as_slice.ensures c.is_any_seen.ensures.some in
    let to = subst (λ (end : Key). IfOk c.is_any_seen.result (λ some. some ≡ nat_lt 0 (rows_that (is_next_at c.in_ok-after.field-0.after end (2 ^ 48)) table))) c.as_slice-2.ensures from in
    let over = subst (λ (r : KeyRange). IfOk c.is_any_seen.result (λ some. some ≡ nat_lt 0 (rows_that (is_next_at r.after r.end (2 ^ 48)) table))) (c.in_ok-after.ensures {u = tt}) to in
    subst (λ (total : ℕ). IfOk c.is_any_seen.result (λ some. some ≡ nat_lt 0 total)) (notifications_are_seen table fit) over
