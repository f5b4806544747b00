use Rattle.std.proofs.Common.{◌≡◌, ◌+◌, ◌≤◌, drop, filter, length}
use Rattle.pcj_table.specs.Row.{is_counted}
use Rattle.pcj_sorted.proofs.walk.count.Given as goal

abbrev pub invariant-loop-row : goal.invariant-loop-row
invariant-loop-row l = (l.count ≤ l.row-index) × (l.count + length (filter (λ row. is_counted row.row) (drop l.row-index l.rows)) ≡ length (filter (λ row. is_counted row.row) l.rows))
