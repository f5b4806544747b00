use Rattle.std.proofs.Common.{◌≡◌, drop, find}
use Rattle.pcj_table.specs.Row.{is_seen_at}
use Rattle.pcj_sorted.proofs.walk.first_seen.Given as goal

abbrev pub invariant-loop-row : goal.invariant-loop-row
invariant-loop-row l = find (λ row. is_seen_at l.at row.row) (drop l.row-index l.rows) ≡ find (λ row. is_seen_at l.at row.row) l.rows
