use Rattle.std.proofs.Common.{◌≡◌, drop, find}
use Rattle.std.specs.Prelude.{is_some}
use Rattle.pcj_sorted.proofs.walk.first_locked.Given as goal

abbrev pub invariant-loop-row : goal.invariant-loop-row
invariant-loop-row l = find (λ row. is_some row.row.lock) (drop l.row-index l.rows) ≡ find (λ row. is_some row.row.lock) l.rows
