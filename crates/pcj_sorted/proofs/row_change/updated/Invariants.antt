use Rattle.std.proofs.Common.{◌≡◌, drop}
use Rattle.pcj_table.specs.Row.{updated_all}
use Rattle.pcj_sorted.proofs.row_change.updated.Given as goal

abbrev pub invariant-loop-update : goal.invariant-loop-update
invariant-loop-update l = updated_all l.new (drop l.update-index l.updates) ≡ updated_all l.fn.row l.updates
