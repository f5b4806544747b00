use Rattle.std.proofs.Common.{◌≤◌, ◌+◌, ◌*◌}
use Rattle.pcj_patterns.specs.Serving.{rows_of}
use Rattle.pcj_pending.specs.Pending.{locks_of}
use Rattle.pcj_scan.specs.Ranges.{rows_for, rows_in}
use Rattle.pcj_scan.proofs.RangeLemmas.{Walking}
use Rattle.pcj_scan.proofs.range.read_range.Given as goal

abbrev pub invariant-loop-last : goal.invariant-loop-last
invariant-loop-last g l =
    Walking l.pattern l.at (g.T.RowTable.rows l.fn.table) (g.T.RowTable.rows l.table) l.last l.matches
    × (g.T.RowTable.failures l.fn.table ≤ g.T.RowTable.failures l.table)
    × (g.T.RowTable.made l.table + 4 * locks_of (g.T.RowTable.rows l.table) + rows_in l.last (rows_of l.pattern).1.end (g.T.RowTable.rows l.table)
    ≤ g.T.RowTable.made l.fn.table + 4 * locks_of (g.T.RowTable.rows l.fn.table) + rows_for l.pattern (g.T.RowTable.rows l.fn.table))

abbrev pub decreases-loop-last : goal.decreases-loop-last
decreases-loop-last g l = rows_in l.last (rows_of l.pattern).1.end (g.T.RowTable.rows l.table)
