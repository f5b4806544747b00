use Rattle.std.proofs.Common.{◌≤◌, ◌+◌}
use Rattle.pcj_table.specs.Table.{is_next_at, rows_that}
use Rattle.pcj_pending.proofs.WalkLemmas.{Counts}
use Rattle.pcj_pending.proofs.walk.count_seen.Given as goal

abbrev pub invariant-loop-last : goal.invariant-loop-last
invariant-loop-last g l =
    Counts (λ key. is_next_at key l.end l.at) l.fn.after (g.T.RowTable.rows l.fn.table) (g.T.RowTable.rows l.table) l.seen l.last
    × (g.T.RowTable.failures l.fn.table ≤ g.T.RowTable.failures l.table)
    × (g.T.RowTable.made l.table ≤ g.T.RowTable.made l.fn.table + l.seen)

abbrev pub decreases-loop-last : goal.decreases-loop-last
decreases-loop-last g l = rows_that (is_next_at l.last l.end l.at) (g.T.RowTable.rows l.table)
