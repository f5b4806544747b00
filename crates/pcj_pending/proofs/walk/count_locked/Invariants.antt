use Rattle.std.proofs.Common.{[], ◌≤◌, ◌+◌}
use Rattle.pcj_table.specs.Table.{is_next_lock, rows_that}
use Rattle.pcj_pending.proofs.WalkLemmas.{Counts}
use Rattle.pcj_pending.proofs.walk.count_locked.Given as goal

abbrev pub invariant-loop-last : goal.invariant-loop-last
invariant-loop-last g l =
    Counts is_next_lock [] (g.T.RowTable.rows l.fn.table) (g.T.RowTable.rows l.table) l.locked l.last
    × (g.T.RowTable.failures l.fn.table ≤ g.T.RowTable.failures l.table)
    × (g.T.RowTable.made l.table ≤ g.T.RowTable.made l.fn.table + l.locked)

abbrev pub decreases-loop-last : goal.decreases-loop-last
decreases-loop-last g l = rows_that (is_next_lock l.last) (g.T.RowTable.rows l.table)
