use Rattle.std.proofs.Common.{◌≡◌, ◌≤◌, ◌+◌, ◌*◌}
use Rattle.pcj_table.specs.Table.{row_at}
use Rattle.pcj_pending.specs.Pending.{IsFit}
use Rattle.pcj_registrations.specs.Registrations.{list_of, rows_met}
use Rattle.pcj_registrations.proofs.WalkLemmas.{Passed, ahead_of}
use Rattle.pcj_registrations.proofs.walk.registrations.Given as goal

abbrev pub invariant-loop-last : goal.invariant-loop-last
invariant-loop-last g l =
    (IsFit (row_at (g.T.RowTable.rows l.fn.table)) → Passed (row_at (g.T.RowTable.rows l.fn.table)) l.last (list_of l.found))
    × (g.T.RowTable.rows l.table ≡ g.T.RowTable.rows l.fn.table)
    × (g.T.RowTable.failures l.fn.table ≤ g.T.RowTable.failures l.table)
    × (g.T.RowTable.made l.table + 2 * ahead_of l.last (g.T.RowTable.rows l.fn.table) ≤ g.T.RowTable.made l.fn.table + 2 * rows_met (g.T.RowTable.rows l.fn.table))

abbrev pub decreases-loop-last : goal.decreases-loop-last
decreases-loop-last g l = ahead_of l.last (g.T.RowTable.rows l.table)
