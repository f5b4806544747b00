use Rattle.std.proofs.Common.{◌≤◌, ◌+◌}
use Rattle.pcj_export.proofs.WalkLemmas.{Reads, ahead_of}
use Rattle.pcj_export.proofs.reading.read_between.Given as goal

abbrev pub invariant-loop-last : goal.invariant-loop-last
invariant-loop-last g l =
    Reads l.fn.after l.end (g.T.RowTable.rows l.fn.table) (g.T.RowTable.rows l.table) l.values l.last
    × (g.T.RowTable.failures l.fn.table ≤ g.T.RowTable.failures l.table)
    × (g.T.RowTable.made l.table + ahead_of l.last l.end (g.T.RowTable.rows l.fn.table) ≤ g.T.RowTable.made l.fn.table + ahead_of l.fn.after l.end (g.T.RowTable.rows l.fn.table))

abbrev pub decreases-loop-last : goal.decreases-loop-last
decreases-loop-last g l = ahead_of l.last l.end (g.T.RowTable.rows l.table)
