use Rattle.std.proofs.Common.{◌≤◌, ◌+◌}
use Rattle.pcj_recover.specs.Progress.{steps_left}
use Rattle.pcj_scan.proofs.RecoveryLemmas.{Resolving}
use Rattle.pcj_scan.proofs.locks.take_away.Given as goal

abbrev pub invariant-loop-recovery : goal.invariant-loop-recovery
invariant-loop-recovery g l =
    Resolving (g.T.RowTable.rows l.fn.table) (g.T.RowTable.rows l.table) l.recovery
    × (g.T.RowTable.failures l.fn.table ≤ g.T.RowTable.failures l.table)
    × (g.T.RowTable.made l.table + steps_left l.recovery ≤ g.T.RowTable.made l.fn.table + 3)

abbrev pub decreases-loop-recovery : goal.decreases-loop-recovery
decreases-loop-recovery g l = steps_left l.recovery
