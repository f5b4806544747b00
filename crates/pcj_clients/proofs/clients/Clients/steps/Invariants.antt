use Rattle.std.proofs.Common.{◌≡◌, ◌≤◌, ◌-◌, suc, true, cond}
use Rattle.pcj_io.specs.Faults.{Rose}
use Rattle.pcj_oracle.specs.Clock.{IsClock}
use Rattle.pcj_clients.specs.declared.stepped.StepsEnd.TheVariants.{Fault}
use Rattle.pcj_clients.proofs.StepsLemmas.{SoFar}
use Rattle.pcj_clients.proofs.clients.Clients.steps.Given as goal

abbrev pub invariant-loop-goes_on : goal.invariant-loop-goes_on
invariant-loop-goes_on g l =
    SoFar l.client l.most l.fn.self l.fn.oracle (g.T.RowTable.rows l.fn.table) (g.T.RowTable.made l.fn.table) l.goes_on true l.stepped l.self l.oracle (g.T.RowTable.rows l.table) (g.T.RowTable.made l.table)
    × IsClock l.oracle (g.T.RowTable.rows l.table)
    × (g.T.RowTable.failures l.fn.table ≤ g.T.RowTable.failures l.table)
    × (l.stepped.end ≡ Fault → Rose (g.T.RowTable.failures l.fn.table) (g.T.RowTable.failures l.table))

-- whether it goes on at all, and how many steps are left
abbrev pub decreases-loop-goes_on : goal.decreases-loop-goes_on
decreases-loop-goes_on g l = cond l.goes_on (suc (l.most - l.stepped.count)) 0
