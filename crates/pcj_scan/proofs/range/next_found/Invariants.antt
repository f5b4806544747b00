use Rattle.std.proofs.Common.{◌≡◌, ◌≤◌, ◌+◌, ◌*◌}
use Rattle.pcj_snapshot.specs.declared.ask.Ask.TheVariants.{Next}
use Rattle.pcj_pending.specs.Pending.{locks_of}
use Rattle.pcj_scan.proofs.RangeLemmas.{Searching}
use Rattle.pcj_scan.proofs.range.next_found.Given as goal

abbrev pub invariant-loop-read : goal.invariant-loop-read
invariant-loop-read g l =
    Searching l.at (g.T.RowTable.rows l.fn.table) (g.T.RowTable.rows l.table)
    × (l.read ≡ record { ask = Next (record { after = l.after; end = l.end }); at = l.at })
    × (g.T.RowTable.failures l.fn.table ≤ g.T.RowTable.failures l.table)
    × (g.T.RowTable.made l.table + 4 * locks_of (g.T.RowTable.rows l.table) ≤ g.T.RowTable.made l.fn.table + 4 * locks_of (g.T.RowTable.rows l.fn.table))

abbrev pub decreases-loop-read : goal.decreases-loop-read
decreases-loop-read g l = locks_of (g.T.RowTable.rows l.table)
