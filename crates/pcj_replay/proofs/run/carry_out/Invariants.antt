use Rattle.std.proofs.Common.{◌≤◌, ◌<◌, ◌+◌, ◌^◌, length}
use Rattle.pcj_oracle.specs.Clock.{IsClock}
use Rattle.pcj_replay.proofs.RunLemmas.{Goes}
use Rattle.pcj_replay.proofs.run.carry_out.Given as goal

abbrev pub invariant-loop-command : goal.invariant-loop-command
invariant-loop-command g l =
    Goes l.fn.input.end l.fn.input.bytes.items (g.T.RowTable.rows l.fn.table) (g.K.Sink.taken l.fn.sink) (g.K.Sink.taken l.sink) l.session (g.T.RowTable.rows l.table) l.line l.rest
    × IsClock l.session.oracle (g.T.RowTable.rows l.table)
    × (g.K.Sink.faults l.fn.sink ≤ g.K.Sink.faults l.sink)
    × (l.line + length l.rest < 2 ^ 64)
    × (length l.rest ≤ length l.fn.input.bytes.items)

abbrev pub decreases-loop-command : goal.decreases-loop-command
decreases-loop-command g l = length l.rest
