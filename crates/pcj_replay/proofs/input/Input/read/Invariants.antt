use Rattle.std.proofs.Common.{◌+◌, ◌-◌, vec_len}
use Rattle.pcj_replay.specs.declared.input.TheConstants.{SCRIPT_LIMIT}
use Rattle.pcj_replay.proofs.InputLemmas.{HasGiven}
use Rattle.pcj_replay.proofs.input.Input.read.Given as goal

abbrev pub invariant-loop-piece : goal.invariant-loop-piece
invariant-loop-piece g l =
    HasGiven (g.S.Source.left l.fn.source) (g.S.Source.left l.source) (g.S.Source.faults l.fn.source) (g.S.Source.faults l.source) l.bytes.items

abbrev pub decreases-loop-piece : goal.decreases-loop-piece
decreases-loop-piece g l = SCRIPT_LIMIT + 1 - vec_len l.bytes
