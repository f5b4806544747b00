use Rattle.std.proofs.Common.{◌≡◌, take}
use Rattle.pcj_export.specs.Plan.{line_of}
use Rattle.pcj_export.proofs.plan.line_of.Given as goal

abbrev pub invariant-loop-at : goal.invariant-loop-at
invariant-loop-at l = l.line ≡ line_of (take l.at l.cells)
