use Rattle.std.proofs.Common.{◌≡◌, ◌++◌, drop}
use Rattle.pcj_encode.proofs.parts.Parts.cells.Given as goal

abbrev pub invariant-loop-cell : goal.invariant-loop-cell
invariant-loop-cell l = l.parts ++ drop l.cell-index l.cells ≡ l.fn.self ++ l.cells
