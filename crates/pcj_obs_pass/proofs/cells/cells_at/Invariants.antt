use Rattle.std.proofs.Common.{◌≡◌, ◌++◌, drop}
use Rattle.pcj_obs_pass.specs.Cells.{cells_at}
use Rattle.pcj_obs_pass.proofs.cells.cells_at.Given as goal

abbrev pub invariant-loop-name : goal.invariant-loop-name
invariant-loop-name l = l.found ++ cells_at l.fn.order l.fn.cells (drop l.name-index l.wanted) ≡ cells_at l.fn.order l.fn.cells l.fn.wanted
