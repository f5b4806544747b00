use Rattle.std.proofs.Common.{◌≡◌, ◌++◌, drop}
use Rattle.pcj_obs_pattern.specs.Rows.{cells_of}
use Rattle.pcj_obs_pattern.proofs.fields.cells_of.Given as goal

abbrev pub invariant-loop-name : goal.invariant-loop-name
invariant-loop-name l = l.cells ++ cells_of (drop l.name-index l.order) l.fn.mapping ≡ cells_of l.order l.fn.mapping
