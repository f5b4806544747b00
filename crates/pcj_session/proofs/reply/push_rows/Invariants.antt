use Rattle.std.proofs.Common.{◌≡◌, ◌++◌, map, take}
use Rattle.pcj_model.specs.Line.{printed}
use Rattle.pcj_model.specs.Line.Line.{Row}
use Rattle.pcj_session.proofs.reply.push_rows.Given as goal

abbrev pub invariant-loop-row : goal.invariant-loop-row
invariant-loop-row l = l.out ≡ l.fn.out ++ printed (map Row (take l.row-index l.rows))
