use Rattle.std.proofs.Common.{◌≡◌, ◌++◌, map, take}
use Rattle.pcj_model.specs.Line.{line_of, printed}
use Rattle.pcj_model.proofs.print.push_lines.Given as goal

abbrev pub invariant-loop-line : goal.invariant-loop-line
invariant-loop-line l = l.out ≡ l.fn.out ++ printed (map line_of (take l.line-index l.lines))
