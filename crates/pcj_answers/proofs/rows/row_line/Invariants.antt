use Rattle.std.proofs.Common.{◌≡◌, map, take}
use Rattle.std.specs.Option.{option_copied}
use Rattle.pcj_answers.specs.Rows.{row_line}
use Rattle.pcj_answers.proofs.rows.row_line.Given as goal

abbrev pub invariant-loop-at : goal.invariant-loop-at
invariant-loop-at l = l.line ≡ row_line (map (λ term. option_copied term) (take l.at l.row))
