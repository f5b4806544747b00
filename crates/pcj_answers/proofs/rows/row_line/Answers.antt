use Rattle.std.proofs.Common.{◌<◌, ◌++◌, ap, ◌∙◌, List, ℕ, length, arith}
use Rattle.std.specs.Option.{option_copied}
use Rattle.pcj_answers.specs.Rows.{cell}
use Rattle.pcj_answers.proofs.RowLemmas.{row_line-first, row_line-more}
use Rattle.pcj_answers.proofs.rows.row_line.Goals as goal
use Rattle.pcj_answers.proofs.rows.row_line.Goals.{then-at-gt0+in_ok-push, else-at-gt0}

pub loop-at-preserved : goal.loop-at-preserved
loop-at-preserved c =
    let within : c.loop-at.at < length c.args.row.now = omega arith in
    let item = c.index-row-at.result in
    let written = c.in_ok-push_cell.ensures {u = tt} in
    elim c.if-at-gt0.branch [
      | then-at-gt0+in_ok-push w ↦
          written ∙ ap (λ (l : List ℕ). l ++ cell (option_copied item)) (w.line-is ∙ (w.in_ok-push.ensures {u = tt}).ok)
          ∙ row_line-more c.args.row.now c.loop-at.at item c.loop-at.line w.if-at-gt0.true within c.index-row-at.is c.loop-at.invariant
      | else-at-gt0 w ↦
          written ∙ ap (λ (l : List ℕ). l ++ cell (option_copied item)) w.line-is
          ∙ row_line-first c.args.row.now c.loop-at.at item c.loop-at.line w.if-at-gt0.false within c.index-row-at.is c.loop-at.invariant
    ]
