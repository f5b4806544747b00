use Rattle.std.proofs.Common.{◌<◌, ◌++◌, ap, ◌∙◌, List, ℕ, length, arith}
use Rattle.pcj_export.proofs.LineLemmas.{line_first, line_more}
use Rattle.pcj_export.proofs.plan.line_of.Goals as goal
use Rattle.pcj_export.proofs.plan.line_of.Goals.{then-at-gt0+in_ok-push, else-at-gt0}

pub loop-at-preserved : goal.loop-at-preserved
loop-at-preserved c =
    let within : c.loop-at.at < length c.args.cells.now = omega arith in
    let cell = c.index-cells-at.result in
    let written = (c.in_ok-extend_from_slice.ensures {u = tt}).ok ∙ ap (λ (bytes : List ℕ). c.if-at-gt0.line ++ bytes) c.as_slice.ensures in
    elim c.if-at-gt0.branch [
      | then-at-gt0+in_ok-push w ↦
          written ∙ ap (λ (l : List ℕ). l ++ cell) (w.line-is ∙ (w.in_ok-push.ensures {u = tt}).ok)
          ∙ line_more c.args.cells.now c.loop-at.at cell c.loop-at.line w.if-at-gt0.true within c.index-cells-at.is c.loop-at.invariant
      | else-at-gt0 w ↦
          written ∙ ap (λ (l : List ℕ). l ++ cell) w.line-is
          ∙ line_first c.args.cells.now c.loop-at.at cell c.loop-at.line w.if-at-gt0.false within c.index-cells-at.is c.loop-at.invariant
    ]
