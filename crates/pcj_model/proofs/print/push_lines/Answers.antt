use Rattle.std.proofs.Common.{◌∙◌, arith}
use Rattle.pcj_model.proofs.LineLaws.{on_err, in_part}
use Rattle.pcj_model.proofs.print.push_lines.Goals as goal

pub returns-in_err-push_line-clause-err : goal.returns-in_err-push_line-clause-err
returns-in_err-push_line-clause-err c =
    on_err c.from_residual.result _
    (in_part c.args.lines.now c.loop-line.line-index _ _ (omega (arith, c.loop-line-test.true)) ((c.in_err-push_line.ensures {u = tt}).err ∙ c.loop-line.invariant))
