use Rattle.pcj_case_lines.proofs.FieldLemmas.{takes_number}
use Rattle.pcj_case_lines.proofs.field.take_number.Goals as goal

pub returns : goal.returns
returns c = takes_number c.args.line.now c.in_ok-high.line.now c.in_ok-low.behind.now c.args.field.now c.push.new.self c.in_ok-high.high c.in_ok-low.low c.in_ok-high.ensures c.in_ok-low.ensures c.in_ok-push.ensures.ok
