use Rattle.std.proofs.Common.{ap, ◌∙◌}
use Rattle.pcj_term.specs.Integer.{integer_text}
use Rattle.pcj_term.proofs.IntegerText.{parsed, not_text}
use Rattle.pcj_term.proofs.integer.integer_text.Goals as goal

pub returns-in-Ok : goal.returns-in-Ok
returns-in-Ok c = c.ok.ensures.value ∙ parsed c.in-Ok.text.now c.parse.result c.parse.ensures.value.0 ∙ ap integer_text c.in-Ok.ensures.cases.0

pub returns-in-Err : goal.returns-in-Err
returns-in-Err c = not_text c.args.text.now c.in-Err.ensures.cases.0
