use Rattle.pcj_answers.proofs.SomeLines.{some_lines}
use Rattle.pcj_answers.proofs.laws.lines_exist.Goals as goal

pub returns : goal.returns
returns c = some_lines
