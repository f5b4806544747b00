use Rattle.pcj_ready.proofs.QuietLemmas.{quiet_lines_are_all}
use Rattle.pcj_ready.proofs.TrueLemmas.{exported_lines_are_true}
use Rattle.pcj_ready.proofs.ready.exported_lines_are_answers.Goals as goal

pub returns-clause-sound : goal.returns-clause-sound
returns-clause-sound c = exported_lines_are_true

pub returns-clause-quiet : goal.returns-clause-quiet
returns-clause-quiet c = quiet_lines_are_all
