use Rattle.pcj_model.proofs.RunLaws.{transcripts_tell, prints_tell}
use Rattle.pcj_model.proofs.laws.transcripts_are_told.Goals as goal

pub returns-clause-lines : goal.returns-clause-lines
returns-clause-lines c = transcripts_tell

pub returns-clause-print : goal.returns-clause-print
returns-clause-print c = prints_tell
