use Rattle.pcj_grammar.proofs.Readings.{reads_same, is_read}
use Rattle.pcj_grammar.proofs.laws.one_reading.Goals as goal

pub returns-clause-one : goal.returns-clause-one
returns-clause-one c = reads_same

pub returns-clause-some : goal.returns-clause-some
returns-clause-some c = is_read
