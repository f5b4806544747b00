use Rattle.pcj_encode.proofs.Names.{names_one_row, reads_back}
use Rattle.pcj_encode.proofs.laws.one_key_for_each_name.Goals as goal

pub returns-clause-name : goal.returns-clause-name
returns-clause-name c = names_one_row

pub returns-clause-back : goal.returns-clause-back
returns-clause-back c = reads_back
