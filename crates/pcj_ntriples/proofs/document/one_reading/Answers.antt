use Rattle.pcj_ntriples.proofs.Laws.{says_one_thing, has_one_fault, is_not_both, is_either}
use Rattle.pcj_ntriples.proofs.document.one_reading.Goals as goal

pub returns-clause-same : goal.returns-clause-same
returns-clause-same c = says_one_thing

pub returns-clause-fault : goal.returns-clause-fault
returns-clause-fault c = has_one_fault

pub returns-clause-apart : goal.returns-clause-apart
returns-clause-apart c = is_not_both

pub returns-clause-some : goal.returns-clause-some
returns-clause-some c = is_either
