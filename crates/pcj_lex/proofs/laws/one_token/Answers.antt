use Rattle.pcj_lex.proofs.Places.{says_one, one_fault, not_both, not_after_all, either}
use Rattle.pcj_lex.proofs.laws.one_token.Goals as goal

pub returns-clause-token : goal.returns-clause-token
returns-clause-token c = says_one

pub returns-clause-fault : goal.returns-clause-fault
returns-clause-fault c = one_fault

pub returns-clause-apart : goal.returns-clause-apart
returns-clause-apart c = not_both

pub returns-clause-end : goal.returns-clause-end
returns-clause-end c = not_after_all

pub returns-clause-some : goal.returns-clause-some
returns-clause-some c = either
