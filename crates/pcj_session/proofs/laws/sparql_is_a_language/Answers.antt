use Rattle.pcj_session.proofs.LanguageLemmas.{one_language, some_language}
use Rattle.pcj_session.proofs.laws.sparql_is_a_language.Goals as goal

pub returns-clause-some : goal.returns-clause-some
returns-clause-some c = some_language c.lines_exist.ensures

pub returns-clause-one : goal.returns-clause-one
returns-clause-one c = one_language c.lines_are_one_list.ensures
