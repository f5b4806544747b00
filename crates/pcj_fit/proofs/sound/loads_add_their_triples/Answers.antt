use Rattle.pcj_fit.proofs.TripleLemmas.{found_are_there, loads_add_triples, moves_leave_triples}
use Rattle.pcj_fit.proofs.sound.loads_add_their_triples.Goals as goal

pub returns-clause-leave : goal.returns-clause-leave
returns-clause-leave c = moves_leave_triples

pub returns-clause-add : goal.returns-clause-add
returns-clause-add c = loads_add_triples

pub returns-clause-found : goal.returns-clause-found
returns-clause-found c = found_are_there
