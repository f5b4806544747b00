use Rattle.pcj_fit.proofs.FinderLemmas.{finder_begins, finder_stays, finders_leave_each_other}
use Rattle.pcj_fit.proofs.finder.finders_leave_all_sound.Goals as goal

pub returns-clause-begins : goal.returns-clause-begins
returns-clause-begins c = finder_begins

pub returns-clause-stays : goal.returns-clause-stays
returns-clause-stays c = finder_stays

pub returns-clause-leave : goal.returns-clause-leave
returns-clause-leave c = finders_leave_each_other
