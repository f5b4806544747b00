use Rattle.pcj_kept.proofs.EmptyLemmas.{empty_is_kept}
use Rattle.pcj_kept.proofs.KeptLemmas.{commits_keep_all, exports_keep_all, readings_say_all}
use Rattle.pcj_kept.proofs.kept.commits_keep_all.Goals as goal

pub returns-clause-commits : goal.returns-clause-commits
returns-clause-commits c = commits_keep_all

pub returns-clause-exports : goal.returns-clause-exports
returns-clause-exports c = exports_keep_all

pub returns-clause-readings : goal.returns-clause-readings
returns-clause-readings c = readings_say_all

pub returns-clause-empty : goal.returns-clause-empty
returns-clause-empty c = empty_is_kept
