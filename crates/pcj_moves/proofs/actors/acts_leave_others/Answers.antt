use Rattle.pcj_moves.proofs.OtherLemmas.{transacts_stays, recovers_stays, hidden_stays, reads_stay, reads_pass_commit, hidden_read}
use Rattle.pcj_moves.proofs.actors.acts_leave_others.Goals as goal

pub returns-clause-transacts : goal.returns-clause-transacts
returns-clause-transacts c = transacts_stays

pub returns-clause-recovers : goal.returns-clause-recovers
returns-clause-recovers c = recovers_stays

pub returns-clause-hidden : goal.returns-clause-hidden
returns-clause-hidden c = hidden_stays

pub returns-clause-reads : goal.returns-clause-reads
returns-clause-reads c = reads_stay

pub returns-clause-commit : goal.returns-clause-commit
returns-clause-commit c = reads_pass_commit

pub returns-clause-read : goal.returns-clause-read
returns-clause-read c = hidden_read
