use Rattle.pcj_jobs.proofs.StateLemmas.{all_crash_agree, beside_agrees, crash_agrees, draw_agrees, lost_agrees, opens_agrees}
use Rattle.pcj_jobs.proofs.states.states_stay_true.Goals as goal

pub returns-clause-draw : goal.returns-clause-draw
returns-clause-draw c = draw_agrees

pub returns-clause-opens : goal.returns-clause-opens
returns-clause-opens c = opens_agrees

pub returns-clause-crash : goal.returns-clause-crash
returns-clause-crash c = crash_agrees

pub returns-clause-all_crash : goal.returns-clause-all_crash
returns-clause-all_crash c = all_crash_agree

pub returns-clause-lost : goal.returns-clause-lost
returns-clause-lost c = lost_agrees

pub returns-clause-beside : goal.returns-clause-beside
returns-clause-beside c = beside_agrees
