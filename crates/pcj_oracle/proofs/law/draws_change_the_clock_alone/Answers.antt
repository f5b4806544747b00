use Rattle.pcj_oracle.proofs.Numbers.{other_rows_stay, clock_keeps_the_rest}
use Rattle.pcj_oracle.proofs.law.draws_change_the_clock_alone.Goals as goal

pub returns-clause-rows : goal.returns-clause-rows
returns-clause-rows c = other_rows_stay

pub returns-clause-clock : goal.returns-clause-clock
returns-clause-clock c = clock_keeps_the_rest
