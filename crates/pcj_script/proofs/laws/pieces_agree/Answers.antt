use Rattle.pcj_script.proofs.PieceLaws.{written_back, stands_still, goes_on_behind}
use Rattle.pcj_script.proofs.ReadingLaws.{commands_stand}
use Rattle.pcj_script.proofs.laws.pieces_agree.Goals as goal

pub returns-clause-stands : goal.returns-clause-stands
returns-clause-stands c = stands_still

pub returns-clause-behind : goal.returns-clause-behind
returns-clause-behind c = goes_on_behind

pub returns-clause-written : goal.returns-clause-written
returns-clause-written c = written_back

pub returns-clause-commands : goal.returns-clause-commands
returns-clause-commands c = commands_stand
