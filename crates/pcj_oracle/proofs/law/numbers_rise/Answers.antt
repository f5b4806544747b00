use Rattle.pcj_oracle.proofs.Rises.{numbers_rise}
use Rattle.pcj_oracle.proofs.law.numbers_rise.Goals as goal

pub returns : goal.returns
returns c = numbers_rise
