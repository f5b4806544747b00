use Rattle.pcj_duties.proofs.WorkLemmas.{purposes_are_plans}
use Rattle.pcj_duties.proofs.duties.purposes_are_plans.Goals as goal

pub returns : goal.returns
returns c = purposes_are_plans
