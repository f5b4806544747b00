use Rattle.pcj_solutions.specs.Solutions.{IsSolution}
use Rattle.pcj_solutions.proofs.OneSet.{same_sets}
use Rattle.pcj_solutions.proofs.laws.solutions_are_one_list.Goals as goal

pub returns : goal.returns
returns c = λ triples of mappings others one other. same_sets (IsSolution triples of) mappings others one other
