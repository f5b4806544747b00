use Rattle.std.proofs.lemmas.Cmp.{nat_list_cmp_total}
use Rattle.pcj_answers.specs.Answers.{IsLine}
use Rattle.pcj_answers.proofs.AscendingLists.{one_list}
use Rattle.pcj_answers.proofs.laws.lines_are_one_list.Goals as goal

pub returns : goal.returns
returns c = λ query triples lines others one other. one_list nat_list_cmp_total (IsLine query triples) lines others one other
