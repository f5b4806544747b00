use Rattle.pcj_grammar.proofs.Unambiguous as grammar
use Rattle.pcj_grammar.proofs.laws.one_derivation.Goals as goal

pub returns : goal.returns
returns c = grammar.one_derivation
