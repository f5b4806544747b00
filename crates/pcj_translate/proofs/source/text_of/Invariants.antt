use Rattle.std.proofs.Common.{◌≡◌, ◌++◌, length}
use Rattle.pcj_translate.specs.Term.{text_of, unescaped}
use Rattle.pcj_translate.proofs.source.text_of.Given as goal

abbrev pub invariant-loop-rest : goal.invariant-loop-rest
invariant-loop-rest l = l.text ++ unescaped l.rest ≡ text_of l.fn.source

abbrev pub decreases-loop-rest : goal.decreases-loop-rest
decreases-loop-rest l = length l.rest
