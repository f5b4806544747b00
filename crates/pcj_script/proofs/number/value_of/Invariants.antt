use Rattle.pcj_script.proofs.NumberLemmas.{ReadSoFar}
use Rattle.pcj_script.proofs.number.value_of.Given as goal

abbrev pub invariant-loop-digit : goal.invariant-loop-digit
invariant-loop-digit l = ReadSoFar l.digits l.digit-index l.value
