use Rattle.std.proofs.Common.{◌≡◌, drop}
use Rattle.pcj_translate.specs.Reading.{scope_of_reader}
use Rattle.pcj_translate.specs.Places.{lower_of, lowest_of}
use Rattle.pcj_translate.specs.Uses.{unknown_among}
use Rattle.pcj_groups.proofs.findings.unknown_among.Given as goal

abbrev pub invariant-loop-lexeme : goal.invariant-loop-lexeme
invariant-loop-lexeme l = lower_of l.lowest (lowest_of (unknown_among (scope_of_reader l.reader) l.names (drop l.lexeme-index l.uses))) ≡ lowest_of (unknown_among (scope_of_reader l.reader) l.names l.uses)
