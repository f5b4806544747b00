use Rattle.std.proofs.Common.{◌≡◌, drop}
use Rattle.pcj_sparql.specs.Reading.{is_relative_token}
use Rattle.pcj_translate.specs.Reading.{scope_by}
use Rattle.pcj_translate.specs.Places.{lower_of}
use Rattle.pcj_translate.proofs.Lowest.{lowest_in}
use Rattle.pcj_sparql.proofs.check.relative.Given as goal

abbrev pub invariant-loop-lexeme : goal.invariant-loop-lexeme
invariant-loop-lexeme l = lower_of l.lowest (lowest_in (is_relative_token (scope_by l.text l.prefixes)) (drop l.lexeme-index l.lexemes)) ≡ lowest_in (is_relative_token (scope_by l.text l.prefixes)) l.lexemes
