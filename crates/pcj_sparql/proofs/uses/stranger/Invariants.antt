use Rattle.std.proofs.Common.{◌≡◌, drop}
use Rattle.pcj_translate.specs.Places.{lower_of}
use Rattle.pcj_translate.proofs.Lowest.{lowest_in}
use Rattle.pcj_sparql.specs.Listing.{is_stranger}
use Rattle.pcj_sparql.proofs.uses.stranger.Given as goal

abbrev pub invariant-loop-lexeme : goal.invariant-loop-lexeme
invariant-loop-lexeme l = lower_of l.lowest (lowest_in (is_stranger l.text l.names) (drop l.lexeme-index l.lexemes)) ≡ lowest_in (is_stranger l.text l.names) l.lexemes
