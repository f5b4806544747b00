use Rattle.std.proofs.Common.{◌≡◌, map, take}
use Rattle.pcj_sparql.specs.Listing.{name_in}
use Rattle.pcj_sparql.proofs.names.names_of.Given as goal

abbrev pub invariant-loop-lexeme : goal.invariant-loop-lexeme
invariant-loop-lexeme l = l.names ≡ map (name_in l.text) (take l.lexeme-index l.lexemes)
