-- The numbers of the kinds of faults.
use Rattle.std.specs.Prelude.{ℕ}
use Rattle.pcj_sparql.specs.declared.kind.QueryKind.{QueryKind}
use Rattle.pcj_sparql.specs.declared.kind.QueryKind.TheVariants.{Syntax, OutOfProfile, UnknownPrefix, UnknownVariable, UnionVariables, TooLarge}

-- the number of a kind, by which reports name it
abbrev pub number_of : QueryKind → ℕ
number_of Syntax = 1
number_of OutOfProfile = 2
number_of UnknownPrefix = 3
number_of UnknownVariable = 4
number_of UnionVariables = 5
number_of TooLarge = 6
