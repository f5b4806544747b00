-- The numbers of the kinds of faults.
use Rattle.std.specs.Prelude.{ℕ}
use Rattle.pcj_ntriples.specs.declared.kind.NtKind.{NtKind}
use Rattle.pcj_ntriples.specs.declared.kind.NtKind.TheVariants.{NotUtf8, SubjectExpected, PredicateExpected, ObjectExpected, DotExpected, IriChar, IriOpen, StringOpen, BadEscape, BadTag, RelativeIri, TrailingText, TermTooLong, TooMany}

-- the number of a kind, by which reports name it
abbrev pub number_of : NtKind → ℕ
number_of NotUtf8 = 1
number_of SubjectExpected = 2
number_of PredicateExpected = 3
number_of ObjectExpected = 4
number_of DotExpected = 5
number_of IriChar = 6
number_of IriOpen = 7
number_of StringOpen = 8
number_of BadEscape = 9
number_of BadTag = 10
number_of RelativeIri = 11
number_of TrailingText = 12
number_of TermTooLong = 13
number_of TooMany = 14
