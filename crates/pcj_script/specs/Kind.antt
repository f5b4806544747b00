-- The numbers of the kinds of refusals.
use Rattle.std.specs.Prelude.{ℕ}
use Rattle.pcj_script.specs.declared.error.ScriptKind.{ScriptKind}
use Rattle.pcj_script.specs.declared.error.ScriptKind.TheVariants.{UnknownCommand, BadActor, BadNumber, BadName, MissingEnd, TooLong, TooMuch}

-- the number of a kind, by which transcripts name it
abbrev pub number_of : ScriptKind → ℕ
number_of UnknownCommand = 1
number_of BadActor = 2
number_of BadNumber = 3
number_of BadName = 4
number_of MissingEnd = 5
number_of TooLong = 6
number_of TooMuch = 7
