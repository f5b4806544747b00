-- What the reader's steps answer, from left to right.
use Rattle.std.specs.Prelude.{◌≡◌, ℕ, ◌<◌, Bool, List, [], ◌∷◌, ◌++◌, length, nat_lt, codes, Option, Some, None, Result, Ok, Err, if◌then◌else◌}
use Rattle.pcj_term.specs.Order.{same_bytes}
use Rattle.pcj_script.specs.declared.error.ScriptKind.{ScriptKind}
use Rattle.pcj_script.specs.declared.error.ScriptKind.TheVariants.{UnknownCommand, BadActor, BadNumber, BadName, TooLong}
use Rattle.pcj_script.specs.declared.opening.Begun.{Begun}
use Rattle.pcj_script.specs.declared.opening.Begun.TheVariants as begins
use Rattle.pcj_script.specs.declared.opening.Opening.{Opening}
use Rattle.pcj_script.specs.declared.opening.Opening.TheVariants as openings
use Rattle.pcj_script.specs.declared.words.Words.{Words}
use Rattle.pcj_script.specs.declared.words.Words.TheVariants as words
use Rattle.pcj_script.specs.Commands.{Command, command_of}
use Rattle.pcj_script.specs.Commands.Command.{Load, Register, StepClient, Crash, Status, Answers, Scan}
use Rattle.pcj_script.specs.Front.{HasText}
use Rattle.pcj_script.specs.Places.{client_of, crashed_of, count_of, is_name}
use Rattle.pcj_script.specs.Words.{words_of}
use Rattle.pcj_script.specs.declared.line.Line.{Line as Read}
use Rattle.pcj_script.specs.Lines.{Line, lines_given, written}

-- the line that was read
abbrev pub line_of : Read → Line
line_of line = record { bytes = line.bytes.now; is_ended = line.is_ended }

-- the line stands at the front of the text, and the rest follows it
pub record IsFirstLine (ended : Bool) (text : List ℕ) (line : Line) (rest : List ℕ) : Type 0 where
  pub given : lines_given ended text ≡ line ∷ lines_given ended rest
  pub is : text ≡ written line ++ rest
  pub some : 0 < length (written line)

-- these are the words, or there are more than three
abbrev pub HasWords : List (List ℕ) → Words → Type 0
HasWords found words.Zero = found ≡ []
HasWords found (words.One first) = found ≡ first.now ∷ []
HasWords found (words.Two first second) = found ≡ first.now ∷ second.now ∷ []
HasWords found (words.Three first second third) = found ≡ first.now ∷ second.now ∷ third.now ∷ []
HasWords found words.More = 3 < length found

abbrev pub begun : Begun → Command
begun (begins.Load client) = Load client []
begun (begins.Register client name) = Register client name.now []
begun begins.Scan = Scan []

-- the command that was begun, without its text
abbrev pub opened : Opening → Command
opened (openings.Whole command) = command_of command
opened (openings.Begun command) = begun command

-- a command that is whole without a text has none
abbrev pub IsTextless : Opening → Type 0
IsTextless (openings.Whole command) = HasText (command_of command) → ⊥
IsTextless (openings.Begun command) = Unit {0}

-- with its text
abbrev pub with_text : Command → List ℕ → Command
with_text (Load client document) text = Load client text
with_text (Register client name query) text = Register client name text
with_text (StepClient client count) text = StepClient client count
with_text (Crash crashed) text = Crash crashed
with_text Status text = Status
with_text (Answers name) text = Answers name
with_text (Scan query) text = Scan text

-- what stands in a place, or the refusal of what doesn't fit there
abbrev pub with_place : {A : Type 0} → Option A → ScriptKind → (A → Result Command ScriptKind) → Result Command ScriptKind
with_place None kind go = Err kind
with_place (Some found) kind go = go found

abbrev pub one_word : List ℕ → Result Command ScriptKind
one_word command =
    if same_bytes command (codes "status") then Ok Status else
    if same_bytes command (codes "scan") then Ok (Scan []) else
    Err UnknownCommand

abbrev pub two_words : List ℕ → List ℕ → Result Command ScriptKind
two_words command word =
    if same_bytes command (codes "load") then with_place (client_of word) BadActor (λ client. Ok (Load client [])) else
    if same_bytes command (codes "crash") then with_place (crashed_of word) BadActor (λ crashed. Ok (Crash crashed)) else
    if same_bytes command (codes "answers") then (if is_name word then Ok (Answers word) else Err BadName) else
    Err UnknownCommand

abbrev pub three_words : List ℕ → List ℕ → List ℕ → Result Command ScriptKind
three_words command word other =
    if same_bytes command (codes "register")
    then with_place (client_of word) BadActor (λ client. if is_name other then Ok (Register client other []) else Err BadName) else
    if same_bytes command (codes "step")
    then with_place (client_of word) BadActor (λ client. with_place (count_of other) BadNumber (λ count. Ok (StepClient client count))) else
    Err UnknownCommand

abbrev pub words_opening : List (List ℕ) → Result Command ScriptKind
words_opening [] = Err UnknownCommand
words_opening (command ∷ []) = one_word command
words_opening (command ∷ word ∷ []) = two_words command word
words_opening (command ∷ word ∷ other ∷ []) = three_words command word other
words_opening (command ∷ word ∷ other ∷ further ∷ more) = Err UnknownCommand

-- the command that a command line begins, without its text, or the first thing that is wrong with the line
abbrev pub line_opening : List ℕ → Result Command ScriptKind
line_opening line = if nat_lt 1024 (length line) then Err TooLong else words_opening (words_of line)
