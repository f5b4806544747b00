-- What stands at the front of some lines of a script.
use Rattle.std.specs.Prelude.{◌≡◌, ◌≢◌, ◌⊎◌, ℕ, ◌+◌, ◌<◌, ◌≤◌, Bool, true, false, ◌==◌, List, [], ◌∷◌, ◌++◌, length, codes, Some}
use Rattle.std.specs.List.{AllByRecursion}
use Rattle.pcj_script.specs.declared.error.ScriptKind.{ScriptKind}
use Rattle.pcj_script.specs.declared.error.ScriptKind.TheVariants.{TooLong}
use Rattle.pcj_script.specs.Lines.{Line, all_written, said}
use Rattle.pcj_script.specs.Words.{words_of}
use Rattle.pcj_script.specs.Commands.{Command, Begins, words_refusal}
use Rattle.pcj_script.specs.Commands.Command.{Load, Register, StepClient, Crash, Status, Answers, Scan}

-- the most bytes that a command line may have, and the most that a text may have: 1 KiB and 16 MiB
abbrev pub line_limit : ℕ
line_limit = 1024

abbrev pub text_limit : ℕ
text_limit = 16777216

-- an empty line, or a comment
abbrev pub is_skipped : List ℕ → Bool
is_skipped [] = true
is_skipped (byte ∷ bytes) = byte == 35

-- ---- texts

abbrev pub end_line : List ℕ
end_line = codes "end"

-- no line of these ends a text, and a text may have all of them
pub record GoesOn (lines : List Line) : Type 0 where
  pub no_end : AllByRecursion (λ line. said line ≢ end_line) lines
  pub few : length (all_written lines) ≤ text_limit

-- the text ends with the first line that is exactly `end`, which is the last of so many lines
pub record EndsText (lines : List Line) (text : List ℕ) (count : ℕ) : Type 0 where
  pub own : List Line
  pub last : Line
  pub after : List Line
  pub is : lines ≡ own ++ last ∷ after
  pub goes_on : GoesOn own
  pub end : said last ≡ end_line
  pub joined : text ≡ all_written own
  pub counted : count ≡ length own + 1

-- so many lines stand before the one on which the text passes its limit
pub record PassesLimit (lines : List Line) (before : ℕ) : Type 0 where
  pub own : List Line
  pub line : Line
  pub after : List Line
  pub is : lines ≡ own ++ line ∷ after
  pub goes_on : GoesOn own
  pub not_end : said line ≢ end_line
  pub passes : text_limit < length (all_written (own ++ line ∷ []))
  pub counted : before ≡ length own

-- ---- commands

-- a line that isn't skipped and isn't too long begins the command, whatever its text
pub record BeginsCommand (line : List ℕ) (command : Command) : Type 0 where
  pub looked_at : is_skipped line ≡ false
  pub short : length line ≤ line_limit
  pub words : Begins (words_of line) command

-- so many lines follow a command's first one: its text and `end`, if it has a text
abbrev pub Follows : List Line → Command → ℕ → Type 0
Follows more (Load client document) count = EndsText more document count
Follows more (Register client name text) count = EndsText more text count
Follows more (StepClient client steps) count = count ≡ 0
Follows more (Crash crashed) count = count ≡ 0
Follows more Status count = count ≡ 0
Follows more (Answers name) count = count ≡ 0
Follows more (Scan text) count = EndsText more text count

abbrev pub HasText : Command → Type 0
HasText (Load client document) = Unit {0}
HasText (Register client name text) = Unit {0}
HasText (StepClient client count) = ⊥
HasText (Crash crashed) = ⊥
HasText Status = ⊥
HasText (Answers name) = ⊥
HasText (Scan text) = Unit {0}

pub record WholeCommand (lines : List Line) (command : Command) (count : ℕ) : Type 0 where
  pub first : Line
  pub more : List Line
  pub following : ℕ
  pub is : lines ≡ first ∷ more
  pub begins : BeginsCommand (said first) command
  pub follows : Follows more command following
  pub counted : count ≡ following + 1

-- a command begins whose text has no end in these lines
pub record OpenCommand (lines : List Line) : Type 0 where
  pub first : Line
  pub more : List Line
  pub command : Command
  pub is : lines ≡ first ∷ more
  pub begins : BeginsCommand (said first) command
  pub has_text : HasText command
  pub goes_on : GoesOn more

-- ---- refusals

-- a command line is too long
pub record LongLine (lines : List Line) (before : ℕ) (kind : ScriptKind) : Type 0 where
  pub first : Line
  pub more : List Line
  pub is : lines ≡ first ∷ more
  pub looked_at : is_skipped (said first) ≡ false
  pub long : line_limit < length (said first)
  pub kind_is : kind ≡ TooLong
  pub counted : before ≡ 0

-- a word of a command line is refused, or their number
pub record BadWords (lines : List Line) (before : ℕ) (kind : ScriptKind) : Type 0 where
  pub first : Line
  pub more : List Line
  pub is : lines ≡ first ∷ more
  pub looked_at : is_skipped (said first) ≡ false
  pub short : length (said first) ≤ line_limit
  pub refused : words_refusal (words_of (said first)) ≡ Some kind
  pub counted : before ≡ 0

-- a command's text is too long
pub record LongText (lines : List Line) (before : ℕ) (kind : ScriptKind) : Type 0 where
  pub first : Line
  pub more : List Line
  pub command : Command
  pub own : ℕ
  pub is : lines ≡ first ∷ more
  pub begins : BeginsCommand (said first) command
  pub has_text : HasText command
  pub passes : PassesLimit more own
  pub kind_is : kind ≡ TooLong
  pub counted : before ≡ own + 1

-- the line behind so many others is refused, whatever follows these lines
abbrev pub IsRefused : List Line → ℕ → ScriptKind → Type 0
IsRefused lines before kind = LongLine lines before kind ⊎ BadWords lines before kind ⊎ LongText lines before kind

-- what stands at the front: nothing; a line that is skipped; a command of so many lines; a command whose text has no
-- end; or a line that is refused, behind so many others
pub data Front : Type 0 where
  NoLine : Front
  Skipped : Front
  Whole : (command : Command) (lines : ℕ) → Front
  Open : Front
  Refused : (before : ℕ) (kind : ScriptKind) → Front

abbrev pub HasFront : List Line → Front → Type 0
HasFront lines NoLine = lines ≡ []
HasFront lines Skipped = (first : Line) × (more : List Line) × (lines ≡ first ∷ more) × (is_skipped (said first) ≡ true)
HasFront lines (Whole command count) = WholeCommand lines command count
HasFront lines Open = OpenCommand lines
HasFront lines (Refused before kind) = IsRefused lines before kind
