-- The commands of a script, and the words of their first lines.
use Rattle.std.specs.Prelude.{◌≡◌, ℕ, Bool, true, false, ◌&&◌, List, [], ◌∷◌, drop, codes, Option, Some, None, is_some, if◌then◌else◌}
use Rattle.std.specs.List.{find}
use Rattle.pcj_term.specs.Order.{same_bytes}
use Rattle.pcj_script.specs.declared.command.Command.{Command as Sliced}
use Rattle.pcj_script.specs.declared.command.Command.TheVariants as sliced
use Rattle.pcj_script.specs.declared.command.Crashed.{Crashed}
use Rattle.pcj_script.specs.declared.error.ScriptKind.{ScriptKind}
use Rattle.pcj_script.specs.declared.error.ScriptKind.TheVariants.{UnknownCommand, BadActor, BadNumber, BadName}
use Rattle.pcj_script.specs.Places.{client_of, crashed_of, count_of, is_name}

-- a command as plain data: its texts are bytes, wherever they stand
pub data Command : Type 0 where
  Load : (client : ℕ) (document : List ℕ) → Command
  Register : (client : ℕ) (name text : List ℕ) → Command
  StepClient : (client count : ℕ) → Command
  Crash : (crashed : Crashed) → Command
  Status : Command
  Answers : (name : List ℕ) → Command
  Scan : (text : List ℕ) → Command

abbrev pub command_of : Sliced → Command
command_of (sliced.Load client document) = Load client document.now
command_of (sliced.Register client name text) = Register client name.now text.now
command_of (sliced.StepClient client count) = StepClient client count
command_of (sliced.Crash crashed) = Crash crashed
command_of sliced.Status = Status
command_of (sliced.Answers name) = Answers name.now
command_of (sliced.Scan text) = Scan text.now

-- the words of a command's first line, whatever its text
abbrev pub Begins : List (List ℕ) → Command → Type 0
Begins words (Load client document) = (actor : List ℕ) × (words ≡ codes "load" ∷ actor ∷ []) × (client_of actor ≡ Some client)
Begins words (Register client name text) =
    (actor : List ℕ) × (words ≡ codes "register" ∷ actor ∷ name ∷ []) × (client_of actor ≡ Some client) × (is_name name ≡ true)
Begins words (StepClient client count) =
    (actor : List ℕ) × (steps : List ℕ) × (words ≡ codes "step" ∷ actor ∷ steps ∷ []) × (client_of actor ≡ Some client) × (count_of steps ≡ Some count)
Begins words (Crash crashed) = (actor : List ℕ) × (words ≡ codes "crash" ∷ actor ∷ []) × (crashed_of actor ≡ Some crashed)
Begins words Status = words ≡ codes "status" ∷ []
Begins words (Answers name) = (words ≡ codes "answers" ∷ name ∷ []) × (is_name name ≡ true)
Begins words (Scan text) = words ≡ codes "scan" ∷ []

-- ---- refused words

-- what a form asks for behind the command's word
pub data Place : Type 0 where
  AClient : Place
  ACrashed : Place
  ACount : Place
  AName : Place

abbrev pub fits : Place → List ℕ → Bool
fits AClient word = is_some (client_of word)
fits ACrashed word = is_some (crashed_of word)
fits ACount word = is_some (count_of word)
fits AName word = is_name word

-- how a word that doesn't fit is refused
abbrev pub refusal_at : Place → ScriptKind
refusal_at AClient = BadActor
refusal_at ACrashed = BadActor
refusal_at ACount = BadNumber
refusal_at AName = BadName

pub record Form : Type 0 where
  pub word : List ℕ
  pub places : List Place

-- the forms of command lines
abbrev pub forms : List Form
forms =
    record { word = codes "load"; places = AClient ∷ [] } ∷
    record { word = codes "register"; places = AClient ∷ AName ∷ [] } ∷
    record { word = codes "step"; places = AClient ∷ ACount ∷ [] } ∷
    record { word = codes "crash"; places = ACrashed ∷ [] } ∷
    record { word = codes "status"; places = [] } ∷
    record { word = codes "answers"; places = AName ∷ [] } ∷
    record { word = codes "scan"; places = [] } ∷ []

abbrev pub are_as_many : List Place → List (List ℕ) → Bool
are_as_many [] [] = true
are_as_many [] (word ∷ words) = false
are_as_many (place ∷ places) [] = false
are_as_many (place ∷ places) (word ∷ words) = are_as_many places words

abbrev pub has_form : List (List ℕ) → Form → Bool
has_form [] form = false
has_form (word ∷ words) form = are_as_many form.places words && same_bytes word form.word

-- the refusal of the first word, from the left, that doesn't fit its place
abbrev pub first_refusal : List Place → List (List ℕ) → Option ScriptKind
first_refusal [] words = None
first_refusal (place ∷ places) [] = None
first_refusal (place ∷ places) (word ∷ words) = if fits place word then first_refusal places words else Some (refusal_at place)

abbrev pub form_refusal : Option Form → List (List ℕ) → Option ScriptKind
form_refusal None words = Some UnknownCommand
form_refusal (Some form) words = first_refusal form.places (drop 1 words)

-- how the words of a command line are refused: there is no such form, or else a word doesn't fit
abbrev pub words_refusal : List (List ℕ) → Option ScriptKind
words_refusal words = form_refusal (find (has_form words) forms) words
