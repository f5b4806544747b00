-- The lines of a transcript as values, and how each is printed.
use Rattle.std.specs.Prelude.{◌≡◌, ℕ, ◌≤◌, List, ◌++◌, length, take, codes}
use Rattle.std.specs.Fmt.{decimal}
use Rattle.std.specs.List.{flat_map}
use Rattle.pcj_lines.specs.Lines.{ended, client_name, loaded_line, registered_line, committed_line, refused_line, taken_line, no_query_line, rows_line, spent_line}
use Rattle.pcj_script.specs.declared.error.ScriptKind.{ScriptKind}
use Rattle.pcj_script.specs.Kind.{number_of}
use Rattle.pcj_model.specs.declared.event.Event.{Event as Sliced}
use Rattle.pcj_model.specs.declared.event.Event.TheVariants as events
use Rattle.pcj_model.specs.declared.line.Line.{Line as Told}
use Rattle.pcj_model.specs.declared.line.Line.TheVariants as lines

-- what a client's command or step came to, as plain data: its name is bytes, wherever they stand
pub data Event : Type 0 where
  Loaded : (number triples : ℕ) → Event
  Registered : (number : ℕ) (name : List ℕ) → Event
  Busy : Event
  Refused : (place kind : ℕ) → Event
  Committed : (commit : ℕ) → Event
  Done : Event
  Aborted : Event
  Taken : Event
  Nothing : Event
  Fault : Event
  Steps : (count : ℕ) → Event
  Crashed : Event

-- a line of a transcript as plain data
pub data Line : Type 0 where
  Client : (client : ℕ) (event : Event) → Line
  AllCrashed : Line
  OracleCrashed : Line
  Status : (notifications locks : ℕ) → Line
  StatusFault : Line
  Row : (row : List ℕ) → Line
  Rows : (count : ℕ) → Line
  NoQuery : (name : List ℕ) → Line
  AnswersFault : Line
  ScanRefused : (place kind : ℕ) → Line
  ScanFault : Line
  Spent : Line
  Script : (line : ℕ) (kind : ScriptKind) → Line

abbrev pub event_of : Sliced → Event
event_of (events.Loaded number triples) = Loaded number triples
event_of (events.Registered number name) = Registered number name.now
event_of events.Busy = Busy
event_of (events.Refused place kind) = Refused place kind
event_of (events.Committed commit) = Committed commit
event_of events.Done = Done
event_of events.Aborted = Aborted
event_of events.Taken = Taken
event_of events.Nothing = Nothing
event_of events.Fault = Fault
event_of (events.Steps count) = Steps count
event_of events.Crashed = Crashed

abbrev pub line_of : Told → Line
line_of (lines.Client client event) = Client client (event_of event)
line_of lines.AllCrashed = AllCrashed
line_of lines.OracleCrashed = OracleCrashed
line_of (lines.Status notifications locks) = Status notifications locks
line_of lines.StatusFault = StatusFault
line_of (lines.Row row) = Row row.now
line_of (lines.Rows count) = Rows count
line_of (lines.NoQuery name) = NoQuery name.now
line_of lines.AnswersFault = AnswersFault
line_of (lines.ScanRefused place kind) = ScanRefused place kind
line_of lines.ScanFault = ScanFault
line_of lines.Spent = Spent
line_of (lines.Script error) = Script error.line error.kind

-- ---- how they are printed

abbrev pub steps_line : ℕ → ℕ → List ℕ
steps_line client count = client_name client ++ codes " steps " ++ decimal count

abbrev pub status_line : ℕ → ℕ → List ℕ
status_line notifications locks = codes "notifications " ++ decimal notifications ++ codes " locks " ++ decimal locks

abbrev pub scan_refused_line : ℕ → ℕ → List ℕ
scan_refused_line place kind = codes "refused " ++ decimal place ++ codes " " ++ decimal kind

abbrev pub script_line : ℕ → ℕ → List ℕ
script_line line kind = codes "script " ++ decimal line ++ codes " " ++ decimal kind

-- the line of what a client's command or step came to, without its LF
abbrev pub event_text : ℕ → Event → List ℕ
event_text client (Loaded number triples) = loaded_line client number triples
event_text client (Registered number name) = registered_line client number name
event_text client Busy = client_name client ++ codes " refused busy"
event_text client (Refused place kind) = refused_line client place kind
event_text client (Committed commit) = committed_line client commit
event_text client Done = client_name client ++ codes " done"
event_text client Aborted = client_name client ++ codes " aborted"
event_text client Taken = taken_line client
event_text client Nothing = client_name client ++ codes " nothing"
event_text client Fault = client_name client ++ codes " fault"
event_text client (Steps count) = steps_line client count
event_text client Crashed = client_name client ++ codes " crashed"

-- a line without its LF
abbrev pub line_text : Line → List ℕ
line_text (Client client event) = event_text client event
line_text AllCrashed = codes "all crashed"
line_text OracleCrashed = codes "oracle crashed"
line_text (Status notifications locks) = status_line notifications locks
line_text StatusFault = codes "status fault"
line_text (Row row) = row
line_text (Rows count) = rows_line count
line_text (NoQuery name) = no_query_line name
line_text AnswersFault = codes "answers fault"
line_text (ScanRefused place kind) = scan_refused_line place kind
line_text ScanFault = codes "scan fault"
line_text Spent = spent_line
line_text (Script line kind) = script_line line (number_of kind)

-- lines one after another, each with its LF
abbrev pub printed : List Line → List ℕ
printed lines = flat_map (λ line. ended (line_text line)) lines

-- some of the lines were added, each whole
pub record StandsInPart (lines : List Line) (old new : List ℕ) : Type 0 where
  pub count : ℕ
  pub some : count ≤ length lines
  pub is : new ≡ old ++ printed (take count lines)
