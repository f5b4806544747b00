-- Which lines may answer a command in a state, and the state that it leaves.
use Rattle.std.specs.Prelude.{◌≡◌, ◌⊎◌, ℕ, ◌+◌, ◌≤◌, true, List, [], ◌∷◌, ◌++◌, length, map, Option, Some, None}
use Rattle.pcj_term.specs.declared.triple.Triple.{Triple}
use Rattle.pcj_algebra.specs.declared.query.Query.{Query}
use Rattle.pcj_ntriples.specs.declared.kind.NtKind.{NtKind}
use Rattle.pcj_ntriples.specs.Document.{Document, DocumentFault, number_of}
use Rattle.pcj_script.specs.declared.command.Crashed.{Crashed}
use Rattle.pcj_script.specs.declared.command.Crashed.TheVariants as whose
use Rattle.pcj_script.specs.Commands.{Command}
use Rattle.pcj_script.specs.Commands.Command.{Load, Register, StepClient, Crash, Status as AsksStatus, Answers, Scan}
use Rattle.pcj_model.specs.Job.{Job, IsTimestampAbove, StepsReply}
use Rattle.pcj_model.specs.Job.Content.{Load as Loads, Registration as Registers}
use Rattle.pcj_model.specs.Line.{Line}
use Rattle.pcj_model.specs.Line.Event.{Loaded, Registered, Busy, Refused, Nothing, Fault, Steps, Crashed as HasCrashed}
use Rattle.pcj_model.specs.Line.Line.{Client, AllCrashed, OracleCrashed, Status, StatusFault, Row, Rows, NoQuery, AnswersFault, ScanRefused, ScanFault}
use Rattle.pcj_model.specs.Queries.{Registration, named}
use Rattle.pcj_model.specs.State.{State, with_jobs, with_job, all_beside, opened, with_status, stepped}

-- ---- queries, whoever reads them

-- where a text is refused: the place of its fault, and the number of the fault's kind
pub record Refusal : Type 0 where
  pub place : ℕ
  pub kind : ℕ

-- How a text is refused, if it is no query; how one is refused that is to be registered, since there may be queries that can be
-- answered and not registered; and else which query it is. The rows are those of a query's answer over some triples, as they are
-- printed. They are to be the same in whatever order the triples stand.
pub record Language : Type 0 where
  pub scan_refusal : List ℕ → Option Refusal
  pub register_refusal : List ℕ → Option Refusal
  pub query_of : List ℕ → Query
  pub rows : Query → List Triple → List (List ℕ)

-- ---- load

-- `c1 refused busy`: the client has a job in flight
pub record IsBusy (old : State) (client : ℕ) (lines : List Line) (new : State) : Type 0 where
  pub job : Job
  pub has : old.jobs client ≡ Some job
  pub told : lines ≡ Client client Busy ∷ []
  pub same : new ≡ old

-- `c1 refused 3 5`: the text is no document, by its third line
pub record RefusesDocument (old : State) (client : ℕ) (text : List ℕ) (lines : List Line) (new : State) : Type 0 where
  pub line : ℕ
  pub kind : NtKind
  pub free : old.jobs client ≡ None
  pub fault : DocumentFault text line kind
  pub told : lines ≡ Client client (Refused line (number_of kind)) ∷ []
  pub same : new ≡ old

-- `c1 load 1 2 triples`: a load begins, with a number that was drawn
pub record OpensLoad (old : State) (client : ℕ) (text : List ℕ) (lines : List Line) (new : State) : Type 0 where
  pub number : ℕ
  pub triples : List Triple
  pub free : old.jobs client ≡ None
  pub drawn : IsTimestampAbove old.last number
  pub document : Document text number triples
  pub told : lines ≡ Client client (Loaded number (length triples)) ∷ []
  pub opened : new ≡ opened old client number (Loads triples)

-- `c1 fault`: no number could be drawn for a document
pub record FaultsAtLoad (old : State) (client : ℕ) (text : List ℕ) (lines : List Line) (new : State) : Type 0 where
  pub free : old.jobs client ≡ None
  pub good : (line : ℕ) (kind : NtKind) → DocumentFault text line kind → ⊥
  pub told : lines ≡ Client client Fault ∷ []
  pub same : new ≡ old

-- ---- register

-- `c1 refused 0 2`: the text is no query that can be registered
pub record RefusesQuery (language : Language) (old : State) (client : ℕ) (text : List ℕ) (lines : List Line) (new : State) : Type 0 where
  pub refusal : Refusal
  pub free : old.jobs client ≡ None
  pub fault : language.register_refusal text ≡ Some refusal
  pub told : lines ≡ Client client (Refused refusal.place refusal.kind) ∷ []
  pub same : new ≡ old

-- `c1 register 3 q`: a registration begins, with a number that was drawn. Whether a query has the name is seen by its steps.
pub record OpensRegistration (language : Language) (old : State) (client : ℕ) (name text : List ℕ) (lines : List Line) (new : State) : Type 0 where
  pub number : ℕ
  pub free : old.jobs client ≡ None
  pub good : language.register_refusal text ≡ None
  pub drawn : IsTimestampAbove old.last number
  pub told : lines ≡ Client client (Registered number name) ∷ []
  pub opened : new ≡ opened old client number (Registers name (language.query_of text))

-- `c1 fault`: no number could be drawn for a query
pub record FaultsAtRegister (language : Language) (old : State) (client : ℕ) (text : List ℕ) (lines : List Line) (new : State) : Type 0 where
  pub free : old.jobs client ≡ None
  pub good : language.register_refusal text ≡ None
  pub told : lines ≡ Client client Fault ∷ []
  pub same : new ≡ old

-- ---- step

-- `c1 nothing`, `c1 steps 0`: the client has no job in flight
pub record HasNothing (old : State) (client : ℕ) (lines : List Line) (new : State) : Type 0 where
  pub free : old.jobs client ≡ None
  pub told : lines ≡ Client client Nothing ∷ Client client (Steps 0) ∷ []
  pub same : new ≡ old

-- Its job goes on. A load of two triples with nobody beside it answers `step c1 100` by `c1 committed 2`, `c1 done`, `c1 steps 20`;
-- and by `c1 aborted`, `c1 steps 1` where another client has committed the triple that both were to load. A registration whose name
-- a query has answers `c1 taken`, `c1 steps 1`.
pub record Advances (old : State) (client most : ℕ) (lines : List Line) (new : State) : Type 0 where
  pub job : Job
  pub has : old.jobs client ≡ Some job
  pub commit : Option ℕ
  pub after : Option Job
  pub steps : StepsReply old.queries job client most lines commit after
  pub left : new ≡ stepped old client job commit after steps.count

-- ---- crash

abbrev pub crash_line : Crashed → Line
crash_line (whose.Client client) = Client client HasCrashed
crash_line whose.All = AllCrashed
crash_line whose.Oracle = OracleCrashed

-- the jobs in flight after a crash: what they did stays as it stands, and their triples and queries join no more
abbrev pub jobs_left : (ℕ → Option Job) → Crashed → (ℕ → Option Job)
jobs_left jobs (whose.Client client) = with_job jobs client None
jobs_left jobs whose.All = λ client. None
jobs_left jobs whose.Oracle = jobs

-- `c1 crashed`, whether it had a job or not. Behind the twelfth step of a load, `c1 committed 2`, the triples stay those of the
-- load; behind its eleventh there are none, and none will come.
pub record Crashes (old : State) (crashed : Crashed) (lines : List Line) (new : State) : Type 0 where
  pub told : lines ≡ crash_line crashed ∷ []
  pub left : new ≡ with_jobs old (jobs_left old.jobs crashed)

-- ---- status

-- `notifications 2 locks 7`: no more than the steps can have left, and none where it is known that none stands
pub record TellsStatus (old : State) (lines : List Line) (new : State) : Type 0 where
  pub notifications : ℕ
  pub locks : ℕ
  pub few_locks : locks ≤ old.backlog.most_locks
  pub few_notifications : notifications ≤ old.backlog.most_locks + old.backlog.old_notifications
  pub idle : old.backlog.is_idle ≡ true → notifications ≡ 0
  pub quiet : old.backlog.is_quiet ≡ true → (notifications ≡ 0) × (locks ≡ 0)
  pub told : lines ≡ Status notifications locks ∷ []
  pub known : new ≡ with_status old notifications locks

-- `status fault`
pub record FaultsAtStatus (old : State) (lines : List Line) (new : State) : Type 0 where
  pub told : lines ≡ StatusFault ∷ []
  pub same : new ≡ old

-- ---- answers

-- `no query r`: no query has the name
pub record IsUnknown (old : State) (name : List ℕ) (lines : List Line) (new : State) : Type 0 where
  pub unnamed : named name old.queries ≡ None
  pub told : lines ≡ NoQuery name ∷ []
  pub same : new ≡ old

abbrev pub answer_lines : List (List ℕ) → List Line
answer_lines rows = map Row rows ++ Rows (length rows) ∷ []

-- The rows of the query over the triples of the loads that are committed, and how many they are: those of a scan of its text,
-- read by the same call. Locks that are met are taken away, so that it is a step beside all jobs in flight.
pub record IsAnswered (language : Language) (old : State) (name : List ℕ) (lines : List Line) (new : State) : Type 0 where
  pub registration : Registration
  pub named : named name old.queries ≡ Some registration
  pub told : lines ≡ answer_lines (language.rows registration.query old.triples)
  pub met : new ≡ with_jobs old (all_beside [] [] old.jobs)

-- `answers fault`: some locks may have been taken away before
pub record FaultsAtAnswers (old : State) (name : List ℕ) (lines : List Line) (new : State) : Type 0 where
  pub registration : Registration
  pub named : named name old.queries ≡ Some registration
  pub told : lines ≡ AnswersFault ∷ []
  pub met : new ≡ with_jobs old (all_beside [] [] old.jobs)

-- ---- scan

-- `refused 36 2`: the text is no query
pub record RefusesScan (language : Language) (old : State) (text : List ℕ) (lines : List Line) (new : State) : Type 0 where
  pub refusal : Refusal
  pub fault : language.scan_refusal text ≡ Some refusal
  pub told : lines ≡ ScanRefused refusal.place refusal.kind ∷ []
  pub same : new ≡ old

-- The rows of the query over the triples of the loads that are committed, and how many they are, as for one that is registered.
pub record IsScanned (language : Language) (old : State) (text : List ℕ) (lines : List Line) (new : State) : Type 0 where
  pub good : language.scan_refusal text ≡ None
  pub told : lines ≡ answer_lines (language.rows (language.query_of text) old.triples)
  pub met : new ≡ with_jobs old (all_beside [] [] old.jobs)

-- `scan fault`: some locks may have been taken away before
pub record FaultsAtScan (language : Language) (old : State) (text : List ℕ) (lines : List Line) (new : State) : Type 0 where
  pub good : language.scan_refusal text ≡ None
  pub told : lines ≡ ScanFault ∷ []
  pub met : new ≡ with_jobs old (all_beside [] [] old.jobs)

-- ---- any command

-- the lines that may answer a command in a state, and the state that it leaves
abbrev pub Reply : Language → State → Command → List Line → State → Type 0
Reply language old (Load client text) lines new =
    IsBusy old client lines new ⊎ RefusesDocument old client text lines new ⊎ OpensLoad old client text lines new ⊎ FaultsAtLoad old client text lines new
Reply language old (Register client name text) lines new =
    IsBusy old client lines new ⊎ RefusesQuery language old client text lines new ⊎ OpensRegistration language old client name text lines new
    ⊎ FaultsAtRegister language old client text lines new
Reply language old (StepClient client most) lines new = HasNothing old client lines new ⊎ Advances old client most lines new
Reply language old (Crash crashed) lines new = Crashes old crashed lines new
Reply language old AsksStatus lines new = TellsStatus old lines new ⊎ FaultsAtStatus old lines new
Reply language old (Answers name) lines new = IsUnknown old name lines new ⊎ IsAnswered language old name lines new ⊎ FaultsAtAnswers old name lines new
Reply language old (Scan text) lines new = RefusesScan language old text lines new ⊎ IsScanned language old text lines new ⊎ FaultsAtScan language old text lines new
