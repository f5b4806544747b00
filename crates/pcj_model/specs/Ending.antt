-- How a run of a script ends: what is written then, and the state that is left.
use Rattle.std.specs.Prelude.{◌≡◌, ◌⊎◌, ℕ, Bool, false, List, [], ◌∷◌, ◌++◌, Some, None}
use Rattle.pcj_ntriples.specs.declared.kind.NtKind.{NtKind}
use Rattle.pcj_ntriples.specs.Document.{DocumentFault}
use Rattle.pcj_script.specs.declared.error.ScriptKind.{ScriptKind}
use Rattle.pcj_script.specs.Commands.{Command}
use Rattle.pcj_script.specs.Commands.Command.{Load, Register, StepClient, Crash, Status as AsksStatus, Answers, Scan}
use Rattle.pcj_script.specs.Script.{IsRead, Ending as ScriptEnding}
use Rattle.pcj_script.specs.Script.Ending.{End, RefusedAt, CutOff}
use Rattle.pcj_model.specs.declared.ending.Ending.{Ending}
use Rattle.pcj_model.specs.declared.ending.Ending.TheVariants.{Ended, Refused, SourceFault, SinkFault, OutOfMemory, Spent, TableFault}
use Rattle.pcj_model.specs.Job.{Job}
use Rattle.pcj_model.specs.Line.{Line, printed}
use Rattle.pcj_model.specs.Line.Line.{Script, Spent as SaysSpent}
use Rattle.pcj_model.specs.Queries.{Registration, named}
use Rattle.pcj_model.specs.State.{State}
use Rattle.pcj_model.specs.Reply.{Language, Reply}
use Rattle.pcj_model.specs.Run.{Run, Cut, all_lines}

-- the exit status that tells of an ending
abbrev pub status_of : Ending → ℕ
status_of Ended = 0
status_of (Refused error) = 2
status_of SourceFault = 3
status_of SinkFault = 4
status_of OutOfMemory = 5
status_of Spent = 6
status_of TableFault = 7

-- ---- runs that are told whole

-- the commands were carried out, and their lines and these are written
pub record Tells (language : Language) (start : State) (commands : List Command) (closing : List Line) (text : List ℕ) (end : State) : Type 0 where
  pub transcript : List (List Line)
  pub run : Run language start commands transcript end
  pub written : text ≡ printed (all_lines transcript ++ closing)

-- ---- timestamps at their end

-- a timestamp is drawn for the command: it opens a load or a registration, a job that isn't committed goes on, or an answer is
-- read
abbrev pub MayDraw : Language → State → Command → Type 0
MayDraw language old (Load client text) = (old.jobs client ≡ None) × ((line : ℕ) (kind : NtKind) → DocumentFault text line kind → ⊥)
MayDraw language old (Register client name text) = (old.jobs client ≡ None) × (language.register_refusal text ≡ None)
MayDraw language old (StepClient client most) = (job : Job) × (old.jobs client ≡ Some job) × (job.is_committed ≡ false)
MayDraw language old (Crash crashed) = ⊥
MayDraw language old AsksStatus = ⊥
MayDraw language old (Answers name) = (registration : Registration) × (named name old.queries ≡ Some registration)
MayDraw language old (Scan text) = language.scan_refusal text ≡ None

-- The commands before one were carried out, and for that one 2^48 would be drawn. It has told nothing: a step has drawn no
-- commit yet.
pub record RunsOut (language : Language) (start : State) (commands : List Command) (text : List ℕ) (end : State) : Type 0 where
  pub before : List Command
  pub command : Command
  pub after : List Command
  pub split : commands ≡ before ++ command ∷ after
  pub draws : MayDraw language end command
  pub told : Tells language start before (SaysSpent ∷ []) text end

-- ---- runs that are cut short

-- all of one text is written, and a part of the next
pub record IsPart (text front next : List ℕ) : Type 0 where
  pub part : List ℕ
  pub rest : List ℕ
  pub is : next ≡ part ++ rest
  pub written : text ≡ front ++ part

-- some of the commands were carried out, and all their lines are written
pub record StopsBetween (language : Language) (start : State) (commands : List Command) (text : List ℕ) (end : State) : Type 0 where
  pub before : List Command
  pub after : List Command
  pub split : commands ≡ before ++ after
  pub told : Tells language start before [] text end

-- Some of the commands were carried out. All lines are written but those of the last one, of which a part is.
pub record StopsWriting (language : Language) (start : State) (commands : List Command) (text : List ℕ) (end : State) : Type 0 where
  pub before : List Command
  pub command : Command
  pub after : List Command
  pub split : commands ≡ before ++ command ∷ after
  pub front : List ℕ
  pub mid : State
  pub told : Tells language start before [] front mid
  pub lines : List Line
  pub reply : Reply language mid command lines end
  pub part : IsPart text front (printed lines)

-- the same, where the last command was cut
pub record StopsWorking (language : Language) (start : State) (commands : List Command) (text : List ℕ) (end : State) : Type 0 where
  pub before : List Command
  pub command : Command
  pub after : List Command
  pub split : commands ≡ before ++ command ∷ after
  pub front : List ℕ
  pub mid : State
  pub told : Tells language start before [] front mid
  pub lines : List Line
  pub cut : Cut mid command lines end
  pub part : IsPart text front (printed lines)

-- all commands were carried out, and of the line that refuses one a part is written
pub record StopsAtRefusal (language : Language) (start : State) (commands : List Command) (script : ScriptEnding) (text : List ℕ) (end : State) : Type 0 where
  pub line : ℕ
  pub kind : ScriptKind
  pub refused : script ≡ RefusedAt line kind
  pub front : List ℕ
  pub told : Tells language start commands [] front end
  pub part : IsPart text front (printed (Script line kind ∷ []))

-- those before one for which 2^48 would be drawn, and of the line that says so a part is written
pub record StopsAtSpent (language : Language) (start : State) (commands : List Command) (text : List ℕ) (end : State) : Type 0 where
  pub before : List Command
  pub command : Command
  pub after : List Command
  pub split : commands ≡ before ++ command ∷ after
  pub draws : MayDraw language end command
  pub front : List ℕ
  pub told : Tells language start before [] front end
  pub part : IsPart text front (printed (SaysSpent ∷ []))

-- a write failed: at most one command's lines are missing
abbrev pub StopsAtWrite : Language → State → List Command → ScriptEnding → List ℕ → State → Type 0
StopsAtWrite language start commands script text end =
    StopsWriting language start commands text end ⊎ StopsAtRefusal language start commands script text end ⊎ StopsAtSpent language start commands text end

-- ---- all endings

-- What was read of the script is these commands, and then its end, a refused line, or what no command can be told of; its run
-- ends so, has written this text, and leaves this state. Where the script couldn't be read to its end, the commands that stand
-- whole in what was read are carried out.
abbrev pub Ends : Language → State → List Command → ScriptEnding → Ending → List ℕ → State → Type 0
Ends language start commands script Ended text end = (script ≡ End) × Tells language start commands [] text end
Ends language start commands script (Refused error) text end =
    (script ≡ RefusedAt error.line error.kind) × Tells language start commands (Script error.line error.kind ∷ []) text end
Ends language start commands script SourceFault text end = (script ≡ CutOff) × Tells language start commands [] text end
Ends language start commands script SinkFault text end = StopsAtWrite language start commands script text end
Ends language start commands script OutOfMemory text end =
    StopsBetween language start commands text end ⊎ StopsWorking language start commands text end ⊎ StopsAtWrite language start commands script text end
Ends language start commands script Spent text end = RunsOut language start commands text end
Ends language start commands script TableFault text end = (text ≡ []) × (end ≡ start)

-- ---- runs of what was read

-- These bytes of a script were read, all of it or not. Its run ends so, has written this text, and leaves this state.
pub record RunEnds (language : Language) (start : State) (all : Bool) (bytes : List ℕ) (ending : Ending) (text : List ℕ) (end : State) : Type 0 where
  pub commands : List Command
  pub script : ScriptEnding
  pub read : IsRead all bytes commands script
  pub ends : Ends language start commands script ending text end
