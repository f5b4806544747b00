-- What was said can be told from its print, line by line, and what a run has come to from what was said.
use Rattle.std.specs.Prelude.{◌≡◌, ◌⊎◌, ℕ, ◌+◌, ◌<◌, ◌≤◌, ◌^◌, Bool, true, false, not, ◌&&◌, ◌==◌, nat_le, List, [], ◌∷◌, ◌++◌, map, Option, Some, None}
use Rattle.std.specs.List.{list_all, list_any, slice_split, AllByRecursion, Contains}
use Rattle.pcj_term.specs.declared.triple.Triple.{Triple}
use Rattle.pcj_term.specs.Triple.{Joins}
use Rattle.pcj_algebra.specs.declared.query.Query.{Query}
use Rattle.pcj_script.specs.Commands.{Command}
use Rattle.pcj_script.specs.Commands.Command.{Load, Register, StepClient, Crash, Status as AsksStatus, Answers, Scan}
use Rattle.pcj_model.specs.Job.{Job, StepsReply}
use Rattle.pcj_model.specs.Job.Content.{Load as Loads, Registration as Registers}
use Rattle.pcj_model.specs.Queries.{AreNamedApart, Registration, named, placed}
use Rattle.pcj_model.specs.State.{State}
use Rattle.pcj_model.specs.Reply.{Language, Reply}
use Rattle.pcj_model.specs.Run.{Run, all_lines}
use Rattle.pcj_model.specs.declared.ending.Ending.{Ending}
use Rattle.pcj_model.specs.declared.ending.Ending.TheVariants.{SourceFault}
use Rattle.pcj_model.specs.Ending.{Tells, RunEnds}
use Rattle.pcj_model.specs.Line.{Event, Line, line_text, printed}
use Rattle.pcj_model.specs.Line.Event.{Loaded, Registered, Busy, Refused, Committed, Done, Aborted, Taken, Nothing, Fault, Steps, Crashed}
use Rattle.pcj_model.specs.Line.Line.{Client, AllCrashed, OracleCrashed, Status, StatusFault, Row, Rows, NoQuery, AnswersFault, ScanRefused, ScanFault, Spent, Script}

abbrev pub HasNoFeed : List ℕ → Type 0
HasNoFeed text = list_all (λ byte. not (byte == 10)) text ≡ true

abbrev pub Fits64 : ℕ → Type 0
Fits64 number = number < 2 ^ 64

-- its numbers are of 64 bits, and its name has no LF
abbrev pub IsEvent : Event → Type 0
IsEvent (Loaded number triples) = Fits64 number × Fits64 triples
IsEvent (Registered number name) = Fits64 number × HasNoFeed name
IsEvent Busy = Unit {0}
IsEvent (Refused place kind) = Fits64 place × Fits64 kind
IsEvent (Committed commit) = Fits64 commit
IsEvent Done = Unit {0}
IsEvent Aborted = Unit {0}
IsEvent Taken = Unit {0}
IsEvent Nothing = Unit {0}
IsEvent Fault = Unit {0}
IsEvent (Steps count) = Fits64 count
IsEvent Crashed = Unit {0}

-- its numbers are of 64 bits, and its name or row has no LF
abbrev pub IsLine : Line → Type 0
IsLine (Client client event) = Fits64 client × IsEvent event
IsLine AllCrashed = Unit {0}
IsLine OracleCrashed = Unit {0}
IsLine (Status notifications locks) = Fits64 notifications × Fits64 locks
IsLine StatusFault = Unit {0}
IsLine (Row row) = HasNoFeed row
IsLine (Rows count) = Fits64 count
IsLine (NoQuery name) = HasNoFeed name
IsLine AnswersFault = Unit {0}
IsLine (ScanRefused place kind) = Fits64 place × Fits64 kind
IsLine ScanFault = Unit {0}
IsLine Spent = Unit {0}
IsLine (Script line kind) = Fits64 line

-- ---- prints

-- between the LFs of a print stand the lines, and nothing behind the last
abbrev pub StandApart : Type 0
StandApart = (lines : List Line) → AllByRecursion IsLine lines → slice_split (λ byte. byte == 10) (printed lines) ≡ map line_text lines ++ [] ∷ []

-- ---- texts

abbrev pub HasNoBlank : List ℕ → Type 0
HasNoBlank text = list_all (λ byte. not (byte == 32)) text ≡ true

-- its first byte is a letter from a to z
abbrev pub begins_small : List ℕ → Bool
begins_small [] = false
begins_small (byte ∷ bytes) = nat_le 97 byte && nat_le byte 122

-- a name has no blank, and a row begins with no small letter, as no printed term does
abbrev pub StandsOut : Line → Type 0
StandsOut (Client client (Registered number name)) = HasNoBlank name
StandsOut (Row row) = begins_small row ≡ false
StandsOut (NoQuery name) = HasNoBlank name
StandsOut line = Unit {0}

abbrev pub IsClear : Line → Type 0
IsClear line = IsLine line × StandsOut line

-- different lines have different texts
abbrev pub TextsTell : Type 0
TextsTell = (line other : Line) → IsClear line → IsClear other → line_text line ≡ line_text other → line ≡ other

-- ---- steps

-- the lines of a command's steps tell whether the job was committed, with which number, and what is left of it
abbrev pub AreTold : Type 0
AreTold = (queries : List Registration) (job : Job) (client most : ℕ) (lines : List Line) (commit other : Option ℕ) (after left : Option Job) →
    StepsReply queries job client most lines commit after → StepsReply queries job client most lines other left → (commit ≡ other) × (after ≡ left)

-- ---- replies

-- the lines of a reply tell the state that it leaves
abbrev pub RepliesTell : Type 0
RepliesTell = (language : Language) (old : State) (command : Command) (lines : List Line) (new other : State) →
    Reply language old command lines new → Reply language old command lines other → new ≡ other

-- the triples of a load in flight have joined, all of them, and its `committed` line stands among these
abbrev pub JoinsWhole : State → List Line → State → Type 0
JoinsWhole old lines new =
    (client : ℕ) × (job : Job) × (commit : ℕ) × (triples : List Triple) × (old.jobs client ≡ Some job) × (job.content ≡ Loads triples)
    × Contains lines (Client client (Committed commit)) × Joins old.triples new.triples triples

-- no command changes the triples but by the commit of one load, which is told
abbrev pub LoadsJoinWhole : Type 0
LoadsJoinWhole = (language : Language) (old : State) (command : Command) (lines : List Line) (new : State) →
    Reply language old command lines new → (new.triples ≡ old.triples) ⊎ JoinsWhole old lines new

-- the query of a registration in flight has joined at its place, under a name that none had, and its `committed` line stands among
-- these
pub record QueryJoins (old : State) (lines : List Line) (new : State) : Type 0 where
  pub client : ℕ
  pub job : Job
  pub commit : ℕ
  pub name : List ℕ
  pub query : Query
  pub has : old.jobs client ≡ Some job
  pub of : job.content ≡ Registers name query
  pub told : Contains lines (Client client (Committed commit))
  pub free : named name old.queries ≡ None
  pub joined : new.queries ≡ placed (record { name = name; number = job.start; query = query }) old.queries

-- no command changes the queries but by the commit of one registration, which is told
abbrev pub QueriesJoin : Type 0
QueriesJoin = (language : Language) (old : State) (command : Command) (lines : List Line) (new : State) →
    Reply language old command lines new → (new.queries ≡ old.queries) ⊎ QueryJoins old lines new

-- no command gives two queries one name
abbrev pub NamesStayApart : Type 0
NamesStayApart = (language : Language) (old : State) (command : Command) (lines : List Line) (new : State) →
    Reply language old command lines new → AreNamedApart old.queries → AreNamedApart new.queries

-- it asks for a step at least, as each command of a script does
abbrev pub AsksSteps : Command → Type 0
AsksSteps (Load client text) = Unit {0}
AsksSteps (Register client name text) = Unit {0}
AsksSteps (StepClient client most) = 1 ≤ most
AsksSteps (Crash crashed) = Unit {0}
AsksSteps AsksStatus = Unit {0}
AsksSteps (Answers name) = Unit {0}
AsksSteps (Scan text) = Unit {0}

abbrev pub is_fault : Line → Bool
is_fault (Client client Fault) = true
is_fault StatusFault = true
is_fault AnswersFault = true
is_fault ScanFault = true
is_fault line = false

-- a command can be answered without a fault in every state, while there are timestamps
abbrev pub CanBeAnswered : Type 0
CanBeAnswered = (language : Language) (old : State) (command : Command) → AsksSteps command → old.last + 2 < 2 ^ 48 →
    (lines : List Line) × (new : State) × Reply language old command lines new × (list_any is_fault lines ≡ false)

-- ---- runs

-- the lines of a run tell which of them answer which command, and what it has come to
abbrev pub TranscriptsTell : Type 0
TranscriptsTell = (language : Language) (old : State) (commands : List Command) (transcript others : List (List Line)) (new other : State) →
    Run language old commands transcript new → Run language old commands others other → all_lines transcript ≡ all_lines others →
    (transcript ≡ others) × (new ≡ other)

-- so does their print
abbrev pub PrintsTell : Type 0
PrintsTell = (language : Language) (old : State) (commands : List Command) (transcript others : List (List Line)) (new other : State) →
    Run language old commands transcript new → Run language old commands others other →
    AllByRecursion IsClear (all_lines transcript) → AllByRecursion IsClear (all_lines others) →
    printed (all_lines transcript) ≡ printed (all_lines others) → (transcript ≡ others) × (new ≡ other)

-- a run that goes on from the end of a run is one
abbrev pub RunsGoOn : Type 0
RunsGoOn = (language : Language) (old mid new : State) (front back : List Command) (told more : List (List Line)) →
    Run language old front told mid → Run language mid back more new → Run language old (front ++ back) (told ++ more) new

-- a run of some commands, and from its end one of those behind them
pub record IsCutBehind (language : Language) (old : State) (front back : List Command) (transcript : List (List Line)) (new : State) : Type 0 where
  pub told : List (List Line)
  pub more : List (List Line)
  pub mid : State
  pub is : transcript ≡ told ++ more
  pub run : Run language old front told mid
  pub rest : Run language mid back more new

-- the front of a run is a run, and so is what follows it
abbrev pub RunsHaveFronts : Type 0
RunsHaveFronts = (language : Language) (old new : State) (front back : List Command) (transcript : List (List Line)) →
    Run language old (front ++ back) transcript new → IsCutBehind language old front back transcript new

-- a load begins with this line
abbrev pub opens_load : Line → Bool
opens_load (Client client (Loaded number triples)) = true
opens_load line = false

-- a registration begins with this line
abbrev pub opens_registration : Line → Bool
opens_registration (Client client (Registered number name)) = true
opens_registration line = false

-- Where nobody has a job in flight, as after a crash of all, no triple joins before a load begins, and no query before a
-- registration does: what was in flight has gone for good.
abbrev pub NothingIsLeft : Type 0
NothingIsLeft = (language : Language) (old : State) (commands : List Command) (transcript : List (List Line)) (new : State) →
    Run language old commands transcript new → ((client : ℕ) → old.jobs client ≡ None) →
    (list_any opens_load (all_lines transcript) ≡ false → new.triples ≡ old.triples)
    × (list_any opens_registration (all_lines transcript) ≡ false → new.queries ≡ old.queries)

-- the greatest timestamp that was told doesn't fall, and is one
abbrev pub TimestampsRise : Type 0
TimestampsRise = (language : Language) (old : State) (commands : List Command) (transcript : List (List Line)) (new : State) →
    Run language old commands transcript new → old.last < 2 ^ 48 → (old.last ≤ new.last) × (new.last < 2 ^ 48)

-- ---- endings

-- what is written of a run to its end settles the state that it leaves
abbrev pub EndsAreTold : Type 0
EndsAreTold = (language : Language) (start : State) (commands : List Command) (closing : List Line) (text : List ℕ) (end other : State) →
    (a : Tells language start commands closing text end) (b : Tells language start commands closing text other) →
    AllByRecursion IsClear (all_lines a.transcript ++ closing) → AllByRecursion IsClear (all_lines b.transcript ++ closing) → end ≡ other

-- a run that ended before its script was read to the end, and not for want of more, is a run of the script, whatever follows
abbrev pub EndsStand : Type 0
EndsStand = (language : Language) (start : State) (all : Bool) (bytes more : List ℕ) (ending : Ending) (text : List ℕ) (end : State) →
    RunEnds language start false bytes ending text end → (ending ≡ SourceFault → ⊥) → RunEnds language start all (bytes ++ more) ending text end
