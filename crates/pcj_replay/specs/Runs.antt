-- How far a run comes, and how it ends.
use Rattle.std.specs.Prelude.{◌≡◌, ◌⊎◌, ◌+◌, ℕ, Bool, false, List, [], ◌∷◌, ◌++◌, Option}
use Rattle.pcj_term.specs.declared.triple.Triple.{Triple}
use Rattle.pcj_io.specs.Faults.{Rose}
use Rattle.pcj_io.specs.Sink.{Appends, AppendsPrefix}
use Rattle.pcj_table.specs.Table.{Table, row_at}
use Rattle.pcj_rows.specs.Triples.{HasTriples}
use Rattle.pcj_script.specs.declared.error.ScriptKind.TheVariants.{TooMuch}
use Rattle.pcj_script.specs.Commands.{Command}
use Rattle.pcj_script.specs.Script.{Ending as ScriptEnding}
use Rattle.pcj_script.specs.Script.Ending.{End, RefusedAt, CutOff}
use Rattle.pcj_model.specs.declared.ending.Ending.{Ending}
use Rattle.pcj_model.specs.declared.ending.Ending.TheVariants.{Ended, Refused, SourceFault, SinkFault, OutOfMemory, Spent, TableFault}
use Rattle.pcj_model.specs.Ending.{Ends, RunEnds, Tells, status_of}
use Rattle.pcj_model.specs.Line.{printed}
use Rattle.pcj_model.specs.Line.Line.{Script}
use Rattle.pcj_model.specs.Reply.{Language}
use Rattle.pcj_model.specs.Queries.{Registration}
use Rattle.pcj_model.specs.State.{State}
use Rattle.pcj_jobs.specs.Agrees.{HasRegistered}
use Rattle.pcj_session.specs.Session.{Held, Holds}
use Rattle.pcj_replay.specs.declared.input.InputEnd.{InputEnd}
use Rattle.pcj_replay.specs.declared.input.InputEnd.TheVariants.{AtEnd, AtLimit, AtFault}
use Rattle.pcj_replay.specs.declared.stop.Stop.{Stop}
use Rattle.pcj_replay.specs.Answer.{StopsAnswer}
use Rattle.pcj_replay.specs.Entry.{IsLeftWith, start_over}
use Rattle.pcj_replay.specs.Input.{IsFrontOf}

-- ---- whole runs

-- What was read of the script was carried out, by any language that is SPARQL's, from the triples and the registered queries that
-- the table had. It ended so, what is written is that of such an ending, and the table has the triples and the queries of its state;
-- another run may follow. Where it didn't end by a fault of the source, it is a run of the whole script, however much was read.
pub record Replays (source old new : Option (List ℕ)) (before after : Table) (language : Language) (triples : List Triple) (queries : List Registration) (status : ℕ) : Type 0 where
  pub ending : Ending
  pub is : status ≡ status_of ending
  pub all : Bool
  pub bytes : List ℕ
  pub front : IsFrontOf source all bytes
  pub whole : all ≡ false → ending ≡ SourceFault
  pub text : List ℕ
  pub end : State
  pub ends : RunEnds language (start_over triples queries before) all bytes ending text end
  pub written : Appends old new text
  pub left : IsLeftWith after end

-- ---- a run of some commands, and the ending of the script behind them

-- the state in which a run over a table begins
abbrev pub Begins : State → Table → Type 0
Begins start table =
    (triples : List Triple) × (queries : List Registration) × HasTriples (row_at table) triples × HasRegistered (row_at table) queries × (start ≡ start_over triples queries table)

-- the session that begins with a table holds what is known of it, whatever triples and queries it has
abbrev pub HoldsFirst : Held → Table → Type 0
HoldsFirst held table = (start : State) → Begins start table → Holds [] held table start

pub record Ran (language : Language) (start : State) (commands : List Command) (script : ScriptEnding) (old new : Option (List ℕ)) (table : Table) (ending : Ending) : Type 0 where
  pub text : List ℕ
  pub end : State
  pub ends : Ends language start commands script ending text end
  pub written : Appends old new text
  pub left : IsLeftWith table end

-- the ending of a run that was carried out whole
abbrev pub IsEndingOf : ScriptEnding → Ending → Type 0
IsEndingOf End ending = ending ≡ Ended
IsEndingOf (RefusedAt line kind) ending = ending ≡ Refused (record { line = line; kind = kind })
IsEndingOf CutOff ending = ending ≡ SourceFault

-- all commands were carried out, and their lines are written
pub record RunsTo (language : Language) (start : State) (commands : List Command) (script : ScriptEnding) (old new : Option (List ℕ)) (table : Table) (ending : Ending) : Type 0 where
  pub text : List ℕ
  pub end : State
  pub told : Tells language start commands [] text end
  pub written : Appends old new text
  pub left : IsLeftWith table end
  pub is : IsEndingOf script ending

-- those before one were carried out, and their lines are written; that one stopped
pub record StopsIn (language : Language) (start : State) (commands : List Command) (old new : Option (List ℕ)) (table : Table) (stop : Stop) : Type 0 where
  pub before : List Command
  pub command : Command
  pub after : List Command
  pub split : commands ≡ before ++ command ∷ after
  pub front : List ℕ
  pub mid : State
  pub told : Tells language start before [] front mid
  pub between : Option (List ℕ)
  pub written : Appends old between front
  pub stops : StopsAnswer language mid command table between new stop

-- an ending of what was read, before the line that refuses one is written
abbrev pub IsReadEnd : InputEnd → Ending → Type 0
IsReadEnd end Ended = Unit {0}
IsReadEnd end (Refused error) = Unit {0}
IsReadEnd end SourceFault = end ≡ AtFault
IsReadEnd end SinkFault = ⊥
IsReadEnd end OutOfMemory = ⊥
IsReadEnd end Spent = ⊥
IsReadEnd end TableFault = ⊥

-- no command stands whole in so many lines behind, the first of which has this number
abbrev pub EndsBehind : InputEnd → ℕ → ℕ → Ending → Type 0
EndsBehind AtEnd line count ending = ⊥
EndsBehind AtLimit line count ending = ending ≡ Refused (record { line = line + count; kind = TooMuch })
EndsBehind AtFault line count ending = ending ≡ SourceFault

-- ---- the last line

-- it is written, or a part of it is
abbrev pub Closes : List ℕ → Ending → Option (List ℕ) → Option (List ℕ) → Ending → Type 0
Closes text ending old new result = ((result ≡ ending) × Appends old new text) ⊎ (((result ≡ SinkFault) ⊎ (result ≡ OutOfMemory)) × AppendsPrefix old new text)

-- the line that refuses one is written where one is refused, and else nothing more
abbrev pub Finishes : Ending → Option (List ℕ) → Option (List ℕ) → Ending → Type 0
Finishes Ended old new result = (result ≡ Ended) × (new ≡ old)
Finishes (Refused error) old new result = Closes (printed (Script error.line error.kind ∷ [])) (Refused error) old new result
Finishes SourceFault old new result = (result ≡ SourceFault) × (new ≡ old)
Finishes SinkFault old new result = (result ≡ SinkFault) × (new ≡ old)
Finishes OutOfMemory old new result = (result ≡ OutOfMemory) × (new ≡ old)
Finishes Spent old new result = (result ≡ Spent) × (new ≡ old)
Finishes TableFault old new result = (result ≡ TableFault) × (new ≡ old)

-- a fault of the sink is told only where its count rose
abbrev pub TellsSinkFault : ℕ → ℕ → Ending → Type 0
TellsSinkFault before now ending = ending ≡ SinkFault → Rose before now
