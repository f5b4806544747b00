-- What a command writes, or how it stops.
use Rattle.std.specs.Prelude.{◌⊎◌, ℕ, List, [], Option}
use Rattle.pcj_io.specs.Sink.{Appends, AppendsPrefix}
use Rattle.pcj_table.specs.Table.{Table}
use Rattle.pcj_script.specs.Commands.{Command}
use Rattle.pcj_model.specs.Ending.{MayDraw}
use Rattle.pcj_model.specs.Line.{Line, printed}
use Rattle.pcj_model.specs.Reply.{Language, Reply}
use Rattle.pcj_model.specs.Run.{Cut}
use Rattle.pcj_model.specs.State.{State}
use Rattle.pcj_session.specs.Session.{Held, Holds}
use Rattle.pcj_replay.specs.declared.stop.Stop.{Stop}
use Rattle.pcj_replay.specs.declared.stop.Stop.TheVariants.{SinkFault, Memory, Spent}
use Rattle.pcj_replay.specs.Entry.{IsLeftWith}

-- the lines are written that answer it, and the table is as the state says that they leave
abbrev pub WritesAnswer : Language → State → Command → Held → Table → Option (List ℕ) → Option (List ℕ) → Type 0
WritesAnswer language state command held table old new =
    (lines : List Line) × (after : State) × Reply language state command lines after × Holds [] held table after × Appends old new (printed lines)

-- a part of them is written
abbrev pub WritesPart : Language → State → Command → Table → Option (List ℕ) → Option (List ℕ) → Type 0
WritesPart language state command table old new =
    (lines : List Line) × (after : State) × Reply language state command lines after × IsLeftWith table after × AppendsPrefix old new (printed lines)

-- the command was cut, and nothing of it is written
abbrev pub CutsAnswer : State → Command → Table → Option (List ℕ) → Option (List ℕ) → Type 0
CutsAnswer state command table old new = (lines : List Line) × (after : State) × Cut state command lines after × IsLeftWith table after × Appends old new []

abbrev pub StopsAnswer : Language → State → Command → Table → Option (List ℕ) → Option (List ℕ) → Stop → Type 0
StopsAnswer language state command table old new SinkFault = WritesPart language state command table old new
StopsAnswer language state command table old new Memory = WritesPart language state command table old new ⊎ CutsAnswer state command table old new
StopsAnswer language state command table old new Spent = MayDraw language state command × IsLeftWith table state × Appends old new []

-- a line alone isn't spent
abbrev pub IsOfSink : Stop → Type 0
IsOfSink SinkFault = Unit {0}
IsOfSink Memory = Unit {0}
IsOfSink Spent = ⊥
