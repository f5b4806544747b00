-- Why a run stops.
use Rattle.std.specs.Prelude.{ℕ, ◌≤◌, Result, IsErrOf}
use Rattle.pcj_io.specs.declared.sink.SinkError.{SinkError}
use Rattle.pcj_io.specs.declared.sink.SinkError.TheVariants as sink_errors
use Rattle.pcj_io.specs.Faults.{Rose}
use Rattle.pcj_session.specs.declared.stop.Stop.{Stop as SessionStop}
use Rattle.pcj_session.specs.declared.stop.Stop.TheVariants as sessions
use Rattle.pcj_replay.specs.declared.stop.Stop.{Stop}
use Rattle.pcj_replay.specs.declared.stop.Stop.TheVariants.{SinkFault, Memory, Spent}

abbrev pub sink_stop : SinkError → Stop
sink_stop sink_errors.Failed = SinkFault
sink_stop sink_errors.Memory = Memory

abbrev pub session_stop : SessionStop → Stop
session_stop sessions.Memory = Memory
session_stop sessions.Spent = Spent

-- the sink's count of faults doesn't fall, and a fault of it is told only where it rose
pub record HasSinkCause {T : Type 0} (before now : ℕ) (result : Result T Stop) : Type 0 where
  pub later : before ≤ now
  pub sink : IsErrOf result SinkFault → Rose before now
