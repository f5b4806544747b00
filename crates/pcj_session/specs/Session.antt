-- What a session has, and what its answers are.
use Rattle.std.specs.Prelude.{◌≡◌, ◌⊎◌, ◌<◌, ℕ, true, List, [], ◌∷◌, ◌++◌, Option, None}
use Rattle.std.specs.List.{list_any}
use Rattle.pcj_table.specs.Table.{Table, row_at}
use Rattle.pcj_io.specs.Faults.{Rose}
use Rattle.pcj_oracle.specs.Clock.{next_number}
use Rattle.pcj_oracle.specs.declared.block.Block.{Block}
use Rattle.pcj_moves.specs.Actors.{Actor}
use Rattle.pcj_actor.specs.StepLaws.{state_of}
use Rattle.pcj_fit.specs.Sound.{Sound}
use Rattle.pcj_rows.specs.Triples.{HasTriples}
use Rattle.pcj_algebra.specs.declared.query.Query.{Query}
use Rattle.pcj_clients.specs.Clients.{actors_of}
use Rattle.pcj_clients.specs.declared.busy.Busy.{Busy}
use Rattle.pcj_script.specs.Commands.{Command}
use Rattle.pcj_model.specs.Ending.{MayDraw}
use Rattle.pcj_model.specs.Laws.{is_fault}
use Rattle.pcj_model.specs.Line.{Line}
use Rattle.pcj_model.specs.Line.Line.{Status, StatusFault}
use Rattle.pcj_model.specs.Reply.{Language, Reply as MayReply}
use Rattle.pcj_model.specs.Run.{Cut}
use Rattle.pcj_model.specs.State.{State}
use Rattle.pcj_pending.specs.Pending.{locks_of, notifications_of}
use Rattle.pcj_jobs.specs.Agrees.{Agrees, HasRegistered}
use Rattle.pcj_session.specs.declared.reply.Reply.{Reply}
use Rattle.pcj_session.specs.declared.stop.Stop.{Stop}
use Rattle.pcj_session.specs.declared.stop.Stop.TheVariants.{Memory, Spent}
use Rattle.pcj_session.specs.declared.registry.Opened.{Opened}
use Rattle.pcj_session.specs.Lines.{lines_of}
use Rattle.pcj_session.specs.Names.{AreKept, AreOpen}

-- The clients with a job in flight, the registered queries by their names, what clients register, and the oracle.
pub record Held : Type 0 where
  pub clients : List Busy
  pub queries : List (List ℕ × Query)
  pub opened : List (ℕ × Opened)
  pub oracle : Option Block

-- before the first command, with these queries
abbrev pub held_first : List (List ℕ × Query) → Held
held_first queries = record { clients = []; queries = queries; opened = []; oracle = None }

-- ---- what is true of it

-- The table is as the state says, whoever else is at work on it: all who are at work keep it sound, the queries are those that
-- are registered, and what is known of the table and of the jobs in flight is true.
pub record Holds (others : List Actor) (held : Held) (table : Table) (state : State) : Type 0 where
  pub sound : Sound (state_of held.oracle table (actors_of held.clients ++ others))
  pub kept : AreKept held.queries state.queries
  pub opened : AreOpen held.opened state.jobs
  pub agrees : Agrees held.oracle table held.clients state

-- The table is sound with all who are at work, has the triples and the queries of the state, and goes on above each number that
-- was told.
pub record IsLeft (others : List Actor) (held : Held) (table : Table) (state : State) : Type 0 where
  pub sound : Sound (state_of held.oracle table (actors_of held.clients ++ others))
  pub triples : HasTriples (row_at table) state.triples
  pub queries : HasRegistered (row_at table) state.queries
  pub last : state.last < next_number held.oracle table

-- ---- answers

-- the lines may answer the command in that state, and the table is as the state says that they leave
abbrev pub Answers : Language → List Actor → State → Command → Held → Table → Reply → Type 0
Answers language others state command held table reply =
    (new : State) × MayReply language state command (lines_of reply) new × Holds others held table new

-- It was cut for want of memory; or 2^48 would be drawn for it, which changes no triple and no query.
abbrev pub StopsAt : Language → List Actor → State → Command → Held → Table → Stop → Type 0
StopsAt language others state command held table Memory =
    (lines : List Line) × (new : State) × Cut state command lines new × IsLeft others held table new
StopsAt language others state command held table Spent = MayDraw language state command × IsLeft others held table state

-- a line that tells of a fault stands only where the table's count of faults rose
abbrev pub TellsFault : ℕ → ℕ → Reply → Type 0
TellsFault before now reply = list_any is_fault (lines_of reply) ≡ true → Rose before now

-- what is pending is told, or that a call failed
abbrev pub TellsPending : Table → Reply → Type 0
TellsPending table reply =
    (lines_of reply ≡ Status (notifications_of table) (locks_of table) ∷ []) ⊎ (lines_of reply ≡ StatusFault ∷ [])
