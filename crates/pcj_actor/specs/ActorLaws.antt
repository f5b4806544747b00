-- What an actor's step leaves of all others.
use Rattle.std.specs.Prelude.{ℕ, ◌<◌, List, ◌∷◌, Option}
use Rattle.pcj_table.specs.Table.{Table, row_at}
use Rattle.pcj_oracle.specs.declared.block.Block.{Block}
use Rattle.pcj_oracle.specs.Clock.{next_number}
use Rattle.pcj_moves.specs.declared.answer.Answer.{Answer}
use Rattle.pcj_moves.specs.Actors.{Actor}
use Rattle.pcj_moves.specs.Moves.{IsConsistent}
use Rattle.pcj_moves.specs.ReadLaws.{StaysRead}
use Rattle.pcj_actor.specs.StepLaws.{state_of}
use Rattle.pcj_actor.specs.Progress.{Progress, ReadsNoPlain, Carries}

-- all is as it has to be after a step of one, if it was before
abbrev pub CarriedIsConsistent : Type 0
CarriedIsConsistent = (old new : Progress) (oracle oracle' : Option Block) (table table' : Table) (others : List Actor) → Carries old oracle table new oracle' table' → ReadsNoPlain old.task (row_at table) →
    IsConsistent (state_of oracle table (old.actor ∷ others)) → IsConsistent (state_of oracle' table' (new.actor ∷ others))

-- and what was read at a time is what is seen then
abbrev pub CarriedLeavesRead : Type 0
CarriedLeavesRead = (old new : Progress) (oracle oracle' : Option Block) (table table' : Table) (others : List Actor) (time : ℕ) (answers : List Answer) → Carries old oracle table new oracle' table' →
    ReadsNoPlain old.task (row_at table) → IsConsistent (state_of oracle table (old.actor ∷ others)) → time < next_number oracle table →
    StaysRead (row_at table) (old.actor ∷ others) time answers → StaysRead (row_at table') (new.actor ∷ others) time answers
