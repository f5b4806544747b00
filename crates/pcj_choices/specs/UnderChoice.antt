-- Whichever of the transactions that may be committed next are committed: the rows are then those of a state that other actors
-- may leave.
use Rattle.std.specs.Prelude.{◌≡◌, ◌⊎◌, ℕ, Bool, true, false, List, ◌∷◌, Option, Some, None}
use Rattle.pcj_table.specs.Table.{Key}
use Rattle.pcj_mvcc.specs.Choices.{Choice, under}
use Rattle.pcj_mvcc.specs.Reading.{Rows}
use Rattle.pcj_moves.specs.Traces.{traces}
use Rattle.pcj_moves.specs.Transactions.{IsRipe, as_committed}
use Rattle.pcj_moves.specs.Actors.{Actor, with_transaction}
use Rattle.pcj_moves.specs.Moves.{CommitPrimary, CommitSecondary, DropPrimary, IsConsistent, Move, Plan, Prewrite, Read, RollBack, RollForward}

-- an actor as it was, or with its transaction committed, where that might be
abbrev pub IsMaybeCommitted : Rows → Actor → Actor → Type 0
IsMaybeCommitted rows actor after = (after ≡ actor) ⊎
    ((commit : ℕ) × IsRipe actor.start actor.transaction (traces actor.start rows) commit × (after ≡ with_transaction actor (as_committed actor.transaction)))

-- The rows in which the chosen transactions are committed, with this actor at work there and some others beside it.
pub record StandsUnder (number : ℕ) (rows : Rows) (actor : Actor) (choice : Choice) : Type 0 where
  pub mover : Actor
  pub beside : List Actor
  pub is : IsMaybeCommitted rows actor mover
  pub consistent : IsConsistent (record { number = number; rows = under choice rows; actors = mover ∷ beside })

-- the commit of a primary is the one move that changes what is read
abbrev pub is_primary_commit : Move → Bool
is_primary_commit (CommitPrimary write commit) = true
is_primary_commit _ = false

-- the row of a transaction on which a move acts, but for the commit of a primary
abbrev pub acts_on : Move → Option Key
acts_on (Prewrite write) = Some write.key
acts_on (CommitSecondary write commit) = Some write.key
acts_on (DropPrimary recovery) = Some recovery.lock.primary
acts_on (RollBack recovery) = Some recovery.key
acts_on (RollForward recovery commit) = Some recovery.key
acts_on _ = None

-- a move that changes neither what its actor has read nor what it is to write
abbrev pub is_steady : Move → Bool
is_steady (Plan writes) = false
is_steady (Read answer) = false
is_steady _ = true
