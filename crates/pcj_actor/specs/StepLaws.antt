-- Each step of a transaction, a recovery and a read is a move or two of its actor.
use Rattle.std.specs.Prelude.{◌≡◌, ◌⊎◌, ℕ, Bool, List, [], ◌∷◌, Option, Some}
use Rattle.pcj_table.specs.declared.plain.Plain.{Plain}
use Rattle.pcj_table.specs.declared.write.Write.{Write}
use Rattle.pcj_table.specs.declared.lock.Lock.{Lock}
use Rattle.pcj_table.specs.Table.{Key, Table, row_at}
use Rattle.pcj_oracle.specs.declared.block.Block.{Block}
use Rattle.pcj_oracle.specs.Clock.{clock_key, next_number}
use Rattle.pcj_mvcc.specs.Times.{TimesInOrder}
use Rattle.pcj_mvcc.specs.Reading.{Rows}
use Rattle.pcj_moves.specs.declared.answer.Answer.{Answer}
use Rattle.pcj_moves.specs.Recoveries.{Recovery}
use Rattle.pcj_moves.specs.Actors.{Actor, with_transaction, with_recovery}
use Rattle.pcj_moves.specs.Moves.{Move, Read, Meet, MayMeet, Prewrite, Draw, CommitPrimary, CommitSecondary, CommitNothing, Learn, DropPrimary, RollBack, RollForward, WritePlain, Makes, IsConsistent, State}
use Rattle.pcj_txn.specs.declared.event.TxnEvent.{TxnEvent}
use Rattle.pcj_txn.specs.declared.event.TxnEvent.TheVariants as txn
use Rattle.pcj_txn.specs.Progress.{Progress as TxnProgress}
use Rattle.pcj_txn.specs.Steps.{Steps as TxnSteps, MeetsLock}
use Rattle.pcj_snapshot.specs.declared.ask.Ask.{Ask}
use Rattle.pcj_snapshot.specs.declared.event.ReadEvent.{ReadEvent}
use Rattle.pcj_snapshot.specs.declared.event.ReadEvent.TheVariants as read
use Rattle.pcj_snapshot.specs.Shown.{ShowsAt}
use Rattle.pcj_recover.specs.declared.event.RecoveryEvent.{RecoveryEvent}
use Rattle.pcj_recover.specs.declared.event.RecoveryEvent.TheVariants.{Working, RolledForward, RolledBack}
use Rattle.pcj_recover.specs.Progress.{Progress as RecoveryProgress}
use Rattle.pcj_recover.specs.Steps.{Steps as RecoverySteps}

-- an oracle's next number, the rows of its table, and actors
abbrev pub state_of : Option Block → Table → List Actor → State
state_of oracle table actors = record { number = next_number oracle table; rows = row_at table; actors = actors }

-- ---- transactions

-- the progress of an actor's transaction, of whose rows some have had their commit
abbrev pub progress_of : Actor → ℕ → TxnProgress
progress_of actor settled = record { start = actor.start; transaction = actor.transaction; settled = settled }

-- A draw may write the clock's row before it. A commit of another row that has no lock left is no move.
abbrev pub AreTxnMoves : TxnEvent → List Move → Type 0
AreTxnMoves txn.Prewrote moves = (write : Write) × (moves ≡ Prewrite write ∷ [])
AreTxnMoves (txn.MetLock key lock) moves = moves ≡ []
AreTxnMoves (txn.Conflict key commit) moves = moves ≡ []
AreTxnMoves (txn.DrewCommit commit) moves = (moves ≡ Draw commit ∷ []) ⊎ ((plain : Plain) × (plain.value ≡ Some []) × (moves ≡ WritePlain clock_key plain ∷ Draw commit ∷ []))
AreTxnMoves (txn.Committed commit) moves = ((write : Write) × (moves ≡ CommitPrimary write commit ∷ [])) ⊎ (moves ≡ CommitNothing commit ∷ [])
AreTxnMoves (txn.PrimaryLost row) moves = moves ≡ []
AreTxnMoves txn.SecondaryDone moves = ((write : Write) × (commit : ℕ) × (moves ≡ CommitSecondary write commit ∷ [])) ⊎ (moves ≡ [])
AreTxnMoves txn.Done moves = moves ≡ []

abbrev pub TxnStepsAreMoves : Type 0
TxnStepsAreMoves = (actor : Actor) (others : List Actor) (settled : ℕ) (new : TxnProgress) (oracle oracle' : Option Block) (table table' : Table) (event : TxnEvent) →
    IsConsistent (state_of oracle table (actor ∷ others)) → TxnSteps (progress_of actor settled) oracle table event new oracle' table' →
    (moves : List Move) × AreTxnMoves event moves ×
    Makes moves (next_number oracle table) (row_at table) actor (next_number oracle' table') (row_at table') (with_transaction actor new.transaction)

-- ---- recoveries

-- what a recovery knows of its primary, and whether it is to take its lock away
abbrev pub recovery_progress : Recovery → Bool → RecoveryProgress
recovery_progress recovery locked = record { recovery = recovery; locked = locked }

-- It reads its primary, maybe after it has dropped its lock. A row that has no lock of the start left is no move.
abbrev pub AreRecoveryMoves : Recovery → RecoveryEvent → List Move → Type 0
AreRecoveryMoves recovery Working moves = (moves ≡ Learn recovery ∷ []) ⊎ (moves ≡ DropPrimary recovery ∷ Learn recovery ∷ [])
AreRecoveryMoves recovery RolledForward moves = (moves ≡ []) ⊎ ((commit : ℕ) × (moves ≡ RollForward recovery commit ∷ []))
AreRecoveryMoves recovery RolledBack moves = (moves ≡ []) ⊎ (moves ≡ RollBack recovery ∷ []) ⊎ (moves ≡ DropPrimary recovery ∷ [])

abbrev pub RecoveryStepsAreMoves : Type 0
RecoveryStepsAreMoves = (number : ℕ) (actor : Actor) (old : Recovery) (locked : Bool) (new : RecoveryProgress) (table table' : Table) (event : RecoveryEvent) →
    actor.recovery ≡ Some old → TimesInOrder (row_at table) → RecoverySteps (recovery_progress old locked) table event new table' →
    (moves : List Move) × AreRecoveryMoves old event moves ×
    Makes moves number (row_at table) actor number (row_at table') (with_recovery actor (Some new.recovery))

-- ---- reads, and locks that are met

-- what is found is an answer, and a lock that is met is to be taken away
abbrev pub AreReadMoves : ReadEvent → List Move → Type 0
AreReadMoves (read.Found pair) moves = (answer : Answer) × (moves ≡ Read answer ∷ [])
AreReadMoves read.Nothing moves = (answer : Answer) × (moves ≡ Read answer ∷ [])
AreReadMoves (read.MetLock key lock) moves = moves ≡ Meet key lock ∷ []

-- of an actor that reads at its start, and writes nothing yet
abbrev pub ReadStepsAreMoves : Type 0
ReadStepsAreMoves = (number : ℕ) (rows : Rows) (actor : Actor) (others : List Actor) (ask : Ask) (event : ReadEvent) →
    IsConsistent (record { number = number; rows = rows; actors = actor ∷ others }) → actor.transaction.writes ≡ [] → ShowsAt ask actor.start rows event →
    (moves : List Move) × AreReadMoves event moves × (actor' : Actor) × Makes moves number rows actor number rows actor'

-- a transaction that meets a lock at its prewrite may begin a recovery of it
abbrev pub TxnMeetsOthers : Type 0
TxnMeetsOthers = (actor : Actor) (others : List Actor) (settled : ℕ) (oracle : Option Block) (table : Table) (key : Key) (lock : Lock) →
    IsConsistent (state_of oracle table (actor ∷ others)) → MeetsLock (progress_of actor settled) table key lock → MayMeet (row_at table) actor key lock
