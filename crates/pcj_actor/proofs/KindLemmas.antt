-- Which moves a step is made of.
use Rattle.std.proofs.Common.{◌≡◌, ◌⊎◌, inl, inr, ℕ, List, [], ◌∷◌, ◌++◌, Some, refl, sym, subst}
use Rattle.pcj_table.specs.declared.plain.Plain.{Plain}
use Rattle.pcj_table.specs.declared.write.Write.{Write}
use Rattle.pcj_moves.specs.Moves.{CommitNothing, CommitPrimary, CommitSecondary, Draw, DropPrimary, Learn, Move, Prewrite, RollBack, RollForward, WritePlain}
use Rattle.pcj_moves.specs.Recoveries.{Recovery}
use Rattle.pcj_oracle.specs.Clock.{clock_key}
use Rattle.pcj_recover.specs.declared.event.RecoveryEvent.{RecoveryEvent}
use Rattle.pcj_recover.specs.declared.event.RecoveryEvent.TheVariants.{Working, RolledForward, RolledBack}
use Rattle.pcj_txn.specs.declared.event.TxnEvent.{TxnEvent}
use Rattle.pcj_txn.specs.declared.event.TxnEvent.TheVariants as event
use Rattle.pcj_actor.specs.StepLaws.{AreRecoveryMoves, AreTxnMoves}
use Rattle.pcj_actor.specs.Progress.{AreAllStepMoves}
use Rattle.pcj_actor.specs.declared.task.Task.{Task}

with_one : (task : Task) (moves : List Move) (move : Move) → moves ≡ move ∷ [] → AreAllStepMoves task (move ∷ []) → AreAllStepMoves task moves
with_one task moves move is all = subst (AreAllStepMoves task) (sym is) all

with_none : (task : Task) (moves : List Move) → moves ≡ [] → AreAllStepMoves task moves
with_none task moves is = subst (AreAllStepMoves task) (sym is) tt

pub all_then : (task : Task) (moves more : List Move) → AreAllStepMoves task moves → AreAllStepMoves task more → AreAllStepMoves task (moves ++ more)
all_then task [] more first then = then
all_then task (move ∷ moves) more first then = (first.0, all_then task moves more first.1 then)

pub txn_moves_are_steps : (task : Task) (told : TxnEvent) (moves : List Move) → AreTxnMoves told moves → AreAllStepMoves task moves
txn_moves_are_steps task event.Prewrote moves are = with_one task moves (Prewrite are.0) are.1 (tt, tt)
txn_moves_are_steps task (event.MetLock key lock) moves are = with_none task moves are
txn_moves_are_steps task (event.Conflict key commit) moves are = with_none task moves are
txn_moves_are_steps task (event.DrewCommit commit) moves are = by are
  where
    by : (moves ≡ Draw commit ∷ []) ⊎ ((plain : Plain) × (plain.value ≡ Some []) × (moves ≡ WritePlain clock_key plain ∷ Draw commit ∷ [])) → AreAllStepMoves task moves
    by (inl alone) = with_one task moves (Draw commit) alone (tt, tt)
    by (inr raised) = subst (AreAllStepMoves task) (sym raised.2) (inl (refl, raised.1), (tt, tt))
txn_moves_are_steps task (event.Committed commit) moves are = by are
  where
    by : ((write : Write) × (moves ≡ CommitPrimary write commit ∷ [])) ⊎ (moves ≡ CommitNothing commit ∷ []) → AreAllStepMoves task moves
    by (inl some) = with_one task moves (CommitPrimary some.0 commit) some.1 (tt, tt)
    by (inr none) = with_one task moves (CommitNothing commit) none (tt, tt)
txn_moves_are_steps task (event.PrimaryLost row) moves are = with_none task moves are
txn_moves_are_steps task event.SecondaryDone moves are = by are
  where
    by : ((write : Write) × (commit : ℕ) × (moves ≡ CommitSecondary write commit ∷ [])) ⊎ (moves ≡ []) → AreAllStepMoves task moves
    by (inl some) = with_one task moves (CommitSecondary some.0 some.1) some.2 (tt, tt)
    by (inr none) = with_none task moves none
txn_moves_are_steps task event.Done moves are = with_none task moves are

pub recovery_moves_are_steps : (task : Task) (recovery : Recovery) (told : RecoveryEvent) (moves : List Move) → AreRecoveryMoves recovery told moves → AreAllStepMoves task moves
recovery_moves_are_steps task recovery Working moves are = by are
  where
    by : (moves ≡ Learn recovery ∷ []) ⊎ (moves ≡ DropPrimary recovery ∷ Learn recovery ∷ []) → AreAllStepMoves task moves
    by (inl reads) = with_one task moves (Learn recovery) reads (tt, tt)
    by (inr drops) = subst (AreAllStepMoves task) (sym drops) (tt, (tt, tt))
recovery_moves_are_steps task recovery RolledForward moves are = by are
  where
    by : (moves ≡ []) ⊎ ((commit : ℕ) × (moves ≡ RollForward recovery commit ∷ [])) → AreAllStepMoves task moves
    by (inl none) = with_none task moves none
    by (inr rolls) = with_one task moves (RollForward recovery rolls.0) rolls.1 (tt, tt)
recovery_moves_are_steps task recovery RolledBack moves are = by are
  where
    by : (moves ≡ []) ⊎ (moves ≡ RollBack recovery ∷ []) ⊎ (moves ≡ DropPrimary recovery ∷ []) → AreAllStepMoves task moves
    by (inl none) = with_none task moves none
    by (inr (inl rolls)) = with_one task moves (RollBack recovery) rolls (tt, tt)
    by (inr (inr drops)) = with_one task moves (DropPrimary recovery) drops (tt, tt)
