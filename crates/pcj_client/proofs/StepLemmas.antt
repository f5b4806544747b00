-- What a step of the actor is to its load.
use Rattle.std.proofs.Common.{◌≡◌, ◌⊎◌, inl, inr, Option, ap}
use Rattle.pcj_table.specs.Table.{Table}
use Rattle.pcj_oracle.specs.declared.block.Block.{Block}
use Rattle.pcj_txn.specs.Progress.{Progress as TxnProgress}
use Rattle.pcj_txn.specs.Steps as steps
use Rattle.pcj_txn.specs.Steps.{Steps as TxnSteps}
use Rattle.pcj_txn.specs.declared.event.TxnEvent.{TxnEvent}
use Rattle.pcj_txn.specs.declared.event.TxnEvent.TheVariants as txn
use Rattle.pcj_actor.specs.declared.event.ActorEvent.{ActorEvent}
use Rattle.pcj_actor.specs.declared.event.ActorEvent.TheVariants as event
use Rattle.pcj_actor.specs.Progress.{Progress, Tells}
use Rattle.pcj_client.specs.Job.{IsAfter}

-- ---- a step of the transaction

-- its writes are the same
pub txn_writes_same : (old : TxnProgress) (oracle : Option Block) (table : Table) (told : TxnEvent) (new : TxnProgress) (oracle' : Option Block) (table' : Table) → TxnSteps old oracle table told new oracle' table' → new.transaction.writes ≡ old.transaction.writes
txn_writes_same old oracle table txn.Prewrote new oracle' table' does = ap (λ (p : TxnProgress). p.transaction.writes) (does.0).next
txn_writes_same old oracle table (txn.MetLock key lock) new oracle' table' does = ap (λ (p : TxnProgress). p.transaction.writes) (does.1).progress
txn_writes_same old oracle table (txn.Conflict key commit) new oracle' table' does = ap (λ (p : TxnProgress). p.transaction.writes) (does.1).progress
txn_writes_same old oracle table (txn.DrewCommit commit) new oracle' table' does = ap (λ (p : TxnProgress). p.transaction.writes) does.next
txn_writes_same old oracle table (txn.Committed commit) new oracle' table' does = by does.0
  where
    by : steps.CommitsPrimary old table commit new table' ⊎ steps.CommitsNone old table commit new table' → new.transaction.writes ≡ old.transaction.writes
    by (inl some) = ap (λ (p : TxnProgress). p.transaction.writes) some.next
    by (inr none) = ap (λ (p : TxnProgress). p.transaction.writes) none.next
txn_writes_same old oracle table (txn.PrimaryLost row) new oracle' table' does = ap (λ (p : TxnProgress). p.transaction.writes) (does.1).progress
txn_writes_same old oracle table txn.SecondaryDone new oracle' table' does = ap (λ (p : TxnProgress). p.transaction.writes) does.1
txn_writes_same old oracle table txn.Done new oracle' table' does = ap (λ (p : TxnProgress). p.transaction.writes) (does.1).progress

-- and its start
pub txn_start_same : (old : TxnProgress) (oracle : Option Block) (table : Table) (told : TxnEvent) (new : TxnProgress) (oracle' : Option Block) (table' : Table) → TxnSteps old oracle table told new oracle' table' → new.start ≡ old.start
txn_start_same old oracle table txn.Prewrote new oracle' table' does = ap (λ (p : TxnProgress). p.start) (does.0).next
txn_start_same old oracle table (txn.MetLock key lock) new oracle' table' does = ap (λ (p : TxnProgress). p.start) (does.1).progress
txn_start_same old oracle table (txn.Conflict key commit) new oracle' table' does = ap (λ (p : TxnProgress). p.start) (does.1).progress
txn_start_same old oracle table (txn.DrewCommit commit) new oracle' table' does = ap (λ (p : TxnProgress). p.start) does.next
txn_start_same old oracle table (txn.Committed commit) new oracle' table' does = by does.0
  where
    by : steps.CommitsPrimary old table commit new table' ⊎ steps.CommitsNone old table commit new table' → new.start ≡ old.start
    by (inl some) = ap (λ (p : TxnProgress). p.start) some.next
    by (inr none) = ap (λ (p : TxnProgress). p.start) none.next
txn_start_same old oracle table (txn.PrimaryLost row) new oracle' table' does = ap (λ (p : TxnProgress). p.start) (does.1).progress
txn_start_same old oracle table txn.SecondaryDone new oracle' table' does = ap (λ (p : TxnProgress). p.start) does.1
txn_start_same old oracle table txn.Done new oracle' table' does = ap (λ (p : TxnProgress). p.start) (does.1).progress

-- ---- a step of the actor

pub tells_after : (before : Progress) (oracle : Option Block) (table : Table) (told : ActorEvent) (after : Progress) (oracle' : Option Block) (table' : Table) → Tells before oracle table told after oracle' table' → IsAfter before told after
tells_after before oracle table event.Rests after oracle' table' tells = tells.0
tells_after before oracle table event.Answered after oracle' table' tells = ((tells.0).answer, (tells.0).of, (tells.0).next)
tells_after before oracle table event.Met after oracle' table' tells = ((tells.0).key, (tells.0).lock, (tells.0).next)
tells_after before oracle table (event.Recovers told) after oracle' table' tells = ((tells.0).after, (tells.0).next)
tells_after before oracle table (event.Put applied) after oracle' table' tells = ((tells.0).key, (tells.0).plain, (tells.0).is)
tells_after before oracle table (event.Writes told) after oracle' table' tells =
    (tells.before, tells.after, tells.is, txn_writes_same tells.before oracle table told tells.after oracle' table' tells.steps, txn_start_same tells.before oracle table told tells.after oracle' table' tells.steps, tells.next)
