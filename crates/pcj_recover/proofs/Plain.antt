-- No step of a recovery changes a plain value.
use Rattle.std.proofs.Common.{◌≡◌, inl, inr, ℕ, Option, Some, None, Result, Ok, Err, IfOk, OnErr, refl, ap}
use Rattle.pcj_table.specs.declared.error.TableError.{TableError}
use Rattle.pcj_table.specs.declared.mutated.Mutated.TheVariants.{Applied}
use Rattle.pcj_table.specs.Table.{Key, Table, row_at}
use Rattle.pcj_mvcc.specs.Acts.{roll_forward_act, roll_back_act}
use Rattle.pcj_mvcc.proofs.Laws.{carried_plain}
use Rattle.pcj_recover.specs.declared.event.RecoveryEvent.{RecoveryEvent}
use Rattle.pcj_recover.specs.declared.event.RecoveryEvent.TheVariants.{Working, RolledForward, RolledBack}
use Rattle.pcj_recover.specs.Progress.{Progress}
use Rattle.pcj_recover.specs.Steps.{Drops, Steps, KeepPlain}

same_plain : (old new : Table) → new ≡ old → KeepPlain old new
same_plain old new same key = ap (λ (t : Table). (row_at t key).plain) same

drops_plain : (primary : Key) (start : ℕ) (table : Table) (commit : Option ℕ) (table' : Table) → Drops primary start table commit table' → KeepPlain table table'
drops_plain primary start table commit table' (inl dropped) = carried_plain table table' primary (roll_back_act start) Applied (λ row. refl) (dropped.0.allowed, dropped.0.acts)
drops_plain primary start table commit table' (inr found) = same_plain table table' found.0.same

step_plain : (old : Progress) (table : Table) (event : RecoveryEvent) (new : Progress) (table' : Table) → Steps old table event new table' → KeepPlain table table'
step_plain old table Working new table' (inl reads) = same_plain table table' reads.same
step_plain old table Working new table' (inr drops) = drops_plain _ _ table drops.commit table' drops.drops
step_plain old table RolledForward new table' (inl rolls, same) = carried_plain table table' old.recovery.key (roll_forward_act old.recovery.lock rolls.commit) rolls.done (λ row. refl) rolls.carried
step_plain old table RolledForward new table' (inr (commit, drops), same) = drops_plain _ _ table (Some commit) table' drops.drops
step_plain old table RolledBack new table' (inl rolls, same) = carried_plain table table' old.recovery.key (roll_back_act old.recovery.lock.start) rolls.done (λ row. refl) rolls.carried
step_plain old table RolledBack new table' (inr drops, same) = drops_plain _ _ table None table' drops.drops

-- whatever came of the step
pub plain_stays : (old new : Progress) (table table' : Table) (result : Result RecoveryEvent TableError) → IfOk result (λ event. Steps old table event new table') → OnErr result (table' ≡ table) → KeepPlain table table'
plain_stays old new table table' (Ok event) steps same = step_plain old table event new table' steps
plain_stays old new table table' (Err cause) steps same = same_plain table table' same
