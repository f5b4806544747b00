-- Each step of a recovery is a move or two.
use Rattle.std.proofs.Common.{◌≡◌, ◌≢◌, ◌⊎◌, inl, inr, ℕ, Bool, true, false, cond, List, [], ◌∷◌, Option, Some, None, refl, ap, sym, ◌∙◌}
use Rattle.pcj_term.specs.Order.{same_bytes}
use Rattle.pcj_term.proofs.ByteLemmas.{same_bytes_itself}
use Rattle.pcj_table.specs.declared.mutated.Mutated.{Mutated}
use Rattle.pcj_table.specs.declared.mutated.Mutated.TheVariants.{Applied, Rejected}
use Rattle.pcj_table.specs.Row.{is_locked_at}
use Rattle.pcj_table.specs.Table.{Table, row_at}
use Rattle.pcj_mvcc.specs.Acts.{roll_back_act, roll_forward_act}
use Rattle.pcj_mvcc.specs.Reading.{commit_of, CarriesOut}
use Rattle.pcj_mvcc.specs.Times.{TimesInOrder}
use Rattle.pcj_moves.specs.Recoveries.{Recovery, with_known, told, told_by}
use Rattle.pcj_moves.specs.Actors.{Actor, with_recovery}
use Rattle.pcj_moves.specs.Moves.{Move, Learn, DropPrimary, RollBack, RollForward, Makes}
use Rattle.pcj_moves.proofs.GoOnLemmas.{drop_tells}
use Rattle.pcj_recover.specs.declared.event.RecoveryEvent.TheVariants.{Working, RolledForward, RolledBack}
use Rattle.pcj_recover.specs.Progress as due
use Rattle.pcj_recover.specs.Progress.{Progress, due_other, known_of, primary_of, primary_seen}
use Rattle.pcj_recover.specs.Steps as steps
use Rattle.pcj_actor.specs.StepLaws.{recovery_progress, AreRecoveryMoves, RecoveryStepsAreMoves}

-- ---- what is due

-- a step that isn't the drop of the row's own lock, by what is known
due_apart : (old : Recovery) (locked : Bool) (next : due.Due) → due.due (recovery_progress old locked) ≡ next → next ≢ due.DropOwn → (old.key ≢ old.lock.primary) × (due_other old.known locked ≡ next)
due_apart old locked next is other = by (same_bytes old.key old.lock.primary) refl
  where
    by : (b : Bool) → same_bytes old.key old.lock.primary ≡ b → (old.key ≢ old.lock.primary) × (due_other old.known locked ≡ next)
    by true e = absurd (other (sym is ∙ ap (λ b. cond b due.DropOwn (due_other old.known locked)) e))
    by false e = (
      λ same. let clash : true ≡ false = sym (same_bytes_itself old.key) ∙ ap (same_bytes old.key) same ∙ e in cc,
      ap (λ b. cond b due.DropOwn (due_other old.known locked)) (sym e) ∙ is,
    )

forward_known : (known : Option (Option ℕ)) (locked : Bool) (commit : ℕ) → due_other known locked ≡ due.RollForward commit → known ≡ Some (Some commit)
forward_known None true commit e = absurd cc
forward_known None false commit e = absurd cc
forward_known (Some None) locked commit e = absurd cc
forward_known (Some (Some c)) locked commit e = cc

back_known : (known : Option (Option ℕ)) (locked : Bool) → due_other known locked ≡ due.RollBack → known ≡ Some None
back_known None true e = absurd cc
back_known None false e = absurd cc
back_known (Some None) locked e = refl
back_known (Some (Some c)) locked e = absurd cc

-- ---- what is learnt

seen_is_told : (commit : Option ℕ) (locked : Bool) → known_of (primary_seen commit locked) ≡ told_by commit locked
seen_is_told None true = refl
seen_is_told None false = refl
seen_is_told (Some c) locked = refl

gone_is_told : (commit : Option ℕ) → known_of (primary_of commit) ≡ told_by commit false
gone_is_told None = refl
gone_is_told (Some c) = refl

-- an actor whose recovery knows this
knows : (actor : Actor) (old : Recovery) (locked : Bool) (new : Progress) (primary : _) (known : Option (Option ℕ)) → new ≡ due.with_primary (recovery_progress old locked) primary → known_of primary ≡ known →
    with_recovery actor (Some new.recovery) ≡ with_recovery actor (Some (with_known old known))
knows actor old locked new primary known is same = ap (λ (p : Progress). with_recovery actor (Some p.recovery)) is ∙ ap (λ k. with_recovery actor (Some (with_known old k))) same

itself : (actor : Actor) (old : Recovery) (locked : Bool) (new : Progress) → actor.recovery ≡ Some old → new ≡ recovery_progress old locked → with_recovery actor (Some new.recovery) ≡ actor
itself actor old locked new mine same = ap (λ (p : Progress). with_recovery actor (Some p.recovery)) same ∙ ap (with_recovery actor) (sym mine)

-- ---- steps

works : (number : ℕ) (actor : Actor) (old : Recovery) (locked : Bool) (new : Progress) (table table' : Table) → actor.recovery ≡ Some old → TimesInOrder (row_at table) →
    steps.ReadsPrimary (recovery_progress old locked) table new table' ⊎ steps.DropsPrimary (recovery_progress old locked) table new table' →
    (moves : List Move) × AreRecoveryMoves old Working moves × Makes moves number (row_at table) actor number (row_at table') (with_recovery actor (Some new.recovery))
works number actor old locked new table table' mine order (inl reads) =
    let apart = due_apart old locked due.ReadPrimary reads.due (λ e. cc) in (
      Learn old ∷ [],
      inl refl,
      (
        (mine, apart.0),
        (
          refl,
          ap row_at reads.same,
          knows actor old locked new _ (told old.lock.start (row_at table old.lock.primary)) reads.found
              (seen_is_told (commit_of old.lock.start (row_at table old.lock.primary).versions) (is_locked_at old.lock.start (row_at table old.lock.primary).lock)),
        ),
      ),
    )
works number actor old locked new table table' mine order (inr drops) = by drops.drops
  where
    apart : (old.key ≢ old.lock.primary) × (due_other old.known locked ≡ due.DropPrimary)
    apart = due_apart old locked due.DropPrimary drops.due (λ e. cc)

    by : steps.Drops old.lock.primary old.lock.start table drops.commit table' →
        (moves : List Move) × AreRecoveryMoves old Working moves × Makes moves number (row_at table) actor number (row_at table') (with_recovery actor (Some new.recovery))
    by (inl dropped) = (
      DropPrimary old ∷ Learn old ∷ [],
      inr refl,
      (
        (mine, (dropped.0).allowed),
        (
          (mine, apart.0),
          (
            refl,
            (dropped.0).acts,
            knows actor old locked new _ _ drops.found (ap (λ c. known_of (primary_of c)) dropped.1 ∙ sym (drop_tells (row_at table) old.lock.primary old.lock.start order (dropped.0).allowed)),
          ),
        ),
      ),
    )
    by (inr gone) = (
      Learn old ∷ [],
      inl refl,
      (
        (mine, apart.0),
        (
          refl,
          ap row_at (gone.0).same,
          knows actor old locked new _ (told old.lock.start (row_at table old.lock.primary)) drops.found
              (ap (λ c. known_of (primary_of c)) gone.1 ∙ gone_is_told (commit_of old.lock.start (row_at table old.lock.primary).versions)
              ∙ ap (told_by (commit_of old.lock.start (row_at table old.lock.primary).versions)) (sym (gone.0).unlocked)),
        ),
      ),
    )

rolls_forward : (number : ℕ) (actor : Actor) (old : Recovery) (locked : Bool) (new : Progress) (table table' : Table) → actor.recovery ≡ Some old → new ≡ recovery_progress old locked →
    steps.RollsForward (recovery_progress old locked) table table' ⊎ ((commit : ℕ) × steps.DropsOwn (recovery_progress old locked) table (Some commit) table') →
    (moves : List Move) × AreRecoveryMoves old RolledForward moves × Makes moves number (row_at table) actor number (row_at table') (with_recovery actor (Some new.recovery))
rolls_forward number actor old locked new table table' mine same (inl rolls) = by rolls.done rolls.carried
  where
    known : old.known ≡ Some (Some rolls.commit)
    known = forward_known old.known locked rolls.commit (due_apart old locked (due.RollForward rolls.commit) rolls.due (λ e. cc)).1

    by : (done : Mutated) → CarriesOut table old.key (roll_forward_act old.lock rolls.commit) done table' →
        (moves : List Move) × AreRecoveryMoves old RolledForward moves × Makes moves number (row_at table) actor number (row_at table') (with_recovery actor (Some new.recovery))
    by Applied made = (RollForward old rolls.commit ∷ [], inr (rolls.commit, refl), ((mine, known, made.0), (refl, made.1, itself actor old locked new mine same)))
    by (Rejected row) left = ([], inl refl, (refl, ap row_at left.2, itself actor old locked new mine same))
rolls_forward number actor old locked new table table' mine same (inr own) = by (own.1).drops
  where
    by : steps.Drops old.lock.primary old.lock.start table (Some own.0) table' →
        (moves : List Move) × AreRecoveryMoves old RolledForward moves × Makes moves number (row_at table) actor number (row_at table') (with_recovery actor (Some new.recovery))
    by (inl dropped) = absurd (let clash = dropped.1 in cc)
    by (inr gone) = ([], inl refl, (refl, ap row_at (gone.0).same, itself actor old locked new mine same))

rolls_back : (number : ℕ) (actor : Actor) (old : Recovery) (locked : Bool) (new : Progress) (table table' : Table) → actor.recovery ≡ Some old → new ≡ recovery_progress old locked →
    steps.RollsBack (recovery_progress old locked) table table' ⊎ steps.DropsOwn (recovery_progress old locked) table None table' →
    (moves : List Move) × AreRecoveryMoves old RolledBack moves × Makes moves number (row_at table) actor number (row_at table') (with_recovery actor (Some new.recovery))
rolls_back number actor old locked new table table' mine same (inl rolls) = by rolls.done rolls.carried
  where
    known : old.known ≡ Some None
    known = back_known old.known locked (due_apart old locked due.RollBack rolls.due (λ e. cc)).1

    by : (done : Mutated) → CarriesOut table old.key (roll_back_act old.lock.start) done table' →
        (moves : List Move) × AreRecoveryMoves old RolledBack moves × Makes moves number (row_at table) actor number (row_at table') (with_recovery actor (Some new.recovery))
    by Applied made = (RollBack old ∷ [], inr (inl refl), ((mine, known, made.0), (refl, made.1, itself actor old locked new mine same)))
    by (Rejected row) left = ([], inl refl, (refl, ap row_at left.2, itself actor old locked new mine same))
rolls_back number actor old locked new table table' mine same (inr own) = by own.drops
  where
    by : steps.Drops old.lock.primary old.lock.start table None table' →
        (moves : List Move) × AreRecoveryMoves old RolledBack moves × Makes moves number (row_at table) actor number (row_at table') (with_recovery actor (Some new.recovery))
    by (inl dropped) = (DropPrimary old ∷ [], inr (inr refl), ((mine, (dropped.0).allowed), (refl, (dropped.0).acts, itself actor old locked new mine same)))
    by (inr gone) = ([], inl refl, (refl, ap row_at (gone.0).same, itself actor old locked new mine same))

pub recovery_steps_are_moves : RecoveryStepsAreMoves
recovery_steps_are_moves number actor old locked new table table' Working mine order steps = works number actor old locked new table table' mine order steps
recovery_steps_are_moves number actor old locked new table table' RolledForward mine order steps = rolls_forward number actor old locked new table table' mine steps.1 steps.0
recovery_steps_are_moves number actor old locked new table table' RolledBack mine order steps = rolls_back number actor old locked new table table' mine steps.1 steps.0
