-- Acts on rows, before a choice and after it.
use Rattle.std.proofs.Common.{◌≡◌, ◌≢◌, inl, inr, ℕ, true, false, is_some, List, ◌∷◌, Option, Some, None, refl, ap, sym, subst, ◌∙◌}
use Rattle.pcj_table.specs.Row.{updated, updated_all}
use Rattle.pcj_table.specs.Table.{Key}
use Rattle.pcj_table.specs.declared.lock.Lock.{Lock}
use Rattle.pcj_table.specs.declared.plain.Plain.{Plain}
use Rattle.pcj_table.specs.declared.row.Row.{Row}
use Rattle.pcj_table.specs.declared.update.Update.TheVariants.{SetPlain}
use Rattle.pcj_mvcc.proofs.Choices.{under_put}
use Rattle.pcj_mvcc.proofs.Rows.{put_other, put_same, rows_alike}
use Rattle.pcj_mvcc.specs.Acts.{commit_act, prewrite_act, roll_back_act, roll_forward_act}
use Rattle.pcj_mvcc.specs.Choices.{Choice, committed_row, under, with_commit}
use Rattle.pcj_mvcc.specs.Reading.{Rows, acted, allows, put}
use Rattle.pcj_mvcc.specs.declared.act.Act.{Act}
use Rattle.pcj_moves.specs.Traces.{lock_from, traces}
use Rattle.pcj_moves.specs.Transactions.{primary_of}
use Rattle.pcj_moves.specs.Actors.{Actor}
use Rattle.pcj_moves.specs.ChoiceLaws.{IsRipeAt}
use Rattle.pcj_moves.specs.Moves.{CommitNothing, CommitPrimary, CommitSecondary, Draw, DropPrimary, EndRecovery, IsAllowed, Learn, Meet, Plan, Prewrite, Read, RollBack, RollForward, WritePlain, rows_after}
use Rattle.pcj_moves.specs.StepLaws.{Unlocks}
use Rattle.pcj_moves.proofs.ChoiceLemmas.{prewrite_ripe, unlock_ripe}
use Rattle.pcj_moves.proofs.ConsistencyLemmas.{its_next, its_recovery, its_write}
use Rattle.pcj_moves.proofs.StepLemmas.{recovery_drops_primary, recovery_rolls_back, recovery_rolls_forward, secondary_unlocks}
use Rattle.pcj_choices.specs.UnderChoice.{IsMaybeCommitted}
use Rattle.pcj_choices.specs.ChoiceLaws.{ActsLeaveRipe, ActsUnderChoice}
use Rattle.pcj_choices.proofs.CommitLemmas.{by_key}

-- ---- a row that a choice leaves out

pub row_under : (choice : Choice) (rows : Rows) (key : Key) → choice key ≡ None → under choice rows key ≡ rows key
row_under choice rows key none = ap (λ c. with_commit c (rows key)) none

-- an act there may come before the choice or after it
pub act_under : (choice : Choice) (rows : Rows) (key : Key) (act : Act) → choice key ≡ None → under choice (acted rows key act) ≡ acted (under choice rows) key act
act_under choice rows key act none =
    under_put choice rows key (updated_all (rows key) act.updates) none
    ∙ ap (λ r. put (under choice rows) key (updated_all r act.updates)) (sym (row_under choice rows key none))

allowed_under : (choice : Choice) (rows : Rows) (key : Key) (act : Act) → choice key ≡ None → allows act (rows key) ≡ true → allows act (under choice rows key) ≡ true
allowed_under choice rows key act none allowed = ap (allows act) (row_under choice rows key none) ∙ allowed

-- what an actor has beside its transaction is as it was
same_recovery : (rows : Rows) (actor mover : Actor) → IsMaybeCommitted rows actor mover → mover.recovery ≡ actor.recovery
same_recovery rows actor mover (inl same) = ap (λ (a : Actor). a.recovery) same
same_recovery rows actor mover (inr committed) = ap (λ (a : Actor). a.recovery) committed.2

-- an actor that has drawn no commit is as it was, and so is one whose transaction is committed
pub undrawn_is_same : (rows : Rows) (actor mover : Actor) → actor.transaction.commit ≡ None → IsMaybeCommitted rows actor mover → mover ≡ actor
undrawn_is_same rows actor mover undrawn (inl same) = same
undrawn_is_same rows actor mover undrawn (inr committed) = absurd (let drawn = committed.1.drawn in cc)

done_is_same : (rows : Rows) (actor mover : Actor) → actor.transaction.committed ≡ true → IsMaybeCommitted rows actor mover → mover ≡ actor
done_is_same rows actor mover done (inl same) = same
done_is_same rows actor mover done (inr committed) = absurd (let undone = committed.1.undone in cc)

-- ---- acts

pub acts_under_choice : ActsUnderChoice
acts_under_choice number rows actor mover choice (Prewrite write) key is may none maybe =
    let here : choice write.key ≡ None = (let same : write.key ≡ key = cc in ap choice same ∙ none) in
    let same = undrawn_is_same rows actor mover may.undrawn maybe in (
      subst (λ a. IsAllowed (Prewrite write) number (under choice rows) a) (sym same) (record {
        next = may.next;
        undrawn = may.undrawn;
        allowed = allowed_under choice rows write.key (prewrite_act write actor.start (primary_of actor.transaction)) here may.allowed;
      }),
      act_under choice rows write.key (prewrite_act write actor.start (primary_of actor.transaction)) here ∙ ap (λ a. rows_after (Prewrite write) a (under choice rows)) (sym same),
    )
acts_under_choice number rows actor mover choice (CommitSecondary write commit) key is may none maybe =
    let here : choice write.key ≡ None = (let same : write.key ≡ key = cc in ap choice same ∙ none) in
    let same = done_is_same rows actor mover may.done maybe in (
      subst (λ a. IsAllowed (CommitSecondary write commit) number (under choice rows) a) (sym same) (record {
        place = may.place;
        written = may.written;
        drawn = may.drawn;
        done = may.done;
        allowed = allowed_under choice rows write.key (commit_act write actor.start commit) here may.allowed;
      }),
      act_under choice rows write.key (commit_act write actor.start commit) here ∙ ap (λ a. rows_after (CommitSecondary write commit) a (under choice rows)) (sym same),
    )
acts_under_choice number rows actor mover choice (DropPrimary recovery) key is may none maybe =
    let here : choice recovery.lock.primary ≡ None = (let same : recovery.lock.primary ≡ key = cc in ap choice same ∙ none) in (
      (same_recovery rows actor mover maybe ∙ may.0, allowed_under choice rows recovery.lock.primary (roll_back_act recovery.lock.start) here may.1),
      act_under choice rows recovery.lock.primary (roll_back_act recovery.lock.start) here,
    )
acts_under_choice number rows actor mover choice (RollBack recovery) key is may none maybe =
    let here : choice recovery.key ≡ None = (let same : recovery.key ≡ key = cc in ap choice same ∙ none) in (
      (same_recovery rows actor mover maybe ∙ may.0, may.1, allowed_under choice rows recovery.key (roll_back_act recovery.lock.start) here may.2),
      act_under choice rows recovery.key (roll_back_act recovery.lock.start) here,
    )
acts_under_choice number rows actor mover choice (RollForward recovery commit) key is may none maybe =
    let here : choice recovery.key ≡ None = (let same : recovery.key ≡ key = cc in ap choice same ∙ none) in (
      (same_recovery rows actor mover maybe ∙ may.0, may.1, allowed_under choice rows recovery.key (roll_forward_act recovery.lock commit) here may.2),
      act_under choice rows recovery.key (roll_forward_act recovery.lock commit) here,
    )
acts_under_choice number rows actor mover choice (Plan writes) key is may none maybe = absurd cc
acts_under_choice number rows actor mover choice (Draw commit) key is may none maybe = absurd cc
acts_under_choice number rows actor mover choice (CommitPrimary write commit) key is may none maybe = absurd cc
acts_under_choice number rows actor mover choice (CommitNothing commit) key is may none maybe = absurd cc
acts_under_choice number rows actor mover choice (Read answer) key is may none maybe = absurd cc
acts_under_choice number rows actor mover choice (Meet met lock) key is may none maybe = absurd cc
acts_under_choice number rows actor mover choice (Learn recovery) key is may none maybe = absurd cc
acts_under_choice number rows actor mover choice EndRecovery key is may none maybe = absurd cc
acts_under_choice number rows actor mover choice (WritePlain at plain) key is may none maybe = absurd cc

-- ---- what may be committed next

-- a row without a lock is no primary of a transaction that may be committed
not_ripe : (rows : Rows) (actors : List Actor) (key other : Key) (commit : ℕ) → (rows key).lock ≡ None → IsRipeAt rows actors other commit → other ≢ key
not_ripe rows actors key other commit free ripes same =
    let clash : false ≡ true = ap (λ l. is_some (lock_from ripes.0.start l)) (sym free) ∙ ap (λ k. is_some (traces ripes.0.start rows k).lock) (sym same ∙ sym ripes.2) ∙ ripes.3.locked in cc

unlocked_ripe : (start : ℕ) (before after : Rows) (actors : List Actor) (key : Key) → Unlocks start before after → (after key).lock ≡ None → (other : Key) (commit : ℕ) →
    IsRipeAt after actors other commit → IsRipeAt before actors other commit × (other ≢ key)
unlocked_ripe start before after actors key unlocks free other commit ripes = ((unlock_ripe start before after actors unlocks other commit ripes).0, not_ripe after actors key other commit free ripes)

pub acts_leave_ripe : ActsLeaveRipe
acts_leave_ripe number rows actor others (Prewrite write) key is may consistent other commit ripes =
    let same : write.key ≡ key = cc in
    subst (λ k. IsRipeAt rows (actor ∷ others) other commit × (other ≢ k)) same
    (prewrite_ripe rows actor others write consistent.times (its_next rows actor write consistent.sound.0 may) may.allowed consistent.sound other commit ripes)
acts_leave_ripe number rows actor others (CommitSecondary write drawn) key is may consistent other commit ripes =
    let same : write.key ≡ key = cc in
    subst (λ k. IsRipeAt rows (actor ∷ others) other commit × (other ≢ k)) same
    (unlocked_ripe actor.start rows _ (actor ∷ others) write.key
    (secondary_unlocks rows actor.start actor.transaction write drawn consistent.times consistent.sound.0.transacts may.done may.drawn (its_write rows actor write drawn consistent.sound.0 may) may.allowed)
    (ap (λ (r : Row). r.lock) (put_same rows write.key _)) other commit ripes)
acts_leave_ripe number rows actor others (DropPrimary recovery) key is may consistent other commit ripes =
    let same : recovery.lock.primary ≡ key = cc in
    subst (λ k. IsRipeAt rows (actor ∷ others) other commit × (other ≢ k)) same
    (unlocked_ripe recovery.lock.start rows _ (actor ∷ others) recovery.lock.primary
    (recovery_drops_primary rows recovery consistent.times (its_recovery rows actor recovery consistent.sound.0 may.0).0 may.1)
    (ap (λ (r : Row). r.lock) (put_same rows recovery.lock.primary _)) other commit ripes)
acts_leave_ripe number rows actor others (RollBack recovery) key is may consistent other commit ripes =
    let same : recovery.key ≡ key = cc in
    subst (λ k. IsRipeAt rows (actor ∷ others) other commit × (other ≢ k)) same
    (unlocked_ripe recovery.lock.start rows _ (actor ∷ others) recovery.key
    (recovery_rolls_back rows recovery consistent.times (its_recovery rows actor recovery consistent.sound.0 may.0).0 may.1 may.2)
    (ap (λ (r : Row). r.lock) (put_same rows recovery.key _)) other commit ripes)
acts_leave_ripe number rows actor others (RollForward recovery drawn) key is may consistent other commit ripes =
    let same : recovery.key ≡ key = cc in
    subst (λ k. IsRipeAt rows (actor ∷ others) other commit × (other ≢ k)) same
    (unlocked_ripe recovery.lock.start rows _ (actor ∷ others) recovery.key
    (recovery_rolls_forward rows recovery drawn consistent.times (its_recovery rows actor recovery consistent.sound.0 may.0).0 may.1 may.2)
    (ap (λ (r : Row). r.lock) (put_same rows recovery.key _)) other commit ripes)
acts_leave_ripe number rows actor others (Plan writes) key is may consistent other commit ripes = absurd cc
acts_leave_ripe number rows actor others (Draw drawn) key is may consistent other commit ripes = absurd cc
acts_leave_ripe number rows actor others (CommitPrimary write drawn) key is may consistent other commit ripes = absurd cc
acts_leave_ripe number rows actor others (CommitNothing drawn) key is may consistent other commit ripes = absurd cc
acts_leave_ripe number rows actor others (Read answer) key is may consistent other commit ripes = absurd cc
acts_leave_ripe number rows actor others (Meet met lock) key is may consistent other commit ripes = absurd cc
acts_leave_ripe number rows actor others (Learn recovery) key is may consistent other commit ripes = absurd cc
acts_leave_ripe number rows actor others EndRecovery key is may consistent other commit ripes = absurd cc
acts_leave_ripe number rows actor others (WritePlain at plain) key is may consistent other commit ripes = absurd cc

-- ---- plain values

set_plain_committed : (lock : Option Lock) (commit : ℕ) (row : Row) (plain : Plain) → committed_row lock commit (updated row (SetPlain plain)) ≡ updated (committed_row lock commit row) (SetPlain plain)
set_plain_committed None commit row plain = refl
set_plain_committed (Some lock) commit row plain = refl

set_plain_under : (found : Option ℕ) (row : Row) (plain : Plain) → with_commit found (updated row (SetPlain plain)) ≡ updated (with_commit found row) (SetPlain plain)
set_plain_under None row plain = refl
set_plain_under (Some commit) row plain = set_plain_committed row.lock commit row plain

-- a plain value may be written before any choice or after it
pub plain_under : (choice : Choice) (rows : Rows) (key : Key) (plain : Plain) → under choice (put rows key (updated (rows key) (SetPlain plain))) ≡ put (under choice rows) key (updated (under choice rows key) (SetPlain plain))
plain_under choice rows key plain = rows_alike _ _ alike
  where
    alike : (other : Key) → under choice (put rows key (updated (rows key) (SetPlain plain))) other ≡ put (under choice rows) key (updated (under choice rows key) (SetPlain plain)) other
    alike other = by_key other key
        (λ same. rw same (ap (with_commit (choice key)) (put_same rows key _) ∙ set_plain_under (choice key) (rows key) plain ∙ sym (put_same (under choice rows) key _)))
        (λ differs. ap (with_commit (choice other)) (put_other rows key _ other differs) ∙ sym (put_other (under choice rows) key _ other differs))
