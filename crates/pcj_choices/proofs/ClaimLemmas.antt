-- Claims on rows, under each choice: what every other move keeps, and the last commit too, is kept under each.
use Rattle.std.proofs.Common.{◌≡◌, ◌≢◌, ◌⊎◌, inl, inr, ℕ, zero, suc, true, false, is_some, List, [], ◌∷◌, ◌++◌, Option, Some, None, refl, ap, sym, subst, ◌∙◌, arith}
use Rattle.std.proofs.lemmas.List.Elements.{Contains-append_cases, Contains-append_left, Contains-append_right}
use Rattle.std.specs.List.{Contains, slice_get}
use Rattle.pcj_table.specs.Row.{updated}
use Rattle.pcj_table.specs.Table.{Key}
use Rattle.pcj_table.specs.declared.lock.Lock.{Lock}
use Rattle.pcj_table.specs.declared.plain.Plain.{Plain}
use Rattle.pcj_table.specs.declared.row.Row.{Row}
use Rattle.pcj_table.specs.declared.update.Update.TheVariants.{SetPlain}
use Rattle.pcj_table.specs.declared.version.Version.{Version}
use Rattle.pcj_table.specs.declared.write.Write.{Write}
use Rattle.pcj_mvcc.proofs.Choices.{UnderEach, not_chosen, under_commit, under_draw}
use Rattle.pcj_mvcc.specs.Acts.{commit_act, lock_of, roll_forward_act}
use Rattle.pcj_mvcc.specs.Choices.{Choice, IsChoice, under}
use Rattle.pcj_mvcc.specs.Choices as choices
use Rattle.pcj_mvcc.specs.Reading.{Rows, SameReading, acted, allows, put, versions_read}
use Rattle.pcj_moves.specs.Traces.{Trace, traces}
use Rattle.pcj_moves.specs.declared.answer.Answer.{Answer}
use Rattle.pcj_moves.specs.Transactions.{IsRipe, as_committed, first_key, new_transaction, primary_of, with_commit}
use Rattle.pcj_moves.specs.Actors.{Actor, new_actor, with_answer, with_recovery, with_transaction}
use Rattle.pcj_moves.specs.ChoiceLaws.{IsRipeAt, RipeByDraw}
use Rattle.pcj_moves.specs.Moves.{CommitNothing, CommitPrimary, CommitSecondary, Draw, DropPrimary, EndRecovery, IsAllowed, IsConsistent, Learn, Makes, MayCommitPrimary, MayDraw, Meet, Move, Plan, Prewrite, Read, RollBack, RollForward, WritePlain, actor_after, number_after, rows_after}
use Rattle.pcj_moves.specs.StandingLaws.{Changes}
use Rattle.pcj_moves.proofs.ActorLemmas.{either_actor}
use Rattle.pcj_moves.proofs.ChoiceLemmas.{draw_ripe, primary_ripe}
use Rattle.pcj_moves.proofs.ConsistencyLemmas.{its_first, move_is_consistent}
use Rattle.pcj_moves.proofs.OtherLemmas.{lock_is}
use Rattle.pcj_moves.proofs.StandingLemmas.{one_move_changes}
use Rattle.pcj_moves.proofs.StepLemmas.{at_primary}
use Rattle.pcj_moves.proofs.TraceLemmas.{row_stays}
use Rattle.pcj_moves.proofs.WriteLemmas.{undrawn_is_undone}
use Rattle.pcj_choices.specs.UnderChoice.{IsMaybeCommitted, StandsUnder, acts_on, is_primary_commit, is_steady}
use Rattle.pcj_choices.specs.ChoiceLaws.{IsLast, PassesLast, TestsStayPassed}
use Rattle.pcj_choices.proofs.CommitLemmas.{HasPrimary, choices_stand, has_primary}
use Rattle.pcj_choices.proofs.ActLemmas.{acts_leave_ripe, acts_under_choice, plain_under, row_under, undrawn_is_same}

-- what an actor has to write, by its start and what it has read
abbrev pub Purpose : Type 1
Purpose = ℕ → List Answer → List Write → Type 0

abbrev pub Has : Purpose → Actor → Type 0
Has P actor = P actor.start actor.answers actor.transaction.writes

-- which plain values may be written: by the actor's start, what it has read, and what the row has
abbrev pub Plains : Type 1
Plains = ℕ → List Answer → Option Plain → Key → Plain → Type 0

abbrev pub WritesOnly : Plains → Rows → Actor → Move → Type 0
WritesOnly Q rows actor (WritePlain key plain) = Q actor.start actor.answers (rows key).plain key plain
WritesOnly Q rows actor _ = Unit {0}

-- those that any actor may write, whatever the row has
abbrev pub WritesAlways : Plains → Move → Type 0
WritesAlways Q (WritePlain key plain) = (start : ℕ) (answers : List Answer) (old : Option Plain) → Q start answers old key plain
WritesAlways Q _ = Unit {0}

pub always_only : (Q : Plains) (rows : Rows) (actor : Actor) (move : Move) → WritesAlways Q move → WritesOnly Q rows actor move
always_only Q rows actor (Plan writes) is = tt
always_only Q rows actor (Prewrite write) is = tt
always_only Q rows actor (Draw commit) is = tt
always_only Q rows actor (CommitPrimary write commit) is = tt
always_only Q rows actor (CommitSecondary write commit) is = tt
always_only Q rows actor (CommitNothing commit) is = tt
always_only Q rows actor (Read answer) is = tt
always_only Q rows actor (Meet key lock) is = tt
always_only Q rows actor (Learn recovery) is = tt
always_only Q rows actor (DropPrimary recovery) is = tt
always_only Q rows actor (RollBack recovery) is = tt
always_only Q rows actor (RollForward recovery commit) is = tt
always_only Q rows actor EndRecovery is = tt
always_only Q rows actor (WritePlain key plain) is = is actor.start actor.answers (rows key).plain

-- A claim on the oracle's next number and rows: every move but the commit of a primary keeps it, and so does a commit above
-- all numbers in the rows, whoever the others are.
pub record IsKept (F : ℕ → Rows → Type 0) (P : Purpose) (Q : Plains) : Type 0 where
  pub others : (number : ℕ) (rows : Rows) (actor : Actor) (others : List Actor) (move : Move) → is_primary_commit move ≡ false → Has P actor →
      IsConsistent (record { number = number; rows = rows; actors = actor ∷ others }) → IsAllowed move number rows actor → WritesOnly Q rows actor move → F number rows → F (number_after move number) (rows_after move actor rows)
  pub last : (number : ℕ) (rows : Rows) (actor : Actor) (others : List Actor) (write : Write) (commit : ℕ) → Has P actor → IsLast number rows actor others write commit →
      F number rows → F (suc commit) (acted rows write.key (commit_act write actor.start commit))

-- ---- what may be committed next

first_is_there : (actor : Actor) (others : List Actor) → Contains (actor ∷ others) actor
first_is_there actor others = (zero, omega arith, refl)

-- an actor that is at a place in the same rows
ripe_before : (rows : Rows) (actor mover : Actor) (others : List Actor) →
    ((commit : ℕ) → IsRipe mover.start mover.transaction (traces mover.start rows) commit → (primary_of actor.transaction ≡ primary_of mover.transaction) × IsRipe actor.start actor.transaction (traces actor.start rows) commit) →
    (key : Key) (commit : ℕ) → IsRipeAt rows (mover ∷ others) key commit → IsRipeAt rows (actor ∷ others) key commit
ripe_before rows actor mover others was key commit ripes = by (either_actor mover ripes.0 others ripes.1)
  where
    by : (mover ≡ ripes.0) ⊎ Contains others ripes.0 → IsRipeAt rows (actor ∷ others) key commit
    by (inl same) =
        let before = was commit (subst (λ (a : Actor). IsRipe a.start a.transaction (traces a.start rows) commit) (sym same) ripes.3) in
        (actor, first_is_there actor others, before.0 ∙ ap (λ (a : Actor). primary_of a.transaction) same ∙ ripes.2, before.1)
    by (inr there) = (ripes.0, Contains-append_right (actor ∷ []) others ripes.0 there, ripes.2, ripes.3)

fewer : (F : Rows → Type 0) (old new : Key → ℕ → Type 0) (rows : Rows) → ((key : Key) (commit : ℕ) → new key commit → old key commit) → UnderEach F old rows → UnderEach F new rows
fewer F old new rows was each choice chosen = each choice (λ key commit e. was key commit (chosen key commit e))

-- ---- the state under a choice

mover_has : (P : Purpose) (rows : Rows) (actor mover : Actor) → Has P actor → IsMaybeCommitted rows actor mover → Has P mover
mover_has P rows actor mover has (inl same) = subst (Has P) (sym same) has
mover_has P rows actor mover has (inr committed) = subst (Has P) (sym committed.2) has

-- an act on a row of a transaction writes no plain value
acts_only : (Q : Plains) (rows : Rows) (actor : Actor) (move : Move) (key : Key) → acts_on move ≡ Some key → WritesOnly Q rows actor move
acts_only Q rows actor (Plan writes) key e = tt
acts_only Q rows actor (Prewrite write) key e = tt
acts_only Q rows actor (Draw commit) key e = tt
acts_only Q rows actor (CommitPrimary write commit) key e = tt
acts_only Q rows actor (CommitSecondary write commit) key e = tt
acts_only Q rows actor (CommitNothing commit) key e = tt
acts_only Q rows actor (Read answer) key e = tt
acts_only Q rows actor (Meet met lock) key e = tt
acts_only Q rows actor (Learn recovery) key e = tt
acts_only Q rows actor (DropPrimary recovery) key e = tt
acts_only Q rows actor (RollBack recovery) key e = tt
acts_only Q rows actor (RollForward recovery commit) key e = tt
acts_only Q rows actor EndRecovery key e = tt
acts_only Q rows actor (WritePlain at plain) key e = absurd cc

-- an act on a row
act_kept : (F : ℕ → Rows → Type 0) (P : Purpose) (Q : Plains) → IsKept F P Q → (number : ℕ) (rows : Rows) (actor : Actor) (others : List Actor) (move : Move) (key : Key) → acts_on move ≡ Some key → is_primary_commit move ≡ false →
    Has P actor → IsAllowed move number rows actor → IsConsistent (record { number = number; rows = rows; actors = actor ∷ others }) → UnderEach (F number) (IsRipeAt rows (actor ∷ others)) rows →
    UnderEach (F (number_after move number)) (IsRipeAt (rows_after move actor rows) (actor_after move rows actor ∷ others)) (rows_after move actor rows)
act_kept F P Q kept number rows actor others move key is other has may consistent each choice chosen =
    subst (F (number_after move number)) (sym act.1)
    (kept.others number (under choice rows) stands.mover stands.beside move other (mover_has P rows actor stands.mover has stands.is) stands.consistent act.0 (acts_only Q (under choice rows) stands.mover move key is) (each choice was))
  where
    leaves : (k : Key) (commit : ℕ) → IsRipeAt (rows_after move actor rows) (actor_after move rows actor ∷ others) k commit → IsRipeAt rows (actor ∷ others) k commit × (k ≢ key)
    leaves = acts_leave_ripe number rows actor others move key is may consistent

    free : choice key ≡ None
    free = not_chosen (IsRipeAt (rows_after move actor rows) (actor_after move rows actor ∷ others)) choice key chosen (λ commit ripes. (leaves key commit ripes).1 refl)

    was : IsChoice (IsRipeAt rows (actor ∷ others)) choice
    was = λ k commit e. (leaves k commit (chosen k commit e)).0

    stands : StandsUnder number rows actor choice
    stands = choices_stand number rows actor others choice consistent was

    act : IsAllowed move number (under choice rows) stands.mover × (under choice (rows_after move actor rows) ≡ rows_after move stands.mover (under choice rows))
    act = acts_under_choice number rows actor stands.mover choice move key is may free stands.is

-- a choice leaves the plain value of each row
pub plain_stays : (chosen : Option ℕ) (row : Row) → (choices.with_commit chosen row).plain ≡ row.plain
plain_stays None row = refl
plain_stays (Some commit) row = by row.lock
  where
    by : (lock : Option Lock) → (choices.committed_row lock commit row).plain ≡ row.plain
    by None = refl
    by (Some lock) = refl

mover_writes : (Q : Plains) (rows : Rows) (actor mover : Actor) (choice : Choice) (key : Key) (plain : Plain) → IsMaybeCommitted rows actor mover → Q actor.start actor.answers (rows key).plain key plain →
    Q mover.start mover.answers (under choice rows key).plain key plain
mover_writes Q rows actor mover choice key plain is held = by is (subst (λ old. Q actor.start actor.answers old key plain) (sym (plain_stays (choice key) (rows key))) held)
  where
    by : IsMaybeCommitted rows actor mover → Q actor.start actor.answers (under choice rows key).plain key plain → Q mover.start mover.answers (under choice rows key).plain key plain
    by (inl same) q = subst (λ (a : Actor). Q a.start a.answers (under choice rows key).plain key plain) (sym same) q
    by (inr committed) q = subst (λ (a : Actor). Q a.start a.answers (under choice rows key).plain key plain) (sym committed.2) q

-- a plain value
plain_kept : (F : ℕ → Rows → Type 0) (P : Purpose) (Q : Plains) → IsKept F P Q → (number : ℕ) (rows : Rows) (actor : Actor) (others : List Actor) (key : Key) (plain : Plain) → Has P actor → Q actor.start actor.answers (rows key).plain key plain →
    IsConsistent (record { number = number; rows = rows; actors = actor ∷ others }) → UnderEach (F number) (IsRipeAt rows (actor ∷ others)) rows →
    UnderEach (F number) (IsRipeAt (put rows key (updated (rows key) (SetPlain plain))) (actor ∷ others)) (put rows key (updated (rows key) (SetPlain plain)))
plain_kept F P Q kept number rows actor others key plain has plains consistent each choice chosen =
    subst (F number) (sym (plain_under choice rows key plain))
    (kept.others number (under choice rows) stands.mover stands.beside (WritePlain key plain) refl (mover_has P rows actor stands.mover has stands.is) stands.consistent tt (mover_writes Q rows actor stands.mover choice key plain stands.is plains) (each choice was))
  where
    was : IsChoice (IsRipeAt rows (actor ∷ others)) choice
    was k commit e =
        let ripes = chosen k commit e in
        let same = (row_stays rows key (updated (rows key) (SetPlain plain)) refl refl).traces_same ripes.0.start in
        (ripes.0, ripes.1, ripes.2, subst (λ at. IsRipe ripes.0.start ripes.0.transaction at commit) same ripes.3)

    stands : StandsUnder number rows actor choice
    stands = choices_stand number rows actor others choice consistent was

-- ---- a draw

-- the claim is one on the number too
drawn_number : (F : ℕ → Rows → Type 0) (P : Purpose) (Q : Plains) → IsKept F P Q → (number : ℕ) (rows : Rows) (actor : Actor) (others : List Actor) (commit : ℕ) → Has P actor → MayDraw number actor commit →
    IsConsistent (record { number = number; rows = rows; actors = actor ∷ others }) → UnderEach (F number) (IsRipeAt rows (actor ∷ others)) rows → UnderEach (F (suc commit)) (IsRipeAt rows (actor ∷ others)) rows
drawn_number F P Q kept number rows actor others commit has may consistent each choice chosen =
    let stands = choices_stand number rows actor others choice consistent chosen in
    let same = undrawn_is_same rows actor stands.mover may.undrawn stands.is in
    kept.others number (under choice rows) actor stands.beside (Draw commit) refl has
    (subst (λ a. IsConsistent (record { number = number; rows = under choice rows; actors = a ∷ stands.beside })) same stands.consistent) may tt (each choice chosen)

draw_kept : (F : ℕ → Rows → Type 0) (P : Purpose) (Q : Plains) → IsKept F P Q → (number : ℕ) (rows : Rows) (actor : Actor) (others : List Actor) (commit : ℕ) → Has P actor → MayDraw number actor commit →
    IsConsistent (record { number = number; rows = rows; actors = actor ∷ others }) → UnderEach (F number) (IsRipeAt rows (actor ∷ others)) rows →
    UnderEach (F (suc commit)) (IsRipeAt rows (with_transaction actor (with_commit actor.transaction commit) ∷ others)) rows
draw_kept F P Q kept number rows actor others commit has may consistent each = by (traces actor.start rows (primary_of actor.transaction)).lock refl
  where
    drawn : Actor
    drawn = with_transaction actor (with_commit actor.transaction commit)

    later : UnderEach (F (suc commit)) (IsRipeAt rows (actor ∷ others)) rows
    later = drawn_number F P Q kept number rows actor others commit has may consistent each

    locked : (lock : Lock) → (traces actor.start rows (primary_of actor.transaction)).lock ≡ Some lock → UnderEach (F (suc commit)) (IsRipeAt rows (drawn ∷ others)) rows
    locked lock e = under_draw (F (suc commit)) (IsRipeAt rows (actor ∷ others)) (IsRipeAt rows (drawn ∷ others)) rows its.write.key own commit more none its.locked keeps later
      where
        its : HasPrimary rows drawn commit
        its = has_primary (suc commit) rows drawn others commit (move_is_consistent number rows actor others (Draw commit) may consistent)
            (record { drawn = refl; undone = undrawn_is_undone actor.start actor.transaction (traces actor.start rows) consistent.sound.0.transacts may.undrawn; locked = ap is_some e })

        own : Lock
        own = lock_of its.write actor.start its.write.key

        primary : primary_of actor.transaction ≡ its.write.key
        primary = ap first_key its.writes

        ripes : RipeByDraw rows actor others commit
        ripes = draw_ripe rows actor others commit own consistent.times may.undrawn (ap (λ k. (rows k).lock) primary ∙ its.locked) refl consistent.sound

        more : (key : Key) (c : ℕ) → IsRipeAt rows (drawn ∷ others) key c → IsRipeAt rows (actor ∷ others) key c ⊎ ((key ≡ its.write.key) × (c ≡ commit))
        more key c ripe = or (ripes.more key c ripe)
          where
            or : IsRipeAt rows (actor ∷ others) key c ⊎ ((key ≡ primary_of actor.transaction) × (c ≡ commit)) → IsRipeAt rows (actor ∷ others) key c ⊎ ((key ≡ its.write.key) × (c ≡ commit))
            or (inl before) = inl before
            or (inr this) = inr (this.0 ∙ primary, this.1)

        none : (c : ℕ) → IsRipeAt rows (actor ∷ others) its.write.key c → ⊥
        none c ripe = ripes.none c (subst (λ k. IsRipeAt rows (actor ∷ others) k c) (sym primary) ripe)

        keeps : (choice : Choice) → IsChoice (IsRipeAt rows (actor ∷ others)) choice → choice its.write.key ≡ None → F (suc commit) (under choice rows) → F (suc commit) (acted (under choice rows) its.write.key (roll_forward_act own commit))
        keeps choice chosen free held =
            let stands = choices_stand number rows actor others choice consistent chosen in
            let same = undrawn_is_same rows actor stands.mover may.undrawn stands.is in
            kept.last number (under choice rows) actor stands.beside its.write commit has (record {
              consistent = subst (λ a. IsConsistent (record { number = number; rows = under choice rows; actors = a ∷ stands.beside })) same stands.consistent;
              draws = may;
              first = ap (λ ws. slice_get ws 0) its.writes;
              allowed = ap (allows (commit_act its.write actor.start commit)) (row_under choice rows its.write.key free) ∙ its.allowed;
            }) (each choice chosen)

    by : (found : Option Lock) → (traces actor.start rows (primary_of actor.transaction)).lock ≡ found → UnderEach (F (suc commit)) (IsRipeAt rows (drawn ∷ others)) rows
    by None e = fewer (F (suc commit)) (IsRipeAt rows (actor ∷ others)) (IsRipeAt rows (drawn ∷ others)) rows
        (ripe_before rows actor drawn others (λ c ripe. absurd (let clash : false ≡ true = ap is_some (sym e) ∙ ripe.locked in cc))) later
    by (Some lock) e = locked lock e

-- ---- the commit of a primary

primary_kept : (F : Rows → Type 0) (number : ℕ) (rows : Rows) (actor : Actor) (others : List Actor) (write : Write) (commit : ℕ) → MayCommitPrimary rows actor write commit →
    IsConsistent (record { number = number; rows = rows; actors = actor ∷ others }) → UnderEach F (IsRipeAt rows (actor ∷ others)) rows →
    UnderEach F (IsRipeAt (acted rows write.key (commit_act write actor.start commit)) (with_transaction actor (as_committed actor.transaction) ∷ others)) (acted rows write.key (commit_act write actor.start commit))
primary_kept F number rows actor others write commit may consistent each =
    let writes = its_first rows actor write commit may in
    let at = at_primary rows actor.start actor.transaction write writes.0 commit consistent.times consistent.sound.0.transacts writes.1 may.drawn may.undone may.allowed in
    let ripes = primary_ripe rows actor others write commit consistent.times may.allowed consistent.sound in
    under_commit F (IsRipeAt rows (actor ∷ others)) _ rows write.key (lock_of write actor.start write.key) commit
    (λ key c ripe. (ripes key c ripe).0) (λ c ripe. (ripes write.key c ripe).1 refl)
    (actor, first_is_there actor others, ap first_key writes.1, at.ripe)
    (lock_is (rows write.key).lock actor.start (lock_of write actor.start write.key) (ap (λ (t : Trace). t.lock) at.was)).0
    each

-- ---- every move

pub claim_is_kept : (F : ℕ → Rows → Type 0) (P : Purpose) (Q : Plains) → IsKept F P Q → (number : ℕ) (rows : Rows) (actor : Actor) (others : List Actor) (move : Move) → Has P actor → IsAllowed move number rows actor → WritesOnly Q rows actor move →
    IsConsistent (record { number = number; rows = rows; actors = actor ∷ others }) → UnderEach (F number) (IsRipeAt rows (actor ∷ others)) rows →
    UnderEach (F (number_after move number)) (IsRipeAt (rows_after move actor rows) (actor_after move rows actor ∷ others)) (rows_after move actor rows)
claim_is_kept F P Q kept number rows actor others (Plan writes) has may plains consistent each =
    fewer (F number) (IsRipeAt rows (actor ∷ others)) _ rows (ripe_before rows actor (with_transaction actor (new_transaction writes)) others (λ c ripe. absurd (let drawn = ripe.drawn in cc))) each
claim_is_kept F P Q kept number rows actor others (Prewrite write) has may plains consistent each = act_kept F P Q kept number rows actor others (Prewrite write) write.key refl refl has may consistent each
claim_is_kept F P Q kept number rows actor others (Draw commit) has may plains consistent each = draw_kept F P Q kept number rows actor others commit has may consistent each
claim_is_kept F P Q kept number rows actor others (CommitPrimary write commit) has may plains consistent each = primary_kept (F number) number rows actor others write commit may consistent each
claim_is_kept F P Q kept number rows actor others (CommitSecondary write commit) has may plains consistent each = act_kept F P Q kept number rows actor others (CommitSecondary write commit) write.key refl refl has may consistent each
claim_is_kept F P Q kept number rows actor others (CommitNothing commit) has may plains consistent each =
    fewer (F number) (IsRipeAt rows (actor ∷ others)) _ rows (ripe_before rows actor (with_transaction actor (as_committed actor.transaction)) others (λ c ripe. absurd (let undone = ripe.undone in cc))) each
claim_is_kept F P Q kept number rows actor others (Read answer) has may plains consistent each =
    fewer (F number) (IsRipeAt rows (actor ∷ others)) _ rows (ripe_before rows actor (with_answer actor answer) others (λ c ripe. (refl, ripe))) each
claim_is_kept F P Q kept number rows actor others (Meet key lock) has may plains consistent each =
    fewer (F number) (IsRipeAt rows (actor ∷ others)) _ rows (ripe_before rows actor (actor_after (Meet key lock) rows actor) others (λ c ripe. (refl, ripe))) each
claim_is_kept F P Q kept number rows actor others (Learn recovery) has may plains consistent each =
    fewer (F number) (IsRipeAt rows (actor ∷ others)) _ rows (ripe_before rows actor (actor_after (Learn recovery) rows actor) others (λ c ripe. (refl, ripe))) each
claim_is_kept F P Q kept number rows actor others (DropPrimary recovery) has may plains consistent each = act_kept F P Q kept number rows actor others (DropPrimary recovery) recovery.lock.primary refl refl has may consistent each
claim_is_kept F P Q kept number rows actor others (RollBack recovery) has may plains consistent each = act_kept F P Q kept number rows actor others (RollBack recovery) recovery.key refl refl has may consistent each
claim_is_kept F P Q kept number rows actor others (RollForward recovery commit) has may plains consistent each = act_kept F P Q kept number rows actor others (RollForward recovery commit) recovery.key refl refl has may consistent each
claim_is_kept F P Q kept number rows actor others EndRecovery has may plains consistent each =
    fewer (F number) (IsRipeAt rows (actor ∷ others)) _ rows (ripe_before rows actor (with_recovery actor None) others (λ c ripe. (refl, ripe))) each
claim_is_kept F P Q kept number rows actor others (WritePlain key plain) has may plains consistent each = plain_kept F P Q kept number rows actor others key plain has plains consistent each

-- ---- several moves, and other steps

-- what an actor has to write isn't changed by any move but its beginning, nor what it has read but by a read
pub steady_has : (P : Purpose) (move : Move) (rows : Rows) (actor : Actor) → is_steady move ≡ true → Has P actor → Has P (actor_after move rows actor)
steady_has P (Plan writes) rows actor steady has = absurd cc
steady_has P (Prewrite write) rows actor steady has = has
steady_has P (Draw commit) rows actor steady has = has
steady_has P (CommitPrimary write commit) rows actor steady has = has
steady_has P (CommitSecondary write commit) rows actor steady has = has
steady_has P (CommitNothing commit) rows actor steady has = has
steady_has P (Read answer) rows actor steady has = absurd cc
steady_has P (Meet key lock) rows actor steady has = has
steady_has P (Learn recovery) rows actor steady has = has
steady_has P (DropPrimary recovery) rows actor steady has = has
steady_has P (RollBack recovery) rows actor steady has = has
steady_has P (RollForward recovery commit) rows actor steady has = has
steady_has P EndRecovery rows actor steady has = has
steady_has P (WritePlain key plain) rows actor steady has = has

abbrev pub AreSteady : Plains → List Move → Type 0
AreSteady Q [] = Unit {0}
AreSteady Q (move ∷ moves) = (is_steady move ≡ true) × WritesAlways Q move × AreSteady Q moves

pub steady_keep : (P : Purpose) (Q : Plains) (moves : List Move) (number : ℕ) (rows : Rows) (actor : Actor) (number' : ℕ) (rows' : Rows) (actor' : Actor) → AreSteady Q moves → Makes moves number rows actor number' rows' actor' → Has P actor → Has P actor'
steady_keep P Q [] number rows actor number' rows' actor' steady makes has = subst (Has P) (sym makes.2) has
steady_keep P Q (move ∷ moves) number rows actor number' rows' actor' steady makes has =
    steady_keep P Q moves (number_after move number) (rows_after move actor rows) (actor_after move rows actor) number' rows' actor' steady.2 makes.1 (steady_has P move rows actor steady.0 has)

pub claims_are_kept : (F : ℕ → Rows → Type 0) (P : Purpose) (Q : Plains) → IsKept F P Q → (moves : List Move) (number : ℕ) (rows : Rows) (actor : Actor) (number' : ℕ) (rows' : Rows) (actor' : Actor) (others : List Actor) →
    AreSteady Q moves → Makes moves number rows actor number' rows' actor' → Has P actor →
    IsConsistent (record { number = number; rows = rows; actors = actor ∷ others }) → UnderEach (F number) (IsRipeAt rows (actor ∷ others)) rows → UnderEach (F number') (IsRipeAt rows' (actor' ∷ others)) rows'
claims_are_kept F P Q kept [] number rows actor number' rows' actor' others steady makes has consistent each =
    subst (λ n. UnderEach (F n) (IsRipeAt rows' (actor' ∷ others)) rows') (sym makes.0)
    (subst (λ r. UnderEach (F number) (IsRipeAt r (actor' ∷ others)) r) (sym makes.1)
    (subst (λ a. UnderEach (F number) (IsRipeAt rows (a ∷ others)) rows) (sym makes.2) each))
claims_are_kept F P Q kept (move ∷ moves) number rows actor number' rows' actor' others steady makes has consistent each =
    claims_are_kept F P Q kept moves (number_after move number) (rows_after move actor rows) (actor_after move rows actor) number' rows' actor' others steady.2 makes.1 (steady_has P move rows actor steady.0 has)
    (move_is_consistent number rows actor others move makes.0 consistent)
    (claim_is_kept F P Q kept number rows actor others move has makes.0 (always_only Q rows actor move steady.1) consistent each)

-- an actor begins
pub claim_begins : (F : Rows → Type 0) (rows : Rows) (start : ℕ) (actors : List Actor) → UnderEach F (IsRipeAt rows actors) rows → UnderEach F (IsRipeAt rows (new_actor start ∷ actors)) rows
claim_begins F rows start actors each = fewer F (IsRipeAt rows actors) _ rows was each
  where
    was : (key : Key) (commit : ℕ) → IsRipeAt rows (new_actor start ∷ actors) key commit → IsRipeAt rows actors key commit
    was key commit ripes = by (either_actor (new_actor start) ripes.0 actors ripes.1)
      where
        by : (new_actor start ≡ ripes.0) ⊎ Contains actors ripes.0 → IsRipeAt rows actors key commit
        by (inl same) = absurd (let drawn : None ≡ Some commit = ap (λ (a : Actor). a.transaction.commit) same ∙ ripes.3.drawn in cc)
        by (inr there) = (ripes.0, there, ripes.2, ripes.3)

-- one of the actors is looked at first, whichever it is, and may end there
in_any_order : (front : List Actor) (actor : Actor) (back : List Actor) (other : Actor) → Contains (front ++ (actor ∷ back)) other → Contains (actor ∷ (front ++ back)) other
in_any_order front actor back other contains = by (Contains-append_cases front (actor ∷ back) other contains)
  where
    by : Contains front other ⊎ Contains (actor ∷ back) other → Contains (actor ∷ (front ++ back)) other
    by (inl there) = Contains-append_right (actor ∷ []) (front ++ back) other (Contains-append_left front back other there)
    by (inr rest) = or (either_actor actor other back rest)
      where
        or : (actor ≡ other) ⊎ Contains back other → Contains (actor ∷ (front ++ back)) other
        or (inl same) = subst (Contains (actor ∷ (front ++ back))) same (first_is_there actor (front ++ back))
        or (inr there) = Contains-append_right (actor ∷ []) (front ++ back) other (Contains-append_right front back other there)

back_in_order : (front : List Actor) (actor : Actor) (back : List Actor) (other : Actor) → Contains (actor ∷ (front ++ back)) other → Contains (front ++ (actor ∷ back)) other
back_in_order front actor back other contains = by (either_actor actor other (front ++ back) contains)
  where
    by : (actor ≡ other) ⊎ Contains (front ++ back) other → Contains (front ++ (actor ∷ back)) other
    by (inl same) = subst (Contains (front ++ (actor ∷ back))) same (Contains-append_right front (actor ∷ back) actor (first_is_there actor back))
    by (inr rest) = or (Contains-append_cases front back other rest)
      where
        or : Contains front other ⊎ Contains back other → Contains (front ++ (actor ∷ back)) other
        or (inl there) = Contains-append_left front (actor ∷ back) other there
        or (inr there) = Contains-append_right front (actor ∷ back) other (Contains-append_right (actor ∷ []) back other there)

pub claim_first : (F : Rows → Type 0) (rows : Rows) (front : List Actor) (actor : Actor) (back : List Actor) → UnderEach F (IsRipeAt rows (front ++ (actor ∷ back))) rows → UnderEach F (IsRipeAt rows (actor ∷ (front ++ back))) rows
claim_first F rows front actor back = fewer F (IsRipeAt rows (front ++ (actor ∷ back))) _ rows (λ key commit ripes. (ripes.0, back_in_order front actor back ripes.0 ripes.1, ripes.2, ripes.3))

pub claim_goes_back : (F : Rows → Type 0) (rows : Rows) (front : List Actor) (actor : Actor) (back : List Actor) → UnderEach F (IsRipeAt rows (actor ∷ (front ++ back))) rows → UnderEach F (IsRipeAt rows (front ++ (actor ∷ back))) rows
claim_goes_back F rows front actor back = fewer F (IsRipeAt rows (actor ∷ (front ++ back))) _ rows (λ key commit ripes. (ripes.0, in_any_order front actor back ripes.0 ripes.1, ripes.2, ripes.3))

pub claim_ends : (F : Rows → Type 0) (rows : Rows) (actor : Actor) (others : List Actor) → UnderEach F (IsRipeAt rows (actor ∷ others)) rows → UnderEach F (IsRipeAt rows others) rows
claim_ends F rows actor others = fewer F (IsRipeAt rows (actor ∷ others)) _ rows (λ key commit ripes. (ripes.0, Contains-append_right (actor ∷ []) others ripes.0 ripes.1, ripes.2, ripes.3))

-- what holds under each choice holds of the rows as they are
pub claim_here : (F : Rows → Type 0) (ripe : Key → ℕ → Type 0) (rows : Rows) → UnderEach F ripe rows → F rows
claim_here F ripe rows each = each (λ key. None) (λ key commit e. absurd cc)

-- ---- claims on what is read

-- every move but the commit of a primary leaves what is read
pub reads_the_same : (number : ℕ) (rows : Rows) (actor : Actor) (others : List Actor) (move : Move) → is_primary_commit move ≡ false → IsAllowed move number rows actor →
    IsConsistent (record { number = number; rows = rows; actors = actor ∷ others }) → versions_read (rows_after move actor rows) ≡ versions_read rows
reads_the_same number rows actor others move other may consistent = λ i. λ key. same move other (one_move_changes number rows actor others move may consistent) key i
  where
    same : (move : Move) → is_primary_commit move ≡ false → Changes move actor rows (rows_after move actor rows) → SameReading rows (rows_after move actor rows)
    same (Plan writes) not_it changes = changes
    same (Prewrite write) not_it changes = changes
    same (Draw commit) not_it changes = changes
    same (CommitPrimary write commit) not_it changes = absurd cc
    same (CommitSecondary write commit) not_it changes = changes
    same (CommitNothing commit) not_it changes = changes
    same (Read answer) not_it changes = changes
    same (Meet key lock) not_it changes = changes
    same (Learn recovery) not_it changes = changes
    same (DropPrimary recovery) not_it changes = changes
    same (RollBack recovery) not_it changes = changes
    same (RollForward recovery commit) not_it changes = changes
    same EndRecovery not_it changes = changes
    same (WritePlain key plain) not_it changes = changes

-- so for a claim on what is read the last commit is all that has to be looked at
pub reading_is_kept : (G : (Key → List Version) → Type 0) (P : Purpose) (Q : Plains) →
    ((number : ℕ) (rows : Rows) (actor : Actor) (others : List Actor) (write : Write) (commit : ℕ) → Has P actor → IsLast number rows actor others write commit →
    G (versions_read rows) → G (versions_read (acted rows write.key (commit_act write actor.start commit)))) →
    IsKept (λ number rows. G (versions_read rows)) P Q
reading_is_kept G P Q last = record {
  others = λ number rows actor others move other has consistent may plains held. subst G (sym (reads_the_same number rows actor others move other may consistent)) held;
  last = last;
}

pub tests_stay_passed : TestsStayPassed
tests_stay_passed test number rows actor others move last may consistent each =
    claim_is_kept (λ n r. test (versions_read r) ≡ true) (PassesLast test) (λ start answers old key plain. Unit {0})
    (reading_is_kept (λ read. test read ≡ true) (PassesLast test) (λ start answers old key plain. Unit {0}) (λ n r a o write commit has is held. has n r a o write commit refl refl refl is held))
    number rows actor others move last may (any_plain move) consistent each
  where
    any_plain : (move : Move) → WritesOnly (λ start answers old key plain. Unit {0}) rows actor move
    any_plain (Plan writes) = tt
    any_plain (Prewrite write) = tt
    any_plain (Draw commit) = tt
    any_plain (CommitPrimary write commit) = tt
    any_plain (CommitSecondary write commit) = tt
    any_plain (CommitNothing commit) = tt
    any_plain (Read answer) = tt
    any_plain (Meet key lock) = tt
    any_plain (Learn recovery) = tt
    any_plain (DropPrimary recovery) = tt
    any_plain (RollBack recovery) = tt
    any_plain (RollForward recovery commit) = tt
    any_plain EndRecovery = tt
    any_plain (WritePlain key plain) = tt
