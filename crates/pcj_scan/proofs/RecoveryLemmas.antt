-- What is done with a lock that is met: a reader's moves, after which the lock is gone.
use Rattle.std.proofs.Common.{◌≡◌, ◌≢◌, ◌⊎◌, inl, inr, ◌≤◌, ◌+◌, ℕ, Bool, true, false, cond, is_some, ◌&&◌, List, [], ◌∷◌, ◌++◌, filter, length, Option, Some, None, refl, ap, sym, subst, ◌∙◌, arith}
use Rattle.std.proofs.lemmas.Bool.{eq-eqb}
use Rattle.std.specs.FinMap as finmap
use Rattle.std.specs.List.{Contains}
use Rattle.pcj_term.specs.Order.{same_bytes}
use Rattle.pcj_term.proofs.ByteLemmas.{same_bytes_are}
use Rattle.pcj_table.specs.declared.lock.Lock.{Lock}
use Rattle.pcj_table.specs.declared.row.Row.{Row}
use Rattle.pcj_table.specs.declared.mutated.Mutated.{Mutated}
use Rattle.pcj_table.specs.declared.mutated.Mutated.TheVariants.{Applied, Rejected}
use Rattle.pcj_term.proofs.ListLemmas.{first_or_later, nothing_in}
use Rattle.pcj_table.specs.Row.{has_nothing, is_locked_at}
use Rattle.pcj_table.specs.Table.{Key, Table, row_at}
use Rattle.pcj_table.proofs.EntryLemmas.{Entry, there_with_row}
use Rattle.pcj_mvcc.specs.declared.act.Act.{Act}
use Rattle.pcj_mvcc.specs.Acts.{roll_back_act, roll_forward_act}
use Rattle.pcj_mvcc.specs.Reading.{Rows, CarriesOut, acted, allows}
use Rattle.pcj_mvcc.proofs.Rows.{put_other}
use Rattle.pcj_moves.specs.Actors.{Actor, new_actor, with_recovery}
use Rattle.pcj_moves.specs.Moves.{DropPrimary, EndRecovery, Makes, Meet, Move, RollBack, RollForward}
use Rattle.pcj_moves.specs.Recoveries.{Recovery, new_recovery}
use Rattle.pcj_moves.proofs.StepLemmas.{met_is_other, nothing_is_free}
use Rattle.pcj_recover.specs.declared.event.RecoveryEvent.{RecoveryEvent}
use Rattle.pcj_recover.specs.declared.event.RecoveryEvent.TheVariants.{Working, RolledForward, RolledBack}
use Rattle.pcj_recover.specs.Progress as due
use Rattle.pcj_recover.specs.Progress.{Progress, due_other, steps_left}
use Rattle.pcj_recover.specs.Steps as steps
use Rattle.pcj_actor.specs.StepLaws.{AreRecoveryMoves}
use Rattle.pcj_actor.proofs.ActorLemmas.{makes_then}
use Rattle.pcj_actor.proofs.RecoveryLemmas.{recovery_steps_are_moves}
use Rattle.pcj_fit.specs.Laws.{state_of}
use Rattle.pcj_fit.specs.Sound.{Sound}
use Rattle.pcj_pending.specs.Pending.{locks_of}
use Rattle.pcj_pending.proofs.LockLemmas.{moves_count}
use Rattle.pcj_scan.specs.Ranges.{AddsNoRow}
use Rattle.pcj_scan.specs.Readers.{AreReaderMoves, IsReader, ReadsInPart, ReadsOn, with_answers}
use Rattle.pcj_scan.proofs.ReaderLemmas.{moves_keep, no_more_answers, readers_then}

-- ---- moves

-- a reader of this start has met a lock and has come so far with it
abbrev pub Resolves : ℕ → Rows → Rows → Recovery → Type 0
Resolves start before after recovery = (at : ℕ) (actor : Actor) (others : List Actor) → IsReader start actor → Sound (state_of at before (actor ∷ others)) →
    (moves : List Move) × AreReaderMoves moves × Makes moves at before actor at after (with_recovery actor (Some recovery))

pub meets : (start : ℕ) (rows : Rows) (key : Key) (lock : Lock) → (rows key).lock ≡ Some lock → Resolves start rows rows (new_recovery key lock)
meets start rows key lock there at actor others is sound =
    let other = met_is_other rows actor.start actor.transaction key lock sound.consistent.sound.0.transacts (nothing_is_free actor.start actor.transaction key (ap (λ t. t.writes) is.nothing)) there in
    (Meet key lock ∷ [], (tt, tt), (record { stands = there; other = other }, (refl, refl, refl)))

reader_moves : (recovery : Recovery) (event : RecoveryEvent) (moves : List Move) → AreRecoveryMoves recovery event moves → AreReaderMoves moves
reader_moves recovery Working moves (inl one) = subst AreReaderMoves (sym one) (tt, tt)
reader_moves recovery Working moves (inr two) = subst AreReaderMoves (sym two) (tt, (tt, tt))
reader_moves recovery RolledForward moves (inl none) = subst AreReaderMoves (sym none) tt
reader_moves recovery RolledForward moves (inr one) = subst AreReaderMoves (sym one.1) (tt, tt)
reader_moves recovery RolledBack moves (inl none) = subst AreReaderMoves (sym none) tt
reader_moves recovery RolledBack moves (inr (inl one)) = subst AreReaderMoves (sym one) (tt, tt)
reader_moves recovery RolledBack moves (inr (inr one)) = subst AreReaderMoves (sym one) (tt, tt)

pub resolves_on : (start : ℕ) (before : Rows) (table table' : Table) (old new : Progress) (event : RecoveryEvent) → Resolves start before (row_at table) old.recovery → steps.Steps old table event new table' →
    Resolves start before (row_at table') new.recovery
resolves_on start before table table' old new event so_far does at actor others is sound =
    let so = so_far at actor others is sound in
    let kept = moves_keep so.0 at before actor at (row_at table) (with_recovery actor (Some old.recovery)) others so.1 so.2 is.nothing sound in
    let more = recovery_steps_are_moves at (with_recovery actor (Some old.recovery)) old.recovery old.locked new table table' event refl kept.sound.consistent.times does in (
      so.0 ++ more.0,
      readers_then so.0 more.0 so.1 (reader_moves old.recovery event more.0 more.1),
      makes_then so.0 more.0 at before actor at (row_at table) (with_recovery actor (Some old.recovery)) at (row_at table') (with_recovery actor (Some new.recovery)) so.2 more.2,
    )

pub resolved : (start : ℕ) (before after : Rows) (recovery : Recovery) → Resolves start before after recovery → ReadsOn start before [] after
resolved start before after recovery so_far at actor others is sound =
    let so = so_far at actor others is sound in
    let same : with_answers actor [] ≡ with_recovery actor None = no_more_answers actor ∙ ap (with_recovery actor) is.free in (
      so.0 ++ EndRecovery ∷ [],
      readers_then so.0 (EndRecovery ∷ []) so.1 (tt, tt),
      makes_then so.0 (EndRecovery ∷ []) at before actor at after (with_recovery actor (Some recovery)) at after (with_answers actor []) so.2 (tt, (refl, refl, same)),
    )

pub resolves_in_part : (start : ℕ) (before after : Rows) (recovery : Recovery) → Resolves start before after recovery → ReadsInPart start before after
resolves_in_part start before after recovery so_far at actor others is sound =
    let so = so_far at actor others is sound in (so.0, so.1, with_recovery actor (Some recovery), so.2)

-- ---- locks

-- a row that has a lock is there
locked_is_there : (row : Row) (lock : Lock) → row.lock ≡ Some lock → has_nothing row ≡ false
locked_is_there row lock is = rw is refl

lock_of_start : (start : ℕ) (lock : Option Lock) → (is_locked_at start lock && true) ≡ true → (found : Lock) × (lock ≡ Some found)
lock_of_start start None is = absurd cc
lock_of_start start (Some lock) is = (lock, refl)

-- an act on a row that is there
acts_there : (before after : Table) (key : Key) (act : Act) → has_nothing (row_at before key) ≡ false → row_at after ≡ acted (row_at before) key act → AddsNoRow before after
acts_there before after key act there acts other nothing = by (same_bytes other key) refl
  where
    by : (b : Bool) → same_bytes other key ≡ b → has_nothing (row_at after other) ≡ true
    by true e = absurd (let clash : true ≡ false = sym nothing ∙ ap (λ k. has_nothing (row_at before k)) (same_bytes_are other key e) ∙ there in cc)
    by false e = ap (λ (rows : Rows). has_nothing (rows other)) acts ∙ ap has_nothing (put_other (row_at before) key _ other e) ∙ nothing

-- an act on a row that has a lock of the start, which takes it away
takes_lock : (before after : Table) (key : Key) (start : ℕ) (act : Act) → (is_locked_at start (row_at before key).lock && true) ≡ true → row_at after ≡ acted (row_at before) key act → AddsNoRow before after
takes_lock before after key start act allowed acts =
    let lock = lock_of_start start (row_at before key).lock allowed in
    acts_there before after key act (locked_is_there (row_at before key) lock.0 lock.1) acts

-- what a step of a recovery leaves, where the lock stands that is to go
pub record Leaves (old : Progress) (table table' : Table) : Type 0 where
  pub locks : locks_of table' ≤ locks_of table
  pub rows : AddsNoRow table table'

same_leaves : (old : Progress) (table table' : Table) → table' ≡ table → Leaves old table table'
same_leaves old table table' same = subst (λ t. Leaves old table t) (sym same) (record { locks = omega arith; rows = λ key nothing. nothing })

-- the primary's lock is dropped, or there was none
drop_leaves : (old : Progress) (table table' : Table) (commit : Option ℕ) → steps.Drops old.recovery.lock.primary old.recovery.lock.start table commit table' → Leaves old table table'
drop_leaves old table table' commit (inl dropped) =
    let fewer = moves_count 0 (with_recovery (new_actor 0) (Some old.recovery)) (DropPrimary old.recovery) table table' (refl, dropped.0.allowed) dropped.0.acts in record {
      locks = omega (arith, fewer);
      rows = takes_lock table table' old.recovery.lock.primary old.recovery.lock.start (roll_back_act old.recovery.lock.start) dropped.0.allowed dropped.0.acts;
    }
drop_leaves old table table' commit (inr gone) = same_leaves old table table' gone.0.same

-- ---- a step that goes on

same_lock : (rows : Rows) (key : Key) (primary : Key) (act : Act) (after : Rows) → after ≡ acted rows primary act → same_bytes key primary ≡ false → (after key).lock ≡ (rows key).lock
same_lock rows key primary act after acts apart = ap (λ (r : Rows). (r key).lock) acts ∙ ap (λ (r : Row). r.lock) (put_other rows primary _ key apart)

-- a due step that isn't the drop of the row's own lock is of a row that isn't the primary
not_own : (old : Progress) (next : due.Due) → due.due old ≡ next → next ≢ due.DropOwn → same_bytes old.recovery.key old.recovery.lock.primary ≡ false
not_own old next is other = by (same_bytes old.recovery.key old.recovery.lock.primary) refl
  where
    by : (b : Bool) → same_bytes old.recovery.key old.recovery.lock.primary ≡ b → b ≡ false
    by true e = absurd (other (sym is ∙ ap (λ b. cond b due.DropOwn (due_other old.recovery.known old.locked)) e))
    by false e = refl

own : (old : Progress) → due.due old ≡ due.DropOwn → old.recovery.key ≡ old.recovery.lock.primary
own old is = by (same_bytes old.recovery.key old.recovery.lock.primary) refl
  where
    other : (known : Option (Option ℕ)) (locked : Bool) → due_other known locked ≡ due.DropOwn → ⊥
    other None true e = absurd cc
    other None false e = absurd cc
    other (Some None) locked e = absurd cc
    other (Some (Some commit)) locked e = absurd cc

    by : (b : Bool) → same_bytes old.recovery.key old.recovery.lock.primary ≡ b → old.recovery.key ≡ old.recovery.lock.primary
    by true e = same_bytes_are old.recovery.key old.recovery.lock.primary e
    by false e = absurd (other old.recovery.known old.locked (ap (λ b. cond b due.DropOwn (due_other old.recovery.known old.locked)) (sym e) ∙ is))

-- the lock that is to go stands on its row
abbrev pub Stands : Progress → Table → Type 0
Stands progress table = (row_at table progress.recovery.key).lock ≡ Some progress.recovery.lock

pub record GoesOn (old new : Progress) (table table' : Table) : Type 0 where
  pub stands : Stands new table'
  pub leaves : Leaves old table table'

pub goes_on : (old new : Progress) (table table' : Table) → Stands old table → steps.Steps old table Working new table' → GoesOn old new table table'
goes_on old new table table' there (inl reads) = record {
  stands = ap (λ (p : Progress). (row_at table' p.recovery.key).lock) reads.found ∙ ap (λ t. (row_at t old.recovery.key).lock) reads.same ∙ there ∙ ap (λ (p : Progress). Some p.recovery.lock) (sym reads.found);
  leaves = same_leaves old table table' reads.same;
}
goes_on old new table table' there (inr drops) = record {
  stands = ap (λ (p : Progress). (row_at table' p.recovery.key).lock) drops.found ∙ same drops.drops ∙ there ∙ ap (λ (p : Progress). Some p.recovery.lock) (sym drops.found);
  leaves = drop_leaves old table table' drops.commit drops.drops;
}
  where
    same : steps.Drops old.recovery.lock.primary old.recovery.lock.start table drops.commit table' → (row_at table' old.recovery.key).lock ≡ (row_at table old.recovery.key).lock
    same (inl dropped) = same_lock (row_at table) old.recovery.key old.recovery.lock.primary (roll_back_act old.recovery.lock.start) (row_at table') dropped.0.acts (not_own old due.DropPrimary drops.due (λ e. cc))
    same (inr gone) = ap (λ t. (row_at t old.recovery.key).lock) gone.0.same

-- ---- the last step

pub record Ends (table table' : Table) : Type 0 where
  pub gone : locks_of table' + 1 ≤ locks_of table
  pub rows : AddsNoRow table table'

stands_at : (lock : Option Lock) (held : Lock) → lock ≡ Some held → is_locked_at held.start lock ≡ true
stands_at lock held is = ap (is_locked_at held.start) is ∙ eq-eqb held.start held.start refl

drops_own : (old : Progress) (table table' : Table) (commit : Option ℕ) → Stands old table → steps.DropsOwn old table commit table' → Ends table table'
drops_own old table table' commit there drops = by drops.drops
  where
    primary : (row_at table old.recovery.lock.primary).lock ≡ Some old.recovery.lock
    primary = ap (λ k. (row_at table k).lock) (sym (own old drops.due)) ∙ there

    by : steps.Drops old.recovery.lock.primary old.recovery.lock.start table commit table' → Ends table table'
    by (inl dropped) =
        let fewer = moves_count 0 (with_recovery (new_actor 0) (Some old.recovery)) (DropPrimary old.recovery) table table' (refl, dropped.0.allowed) dropped.0.acts in record {
          gone = omega (arith, fewer);
          rows = takes_lock table table' old.recovery.lock.primary old.recovery.lock.start (roll_back_act old.recovery.lock.start) dropped.0.allowed dropped.0.acts;
        }
    by (inr gone) = absurd (let clash : true ≡ false = sym (stands_at (row_at table old.recovery.lock.primary).lock old.recovery.lock primary) ∙ gone.0.unlocked in cc)

-- where the lock stands an act on it is carried out
carried : (old : Progress) (table table' : Table) (act : Act) (done : Mutated) → Stands old table → allows act (row_at table old.recovery.key) ≡ (is_locked_at old.recovery.lock.start (row_at table old.recovery.key).lock && true) →
    CarriesOut table old.recovery.key act done table' → (allows act (row_at table old.recovery.key) ≡ true) × (row_at table' ≡ acted (row_at table) old.recovery.key act)
carried old table table' act Applied there asks made = made
carried old table table' act (Rejected row) there asks made = absurd (let clash : true ≡ false =
    ap (λ b. b && true) (sym (stands_at (row_at table old.recovery.key).lock old.recovery.lock there)) ∙ sym asks ∙ made.0 in cc)

pub ends : (old new : Progress) (table table' : Table) (event : RecoveryEvent) → event ≢ Working → Stands old table → steps.Steps old table event new table' → Ends table table'
ends old new table table' Working other there does = absurd (other refl)
ends old new table table' RolledForward other there (inl rolls, same) =
    let act = roll_forward_act old.recovery.lock rolls.commit in
    let made = carried old table table' act rolls.done there refl rolls.carried in
    let known : Recovery = record { key = old.recovery.key; lock = old.recovery.lock; known = Some (Some rolls.commit) } in
    let fewer = moves_count 0 (with_recovery (new_actor 0) (Some known)) (RollForward known rolls.commit) table table' (refl, refl, made.0) made.1 in record {
      gone = omega (arith, fewer);
      rows = takes_lock table table' old.recovery.key old.recovery.lock.start act made.0 made.1;
    }
ends old new table table' RolledForward other there (inr drops, same) = drops_own old table table' (Some drops.0) there drops.1
ends old new table table' RolledBack other there (inl rolls, same) =
    let act = roll_back_act old.recovery.lock.start in
    let made = carried old table table' act rolls.done there refl rolls.carried in
    let known : Recovery = record { key = old.recovery.key; lock = old.recovery.lock; known = Some None } in
    let fewer = moves_count 0 (with_recovery (new_actor 0) (Some known)) (RollBack known) table table' (refl, refl, made.0) made.1 in record {
      gone = omega (arith, fewer);
      rows = takes_lock table table' old.recovery.key old.recovery.lock.start act made.0 made.1;
    }
ends old new table table' RolledBack other there (inr drops, same) = drops_own old table table' None there drops

-- ---- the whole

-- where a recovery has come from one table to another, whose lock stands
pub record Resolving (before now : Table) (recovery : Progress) : Type 0 where
  pub moves : (start : ℕ) → Resolves start (row_at before) (row_at now) recovery.recovery
  pub stands : Stands recovery now
  pub locks : locks_of now ≤ locks_of before
  pub rows : AddsNoRow before now
  pub plain : steps.KeepPlain before now

pub resolving_begins : (table : Table) (key : Key) (lock : Lock) (recovery : Progress) → (row_at table key).lock ≡ Some lock → recovery ≡ due.new_progress key lock → Resolving table table recovery
resolving_begins table key lock recovery there is = subst (Resolving table table) (sym is) (record {
  moves = λ start. meets start (row_at table) key lock there;
  stands = there;
  locks = omega arith;
  rows = λ other nothing. nothing;
  plain = λ other. refl;
})

pub resolving_goes_on : (before now after : Table) (old new : Progress) → Resolving before now old → steps.Steps old now Working new after → steps.KeepPlain now after → Resolving before after new
resolving_goes_on before now after old new so_far does plain =
    let more = goes_on old new now after so_far.stands does in record {
      moves = λ start. resolves_on start (row_at before) now after old new Working (so_far.moves start) does;
      stands = more.stands;
      locks = (let first = so_far.locks in let fewer = more.leaves.locks in omega (arith, first, fewer));
      rows = λ key nothing. more.leaves.rows key (so_far.rows key nothing);
      plain = λ key. plain key ∙ so_far.plain key;
    }

-- what is done where the lock is gone
pub record Resolved (before after : Table) : Type 0 where
  pub moves : (start : ℕ) → ReadsOn start (row_at before) [] (row_at after)
  pub gone : locks_of after + 1 ≤ locks_of before
  pub rows : AddsNoRow before after
  pub plain : steps.KeepPlain before after

pub resolving_ends : (before now after : Table) (old new : Progress) (event : RecoveryEvent) → event ≢ Working → Resolving before now old → steps.Steps old now event new after → steps.KeepPlain now after → Resolved before after
resolving_ends before now after old new event other so_far does plain =
    let end = ends old new now after event other so_far.stands does in record {
      moves = λ start. resolved start (row_at before) (row_at after) new.recovery (resolves_on start (row_at before) now after old new event (so_far.moves start) does);
      gone = (let first = so_far.locks in let fewer = end.gone in omega (arith, first, fewer));
      rows = λ key nothing. end.rows key (so_far.rows key nothing);
      plain = λ key. plain key ∙ so_far.plain key;
    }

-- an error leaves the table as it was
pub resolving_stops : (before now after : Table) (old : Progress) → Resolving before now old → after ≡ now → Resolving before after old
resolving_stops before now after old so_far same = subst (λ t. Resolving before t old) (sym same) so_far

pub resolving_in_part : (before now : Table) (recovery : Progress) → Resolving before now recovery → (start : ℕ) → ReadsInPart start (row_at before) (row_at now)
resolving_in_part before now recovery so_far start = resolves_in_part start (row_at before) (row_at now) recovery.recovery (so_far.moves start)

pub three_at_most : (progress : Progress) → steps_left progress ≤ 3
three_at_most progress = by (due.due progress)
  where
    by : (next : due.Due) → due.steps_of next ≤ 3
    by due.DropOwn = omega arith
    by due.ReadPrimary = omega arith
    by due.DropPrimary = omega arith
    by (due.RollForward commit) = omega arith
    by due.RollBack = omega arith

pub one_at_least : (progress : Progress) → 1 ≤ steps_left progress
one_at_least progress = by (due.due progress)
  where
    by : (next : due.Due) → 1 ≤ due.steps_of next
    by due.DropOwn = omega arith
    by due.ReadPrimary = omega arith
    by due.DropPrimary = omega arith
    by (due.RollForward commit) = omega arith
    by due.RollBack = omega arith

-- one lock at least stands where one does
pub some_lock : (table : Table) (key : Key) (lock : Lock) → (row_at table key).lock ≡ Some lock → 1 ≤ locks_of table
some_lock table key lock there = one_passes (λ entry. is_some entry.1.lock) (finmap.entries table) (key, row_at table key) (there_with_row table key (locked_is_there (row_at table key) lock there)) (ap is_some there)
  where
    one_passes : (test : Entry → Bool) (es : List Entry) (entry : Entry) → Contains es entry → test entry ≡ true → 1 ≤ length (filter test es)
    one_passes test [] entry here passes = absurd (nothing_in entry here)
    one_passes test (first ∷ es) entry here passes = by (test first) refl (first_or_later first es entry here) (λ later. one_passes test es entry later passes)
      where
        by : (b : Bool) → test first ≡ b → (first ≡ entry) ⊎ Contains es entry → (Contains es entry → 1 ≤ length (filter test es)) → 1 ≤ length (cond b (first ∷ filter test es) (filter test es))
        by true e either rest = omega arith
        by false e (inl same) rest = absurd (let clash : false ≡ true = sym e ∙ ap test same ∙ passes in cc)
        by false e (inr later) rest = rest later
