-- What every move keeps.
use Rattle.std.proofs.Common.{◌≡◌, ◌≢◌, inl, inr, ◌<◌, ◌≤◌, ℕ, suc, Bool, true, false, cond, not, ◌==◌, nat_lt, ◌&&◌, ◌||◌, List, [], ◌∷◌, Option, Some, None, IfSome, refl, ap, sym, subst, ◌∙◌, arith}
use Rattle.std.proofs.lemmas.Bool.{and_from, and_parts, eq-eqb, lt-ltb, ltb-true}
use Rattle.std.specs.List.{find, list_all}
use Rattle.std.specs.Option.{option_map}
use Rattle.pcj_table.specs.Row.{add_version, updated}
use Rattle.pcj_table.specs.Table.{Key}
use Rattle.pcj_table.specs.declared.lock.Lock.{Lock}
use Rattle.pcj_table.specs.declared.row.Row.{Row}
use Rattle.pcj_table.specs.declared.update.Update.TheVariants.{SetPlain}
use Rattle.pcj_table.specs.declared.version.Version.{Version}
use Rattle.pcj_table.specs.declared.write.Write.{Write}
use Rattle.pcj_mvcc.proofs.Laws.{commits_kept, commits_later, plain_in_order, prewrite_in_order, prewritten, replace_in_order, replace_keeps_all, replaced, roll_back_in_order, rolled_back, versions_kept}
use Rattle.pcj_mvcc.proofs.Rows.{put_each}
use Rattle.pcj_mvcc.proofs.Versions.{all_weaker, commit_added, commit_kept}
use Rattle.pcj_mvcc.specs.Acts.{commit_act, lock_of, prewrite_act, roll_back_act, roll_forward_act, version_of}
use Rattle.pcj_mvcc.specs.Reading.{OnePrimary, Rows, acted, allows, commit_of, committed, put}
use Rattle.pcj_mvcc.specs.Times.{AllVersions, TimesInOrder, starts_first}
use Rattle.pcj_moves.specs.Traces.{Trace, traces}
use Rattle.pcj_moves.specs.Transactions.{IsNext, as_committed, new_transaction, primary_of, with_commit, with_next, write_at}
use Rattle.pcj_moves.specs.Recoveries.{Knows, Recovers, Recovery, new_recovery, told, with_known}
use Rattle.pcj_moves.specs.Actors.{Actor, ArePair, AreSound, Each, IsBelow, IsOlder, IsSound, with_answer, with_recovery, with_transaction}
use Rattle.pcj_moves.specs.Moves.{AreBelow, CommitNothing, CommitPrimary, CommitSecondary, Draw, DropPrimary, EndRecovery, IsConsistent, Learn, LocksNameOne, MayCommitPrimary, MayCommitSecondary, MayDraw, MayMeet, MayPrewrite, Meet, NumbersAreOwn, Plan, Prewrite, Read, RollBack, RollForward, StartsCommitOnce, WritePlain, actor_after, is_once, is_own, number_after, rows_after}
use Rattle.pcj_moves.specs.TraceLaws.{ChangesTrace}
use Rattle.pcj_moves.specs.StepLaws.{MayRecover}
use Rattle.pcj_moves.specs.MoveLaws.{MoveIsConsistent, MovesAreConsistent}
use Rattle.pcj_moves.proofs.TraceLemmas.{none_where_locked, prewrite_changes, row_stays, unequal_false}
use Rattle.pcj_moves.proofs.WriteLemmas.{distinct_are_there, first_of, next_is_new, undrawn_is_undone}
use Rattle.pcj_moves.proofs.OtherLemmas.{lock_is}
use Rattle.pcj_moves.proofs.ActorLemmas.{by_number, each_holds, each_map, if_some}
use Rattle.pcj_moves.proofs.StepLemmas.{further, names_one, no_version_yet, prewrite_step, primary_step, recovery_drops_primary, recovery_rolls_back, recovery_rolls_forward, secondary_unlocks, stay_step, trace_lock, unlock_step}
use Rattle.pcj_moves.proofs.GoOnLemmas.{answer_step, draw_step, empty_step, recovery_begins, recovery_learns, recovery_step, writes_step}
use Rattle.pcj_moves.proofs.ChoiceLemmas.{numbers_stay}

-- ---- numbers

pub each_older : (number more : ℕ) → number ≤ more → (actors : List Actor) → Each (IsOlder number) actors → Each (IsOlder more) actors
each_older number more le actors each = each_map (λ actor. Unit {0}) (IsOlder number) (IsOlder more) (λ actor c older. record {
  below = record { start = (let lt = older.below.start in omega arith); commit = λ commit e. (let lt = older.below.commit commit e in omega arith) };
  recovers = if_some _ _ (λ recovery lt. omega arith) actor.recovery older.recovers;
}) actors (each_holds _ (λ actor. tt) actors) each

pub more_below : (number more : ℕ) (rows : Rows) → number ≤ more → AreBelow number rows → AreBelow more rows
more_below number more rows le below = record {
  versions = λ key. all_weaker (λ v. nat_lt v.commit number) (λ v. nat_lt v.commit more) (λ v e. let lt = ltb-true v.commit number e in lt-ltb v.commit more (omega arith)) (rows key).versions (below.versions key);
  locks = λ key lock e. let lt = below.locks key lock e in omega arith;
}

-- each lock stood there before, and what holds of the numbers of all versions still does
pub record NoNewNumbers (before after : Rows) : Type 0 where
  pub fewer : (key : Key) (lock : Lock) → (after key).lock ≡ Some lock → (before key).lock ≡ Some lock
  pub versions : (test : ℕ → ℕ → Bool) → AllVersions (λ version. test version.start version.commit) before → AllVersions (λ version. test version.start version.commit) after
  pub commits : (key : Key) (start commit : ℕ) → committed after key start ≡ Some commit → (other : Key) × (committed before other start ≡ Some commit)

once_kept : (before after : Rows) → NoNewNumbers before after → StartsCommitOnce before → StartsCommitOnce after
once_kept before after kept once key start commit e = let found = kept.commits key start commit e in kept.versions (is_once start commit) (once found.0 start commit found.1)

names_kept : (before after : Rows) → NoNewNumbers before after → LocksNameOne before → LocksNameOne after
names_kept before after kept named key lock e other l f = named key lock (kept.fewer key lock e) other l (kept.fewer other l f)

below_kept : (number : ℕ) (before after : Rows) → NoNewNumbers before after → AreBelow number before → AreBelow number after
below_kept number before after kept below = record { versions = kept.versions (λ first last. nat_lt last number) below.versions; locks = λ key lock e. below.locks key lock (kept.fewer key lock e) }

own_kept : (before after : Rows) → NoNewNumbers before after → (actor : Actor) → NumbersAreOwn before actor → NumbersAreOwn after actor
own_kept before after kept actor own = record {
  start = kept.versions (λ first last. not (last == actor.start)) own.start;
  commit = λ commit e. kept.versions (is_own actor.start commit) (own.commit commit e);
  locks = λ commit e key lock f. own.locks commit e key lock (kept.fewer key lock f);
}

-- a change of rows that brings no number
rows_kept : (number : ℕ) (before after : Rows) (actors : List Actor) → TimesInOrder after → NoNewNumbers before after → AreSound after actors →
    IsConsistent (record { number = number; rows = before; actors = actors }) → IsConsistent (record { number = number; rows = after; actors = actors })
rows_kept number before after actors order kept sound is = record {
  times = order;
  named = names_kept before after kept is.named;
  once = once_kept before after kept is.once;
  below = below_kept number before after kept is.below;
  sound = sound;
  older = is.older;
  own = each_map (λ actor. Unit {0}) (NumbersAreOwn before) (NumbersAreOwn after) (λ actor c own. own_kept before after kept actor own) actors (each_holds _ (λ actor. tt) actors) is.own;
}

-- a change of one actor that brings none
actor_kept : (number : ℕ) (rows : Rows) (actor mover : Actor) (others : List Actor) → AreSound rows (mover ∷ others) → IsOlder number mover → NumbersAreOwn rows mover →
    IsConsistent (record { number = number; rows = rows; actors = actor ∷ others }) → IsConsistent (record { number = number; rows = rows; actors = mover ∷ others })
actor_kept number rows actor mover others sound older own is = record { times = is.times; named = is.named; once = is.once; below = is.below; sound = sound; older = (older, is.older.1); own = (own, is.own.1) }

-- ---- acts that bring no number

-- a row with the versions that it had, and with no other lock
pub same_versions : (rows : Rows) (key : Key) (row : Row) → ((lock : Lock) → row.lock ≡ Some lock → (rows key).lock ≡ Some lock) → row.versions ≡ (rows key).versions → NoNewNumbers rows (put rows key row)
same_versions rows key row fewer same = record {
  fewer = put_each (λ q r. (lock : Lock) → r.lock ≡ Some lock → (rows q).lock ≡ Some lock) rows key row fewer (λ q apart lock e. e);
  versions = λ test all. put_each (λ q r. list_all (λ version. test version.start version.commit) r.versions ≡ true) rows key row
      (ap (list_all (λ version. test version.start version.commit)) same ∙ all key) (λ q apart. all q);
  commits = λ other start commit e. (other, sym (versions_kept rows key row same other start) ∙ e);
}

-- a version with the numbers of the primary's
pub forwarded : (rows : Rows) (key : Key) (lock : Lock) (commit : ℕ) → TimesInOrder rows → allows (roll_forward_act lock commit) (rows key) ≡ true → committed rows lock.primary lock.start ≡ Some commit →
    NoNewNumbers rows (acted rows key (roll_forward_act lock commit))
forwarded rows key lock commit order allowed is = record {
  fewer = put_each (λ q r. (l : Lock) → r.lock ≡ Some l → (rows q).lock ≡ Some l) rows key (replaced (rows key) (version_of lock commit)) (λ l e. absurd cc) (λ q apart l e. e);
  versions = λ test all. numbers_stay test rows key lock commit is all;
  commits = put_each (λ q r. (start c : ℕ) → commit_of start r.versions ≡ Some c → (other : Key) × (committed rows other start ≡ Some c)) rows key (replaced (rows key) (version_of lock commit)) here (λ q apart start c e. (q, e));
}
  where
    none : commit_of lock.start (rows key).versions ≡ None
    none = ap (option_map (λ v. v.commit)) (none_where_locked rows key lock.start order (and_parts _ _ allowed).0)

    here : (start c : ℕ) → commit_of start (add_version (version_of lock commit) (rows key).versions) ≡ Some c → (other : Key) × (committed rows other start ≡ Some c)
    here start c e = by_number lock.start start
        (λ same. (
          lock.primary,
          ap (committed rows lock.primary) (sym same) ∙ is ∙ sym (commit_added (version_of lock commit) (rows key).versions none)
              ∙ ap (λ s. commit_of s (add_version (version_of lock commit) (rows key).versions)) same ∙ e,
        ))
        (λ apart. (key, sym (commit_kept start (version_of lock commit) (rows key).versions (unequal_false lock.start start apart)) ∙ e))

-- ---- the moves of a recovery

pub its_recovery : (rows : Rows) (actor : Actor) (recovery : Recovery) → IsSound rows actor → actor.recovery ≡ Some recovery → Recovers recovery (traces recovery.lock.start rows) × (recovery.lock.start ≢ actor.start)
its_recovery rows actor recovery sound is = subst (λ found. IfSome found (λ r. Recovers r (traces r.lock.start rows) × (r.lock.start ≢ actor.start))) is sound.recovers

with_recovery_kept : (number : ℕ) (rows : Rows) (actor : Actor) (others : List Actor) (recovery : Option Recovery) → IfSome recovery (MayRecover rows actor) → IfSome recovery (λ r. r.lock.start < number) →
    IsConsistent (record { number = number; rows = rows; actors = actor ∷ others }) → IsConsistent (record { number = number; rows = rows; actors = with_recovery actor recovery ∷ others })
with_recovery_kept number rows actor others recovery may older is =
    actor_kept number rows actor (with_recovery actor recovery) others (recovery_step rows actor others recovery may is.sound)
    (record { below = record { start = is.older.0.below.start; commit = is.older.0.below.commit }; recovers = older })
    (record { start = is.own.0.start; commit = is.own.0.commit; locks = is.own.0.locks }) is

meet_kept : (number : ℕ) (rows : Rows) (actor : Actor) (others : List Actor) (key : Key) (lock : Lock) → MayMeet rows actor key lock →
    IsConsistent (record { number = number; rows = rows; actors = actor ∷ others }) → IsConsistent (record { number = number; rows = rows; actors = with_recovery actor (Some (new_recovery key lock)) ∷ others })
meet_kept number rows actor others key lock may is =
    with_recovery_kept number rows actor others (Some (new_recovery key lock))
    (record { recovers = recovery_begins rows key lock may.stands (is.named key lock may.stands); other = may.other; known = inl may.stands }) (is.below.locks key lock may.stands) is

learn_kept : (number : ℕ) (rows : Rows) (actor : Actor) (others : List Actor) (recovery : Recovery) → actor.recovery ≡ Some recovery → recovery.key ≢ recovery.lock.primary →
    IsConsistent (record { number = number; rows = rows; actors = actor ∷ others }) →
    IsConsistent (record { number = number; rows = rows; actors = with_recovery actor (Some (with_known recovery (told recovery.lock.start (rows recovery.lock.primary)))) ∷ others })
learn_kept number rows actor others recovery mine differs is =
    let its = its_recovery rows actor recovery is.sound.0 mine in
    with_recovery_kept number rows actor others (Some (with_known recovery (told recovery.lock.start (rows recovery.lock.primary))))
    (record { recovers = recovery_learns rows recovery differs its.0; other = its.1; known = inr (recovery, mine, refl, refl) })
    (subst (λ found. IfSome found (λ r. r.lock.start < number)) mine is.older.0.recovers) is

drop_kept : (number : ℕ) (rows : Rows) (actor : Actor) (others : List Actor) (recovery : Recovery) → actor.recovery ≡ Some recovery → allows (roll_back_act recovery.lock.start) (rows recovery.lock.primary) ≡ true →
    IsConsistent (record { number = number; rows = rows; actors = actor ∷ others }) →
    IsConsistent (record { number = number; rows = acted rows recovery.lock.primary (roll_back_act recovery.lock.start); actors = actor ∷ others })
drop_kept number rows actor others recovery mine allowed is =
    let its = its_recovery rows actor recovery is.sound.0 mine in
    rows_kept number rows (acted rows recovery.lock.primary (roll_back_act recovery.lock.start)) (actor ∷ others) (roll_back_in_order rows recovery.lock.primary recovery.lock.start is.times)
    (same_versions rows recovery.lock.primary (rolled_back (rows recovery.lock.primary)) (λ lock e. absurd cc) refl)
    (unlock_step recovery.lock.start rows _ (actor ∷ others) (recovery_drops_primary rows recovery is.times its.0 allowed) is.sound) is

roll_back_kept : (number : ℕ) (rows : Rows) (actor : Actor) (others : List Actor) (recovery : Recovery) → actor.recovery ≡ Some recovery → recovery.known ≡ Some None → allows (roll_back_act recovery.lock.start) (rows recovery.key) ≡ true →
    IsConsistent (record { number = number; rows = rows; actors = actor ∷ others }) →
    IsConsistent (record { number = number; rows = acted rows recovery.key (roll_back_act recovery.lock.start); actors = actor ∷ others })
roll_back_kept number rows actor others recovery mine known allowed is =
    let its = its_recovery rows actor recovery is.sound.0 mine in
    rows_kept number rows (acted rows recovery.key (roll_back_act recovery.lock.start)) (actor ∷ others) (roll_back_in_order rows recovery.key recovery.lock.start is.times)
    (same_versions rows recovery.key (rolled_back (rows recovery.key)) (λ lock e. absurd cc) refl)
    (unlock_step recovery.lock.start rows _ (actor ∷ others) (recovery_rolls_back rows recovery is.times its.0 known allowed) is.sound) is

roll_forward_kept : (number : ℕ) (rows : Rows) (actor : Actor) (others : List Actor) (recovery : Recovery) (commit : ℕ) → actor.recovery ≡ Some recovery → recovery.known ≡ Some (Some commit) →
    allows (roll_forward_act recovery.lock commit) (rows recovery.key) ≡ true →
    IsConsistent (record { number = number; rows = rows; actors = actor ∷ others }) →
    IsConsistent (record { number = number; rows = acted rows recovery.key (roll_forward_act recovery.lock commit); actors = actor ∷ others })
roll_forward_kept number rows actor others recovery commit mine known allowed is =
    let its = its_recovery rows actor recovery is.sound.0 mine in
    let now = (subst (Knows recovery (traces recovery.lock.start rows)) known its.0.knows).1 in
    rows_kept number rows (acted rows recovery.key (roll_forward_act recovery.lock commit)) (actor ∷ others)
    (replace_in_order rows recovery.key (version_of recovery.lock commit) allowed (commits_later rows recovery.lock.primary recovery.lock.start commit is.times.first now) is.times)
    (forwarded rows recovery.key recovery.lock commit is.times allowed now)
    (unlock_step recovery.lock.start rows _ (actor ∷ others) (recovery_rolls_forward rows recovery commit is.times its.0 known allowed) is.sound) is

-- ---- the moves of a transaction

pub its_next : (rows : Rows) (actor : Actor) (write : Write) → IsSound rows actor → MayPrewrite rows actor write → IsNext actor.transaction write
its_next rows actor write sound may = next_is_new actor.start actor.transaction (traces actor.start rows) write sound.transacts may.next may.undrawn

pub its_first : (rows : Rows) (actor : Actor) (write : Write) (commit : ℕ) → MayCommitPrimary rows actor write commit → (rest : List Write) × (actor.transaction.writes ≡ write ∷ rest)
its_first rows actor write commit may = first_of actor.transaction.writes write may.first

pub its_write : (rows : Rows) (actor : Actor) (write : Write) (commit : ℕ) → IsSound rows actor → MayCommitSecondary rows actor write commit → write_at actor.transaction.writes write.key ≡ Some write
its_write rows actor write commit sound may = distinct_are_there actor.transaction.writes may.place write sound.transacts.distinct may.written

or_true : (b : Bool) → (b || true) ≡ true
or_true true = refl
or_true false = refl

-- where no version is of a start, all that are have any commit
once_where_none : (start commit : ℕ) (versions : List Version) → find (λ v. v.start == start) versions ≡ None → list_all (λ v. is_once start commit v.start v.commit) versions ≡ true
once_where_none start commit [] none = refl
once_where_none start commit (version ∷ versions) none = by (version.start == start) refl (once_where_none start commit versions)
  where
    by : (b : Bool) → (version.start == start) ≡ b → (find (λ v. v.start == start) versions ≡ None → list_all (λ v. is_once start commit v.start v.commit) versions ≡ true) →
        list_all (λ v. is_once start commit v.start v.commit) (version ∷ versions) ≡ true
    by true e later = absurd (let some : Some version ≡ None = ap (λ b. cond b (Some version) (find (λ v. v.start == start) versions)) (sym e) ∙ none in cc)
    by false e later = rw e (later (ap (λ b. cond b (Some version) (find (λ v. v.start == start) versions)) (sym e) ∙ none))

-- a lock of another start stood before
stood_before : (start : ℕ) (key : Key) (new : Trace) (before after : Rows) → ChangesTrace start key new before after → (other : Key) (lock : Lock) → (after other).lock ≡ Some lock → lock.start ≢ start → (before other).lock ≡ Some lock
stood_before start key new before after changes other lock e apart =
    (lock_is (before other).lock lock.start lock (ap (λ at. (at other).lock) (sym (changes.others lock.start apart)) ∙ trace_lock after other lock.start lock e refl)).0

prewrite_kept : (number : ℕ) (rows : Rows) (actor : Actor) (others : List Actor) (write : Write) → MayPrewrite rows actor write →
    IsConsistent (record { number = number; rows = rows; actors = actor ∷ others }) →
    IsConsistent (record { number = number; rows = acted rows write.key (prewrite_act write actor.start (primary_of actor.transaction)); actors = with_transaction actor (with_next actor.transaction) ∷ others })
prewrite_kept number rows actor others write may is = record {
  times = prewrite_in_order rows write actor.start (primary_of actor.transaction) may.allowed is.times;
  named = named;
  once = λ key start commit e. same (is_once start commit) (is.once key start commit (sym (versions_kept rows write.key (prewritten (rows write.key) write actor.start (primary_of actor.transaction)) refl key start) ∙ e));
  below = record { versions = same (λ first last. nat_lt last number) is.below.versions; locks = locks_below };
  sound = sound;
  older = (record { below = record { start = is.older.0.below.start; commit = is.older.0.below.commit }; recovers = is.older.0.recovers }, is.older.1);
  own = (
    record { start = same (λ first last. not (last == actor.start)) is.own.0.start; commit = λ commit e. absurd (let none = may.undrawn in cc); locks = λ commit e. absurd (let none = may.undrawn in cc) },
    each_map (λ other. ArePair rows actor other × ArePair rows other actor) (NumbersAreOwn rows) (NumbersAreOwn after) (λ other pair own. others_own other pair.1 own) others is.sound.1 is.own.1,
  );
}
  where
    after : Rows
    after = acted rows write.key (prewrite_act write actor.start (primary_of actor.transaction))

    sound : AreSound after (with_transaction actor (with_next actor.transaction) ∷ others)
    sound = prewrite_step rows actor others write is.times (its_next rows actor write is.sound.0 may) may.allowed is.sound

    before : (key : Key) (lock : Lock) → (after key).lock ≡ Some lock → lock.start ≢ actor.start → (rows key).lock ≡ Some lock
    before = stood_before actor.start write.key _ rows after (prewrite_changes rows write actor.start (primary_of actor.transaction) is.times may.allowed)

    same : (test : ℕ → ℕ → Bool) → AllVersions (λ version. test version.start version.commit) rows → AllVersions (λ version. test version.start version.commit) after
    same test all = put_each (λ q r. list_all (λ version. test version.start version.commit) r.versions ≡ true) rows write.key (prewritten (rows write.key) write actor.start (primary_of actor.transaction)) (all write.key) (λ q apart. all q)

    one : OnePrimary after (primary_of actor.transaction) actor.start
    one = names_one after actor.start (with_next actor.transaction) sound.0.transacts

    named : LocksNameOne after
    named key lock e = by_number lock.start actor.start
        (λ mine other l f is_start. one other l f (is_start ∙ mine) ∙ sym (one key lock e mine))
        (λ apart other l f is_start. is.named key lock (before key lock e apart) other l (before other l f (λ mine. apart (sym is_start ∙ mine))) is_start)

    locks_below : (key : Key) (lock : Lock) → (after key).lock ≡ Some lock → lock.start < number
    locks_below key lock e = by_number lock.start actor.start
        (λ mine. let lt = is.older.0.below.start in omega arith)
        (λ apart. is.below.locks key lock (before key lock e apart))

    others_own : (other : Actor) → ArePair rows other actor → NumbersAreOwn rows other → NumbersAreOwn after other
    others_own other pair own = record {
      start = same (λ first last. not (last == other.start)) own.start;
      commit = λ commit e. same (is_own other.start commit) (own.commit commit e);
      locks = λ commit e key lock f. by_number lock.start actor.start
          (λ mine is_commit. (pair.apart.commits commit e).0 (sym is_commit ∙ mine))
          (λ apart. own.locks commit e key lock (before key lock f apart));
    }

draw_kept : (number : ℕ) (rows : Rows) (actor : Actor) (others : List Actor) (commit : ℕ) → MayDraw number actor commit →
    IsConsistent (record { number = number; rows = rows; actors = actor ∷ others }) →
    IsConsistent (record { number = suc commit; rows = rows; actors = with_transaction actor (with_commit actor.transaction commit) ∷ others })
draw_kept number rows actor others commit may is = record {
  times = is.times;
  named = is.named;
  once = is.once;
  below = more_below number (suc commit) rows (let le = may.granted in omega arith) is.below;
  sound = draw_step rows actor others commit may.all (undrawn_is_undone actor.start actor.transaction (traces actor.start rows) is.sound.0.transacts may.undrawn) (each_map (λ other. Unit {0}) (IsOlder number) (IsBelow commit) (λ other c older. lower other older) (actor ∷ others) (each_holds _ (λ other. tt) (actor ∷ others)) is.older) is.sound;
  older = (
    record {
      below = record { start = (let lt = is.older.0.below.start in let le = may.granted in omega arith); commit = λ c e. (let same : commit ≡ c = cc in omega arith) };
      recovers = if_some _ _ (λ recovery lt. let le = may.granted in omega arith) actor.recovery is.older.0.recovers;
    },
    each_older number (suc commit) (let le = may.granted in omega arith) others is.older.1,
  );
  own = (record { start = is.own.0.start; commit = λ c e. let same : commit ≡ c = cc in subst (λ n. AllVersions (λ version. is_own actor.start n version.start version.commit) rows) same mine; locks = locks }, is.own.1);
}
  where
    lower : (other : Actor) → IsOlder number other → IsBelow commit other
    lower other older = record { start = (let lt = older.below.start in let le = may.granted in omega arith); commit = λ c e. (let lt = older.below.commit c e in let le = may.granted in omega arith) }

    is_own_below : (version : Version) → (nat_lt version.start version.commit && nat_lt version.commit number) ≡ true → is_own actor.start commit version.start version.commit ≡ true
    is_own_below version passes =
        let parts = and_parts (nat_lt version.start version.commit) (nat_lt version.commit number) passes in
        let first = ltb-true version.start version.commit parts.0 in
        let last = ltb-true version.commit number parts.1 in
        let le = may.granted in
        and_from (not (version.start == commit)) (not (version.commit == commit) || version.start == actor.start)
        (ap not (unequal_false version.start commit (λ e. absurd (omega arith)))) (ap (λ b. not b || version.start == actor.start) (unequal_false version.commit commit (λ e. absurd (omega arith))))

    mine : AllVersions (λ version. is_own actor.start commit version.start version.commit) rows
    mine key = all_weaker (λ version. nat_lt version.start version.commit && nat_lt version.commit number) (λ version. is_own actor.start commit version.start version.commit) is_own_below (rows key).versions
        (both_all (rows key).versions (is.times.first key) (is.below.versions key))
      where
        both_all : (versions : List Version) → list_all starts_first versions ≡ true → list_all (λ version. nat_lt version.commit number) versions ≡ true →
            list_all (λ version. nat_lt version.start version.commit && nat_lt version.commit number) versions ≡ true
        both_all [] first last = refl
        both_all (version ∷ versions) first last =
            let before = and_parts (starts_first version) (list_all starts_first versions) first in
            let below = and_parts (nat_lt version.commit number) (list_all (λ v. nat_lt v.commit number) versions) last in
            and_from (nat_lt version.start version.commit && nat_lt version.commit number) (list_all (λ v. nat_lt v.start v.commit && nat_lt v.commit number) versions)
            (and_from (nat_lt version.start version.commit) (nat_lt version.commit number) before.0 below.0) (both_all versions before.1 below.1)

    locks : (c : ℕ) → Some commit ≡ Some c → (key : Key) (lock : Lock) → (rows key).lock ≡ Some lock → lock.start ≢ c
    locks c e key lock f is_commit = absurd (let same : commit ≡ c = cc in let lt = is.below.locks key lock f in let le = may.granted in omega arith)

primary_kept : (number : ℕ) (rows : Rows) (actor : Actor) (others : List Actor) (write : Write) (commit : ℕ) → MayCommitPrimary rows actor write commit →
    IsConsistent (record { number = number; rows = rows; actors = actor ∷ others }) →
    IsConsistent (record { number = number; rows = acted rows write.key (commit_act write actor.start commit); actors = with_transaction actor (as_committed actor.transaction) ∷ others })
primary_kept number rows actor others write commit may is = record {
  times = replace_in_order rows write.key version may.allowed later is.times;
  named = λ key lock e other l f. is.named key lock (fewer key lock e) other l (fewer other l f);
  once = λ key start c e. by_number actor.start start (λ same. own_once key start c same e) (λ apart. other_once key start c apart e);
  below = record {
    versions = versions (λ first last. nat_lt last number) (lt-ltb commit number (is.older.0.below.commit commit may.drawn)) is.below.versions;
    locks = λ key lock e. is.below.locks key lock (fewer key lock e);
  };
  sound = primary_step rows actor others write (its_first rows actor write commit may).0 commit is.times (its_first rows actor write commit may).1 may.drawn may.undone may.allowed is.sound;
  older = (record { below = record { start = is.older.0.below.start; commit = is.older.0.below.commit }; recovers = is.older.0.recovers }, is.older.1);
  own = (
    record {
      start = versions (λ first last. not (last == actor.start)) (ap not (unequal_false commit actor.start (λ e. absurd (let lt = later in omega arith)))) is.own.0.start;
      commit = λ c e. let same : commit ≡ c = (let drawn = may.drawn in cc) in versions (is_own actor.start c) (own_passes c same) (is.own.0.commit c e);
      locks = λ c e key lock f. is.own.0.locks c e key lock (fewer key lock f);
    },
    each_map (λ other. ArePair rows actor other × ArePair rows other actor) (NumbersAreOwn rows) (NumbersAreOwn after) (λ other pair own. others_own other pair.0 pair.1 own) others is.sound.1 is.own.1,
  );
}
  where
    version : Version
    version = version_of (lock_of write actor.start write.key) commit

    after : Rows
    after = acted rows write.key (commit_act write actor.start commit)

    later : actor.start < commit
    later = is.sound.0.transacts.later commit may.drawn

    fewer : (key : Key) (lock : Lock) → (after key).lock ≡ Some lock → (rows key).lock ≡ Some lock
    fewer = put_each (λ q r. (l : Lock) → r.lock ≡ Some l → (rows q).lock ≡ Some l) rows write.key (replaced (rows write.key) version) (λ l e. absurd cc) (λ q apart l e. e)

    versions : (test : ℕ → ℕ → Bool) → test actor.start commit ≡ true → AllVersions (λ v. test v.start v.commit) rows → AllVersions (λ v. test v.start v.commit) after
    versions test passes = replace_keeps_all (λ v. test v.start v.commit) rows write.key version passes

    none : (key : Key) → find (λ v. v.start == actor.start) (rows key).versions ≡ None
    none = no_version_yet rows actor.start actor.transaction is.sound.0.transacts may.undone

    its_commit : (key : Key) (c : ℕ) → committed after key actor.start ≡ Some c → commit ≡ c
    its_commit key c = put_each (λ q r. commit_of actor.start r.versions ≡ Some c → commit ≡ c) rows write.key (replaced (rows write.key) version)
        (λ e. let same : Some commit ≡ Some c = sym (commit_added version (rows write.key).versions (ap (option_map (λ v. v.commit)) (none write.key))) ∙ e in cc)
        (λ q apart e. absurd (let clash : None ≡ Some c = sym (ap (option_map (λ v. v.commit)) (none q)) ∙ e in cc)) key

    own_once : (key : Key) (start c : ℕ) → actor.start ≡ start → committed after key start ≡ Some c → AllVersions (λ v. is_once start c v.start v.commit) after
    own_once key start c same e =
        let is_commit = its_commit key c (ap (committed after key) same ∙ e) in
        subst (λ s. AllVersions (λ v. is_once s c v.start v.commit) after) same
        (versions (is_once actor.start c) (ap (λ b. not (actor.start == actor.start) || b) (eq-eqb commit c is_commit) ∙ or_true (not (actor.start == actor.start))) (λ q. once_where_none actor.start c (rows q).versions (none q)))

    other_once : (key : Key) (start c : ℕ) → actor.start ≢ start → committed after key start ≡ Some c → AllVersions (λ v. is_once start c v.start v.commit) after
    other_once key start c apart e =
        versions (is_once start c) (ap (λ b. not b || commit == c) (unequal_false actor.start start apart))
        (is.once key start c (sym (commits_kept rows write.key (replaced (rows write.key) version) start (commit_kept start version (rows write.key).versions (unequal_false actor.start start apart)) key) ∙ e))

    own_passes : (c : ℕ) → commit ≡ c → is_own actor.start c actor.start commit ≡ true
    own_passes c same = and_from (not (actor.start == c)) (not (commit == c) || actor.start == actor.start) (ap not (unequal_false actor.start c (λ e. absurd (let lt = later in omega arith)))) (ap (λ b. not (commit == c) || b) (eq-eqb actor.start actor.start refl) ∙ or_true (not (commit == c)))

    others_own : (other : Actor) → ArePair rows actor other → ArePair rows other actor → NumbersAreOwn rows other → NumbersAreOwn after other
    others_own other to from own = record {
      start = versions (λ first last. not (last == other.start)) (ap not (unequal_false commit other.start (to.apart.commits commit may.drawn).0)) own.start;
      commit = λ c e. versions (is_own other.start c)
          (and_from (not (actor.start == c)) (not (commit == c) || actor.start == other.start) (ap not (unequal_false actor.start c (λ same. (from.apart.commits c e).0 (sym same))))
          (ap (λ b. not b || actor.start == other.start) (unequal_false commit c (λ same. (to.apart.commits commit may.drawn).1 (e ∙ ap Some (sym same)))))) (own.commit c e);
      locks = λ c e key lock f. own.locks c e key lock (fewer key lock f);
    }

secondary_kept : (number : ℕ) (rows : Rows) (actor : Actor) (others : List Actor) (write : Write) (commit : ℕ) → MayCommitSecondary rows actor write commit →
    IsConsistent (record { number = number; rows = rows; actors = actor ∷ others }) →
    IsConsistent (record { number = number; rows = acted rows write.key (commit_act write actor.start commit); actors = actor ∷ others })
secondary_kept number rows actor others write commit may is =
    rows_kept number rows (acted rows write.key (commit_act write actor.start commit)) (actor ∷ others)
    (replace_in_order rows write.key (version_of (lock_of write actor.start (primary_of actor.transaction)) commit) may.allowed (is.sound.0.transacts.later commit may.drawn) is.times)
    (forwarded rows write.key (lock_of write actor.start (primary_of actor.transaction)) commit is.times may.allowed
    (further rows actor.start actor.transaction write commit is.times is.sound.0.transacts may.done may.drawn (its_write rows actor write commit is.sound.0 may) may.allowed).now)
    (unlock_step actor.start rows _ (actor ∷ others) (secondary_unlocks rows actor.start actor.transaction write commit is.times is.sound.0.transacts may.done may.drawn (its_write rows actor write commit is.sound.0 may) may.allowed) is.sound) is

-- ---- all moves

pub move_is_consistent : MoveIsConsistent
move_is_consistent number rows actor others (Plan writes) may is =
    actor_kept number rows actor (with_transaction actor (new_transaction writes)) others (writes_step rows actor others writes may.0 may.1 is.sound)
    (record { below = record { start = is.older.0.below.start; commit = λ c e. absurd cc }; recovers = is.older.0.recovers })
    (record { start = is.own.0.start; commit = λ c e. absurd cc; locks = λ c e. absurd cc }) is
move_is_consistent number rows actor others (Prewrite write) may is = prewrite_kept number rows actor others write may is
move_is_consistent number rows actor others (Draw commit) may is = draw_kept number rows actor others commit may is
move_is_consistent number rows actor others (CommitPrimary write commit) may is = primary_kept number rows actor others write commit may is
move_is_consistent number rows actor others (CommitSecondary write commit) may is = secondary_kept number rows actor others write commit may is
move_is_consistent number rows actor others (CommitNothing commit) may is =
    actor_kept number rows actor (with_transaction actor (as_committed actor.transaction)) others (empty_step rows actor others commit may.nothing may.drawn may.undone is.sound)
    (record { below = record { start = is.older.0.below.start; commit = is.older.0.below.commit }; recovers = is.older.0.recovers })
    (record { start = is.own.0.start; commit = is.own.0.commit; locks = is.own.0.locks }) is
move_is_consistent number rows actor others (Read answer) may is =
    actor_kept number rows actor (with_answer actor answer) others (answer_step rows actor others answer may is.sound)
    (record { below = record { start = is.older.0.below.start; commit = is.older.0.below.commit }; recovers = is.older.0.recovers })
    (record { start = is.own.0.start; commit = is.own.0.commit; locks = is.own.0.locks }) is
move_is_consistent number rows actor others (Meet key lock) may is = meet_kept number rows actor others key lock may is
move_is_consistent number rows actor others (Learn recovery) may is = learn_kept number rows actor others recovery may.0 may.1 is
move_is_consistent number rows actor others (DropPrimary recovery) may is = drop_kept number rows actor others recovery may.0 may.1 is
move_is_consistent number rows actor others (RollBack recovery) may is = roll_back_kept number rows actor others recovery may.0 may.1 may.2 is
move_is_consistent number rows actor others (RollForward recovery commit) may is = roll_forward_kept number rows actor others recovery commit may.0 may.1 may.2 is
move_is_consistent number rows actor others EndRecovery may is = with_recovery_kept number rows actor others None tt tt is
move_is_consistent number rows actor others (WritePlain key plain) may is =
    rows_kept number rows (put rows key (updated (rows key) (SetPlain plain))) (actor ∷ others) (plain_in_order rows key (record { conds = []; updates = SetPlain plain ∷ [] }) plain refl is.times)
    (same_versions rows key (updated (rows key) (SetPlain plain)) (λ lock e. e) refl)
    (stay_step rows _ (actor ∷ others) (row_stays rows key (updated (rows key) (SetPlain plain)) refl refl) is.sound) is

pub moves_are_consistent : MovesAreConsistent
moves_are_consistent [] number rows actor number' rows' actor' others makes is =
    subst (λ n. IsConsistent (record { number = n; rows = rows'; actors = actor' ∷ others })) (sym makes.0)
    (subst (λ r. IsConsistent (record { number = number; rows = r; actors = actor' ∷ others })) (sym makes.1)
    (subst (λ a. IsConsistent (record { number = number; rows = rows; actors = a ∷ others })) (sym makes.2) is))
moves_are_consistent (move ∷ moves) number rows actor number' rows' actor' others makes is =
    moves_are_consistent moves (number_after move number) (rows_after move actor rows) (actor_after move rows actor) number' rows' actor' others makes.1
    (move_is_consistent number rows actor others move makes.0 is)
