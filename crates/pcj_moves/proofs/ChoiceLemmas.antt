-- What may be committed next, and what is read whichever of it is.
use Rattle.std.proofs.Common.{◌≡◌, ◌≢◌, ◌⊎◌, inl, inr, ◌<◌, ℕ, Bool, true, false, is_some, nat_le, List, [], ◌∷◌, take, Option, Some, None, refl, ap, ap₂, sym, subst, ◌∙◌}
use Rattle.std.proofs.lemmas.Bool.{and_parts, eq-eqb, leb-false, leb-true}
use Rattle.std.proofs.lemmas.List.Elements.{Contains-append_right}
use Rattle.std.specs.List.{Contains}
use Rattle.std.specs.Option.{option_map}
use Rattle.pcj_table.specs.Row.{add_version, is_locked_at, newest, versions_up_to}
use Rattle.pcj_table.specs.Table.{Key}
use Rattle.pcj_table.specs.declared.lock.Lock.{Lock}
use Rattle.pcj_table.specs.declared.row.Row.{Row}
use Rattle.pcj_mvcc.proofs.Laws.{read_uncommitted, replace_keeps_all, replaced}
use Rattle.pcj_mvcc.proofs.Versions.{commit_added, commit_kept, later_added, version_of_start}
use Rattle.pcj_mvcc.specs.Acts.{commit_act, lock_of, prewrite_act, version_of}
use Rattle.pcj_mvcc.specs.Choices.{Choice, committed_row, under}
use Rattle.pcj_mvcc.specs.Reading.{Put, Rows, acted, commit_of, committed, put_of, reading, versions_read, with_lock}
use Rattle.pcj_moves.specs.Traces.{lock_from, place, traces}
use Rattle.pcj_moves.specs.declared.answer.Answer.{Answer}
use Rattle.pcj_moves.specs.Transactions.{IsRipe, Transacts, as_committed, primary_of, with_commit, with_next, write_at}
use Rattle.pcj_moves.specs.Reads.{IsHidden, covers}
use Rattle.pcj_moves.specs.Actors.{Actor, ArePair, AreSound, Each, IsSound, with_transaction}
use Rattle.pcj_moves.specs.ChoiceLaws.{DrawRipe, IsRipeAt, NumbersStay, PrewriteRipe, PrimaryRipe, ReadsUnderChoice, UnlockRipe}
use Rattle.pcj_moves.proofs.TraceLemmas.{none_there, none_where_locked, other_lock, prewrite_changes, replace_changes, unequal_false}
use Rattle.pcj_moves.proofs.OtherLemmas.{lock_is, unwritten_unlocked}
use Rattle.pcj_moves.proofs.OwnLemmas.{lock_is_of_write, names_primary, place_each}
use Rattle.pcj_moves.proofs.ActorLemmas.{by_number, each_contains, each_map, each_sound, either_actor}
use Rattle.pcj_mvcc.specs.Choices.{Choice, under, committed_row, with_commit as with_commit_row}

-- ---- what is ripe

pub unlock_ripe : UnlockRipe
unlock_ripe start before after actors unlocks key commit ripe = ((ripe.0, ripe.1, ripe.2, was ripe.0 ripe.3), λ same. elsewhere ripe.0 ripe.2 ripe.3 same)
  where
    was : (actor : Actor) → IsRipe actor.start actor.transaction (traces actor.start after) commit → IsRipe actor.start actor.transaction (traces actor.start before) commit
    was actor is = record {
      drawn = is.drawn;
      undone = is.undone;
      locked = by_number actor.start start
          (λ same. place_each (λ q t. is_some t.lock ≡ true → is_some (traces actor.start before q).lock ≡ true) (traces actor.start before) unlocks.key unlocks.new
          (λ e. absurd (let none = ap is_some unlocks.free in cc)) (λ q apart e. e) (primary_of actor.transaction)
          (ap (λ at. is_some (at (primary_of actor.transaction)).lock) (sym (subst (λ s. traces s after ≡ place (traces s before) unlocks.key unlocks.new) (sym same) unlocks.changes.own)) ∙ is.locked))
          (λ apart. ap (λ at. is_some (at (primary_of actor.transaction)).lock) (sym (unlocks.changes.others actor.start apart)) ∙ is.locked);
    }

    elsewhere : (actor : Actor) → primary_of actor.transaction ≡ key → IsRipe actor.start actor.transaction (traces actor.start after) commit → key ≡ unlocks.key → ⊥
    elsewhere actor primary is same =
        let clash : false ≡ true = ap (λ l. is_some (lock_from actor.start l)) (sym unlocks.empty) ∙ ap (λ k. is_some (traces actor.start after k).lock) (sym same ∙ sym primary) ∙ is.locked in cc

head_ripe : (rows after : Rows) (actor mover : Actor) (others : List Actor) (key : Key) → ((commit : ℕ) → IsRipe mover.start mover.transaction (traces mover.start after) commit → ⊥) →
    ((start : ℕ) → start ≢ actor.start → traces start after ≡ traces start rows) → ((start : ℕ) → start ≢ actor.start → (traces start rows key).lock ≡ None) → Each (λ other. other.start ≢ actor.start) others →
    (place : Key) (commit : ℕ) → IsRipeAt after (mover ∷ others) place commit → IsRipeAt rows (actor ∷ others) place commit × (place ≢ key)
head_ripe rows after actor mover others key not_mover stays none apart place commit ripe = by (either_actor mover ripe.0 others ripe.1)
  where
    by : (mover ≡ ripe.0) ⊎ Contains others ripe.0 → IsRipeAt rows (actor ∷ others) place commit × (place ≢ key)
    by (inl same) = absurd (not_mover commit (subst (λ (a : Actor). IsRipe a.start a.transaction (traces a.start after) commit) (sym same) ripe.3))
    by (inr there) =
        let differs = each_contains _ others ripe.0 apart there in
        let was : IsRipe ripe.0.start ripe.0.transaction (traces ripe.0.start rows) commit = subst (λ at. IsRipe ripe.0.start ripe.0.transaction at commit) (stays ripe.0.start differs) ripe.3 in (
          (ripe.0, Contains-append_right (actor ∷ []) others ripe.0 there, ripe.2, was),
          λ same. let clash : false ≡ true = ap is_some (sym (none ripe.0.start differs)) ∙ ap (λ k. is_some (traces ripe.0.start rows k).lock) (sym same ∙ sym ripe.2) ∙ was.locked in cc,
        )

others_apart : (rows : Rows) (actor : Actor) (others : List Actor) → AreSound rows (actor ∷ others) → Each (λ other. other.start ≢ actor.start) others
others_apart rows actor others sound = each_map (λ other. ArePair rows actor other × ArePair rows other actor) (λ other. ArePair rows actor other × ArePair rows other actor) _ (λ other p q. p.1.apart.starts) others sound.1 sound.1

pub prewrite_ripe : PrewriteRipe
prewrite_ripe rows actor others write order next allowed sound =
    head_ripe rows (acted rows write.key (prewrite_act write actor.start (primary_of actor.transaction))) actor (with_transaction actor (with_next actor.transaction)) others write.key
    (λ commit ripe. let none = next.commit in let drawn = ripe.drawn in cc)
    (prewrite_changes rows write actor.start (primary_of actor.transaction) order allowed).others
    (λ start differs. none_there (rows write.key).lock start (and_parts _ _ allowed).0) (others_apart rows actor others sound)

pub primary_ripe : PrimaryRipe
primary_ripe rows actor others write commit order allowed sound =
    head_ripe rows (acted rows write.key (commit_act write actor.start commit)) actor (with_transaction actor (as_committed actor.transaction)) others write.key
    (λ other ripe. let undone = ripe.undone in cc)
    (replace_changes rows write.key (version_of (lock_of write actor.start write.key) commit) order allowed).others
    (λ start differs. other_lock (rows write.key).lock actor.start start (and_parts _ _ allowed).0 differs) (others_apart rows actor others sound)

pub numbers_stay : NumbersStay
numbers_stay test rows key lock commit is all =
    let found = version_of_start (λ v. test v.start v.commit) lock.start commit (rows lock.primary).versions (all lock.primary) is in
    replace_keeps_all (λ v. test v.start v.commit) rows key (version_of lock commit) (ap₂ test (sym found.1) (sym found.2) ∙ found.3) all

pub draw_ripe : DrawRipe
draw_ripe rows actor others commit lock order undrawn locked own sound = record { more = more; none = none }
  where
    more : (key : Key) (other : ℕ) → IsRipeAt rows (with_transaction actor (with_commit actor.transaction commit) ∷ others) key other → IsRipeAt rows (actor ∷ others) key other ⊎ ((key ≡ primary_of actor.transaction) × (other ≡ commit))
    more key other ripe = by (either_actor (with_transaction actor (with_commit actor.transaction commit)) ripe.0 others ripe.1)
      where
        by : (with_transaction actor (with_commit actor.transaction commit) ≡ ripe.0) ⊎ Contains others ripe.0 → IsRipeAt rows (actor ∷ others) key other ⊎ ((key ≡ primary_of actor.transaction) × (other ≡ commit))
        by (inl same) = inr (
          sym ripe.2 ∙ ap (λ (a : Actor). primary_of a.transaction) (sym same),
          (let drawn : Some commit ≡ Some other = ap (λ (a : Actor). a.transaction.commit) same ∙ ripe.3.drawn in cc),
        )
        by (inr there) = inl (ripe.0, Contains-append_right (actor ∷ []) others ripe.0 there, ripe.2, ripe.3)

    none : (other : ℕ) → IsRipeAt rows (actor ∷ others) (primary_of actor.transaction) other → ⊥
    none other ripe = by (either_actor actor ripe.0 others ripe.1)
      where
        by : (actor ≡ ripe.0) ⊎ Contains others ripe.0 → ⊥
        by (inl same) = let drawn : None ≡ Some other = sym undrawn ∙ ap (λ (a : Actor). a.transaction.commit) same ∙ ripe.3.drawn in cc
        by (inr there) =
            let differs = each_contains (λ o. o.start ≢ actor.start) others ripe.0 (others_apart rows actor others sound) there in
            let held : is_some (traces ripe.0.start rows (primary_of actor.transaction)).lock ≡ true = ap (λ k. is_some (traces ripe.0.start rows k).lock) (sym ripe.2) ∙ ripe.3.locked in
            let free : lock_from ripe.0.start (rows (primary_of actor.transaction)).lock ≡ None = ap (lock_from ripe.0.start) locked ∙ rw (unequal_false lock.start ripe.0.start (λ e. differs (sym e ∙ own))) refl in
            let clash : false ≡ true = ap is_some (sym free) ∙ held in cc

-- ---- reads under a choice

-- A transaction that is chosen here: its lock is there, it isn't committed, and where a covered row has a lock of its start its commit is above the reader's.
record IsChosen (rows : Rows) (primary : Key) (commit : ℕ) (reader : ℕ) (key : Key) : Type 0 where
  pub lock : Lock
  pub locked : (rows primary).lock ≡ Some lock
  pub named : lock.primary ≡ primary
  pub later : is_locked_at lock.start (rows key).lock ≡ true → reader < commit

chosen : (rows : Rows) (actors : List Actor) (reader : ℕ) (answers : List Answer) (answer : Answer) (key : Key) → AreSound rows actors →
    Each (λ other. IsHidden other.start other.transaction (traces other.start rows) reader answers) actors → Contains answers answer → covers answer key ≡ true →
    (primary : Key) (commit : ℕ) → IsRipeAt rows actors primary commit → IsChosen rows primary commit reader key
chosen rows actors reader answers answer key sound hidden held covered primary commit ripe = by (traces ripe.0.start rows primary).lock refl
  where
    transacts : Transacts ripe.0.start ripe.0.transaction (traces ripe.0.start rows)
    transacts = (each_contains (IsSound rows) actors ripe.0 (each_sound rows actors sound) ripe.1).transacts

    later : (start : ℕ) → start ≡ ripe.0.start → (b : Bool) → nat_le commit reader ≡ b → is_locked_at start (rows key).lock ≡ true → reader < commit
    later start same true e locked = absurd
        (let free = unwritten_unlocked ripe.0.start ripe.0.transaction rows commit transacts ripe.3 key
        (each_contains _ actors ripe.0 hidden ripe.1 commit ripe.3 (leb-true commit reader e) answer held key covered) in
        let clash : true ≡ false = sym locked ∙ ap (λ s. is_locked_at s (rows key).lock) same ∙ free in cc)
    later start same false e locked = leb-false commit reader e

    by : (found : Option Lock) → (traces ripe.0.start rows primary).lock ≡ found → IsChosen rows primary commit reader key
    by None e = absurd (let clash : false ≡ true = ap is_some (sym e) ∙ ap (λ k. is_some (traces ripe.0.start rows k).lock) (sym ripe.2) ∙ ripe.3.locked in cc)
    by (Some lock) e =
        let there = lock_is (rows primary).lock ripe.0.start lock e in
        record {
          lock = lock;
          locked = there.0;
          named = sym (names_primary ripe.0.start (primary_of ripe.0.transaction) (write_at (take ripe.0.transaction.prewritten ripe.0.transaction.writes) primary) lock
              (lock_is_of_write ripe.0.start ripe.0.transaction (traces ripe.0.start rows) primary lock transacts e)) ∙ ripe.2;
          later = later lock.start there.1 (nat_le commit reader) refl;
        }

under_at : (choice : Choice) (rows : Rows) (key : Key) (lock : Lock) (commit : ℕ) → choice key ≡ Some commit → (rows key).lock ≡ Some lock → under choice rows key ≡ replaced (rows key) (version_of lock commit)
under_at choice rows key lock commit e locked = ap (λ c. with_commit_row c (rows key)) e ∙ ap (λ l. committed_row l commit (rows key)) locked

pub reads_under_choice : ReadsUnderChoice
reads_under_choice rows actors choice reader answers order sound is hidden reads answer held key covered =
    ap (λ vs. option_map (λ (put : Put). put.0) (put_of (newest vs))) (by (choice key) refl) ∙ reads answer held key covered
  where
    is_chosen : (primary : Key) (commit : ℕ) → choice primary ≡ Some commit → IsChosen rows primary commit reader key
    is_chosen primary commit e = chosen rows actors reader answers answer key sound hidden held covered primary commit (is primary commit e)

    within : (l : Lock) → (rows key).lock ≡ Some l → (c : Option ℕ) → choice l.primary ≡ c →
        versions_up_to reader (with_lock l (committed (under choice rows) l.primary l.start) (rows key).versions) ≡ versions_up_to reader (with_lock l (committed rows l.primary l.start) (rows key).versions)
    within l e None none = ap (λ r. versions_up_to reader (with_lock l (commit_of l.start r.versions) (rows key).versions)) (ap (λ c. with_commit_row c (rows l.primary)) none)
    within l e (Some commit) some =
        let one = is_chosen l.primary commit some in
        let new = ap (λ (r : Row). r.versions) (under_at choice rows l.primary one.lock commit some one.locked) in
        by_number one.lock.start l.start
        (λ same.
        let none : committed rows l.primary l.start ≡ None = ap (option_map (λ v. v.commit)) (none_where_locked rows l.primary l.start order (ap (is_locked_at l.start) one.locked ∙ eq-eqb one.lock.start l.start same)) in
        let now : committed (under choice rows) l.primary l.start ≡ Some commit = ap (commit_of l.start) new ∙ subst (λ s. commit_of s (add_version (version_of one.lock commit) (rows l.primary).versions) ≡ Some commit) same
        (commit_added (version_of one.lock commit) (rows l.primary).versions (ap (λ s. committed rows l.primary s) same ∙ none)) in
        ap (λ c. versions_up_to reader (with_lock l c (rows key).versions)) now
        ∙ later_added reader (version_of l commit) (rows key).versions (one.later (ap (is_locked_at one.lock.start) e ∙ eq-eqb l.start one.lock.start (sym same)))
        ∙ ap (λ c. versions_up_to reader (with_lock l c (rows key).versions)) (sym none))
        (λ apart. ap (λ c. versions_up_to reader (with_lock l c (rows key).versions))
        (ap (commit_of l.start) new ∙ commit_kept l.start (version_of one.lock commit) (rows l.primary).versions (unequal_false one.lock.start l.start apart)))

    locked : (found : Option Lock) → (rows key).lock ≡ found →
        versions_up_to reader (reading (committed (under choice rows)) (rows key).lock (rows key).versions) ≡ versions_up_to reader (versions_read rows key)
    locked None e = ap (λ l. versions_up_to reader (reading (committed (under choice rows)) l (rows key).versions)) e ∙ ap (λ l. versions_up_to reader (reading (committed rows) l (rows key).versions)) (sym e)
    locked (Some l) e = ap (λ l. versions_up_to reader (reading (committed (under choice rows)) l (rows key).versions)) e ∙ within l e (choice l.primary) refl
        ∙ ap (λ l. versions_up_to reader (reading (committed rows) l (rows key).versions)) (sym e)

    by : (c : Option ℕ) → choice key ≡ c → versions_up_to reader (versions_read (under choice rows) key) ≡ versions_up_to reader (versions_read rows key)
    by None none = ap (λ r. versions_up_to reader (reading (committed (under choice rows)) r.lock r.versions)) (ap (λ c. with_commit_row c (rows key)) none) ∙ locked (rows key).lock refl
    by (Some commit) some =
        let one = is_chosen key commit some in
        let mine : is_locked_at one.lock.start (rows key).lock ≡ true = ap (is_locked_at one.lock.start) one.locked ∙ eq-eqb one.lock.start one.lock.start refl in
        let none : committed rows one.lock.primary one.lock.start ≡ None = ap (λ k. committed rows k one.lock.start) one.named ∙ ap (option_map (λ v. v.commit)) (none_where_locked rows key one.lock.start order mine) in
        ap (λ r. versions_up_to reader (reading (committed (under choice rows)) r.lock r.versions)) (under_at choice rows key one.lock commit some one.locked)
        ∙ later_added reader (version_of one.lock commit) (rows key).versions (one.later mine)
        ∙ ap (versions_up_to reader) (sym (read_uncommitted rows key one.lock one.locked none))
