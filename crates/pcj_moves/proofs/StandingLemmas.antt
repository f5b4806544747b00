-- All rows of a transaction stand, with one commit, or none does.
use Rattle.std.proofs.Common.{◌≡◌, ◌⊎◌, inl, inr, ◌<◌, ℕ, Bool, true, false, cond, ◌==◌, nat_le, nat_lt, List, [], ◌∷◌, length, take, Option, Some, None, refl, ap, ap₂, sym, subst, ◌∙◌, arith}
use Rattle.std.proofs.lemmas.Bool.{and_parts, eq-eqb, le-leb, leb-true, ltb-true}
use Rattle.std.proofs.lemmas.List.{take_all}
use Rattle.std.specs.List.{find, list_all}
use Rattle.std.specs.Option.{option_map}
use Rattle.pcj_table.specs.Row.{is_locked_at, newest, updated, versions_up_to}
use Rattle.pcj_table.specs.Table.{Key, found}
use Rattle.pcj_table.specs.declared.lock.Lock.{Lock}
use Rattle.pcj_table.specs.declared.update.Update.TheVariants.{SetPlain}
use Rattle.pcj_table.specs.declared.version.Version.{Version}
use Rattle.pcj_table.specs.declared.write.Write.{Write}
use Rattle.pcj_mvcc.proofs.Laws.{lock_cases, prewrite_keeps, read_committed, read_uncommitted, read_unlocked, reading_ascends}
use Rattle.pcj_mvcc.proofs.Versions.{find_added, found_added}
use Rattle.pcj_mvcc.specs.Acts.{lock_of, version_of}
use Rattle.pcj_mvcc.specs.Laws.{StandsAtOnce}
use Rattle.pcj_mvcc.specs.Reading.{Rows, SameReading, committed, put_of, versions_read}
use Rattle.pcj_mvcc.specs.Times.{ascends}
use Rattle.pcj_moves.specs.Traces.{Trace, Traces, lock_trace, traces, version_trace}
use Rattle.pcj_moves.specs.Transactions.{IsRipe, IsWon, Transaction, Transacts, as_version, lock_at, primary_of, write_at}
use Rattle.pcj_moves.specs.Moves.{CommitNothing, CommitPrimary, CommitSecondary, Draw, DropPrimary, EndRecovery, Learn, Meet, Plan, Prewrite, Read, RollBack, RollForward, WritePlain}
use Rattle.pcj_moves.specs.StandingLaws.{AllAreSeen, AllStand, NoneStands, OneMoveChanges, StandsWhole, version_read, version_written}
use Rattle.pcj_moves.proofs.TraceLemmas.{row_stays}
use Rattle.pcj_moves.proofs.WriteLemmas.{undrawn_is_undone}
use Rattle.pcj_moves.proofs.OtherLemmas.{lock_is, not_locked, ripe_is_held, unwritten_unlocked}
use Rattle.pcj_moves.proofs.OwnLemmas.{primary_first}
use Rattle.pcj_moves.proofs.StepLemmas.{at_primary, names_one, no_version_yet, recovery_drops_primary, recovery_rolls_back, recovery_rolls_forward, secondary_unlocks, uncommitted}
use Rattle.pcj_moves.proofs.ConsistencyLemmas.{its_first, its_recovery, its_write}

-- ---- what is read of a start in a row

abbrev version_there : ℕ → Rows → Key → Option Version
version_there start rows key = find (λ version. version.start == start) (rows key).versions

-- where no lock of it stands, its version
read_without_lock : (rows : Rows) (key : Key) (start : ℕ) → is_locked_at start (rows key).lock ≡ false → version_read start rows key ≡ version_there start rows key
read_without_lock rows key start free = by (rows key).lock refl
  where
    within : (lock : Lock) → (rows key).lock ≡ Some lock → (found : Option ℕ) → committed rows lock.primary lock.start ≡ found → version_read start rows key ≡ version_there start rows key
    within lock e None is = ap (find (λ version. version.start == start)) (read_uncommitted rows key lock e is)
    within lock e (Some commit) is =
        ap (find (λ version. version.start == start)) (read_committed rows key lock commit e is)
        ∙ find_added (λ version. version.start == start) (version_of lock commit) (rows key).versions (ap (is_locked_at start) (sym e) ∙ free)

    by : (lock : Option Lock) → (rows key).lock ≡ lock → version_read start rows key ≡ version_there start rows key
    by None e = ap (find (λ version. version.start == start)) (read_unlocked rows key e)
    by (Some lock) e = within lock e (committed rows lock.primary lock.start) refl

-- where one stands, what it is to write, once it is committed
read_of_lock : (rows : Rows) (key : Key) (lock : Lock) (commit : ℕ) → (rows key).lock ≡ Some lock → committed rows lock.primary lock.start ≡ Some commit → version_there lock.start rows key ≡ None →
    version_read lock.start rows key ≡ Some (version_of lock commit)
read_of_lock rows key lock commit e is none =
    ap (find (λ version. version.start == lock.start)) (read_committed rows key lock commit e is)
    ∙ found_added (λ version. version.start == lock.start) (version_of lock commit) (rows key).versions (eq-eqb lock.start lock.start refl) none

pub none_stands : NoneStands
none_stands rows start transaction order transacts not_yet key = by (lock_cases (rows key).lock start)
  where
    by : ((l : Lock) × ((rows key).lock ≡ Some l) × (l.start ≡ start)) ⊎ (is_locked_at start (rows key).lock ≡ false) → version_read start rows key ≡ None
    by (inl found) =
        ap (find (λ version. version.start == start)) (read_uncommitted rows key found.0 found.1
        (ap₂ (committed rows) (names_one rows start transaction transacts key found.0 found.1 found.2) found.2 ∙ uncommitted rows start transaction transacts not_yet))
        ∙ no_version_yet rows start transaction transacts not_yet key
    by (inr free) = read_without_lock rows key start free ∙ no_version_yet rows start transaction transacts not_yet key

pub all_stand : AllStand
all_stand rows start transaction commit order transacts done drawn key = by (won.each key) ∙ written
  where
    at : Traces
    at = traces start rows

    won : IsWon (primary_of transaction) (lock_at start transaction) commit at
    won = let found = transacts.won done in
        let same : found.0 ≡ commit = (let e = found.1 in cc) in subst (λ c. IsWon (primary_of transaction) (lock_at start transaction) c at) same found.2

    composed : (found : Option Write) → as_version commit (option_map (λ w. lock_of w start (primary_of transaction)) found) ≡ option_map (λ w. version_of (lock_of w start (primary_of transaction)) commit) found
    composed None = refl
    composed (Some w) = refl

    written : as_version commit (lock_at start transaction key) ≡ version_written start transaction.writes commit key
    written = composed (write_at (take transaction.prewritten transaction.writes) key)
        ∙ ap (λ ws. option_map (λ w. version_of (lock_of w start (primary_of transaction)) commit) (write_at ws key))
        (ap (λ n. take n transaction.writes) (transacts.all commit drawn) ∙ take_all (length transaction.writes) transaction.writes (omega arith))

    now : (lock : Lock) → lock_at start transaction key ≡ Some lock → committed rows (primary_of transaction) start ≡ Some commit
    now lock e = ap (λ (t : Trace). option_map (λ v. v.commit) t.version) won.primary_there ∙ some (lock_at start transaction (primary_of transaction)) refl
      where
        some : (found : Option Lock) → lock_at start transaction (primary_of transaction) ≡ found → option_map (λ (v : Version). v.commit) (as_version commit found) ≡ Some commit
        some None none = absurd (let clash : None ≡ Some lock = sym (primary_first start transaction.prewritten transaction.writes (primary_of transaction) none key) ∙ e in cc)
        some (Some l) is = refl

    locked : (found : Option Lock) → lock_at start transaction key ≡ found → at key ≡ lock_trace found → version_read start rows key ≡ as_version commit found
    locked None e is = read_without_lock rows key start (not_locked (rows key).lock start (ap (λ (t : Trace). t.lock) is)) ∙ ap (λ (t : Trace). t.version) is
    locked (Some lock) e is =
        let there = lock_is (rows key).lock start lock (ap (λ (t : Trace). t.lock) is) in
        let named : lock.primary ≡ primary_of transaction = names_one rows start transaction transacts key lock there.0 there.1 in
        ap (λ s. version_read s rows key) (sym there.1)
        ∙ read_of_lock rows key lock commit there.0 (ap₂ (committed rows) named there.1 ∙ now lock e) (ap (λ s. version_there s rows key) there.1 ∙ ap (λ (t : Trace). t.version) is)

    by : (at key ≡ lock_trace (lock_at start transaction key)) ⊎ (at key ≡ version_trace (as_version commit (lock_at start transaction key))) → version_read start rows key ≡ as_version commit (lock_at start transaction key)
    by (inl is) = locked (lock_at start transaction key) refl is
    by (inr is) = read_without_lock rows key start (not_locked (rows key).lock start (ap (λ (t : Trace). t.lock) is)) ∙ ap (λ (t : Trace). t.version) is

-- ---- versions that ascend

-- none of those above a commit is seen at it
none_up_to : (at : ℕ) (versions : List Version) → list_all (λ later. nat_lt at later.commit) versions ≡ true → versions_up_to at versions ≡ []
none_up_to at [] all = refl
none_up_to at (version ∷ versions) all =
    let both = and_parts (nat_lt at version.commit) (list_all (λ later. nat_lt at later.commit) versions) all in
    rw (by (nat_le version.commit at) refl (ltb-true at version.commit both.0)) (none_up_to at versions both.1)
  where
    by : (b : Bool) → nat_le version.commit at ≡ b → at < version.commit → nat_le version.commit at ≡ false
    by true e lt = absurd (let le = leb-true version.commit at e in omega arith)
    by false e lt = e

newest_of_rest : (first : Version) (versions : List Version) (found : Version) → newest versions ≡ Some found → newest (first ∷ versions) ≡ Some found
newest_of_rest first [] found e = absurd cc
newest_of_rest first (version ∷ versions) found e = e

passes_all : (test which : Version → Bool) (versions : List Version) (found : Version) → list_all test versions ≡ true → find which versions ≡ Some found → test found ≡ true
passes_all test which [] found all is = absurd cc
passes_all test which (version ∷ versions) found all is = by (which version) is (passes_all test which versions found (and_parts _ _ all).1)
  where
    by : (b : Bool) → cond b (Some version) (find which versions) ≡ Some found → (find which versions ≡ Some found → test found ≡ true) → test found ≡ true
    by true e later = let same : version ≡ found = cc in subst (λ v. test v ≡ true) same (and_parts (test version) (list_all test versions) all).0
    by false e later = later e

-- a version that is found is the newest at its commit
newest_then : (which : Version → Bool) (versions : List Version) (found : Version) → ascends versions ≡ true → find which versions ≡ Some found → newest (versions_up_to found.commit versions) ≡ Some found
newest_then which [] found order is = absurd cc
newest_then which (version ∷ versions) found order is = by (which version) is (newest_then which versions found (and_parts _ _ order).1)
  where
    above : list_all (λ later. nat_lt version.commit later.commit) versions ≡ true
    above = (and_parts (list_all (λ later. nat_lt version.commit later.commit) versions) (ascends versions) order).0

    by : (b : Bool) → cond b (Some version) (find which versions) ≡ Some found → (find which versions ≡ Some found → newest (versions_up_to found.commit versions) ≡ Some found) →
        newest (versions_up_to found.commit (version ∷ versions)) ≡ Some found
    by true e later =
        let same : version ≡ found = cc in
        subst (λ (v : Version). newest (versions_up_to v.commit (version ∷ versions)) ≡ Some v) same
        (rw (le-leb version.commit version.commit (omega arith)) (ap (λ vs. newest (version ∷ vs)) (none_up_to version.commit versions above)))
    by false e later =
        let lower : version.commit < found.commit = ltb-true version.commit found.commit (passes_all (λ other. nat_lt version.commit other.commit) which versions found above e) in
        rw (le-leb version.commit found.commit (omega arith)) (newest_of_rest version (versions_up_to found.commit versions) found (later e))

pub all_are_seen : AllAreSeen
all_are_seen rows start transaction commit order transacts done drawn key write is =
    ap put_of (newest_then (λ version. version.start == start) (versions_read rows key) (version_of (lock_of write start (primary_of transaction)) commit) (reading_ascends rows key order)
    (all_stand rows start transaction commit order transacts done drawn key ∙ ap (option_map (λ w. version_of (lock_of w start (primary_of transaction)) commit)) is))

-- ---- what a move changes

stands_whole : (rows : Rows) (start : ℕ) (transaction : Transaction) (commit : ℕ) (after : Rows) → Transacts start transaction (traces start rows) → IsRipe start transaction (traces start rows) commit →
    StandsAtOnce start commit rows after → StandsWhole transaction.writes commit rows after
stands_whole rows start transaction commit after transacts ripe at_once = record {
  earlier = at_once.before;
  written = λ key write is. at_once.locked key (lock_of write start (primary_of transaction)) (there key write is).0 refl;
  others = λ key none. at_once.others key (unwritten_unlocked start transaction rows commit transacts ripe key none);
}
  where
    there : (key : Key) (write : Write) → write_at transaction.writes key ≡ Some write → ((rows key).lock ≡ Some (lock_of write start (primary_of transaction))) × (start ≡ start)
    there key write is = lock_is (rows key).lock start (lock_of write start (primary_of transaction))
        (ap (λ (t : Trace). t.lock) (ripe_is_held start transaction (traces start rows) commit transacts ripe key)
        ∙ ap (option_map (λ w. lock_of w start (primary_of transaction)))
        (ap (λ n. write_at (take n transaction.writes) key) (transacts.all commit ripe.drawn) ∙ ap (λ writes. write_at writes key) (take_all (length transaction.writes) transaction.writes (omega arith)) ∙ is))

same_rows : (rows : Rows) → SameReading rows rows
same_rows rows key = refl

pub one_move_changes : OneMoveChanges
one_move_changes number rows actor others (Plan writes) may is = same_rows rows
one_move_changes number rows actor others (Prewrite write) may is =
    prewrite_keeps rows write actor.start (primary_of actor.transaction) may.allowed (uncommitted rows actor.start actor.transaction is.sound.0.transacts (undrawn_is_undone actor.start actor.transaction (traces actor.start rows) is.sound.0.transacts may.undrawn))
one_move_changes number rows actor others (Draw commit) may is = same_rows rows
one_move_changes number rows actor others (CommitPrimary write commit) may is =
    let facts = at_primary rows actor.start actor.transaction write (its_first rows actor write commit may).0 commit is.times is.sound.0.transacts (its_first rows actor write commit may).1 may.drawn may.undone may.allowed in
    stands_whole rows actor.start actor.transaction commit _ is.sound.0.transacts facts.ripe facts.at_once
one_move_changes number rows actor others (CommitSecondary write commit) may is =
    (secondary_unlocks rows actor.start actor.transaction write commit is.times is.sound.0.transacts may.done may.drawn (its_write rows actor write commit is.sound.0 may) may.allowed).same
one_move_changes number rows actor others (CommitNothing commit) may is = same_rows rows
one_move_changes number rows actor others (Read answer) may is = same_rows rows
one_move_changes number rows actor others (Meet key lock) may is = same_rows rows
one_move_changes number rows actor others (Learn recovery) may is = same_rows rows
one_move_changes number rows actor others (DropPrimary recovery) may is =
    (recovery_drops_primary rows recovery is.times (its_recovery rows actor recovery is.sound.0 may.0).0 may.1).same
one_move_changes number rows actor others (RollBack recovery) may is =
    (recovery_rolls_back rows recovery is.times (its_recovery rows actor recovery is.sound.0 may.0).0 may.1 may.2).same
one_move_changes number rows actor others (RollForward recovery commit) may is =
    (recovery_rolls_forward rows recovery commit is.times (its_recovery rows actor recovery is.sound.0 may.0).0 may.1 may.2).same
one_move_changes number rows actor others EndRecovery may is = same_rows rows
one_move_changes number rows actor others (WritePlain key plain) may is = (row_stays rows key (updated (rows key) (SetPlain plain)) refl refl).same
