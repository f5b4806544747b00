-- The laws of the acts of transactions on what is read.
use Rattle.std.proofs.Common.{◌≡◌, ◌≢◌, ◌⊎◌, inl, inr, ◌<◌, ℕ, Bool, true, false, cond, not, ◌||◌, is_some, ◌==◌, nat_le, List, Option, Some, None, refl, ap, ap₂, sym, subst, ◌∙◌, arith}
use Rattle.std.proofs.lemmas.Bool.{and_parts, eqb-true, eq-eqb, ltb-true, lt-ltb, leb-false}
use Rattle.std.specs.List.{list_all}
use Rattle.std.specs.Option.{option_map}
use Rattle.pcj_term.proofs.ByteLemmas.{other_bytes}
use Rattle.pcj_table.specs.declared.lock.Lock.{Lock}
use Rattle.pcj_table.specs.declared.version.Version.{Version}
use Rattle.pcj_table.specs.declared.row.Row.{Row}
use Rattle.pcj_table.specs.declared.write.Write.{Write}
use Rattle.pcj_table.specs.declared.plain.Plain.{Plain}
use Rattle.pcj_table.specs.declared.cond.Cond.{Cond}
use Rattle.pcj_table.specs.declared.update.Update.{Update}
use Rattle.pcj_table.specs.declared.update.Update.TheVariants.{SetPlain}
use Rattle.pcj_table.specs.declared.mutated.Mutated.{Mutated}
use Rattle.pcj_table.specs.declared.mutated.Mutated.TheVariants.{Applied, Rejected}
use Rattle.pcj_table.specs.Row.{newest, versions_up_to, add_version, updated, updated_all, are_below, is_locked_at, is_locked_up_to, is_put, has_plain_value}
use Rattle.pcj_table.specs.Table.{Key, Table, row_at, Mutates}
use Rattle.pcj_mvcc.specs.declared.act.Act.{Act}
use Rattle.pcj_mvcc.specs.Acts.{lock_of, version_of, prewrite_act, replace_lock_act, roll_back_act}
use Rattle.pcj_mvcc.specs.Reading.{Rows, put, acted, lock_up_to, commit_of, committed, with_lock, reading, versions_read, put_of, seen, SameReading, Put, OnePrimary, OnlyLock, Commits, CarriesOut}
use Rattle.pcj_mvcc.specs.Times.{ascends, AllVersions, starts_first, TimesInOrder}
use Rattle.pcj_mvcc.specs.Laws.{ChangesOneRow, ActsOnOneRow, PrewriteKeeps, RollBackKeeps, RollForwardKeeps, CommitKeeps, PlainKeeps, PrimaryCommits, ReadingsDecide, CommitsStand, SameStanding, StandingIsSeen, ReadsAreSeen, PassedRowsShowNothing, PrewriteInOrder, ReplaceInOrder, RollBackInOrder, PlainInOrder, PrewriteNamesOne, ReplaceNamesOne, RollBackNamesOne, PlainNamesOne}
use Rattle.pcj_mvcc.proofs.Versions.{commit_kept, commit_added, later_added, seen_added, newest_added, version_of_start, below_more, ascends_added, all_added, seen_all}
use Rattle.pcj_mvcc.proofs.Rows.{put_each, put_same, put_other, with_row_puts, rows_alike}

-- ---- tables

pub changes_one_row : ChangesOneRow
changes_one_row table key row = rows_alike _ _ (with_row_puts table key row)

pub acts_on_one_row : ActsOnOneRow
acts_on_one_row old new key act done = (done.0, ap row_at done.1 ∙ changes_one_row old key (updated_all (row_at old key) act.updates))

pub carries_out : (old new : Table) (key : Key) (act : Act) (conds : List Cond) (updates : List Update) (done : Mutated) → conds ≡ act.conds → updates ≡ act.updates →
    Mutates old key conds updates done new → CarriesOut old key act done new
carries_out old new key act conds updates done is are mutates = by done (subst (λ (cs : List Cond). Mutates old key cs act.updates done new) is (subst (λ (us : List Update). Mutates old key conds us done new) are mutates))
  where
    by : (told : Mutated) → Mutates old key act.conds act.updates told new → CarriesOut old key act told new
    by Applied made = acts_on_one_row old new key act made
    by (Rejected row) left = left

-- the updates of an act leave the plain value
abbrev pub KeepsPlain : Act → Type 0
KeepsPlain act = (row : Row) → (updated_all row act.updates).plain ≡ row.plain

acted_plain : (rows : Rows) (key : Key) (act : Act) → KeepsPlain act → (other : Key) → (acted rows key act other).plain ≡ (rows other).plain
acted_plain rows key act keeps = put_each (λ at row. row.plain ≡ (rows at).plain) rows key (updated_all (rows key) act.updates) (keeps (rows key)) (λ other differs. refl)

pub carried_plain : (old new : Table) (key : Key) (act : Act) (done : Mutated) → KeepsPlain act → CarriesOut old key act done new → (other : Key) → (row_at new other).plain ≡ (row_at old other).plain
carried_plain old new key act Applied keeps made other = ap (λ (rows : Rows). (rows other).plain) made.1 ∙ acted_plain (row_at old) key act keeps other
carried_plain old new key act (Rejected row) keeps left other = ap (λ (table : Table). (row_at table other).plain) left.2

-- ---- locks of a row

-- the lock of this start that a row has
pub lock_there : (lock : Option Lock) (start : ℕ) → is_locked_at start lock ≡ true → (l : Lock) × (lock ≡ Some l) × (l.start ≡ start)
lock_there None start e = absurd cc
lock_there (Some lock) start e = (lock, refl, eqb-true lock.start start e)

pub lock_cases : (lock : Option Lock) (start : ℕ) → ((l : Lock) × (lock ≡ Some l) × (l.start ≡ start)) ⊎ (is_locked_at start lock ≡ false)
lock_cases lock start = by (is_locked_at start lock) refl
  where
    by : (b : Bool) → is_locked_at start lock ≡ b → ((l : Lock) × (lock ≡ Some l) × (l.start ≡ start)) ⊎ (is_locked_at start lock ≡ false)
    by true e = inl (lock_there lock start e)
    by false e = inr e

no_lock : (lock : Option Lock) → not (is_some lock) ≡ true → lock ≡ None
no_lock None e = refl
no_lock (Some lock) e = absurd cc

-- the lock of the act's start that the row has
pub is_lock : (rows : Rows) (key : Key) (lock : Lock) → is_locked_at lock.start (rows key).lock ≡ true → OnlyLock rows key lock → (rows key).lock ≡ Some lock
is_lock rows key lock locked only = let found = lock_there (rows key).lock lock.start locked in found.1 ∙ ap Some (only found.0 found.1 found.2)

unequal : (a b : ℕ) → (a == b) ≡ false → (b == a) ≡ false
unequal a b e = by (b == a) refl
  where
    by : (same : Bool) → (b == a) ≡ same → (b == a) ≡ false
    by true h = absurd (let one : (a == b) ≡ true = eq-eqb a b (sym (eqb-true b a h)) in cc)
    by false h = h

-- ---- readings

-- a reading depends on the commit of the row's lock alone
pub reading_alike : (commits others : Key → ℕ → Option ℕ) (lock : Option Lock) (versions : List Version) →
    ((l : Lock) → lock ≡ Some l → commits l.primary l.start ≡ others l.primary l.start) → reading commits lock versions ≡ reading others lock versions
reading_alike commits others None versions alike = refl
reading_alike commits others (Some lock) versions alike = ap (λ commit. with_lock lock commit versions) (alike lock refl)

-- where the locks of other rows have the commits that they had, only the changed row is to be looked at
pub reads_as_before : (rows : Rows) (key : Key) (row : Row) →
    ((other : Key) (l : Lock) → (rows other).lock ≡ Some l → committed (put rows key row) l.primary l.start ≡ committed rows l.primary l.start) →
    reading (committed (put rows key row)) row.lock row.versions ≡ versions_read rows key → SameReading rows (put rows key row)
reads_as_before rows key row others here =
    put_each (λ other r. reading (committed (put rows key row)) r.lock r.versions ≡ versions_read rows other) rows key row here
    (λ other differs. reading_alike (committed (put rows key row)) (committed rows) (rows other).lock (rows other).versions (λ l e. others other l e))

pub commits_kept : (rows : Rows) (key : Key) (row : Row) (start : ℕ) → commit_of start row.versions ≡ commit_of start (rows key).versions → (primary : Key) → committed (put rows key row) primary start ≡ committed rows primary start
commits_kept rows key row start here primary = put_each (λ k r. commit_of start r.versions ≡ commit_of start (rows k).versions) rows key row here (λ k differs. refl) primary

pub versions_kept : (rows : Rows) (key : Key) (row : Row) → row.versions ≡ (rows key).versions → (primary : Key) (start : ℕ) → committed (put rows key row) primary start ≡ committed rows primary start
versions_kept rows key row same primary start = commits_kept rows key row start (ap (commit_of start) same) primary

pub read_locked : (rows : Rows) (key : Key) (lock : Lock) → (rows key).lock ≡ Some lock → versions_read rows key ≡ with_lock lock (committed rows lock.primary lock.start) (rows key).versions
read_locked rows key lock e = ap (λ l. reading (committed rows) l (rows key).versions) e

pub read_unlocked : (rows : Rows) (key : Key) → (rows key).lock ≡ None → versions_read rows key ≡ (rows key).versions
read_unlocked rows key e = ap (λ l. reading (committed rows) l (rows key).versions) e

-- the lock of a transaction that isn't committed is read as nothing
pub read_uncommitted : (rows : Rows) (key : Key) (lock : Lock) → (rows key).lock ≡ Some lock → committed rows lock.primary lock.start ≡ None → versions_read rows key ≡ (rows key).versions
read_uncommitted rows key lock e none = read_locked rows key lock e ∙ ap (λ commit. with_lock lock commit (rows key).versions) none

-- the lock of a committed one is read as its version
pub read_committed : (rows : Rows) (key : Key) (lock : Lock) (commit : ℕ) → (rows key).lock ≡ Some lock → committed rows lock.primary lock.start ≡ Some commit → versions_read rows key ≡ add_version (version_of lock commit) (rows key).versions
read_committed rows key lock commit e is = read_locked rows key lock e ∙ ap (λ found. with_lock lock found (rows key).versions) is

-- the commit of a lock's transaction, by the primary that all its locks name
pub commit_by_primary : (rows others : Rows) (primary : Key) (start : ℕ) (found : Option ℕ) → committed others primary start ≡ found → OnePrimary rows primary start → (key : Key) (lock : Lock) → (rows key).lock ≡ Some lock → lock.start ≡ start → committed others lock.primary lock.start ≡ found
commit_by_primary rows others primary start found is one key lock e same = ap₂ (committed others) (one key lock e same) same ∙ is

-- ---- acts that change no reading

abbrev pub prewritten : Row → Write → ℕ → Key → Row
prewritten row write start primary = updated_all row (prewrite_act write start primary).updates

-- the row with a version in place of its lock
abbrev pub replaced : Row → Version → Row
replaced row version = updated_all row (replace_lock_act version).updates

abbrev pub rolled_back : Row → Row
rolled_back row = updated_all row (roll_back_act 0).updates

pub prewrite_keeps : PrewriteKeeps
prewrite_keeps rows write start primary allowed none =
    let kept = versions_kept rows write.key (prewritten (rows write.key) write start primary) refl in
    reads_as_before rows write.key (prewritten (rows write.key) write start primary) (λ other l e. kept l.primary l.start)
    (ap (λ commit. with_lock (lock_of write start primary) commit (rows write.key).versions) (kept primary start ∙ none)
    ∙ sym (read_unlocked rows write.key (no_lock (rows write.key).lock (and_parts _ _ allowed).0)))

pub roll_back_keeps : RollBackKeeps
roll_back_keeps rows key start primary allowed one none =
    let found = lock_there (rows key).lock start (and_parts _ _ allowed).0 in
    let uncommitted = commit_by_primary rows rows primary start None none one key found.0 found.1 found.2 in
    reads_as_before rows key (rolled_back (rows key)) (λ other l e. versions_kept rows key (rolled_back (rows key)) refl l.primary l.start)
    (sym (read_uncommitted rows key found.0 found.1 uncommitted))

-- Where a row that isn't the start's primary has a further version of it, all other locks have the commits that they had.
pub other_commits : (rows : Rows) (key primary : Key) (version : Version) → OnePrimary rows primary version.start → key ≢ primary → (other : Key) (l : Lock) → (rows other).lock ≡ Some l →
    committed (put rows key (replaced (rows key) version)) l.primary l.start ≡ committed rows l.primary l.start
other_commits rows key primary version one differs other l e = by (version.start == l.start) refl
  where
    by : (same : Bool) → (version.start == l.start) ≡ same → committed (put rows key (replaced (rows key) version)) l.primary l.start ≡ committed rows l.primary l.start
    by true same =
        let named : l.primary ≡ primary = one other l e (sym (eqb-true version.start l.start same)) in
        ap (λ r. commit_of l.start r.versions) (put_other rows key (replaced (rows key) version) l.primary (other_bytes l.primary key (λ k. differs (sym k ∙ named))))
    by false same = commits_kept rows key (replaced (rows key) version) l.start (commit_kept l.start version (rows key).versions same) l.primary

pub roll_forward_keeps : RollForwardKeeps
roll_forward_keeps rows key lock commit allowed only one differs is =
    reads_as_before rows key (replaced (rows key) (version_of lock commit)) (other_commits rows key lock.primary (version_of lock commit) one differs)
    (sym (read_committed rows key lock commit (is_lock rows key lock (and_parts _ _ allowed).0 only) is))

pub commit_keeps : CommitKeeps
commit_keeps rows write start commit primary allowed only one differs is = roll_forward_keeps rows write.key (lock_of write start primary) commit allowed only one differs is

abbrev pub with_plain : Row → Plain → Row
with_plain row plain = updated row (SetPlain plain)

pub plain_keeps : PlainKeeps
plain_keeps rows key act plain is =
    subst (λ updates. SameReading rows (put rows key (updated_all (rows key) updates))) (sym is)
    (let kept = versions_kept rows key (with_plain (rows key) plain) refl in
    reads_as_before rows key (with_plain (rows key) plain) (λ other l e. kept l.primary l.start)
    (reading_alike (committed (put rows key (with_plain (rows key) plain))) (committed rows) (rows key).lock (rows key).versions (λ l e. kept l.primary l.start)))

-- ---- the commit

abbrev pub at_commit : Rows → Lock → ℕ → Rows
at_commit rows lock commit = put rows lock.primary (replaced (rows lock.primary) (version_of lock commit))

-- the primary's row then has the version of its start
now_committed : (rows : Rows) (lock : Lock) (commit : ℕ) → committed rows lock.primary lock.start ≡ None → committed (at_commit rows lock commit) lock.primary lock.start ≡ Some commit
now_committed rows lock commit none =
    ap (λ r. commit_of lock.start r.versions) (put_same rows lock.primary (replaced (rows lock.primary) (version_of lock commit))) ∙ commit_added (version_of lock commit) (rows lock.primary).versions none

-- a lock becomes a version
becomes_version : (rows : Rows) (lock : Lock) (commit : ℕ) → OnlyLock rows lock.primary lock → OnePrimary rows lock.primary lock.start → committed rows lock.primary lock.start ≡ None →
    (key : Key) (l : Lock) → (rows key).lock ≡ Some l → l.start ≡ lock.start → versions_read (at_commit rows lock commit) key ≡ add_version (version_of l commit) (rows key).versions
becomes_version rows lock commit only one none =
    put_each (λ key r. (l : Lock) → (rows key).lock ≡ Some l → l.start ≡ lock.start → reading (committed (at_commit rows lock commit)) r.lock r.versions ≡ add_version (version_of l commit) (rows key).versions)
    rows lock.primary (replaced (rows lock.primary) (version_of lock commit))
    (λ l e same. ap (λ x. add_version (version_of x commit) (rows lock.primary).versions) (sym (only l e same)))
    (λ key differs l e same. ap (λ x. reading (committed (at_commit rows lock commit)) x (rows key).versions) e
    ∙ ap (λ found. with_lock l found (rows key).versions) (commit_by_primary rows (at_commit rows lock commit) lock.primary lock.start (Some commit) (now_committed rows lock commit none) one key l e same))

-- other rows are read as before
others_keep : (rows : Rows) (lock : Lock) (commit : ℕ) → is_locked_at lock.start (rows lock.primary).lock ≡ true →
    (key : Key) → is_locked_at lock.start (rows key).lock ≡ false → versions_read (at_commit rows lock commit) key ≡ versions_read rows key
others_keep rows lock commit locked =
    put_each (λ key r. is_locked_at lock.start (rows key).lock ≡ false → reading (committed (at_commit rows lock commit)) r.lock r.versions ≡ versions_read rows key)
    rows lock.primary (replaced (rows lock.primary) (version_of lock commit))
    (λ free. absurd cc)
    (λ key differs free. reading_alike (committed (at_commit rows lock commit)) (committed rows) (rows key).lock (rows key).versions
    (λ l e. commits_kept rows lock.primary (replaced (rows lock.primary) (version_of lock commit)) l.start
    (commit_kept l.start (version_of lock commit) (rows lock.primary).versions (unequal l.start lock.start (sym (ap (is_locked_at lock.start) e) ∙ free))) l.primary))

pub commits_at : (rows : Rows) (lock : Lock) (commit : ℕ) → is_locked_at lock.start (rows lock.primary).lock ≡ true → OnlyLock rows lock.primary lock → OnePrimary rows lock.primary lock.start →
    committed rows lock.primary lock.start ≡ None → Commits lock.start commit rows (at_commit rows lock commit)
commits_at rows lock commit locked only one none = record {
  before = λ key l e same. read_uncommitted rows key l e (commit_by_primary rows rows lock.primary lock.start None none one key l e same);
  after = becomes_version rows lock commit only one none;
  others = others_keep rows lock commit locked;
}

pub primary_commits : PrimaryCommits
primary_commits rows write start commit allowed only one none = commits_at rows (lock_of write start write.key) commit (and_parts _ _ allowed).0 only one none

-- ---- what stands and is seen

pub same_standing : (old new : Rows) (key : Key) → versions_read new key ≡ versions_read old key → SameStanding old new key
same_standing old new key same = record {
  stands = ap (λ vs. put_of (newest vs)) same;
  sees = λ at. ap (λ vs. put_of (newest (versions_up_to at vs))) same;
}

pub readings_decide : ReadingsDecide
readings_decide old new same key = same_standing old new key (same key)

pub commits_stand : CommitsStand
commits_stand start commit old new commits last le = record {
  before = before;
  locked = λ key l e same. record {
    stands = ap (λ vs. put_of (newest vs)) (commits.after key l e same) ∙ ap put_of (newest_added (version_of l commit) (old key).versions (below key l e same));
    sees = λ at since. ap (λ vs. put_of (newest (versions_up_to at vs))) (commits.after key l e same) ∙ ap put_of (seen_added at (version_of l commit) (old key).versions (below key l e same) since);
  };
  others = λ key free. same_standing old new key (commits.others key free);
}
  where
    below : (key : Key) (l : Lock) → (old key).lock ≡ Some l → l.start ≡ start → are_below commit (old key).versions ≡ true
    below key l e same = below_more l.start commit (old key).versions (omega arith) (last key l e)

    before : (key : Key) (at : ℕ) → at < commit → seen new key at ≡ seen old key at
    before key at lt = by (lock_cases (old key).lock start)
      where
        by : ((l : Lock) × ((old key).lock ≡ Some l) × (l.start ≡ start)) ⊎ (is_locked_at start (old key).lock ≡ false) → seen new key at ≡ seen old key at
        by (inl found) = ap (λ vs. put_of (newest (versions_up_to at vs))) (commits.after key found.0 found.1 found.2)
            ∙ ap (λ vs. put_of (newest vs)) (later_added at (version_of found.0 commit) (old key).versions lt)
            ∙ ap (λ vs. put_of (newest (versions_up_to at vs))) (sym (commits.before key found.0 found.1 found.2))
        by (inr free) = ap (λ vs. put_of (newest (versions_up_to at vs))) (commits.others key free)

-- a transaction commits after it has started
pub commits_later : (rows : Rows) (primary : Key) (start commit : ℕ) → AllVersions starts_first rows → committed rows primary start ≡ Some commit → start < commit
commits_later rows primary start commit first is =
    let found = version_of_start starts_first start commit (rows primary).versions (first primary) is in
    let lower : found.0.start < found.0.commit = ltb-true found.0.start found.0.commit found.3 in
    omega (arith, found.1, found.2)

pub reading_ascends : (rows : Rows) (key : Key) → TimesInOrder rows → ascends (versions_read rows key) ≡ true
reading_ascends rows key order = by (rows key).lock refl
  where
    within : (lock : Lock) → (rows key).lock ≡ Some lock → (found : Option ℕ) → committed rows lock.primary lock.start ≡ found → ascends (versions_read rows key) ≡ true
    within lock e None is = ap ascends (read_uncommitted rows key lock e is) ∙ order.ascend key
    within lock e (Some commit) is =
        let later : lock.start < commit = commits_later rows lock.primary lock.start commit order.first is in
        ap ascends (read_committed rows key lock commit e is)
        ∙ ascends_added (version_of lock commit) (rows key).versions (below_more lock.start commit (rows key).versions (omega arith) (order.last key lock e)) (order.ascend key)

    by : (lock : Option Lock) → (rows key).lock ≡ lock → ascends (versions_read rows key) ≡ true
    by None e = ap ascends (read_unlocked rows key e) ∙ order.ascend key
    by (Some lock) e = within lock e (committed rows lock.primary lock.start) refl

-- the version that a put is of
put_is_of : (version : Option Version) (found : Put) → put_of version ≡ Some found → (v : Version) × (version ≡ Some v) × (v.commit ≡ found.1)
put_is_of None found e = absurd cc
put_is_of (Some version) found e = by version.value refl
  where
    by : (value : Option (List ℕ)) → version.value ≡ value → (v : Version) × (Some version ≡ Some v) × (v.commit ≡ found.1)
    by None is = absurd (let none : None ≡ Some found = ap (option_map (λ bytes. (bytes, version.commit))) (sym is) ∙ e in cc)
    by (Some bytes) is =
        let same : Some (bytes, version.commit) ≡ Some found = ap (option_map (λ value. (value, version.commit))) (sym is) ∙ e in
        (version, refl, ap (λ (o : Option Put). commit_or o) same)
      where
        commit_or : Option Put → ℕ
        commit_or None = 0
        commit_or (Some put) = put.1

pub standing_is_seen : StandingIsSeen
standing_is_seen rows key at found order stands le =
    let version = put_is_of (newest (versions_read rows key)) found stands in
    let all = seen_all at (versions_read rows key) version.0 (reading_ascends rows key order) version.1 (let e = version.2 in omega arith) in
    ap (λ vs. put_of (newest vs)) all ∙ stands

-- ---- reads

lock_later : (at : ℕ) (lock : Lock) → lock_up_to at (Some lock) ≡ None → at < lock.start
lock_later at lock none = by (nat_le lock.start at) refl
  where
    by : (b : Bool) → nat_le lock.start at ≡ b → at < lock.start
    by true e = absurd (let some : Some lock ≡ None = ap (λ b. cond b (Some lock) None) (sym e) ∙ none in cc)
    by false e = leb-false lock.start at e

pub reads_are_seen : ReadsAreSeen
reads_are_seen rows key at first none = by (rows key).lock refl
  where
    within : (lock : Lock) → (rows key).lock ≡ Some lock → (found : Option ℕ) → committed rows lock.primary lock.start ≡ found → seen rows key at ≡ put_of (newest (versions_up_to at (rows key).versions))
    within lock e None is = ap (λ vs. put_of (newest (versions_up_to at vs))) (read_uncommitted rows key lock e is)
    within lock e (Some commit) is =
        let before : at < lock.start = lock_later at lock (ap (lock_up_to at) (sym e) ∙ none) in
        let later : lock.start < commit = commits_later rows lock.primary lock.start commit first is in
        ap (λ vs. put_of (newest (versions_up_to at vs))) (read_committed rows key lock commit e is)
        ∙ ap (λ vs. put_of (newest vs)) (later_added at (version_of lock commit) (rows key).versions (omega arith))

    by : (lock : Option Lock) → (rows key).lock ≡ lock → seen rows key at ≡ put_of (newest (versions_up_to at (rows key).versions))
    by None e = ap (λ vs. put_of (newest (versions_up_to at vs))) (read_unlocked rows key e)
    by (Some lock) e = within lock e (committed rows lock.primary lock.start) refl

both_false : (a b c : Bool) → (a || b || c) ≡ false → (a ≡ false) × (b ≡ false)
both_false true b c e = absurd cc
both_false false true c e = absurd cc
both_false false false c e = (refl, refl)

not_locked : (at : ℕ) (lock : Option Lock) → is_locked_up_to at lock ≡ false → lock_up_to at lock ≡ None
not_locked at None e = refl
not_locked at (Some lock) e = rw e refl

no_put : (version : Option Version) → is_put version ≡ false → put_of version ≡ None
no_put None e = refl
no_put (Some version) e = by version.value e
  where
    by : (value : Option (List ℕ)) → is_some value ≡ false → option_map {U = Put} (λ bytes. (bytes, version.commit)) value ≡ None
    by None e = refl
    by (Some bytes) e = absurd cc

pub passed_rows_show_nothing : PassedRowsShowNothing
passed_rows_show_nothing rows key at first passed =
    let parts = both_false (is_locked_up_to at (rows key).lock) (is_put (newest (versions_up_to at (rows key).versions))) (has_plain_value (rows key).plain) passed in
    reads_are_seen rows key at first (not_locked at (rows key).lock parts.0) ∙ no_put (newest (versions_up_to at (rows key).versions)) parts.1

-- ---- the order of timestamps

pub prewrite_in_order : PrewriteInOrder
prewrite_in_order rows write start primary allowed order = record {
  ascend = put_each (λ q r. ascends r.versions ≡ true) rows write.key (prewritten (rows write.key) write start primary) (order.ascend write.key) (λ q differs. order.ascend q);
  last = put_each (λ q r. (lock : Lock) → r.lock ≡ Some lock → are_below lock.start r.versions ≡ true) rows write.key (prewritten (rows write.key) write start primary)
      (λ lock e. let is : lock_of write start primary ≡ lock = cc in subst (λ l. are_below l.start (rows write.key).versions ≡ true) is (and_parts _ _ (and_parts _ _ allowed).1).0)
      (λ q differs. order.last q);
  first = put_each (λ q r. list_all starts_first r.versions ≡ true) rows write.key (prewritten (rows write.key) write start primary) (order.first write.key) (λ q differs. order.first q);
}

-- what holds of each version, and of the one that is added, still does
pub replace_keeps_all : (test : Version → Bool) (rows : Rows) (key : Key) (version : Version) → test version ≡ true → AllVersions test rows → AllVersions test (put rows key (replaced (rows key) version))
replace_keeps_all test rows key version passes all =
    put_each (λ q r. list_all test r.versions ≡ true) rows key (replaced (rows key) version) (all_added test version (rows key).versions passes (all key)) (λ q differs. all q)

pub replace_in_order : ReplaceInOrder
replace_in_order rows key version allowed later order =
    let found = lock_there (rows key).lock version.start (and_parts _ _ allowed).0 in
    let below = below_more found.0.start version.commit (rows key).versions (let e = found.2 in omega arith) (order.last key found.0 found.1) in
    record {
      ascend = put_each (λ q r. ascends r.versions ≡ true) rows key (replaced (rows key) version) (ascends_added version (rows key).versions below (order.ascend key)) (λ q differs. order.ascend q);
      last = put_each (λ q r. (lock : Lock) → r.lock ≡ Some lock → are_below lock.start r.versions ≡ true) rows key (replaced (rows key) version) (λ lock e. absurd cc) (λ q differs. order.last q);
      first = replace_keeps_all starts_first rows key version (lt-ltb version.start version.commit later) order.first;
    }

pub roll_back_in_order : RollBackInOrder
roll_back_in_order rows key start order = record {
  ascend = put_each (λ q r. ascends r.versions ≡ true) rows key (rolled_back (rows key)) (order.ascend key) (λ q differs. order.ascend q);
  last = put_each (λ q r. (lock : Lock) → r.lock ≡ Some lock → are_below lock.start r.versions ≡ true) rows key (rolled_back (rows key)) (λ lock e. absurd cc) (λ q differs. order.last q);
  first = put_each (λ q r. list_all starts_first r.versions ≡ true) rows key (rolled_back (rows key)) (order.first key) (λ q differs. order.first q);
}

pub plain_in_order : PlainInOrder
plain_in_order rows key act plain is order =
    subst (λ updates. TimesInOrder (put rows key (updated_all (rows key) updates))) (sym is)
    (record {
      ascend = put_each (λ q r. ascends r.versions ≡ true) rows key (with_plain (rows key) plain) (order.ascend key) (λ q differs. order.ascend q);
      last = put_each (λ q r. (lock : Lock) → r.lock ≡ Some lock → are_below lock.start r.versions ≡ true) rows key (with_plain (rows key) plain) (order.last key) (λ q differs. order.last q);
      first = put_each (λ q r. list_all starts_first r.versions ≡ true) rows key (with_plain (rows key) plain) (order.first key) (λ q differs. order.first q);
    })

-- ---- the primary that locks name

pub prewrite_names_one : PrewriteNamesOne
prewrite_names_one rows write own start primary named same one =
    put_each (λ q r. (lock : Lock) → r.lock ≡ Some lock → lock.start ≡ start → lock.primary ≡ named) rows write.key (prewritten (rows write.key) write own primary)
    (λ lock e is. let l : lock_of write own primary ≡ lock = cc in ap (λ (x : Lock). x.primary) (sym l) ∙ same (ap (λ (x : Lock). x.start) l ∙ is))
    (λ q differs. one q)

-- where a row has no lock
pub unlocking_names_one : (rows : Rows) (key : Key) (row : Row) (start : ℕ) (primary : Key) → row.lock ≡ None → OnePrimary rows primary start → OnePrimary (put rows key row) primary start
unlocking_names_one rows key row start primary none one =
    put_each (λ q r. (lock : Lock) → r.lock ≡ Some lock → lock.start ≡ start → lock.primary ≡ primary) rows key row (λ lock e. absurd cc) (λ q differs. one q)

pub replace_names_one : ReplaceNamesOne
replace_names_one rows key version start primary = unlocking_names_one rows key (replaced (rows key) version) start primary refl

pub roll_back_names_one : RollBackNamesOne
roll_back_names_one rows key dropped start primary = unlocking_names_one rows key (rolled_back (rows key)) start primary refl

pub plain_names_one : PlainNamesOne
plain_names_one rows key act plain start primary is one =
    subst (λ updates. OnePrimary (put rows key (updated_all (rows key) updates)) primary start) (sym is)
    (put_each (λ q r. (lock : Lock) → r.lock ≡ Some lock → lock.start ≡ start → lock.primary ≡ primary) rows key (with_plain (rows key) plain) (one key) (λ q differs. one q))
