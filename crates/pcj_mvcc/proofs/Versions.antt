-- Versions in a list: the newest of them, one that is added, and those up to a time.
use Rattle.std.proofs.Common.{◌≡◌, ◌≤◌, ◌<◌, ℕ, nat_le, nat_lt, ◌==◌, Bool, true, false, cond, List, [], ◌∷◌, Option, Some, None, reverse, filter, refl, ap, sym, ◌∙◌, arith}
use Rattle.std.specs.List.{find, list_all}
use Rattle.std.specs.Option.{option_or, option_map}
use Rattle.std.proofs.lemmas.Bool.{and_parts, ltb-true, lt-ltb, leb-true, le-leb, eqb-true, eq-eqb}
use Rattle.std.proofs.lemmas.List.Folds.{find-append}
use Rattle.std.proofs.lemmas.List.{reverse-append}
use Rattle.pcj_table.specs.declared.version.Version.{Version}
use Rattle.pcj_table.specs.Row.{newest, add_version, are_below, versions_up_to}
use Rattle.pcj_mvcc.specs.Reading.{commit_of}
use Rattle.pcj_mvcc.specs.Times.{ascends}

newest_of_more : (version : Version) (versions : List Version) (other : Option Version) → option_or (newest (version ∷ versions)) other ≡ newest (version ∷ versions)
newest_of_more version [] other = refl
newest_of_more version (next ∷ versions) other = newest_of_more next versions other

newest_or : (version : Version) (versions : List Version) → newest (version ∷ versions) ≡ option_or (newest versions) (Some version)
newest_or version [] = refl
newest_or version (next ∷ versions) = sym (newest_of_more next versions (Some version))

or_none : (found : Option Version) → option_or found None ≡ found
or_none None = refl
or_none (Some version) = refl

-- the newest of those that pass a test is the first that does from the end
pub last_found : (test : Version → Bool) (versions : List Version) → find test (reverse versions) ≡ newest (filter test versions)
last_found test [] = refl
last_found test (version ∷ versions) =
    ap (find test) (reverse-append (version ∷ []) versions)
    ∙ find-append test (reverse versions) (version ∷ [])
    ∙ by (test version) (last_found test versions)
  where
    by : (b : Bool) → find test (reverse versions) ≡ newest (filter test versions) →
        option_or (find test (reverse versions)) (cond b (Some version) None) ≡ newest (cond b (version ∷ filter test versions) (filter test versions))
    by true h = ap (λ found. option_or found (Some version)) h ∙ sym (newest_or version (filter test versions))
    by false h = or_none (find test (reverse versions)) ∙ h

-- ---- a version that is added

-- one that fails a test changes nothing of what passes it
pub find_added : (test : Version → Bool) (version : Version) (versions : List Version) → test version ≡ false → find test (add_version version versions) ≡ find test versions
find_added test version [] fails = rw fails refl
find_added test version (other ∷ versions) fails = by (nat_le other.commit version.commit) (find_added test version versions fails)
  where
    by : (b : Bool) → find test (add_version version versions) ≡ find test versions →
        find test (cond b (other ∷ add_version version versions) (version ∷ other ∷ versions)) ≡ find test (other ∷ versions)
    by true h = ap (λ found. cond (test other) (Some other) found) h
    by false h = rw fails refl

pub filter_added : (test : Version → Bool) (version : Version) (versions : List Version) → test version ≡ false → filter test (add_version version versions) ≡ filter test versions
filter_added test version [] fails = rw fails refl
filter_added test version (other ∷ versions) fails = by (nat_le other.commit version.commit) (filter_added test version versions fails)
  where
    by : (b : Bool) → filter test (add_version version versions) ≡ filter test versions →
        filter test (cond b (other ∷ add_version version versions) (version ∷ other ∷ versions)) ≡ filter test (other ∷ versions)
    by true h = ap (λ some. cond (test other) (other ∷ some) some) h
    by false h = rw fails refl

-- where no other passes, one that does is found
pub found_added : (test : Version → Bool) (version : Version) (versions : List Version) → test version ≡ true → find test versions ≡ None → find test (add_version version versions) ≡ Some version
found_added test version [] passes none = rw passes refl
found_added test version (other ∷ versions) passes none = by (nat_le other.commit version.commit) (test other) refl (found_added test version versions passes)
  where
    by : (b first : Bool) → test other ≡ first → (find test versions ≡ None → find test (add_version version versions) ≡ Some version) →
        find test (cond b (other ∷ add_version version versions) (version ∷ other ∷ versions)) ≡ Some version
    by true true e h = absurd (let some : Some other ≡ None = ap (λ b. cond b (Some other) (find test versions)) (sym e) ∙ none in cc)
    by true false e h = rw e (h (ap (λ b. cond b (Some other) (find test versions)) (sym e) ∙ none))
    by false first e h = rw passes refl

below_first : (commit : ℕ) (version : Version) (versions : List Version) → are_below commit (version ∷ versions) ≡ true → version.commit < commit
below_first commit version versions below = ltb-true version.commit commit (and_parts _ _ below).0

-- above all others it is the newest
pub newest_added : (version : Version) (versions : List Version) → are_below version.commit versions ≡ true → newest (add_version version versions) ≡ Some version
newest_added version [] below = refl
newest_added version (other ∷ versions) below =
    let lower : other.commit < version.commit = below_first version.commit other versions below in
    rw (le-leb other.commit version.commit (omega arith)) (newest_or other (add_version version versions) ∙ ap (λ found. option_or found (Some other)) (newest_added version versions (and_parts _ _ below).1))

-- ---- up to a time

not_up_to : (a b : ℕ) → b < a → nat_le a b ≡ false
not_up_to a b lt = by (nat_le a b) refl
  where
    by : (up : Bool) → nat_le a b ≡ up → up ≡ false
    by true e = absurd (let le : a ≤ b = leb-true a b e in omega arith)
    by false e = refl

-- a version of a later commit isn't seen
pub later_added : (at : ℕ) (version : Version) (versions : List Version) → at < version.commit → versions_up_to at (add_version version versions) ≡ versions_up_to at versions
later_added at version versions later = filter_added (λ v. nat_le v.commit at) version versions (not_up_to version.commit at later)

-- where all others are below it, it is the newest from its commit on
pub seen_added : (at : ℕ) (version : Version) (versions : List Version) → are_below version.commit versions ≡ true → version.commit ≤ at → newest (versions_up_to at (add_version version versions)) ≡ Some version
seen_added at version [] below since = rw (le-leb version.commit at since) refl
seen_added at version (other ∷ versions) below since =
    let lower : other.commit < version.commit = below_first version.commit other versions below in
    rw (le-leb other.commit version.commit (omega arith), le-leb other.commit at (omega arith))
    (newest_or other (versions_up_to at (add_version version versions)) ∙ ap (λ found. option_or found (Some other)) (seen_added at version versions (and_parts _ _ below).1 since))

-- ---- the commit of a start

pub commit_kept : (start : ℕ) (version : Version) (versions : List Version) → (version.start == start) ≡ false → commit_of start (add_version version versions) ≡ commit_of start versions
commit_kept start version versions other = ap (option_map (λ v. v.commit)) (find_added (λ v. v.start == start) version versions other)

none_found : (found : Option Version) → option_map (λ v. v.commit) found ≡ None → found ≡ None
none_found None e = refl
none_found (Some version) e = absurd cc

pub commit_added : (version : Version) (versions : List Version) → commit_of version.start versions ≡ None → commit_of version.start (add_version version versions) ≡ Some version.commit
commit_added version versions none =
    ap (option_map (λ v. v.commit)) (found_added (λ v. v.start == version.start) version versions (eq-eqb version.start version.start refl) (none_found _ none))

-- ---- tests of all versions

pub all_weaker : (test other : Version → Bool) → ((version : Version) → test version ≡ true → other version ≡ true) → (versions : List Version) → list_all test versions ≡ true → list_all other versions ≡ true
all_weaker test other weaker [] all = refl
all_weaker test other weaker (version ∷ versions) all = rw (weaker version (and_parts _ _ all).0) (all_weaker test other weaker versions (and_parts _ _ all).1)

pub all_added : (test : Version → Bool) (version : Version) (versions : List Version) → test version ≡ true → list_all test versions ≡ true → list_all test (add_version version versions) ≡ true
all_added test version [] passes all = rw passes refl
all_added test version (other ∷ versions) passes all = by (nat_le other.commit version.commit) (all_added test version versions passes (and_parts _ _ all).1)
  where
    by : (b : Bool) → list_all test (add_version version versions) ≡ true → list_all test (cond b (other ∷ add_version version versions) (version ∷ other ∷ versions)) ≡ true
    by true h = rw (and_parts (test other) (list_all test versions) all).0 h
    by false h = rw passes all

-- the version that has the commit of a start
pub version_of_start : (test : Version → Bool) (start commit : ℕ) (versions : List Version) → list_all test versions ≡ true → commit_of start versions ≡ Some commit →
    (version : Version) × (version.start ≡ start) × (version.commit ≡ commit) × (test version ≡ true)
version_of_start test start commit [] all found = absurd cc
version_of_start test start commit (version ∷ versions) all found = by (version.start == start) refl (version_of_start test start commit versions (and_parts _ _ all).1)
  where
    by : (b : Bool) → (version.start == start) ≡ b → (commit_of start versions ≡ Some commit → (v : Version) × (v.start ≡ start) × (v.commit ≡ commit) × (test v ≡ true)) →
        (v : Version) × (v.start ≡ start) × (v.commit ≡ commit) × (test v ≡ true)
    by true e h =
        let same : Some version.commit ≡ Some commit = ap (λ b. option_map (λ v. v.commit) (cond b (Some version) (find (λ v. v.start == start) versions))) (sym e) ∙ found in
        (version, eqb-true version.start start e, cc, (and_parts (test version) (list_all test versions) all).0)
    by false e h = h (ap (λ b. option_map (λ v. v.commit) (cond b (Some version) (find (λ v. v.start == start) versions))) (sym e) ∙ found)

-- ---- versions in ascending order

pub below_more : (commit other : ℕ) (versions : List Version) → commit ≤ other → are_below commit versions ≡ true → are_below other versions ≡ true
below_more commit other versions le below =
    all_weaker (λ v. nat_lt v.commit commit) (λ v. nat_lt v.commit other) (λ v lower. lt-ltb v.commit other (let lt : v.commit < commit = ltb-true v.commit commit lower in omega arith)) versions below

pub ascends_added : (version : Version) (versions : List Version) → are_below version.commit versions ≡ true → ascends versions ≡ true → ascends (add_version version versions) ≡ true
ascends_added version [] below rising = refl
ascends_added version (other ∷ versions) below rising =
    let lower : other.commit < version.commit = below_first version.commit other versions below in
    let first = all_added (λ later. nat_lt other.commit later.commit) version versions (and_parts _ _ below).0 (and_parts _ _ rising).0 in
    rw (le-leb other.commit version.commit (omega arith), first) (ascends_added version versions (and_parts _ _ below).1 (and_parts _ _ rising).1)

-- the newest has the highest commit
pub newest_is_last : (versions : List Version) (last : Version) → ascends versions ≡ true → newest versions ≡ Some last → list_all (λ v. nat_le v.commit last.commit) versions ≡ true
newest_is_last [] last rising is = absurd cc
newest_is_last (version ∷ []) last rising is =
    let same : version ≡ last = cc in
    rw (le-leb version.commit last.commit (let e = ap (λ (v : Version). v.commit) same in omega arith)) refl
newest_is_last (version ∷ next ∷ versions) last rising is =
    let parts = and_parts (list_all (λ later. nat_lt version.commit later.commit) (next ∷ versions)) (ascends (next ∷ versions)) rising in
    let rest : list_all (λ v. nat_le v.commit last.commit) (next ∷ versions) ≡ true = newest_is_last (next ∷ versions) last parts.1 is in
    let lower : version.commit < next.commit = ltb-true version.commit next.commit (and_parts (nat_lt version.commit next.commit) (list_all (λ later. nat_lt version.commit later.commit) versions) parts.0).0 in
    let within : next.commit ≤ last.commit = leb-true next.commit last.commit (and_parts (nat_le next.commit last.commit) (list_all (λ v. nat_le v.commit last.commit) versions) rest).0 in
    rw (le-leb version.commit last.commit (omega arith)) rest

pub up_to_all : (at : ℕ) (versions : List Version) → list_all (λ v. nat_le v.commit at) versions ≡ true → versions_up_to at versions ≡ versions
up_to_all at [] all = refl
up_to_all at (version ∷ versions) all = rw (and_parts (nat_le version.commit at) (list_all (λ v. nat_le v.commit at) versions) all).0 (ap (λ vs. version ∷ vs) (up_to_all at versions (and_parts _ _ all).1))

-- from the newest version's commit on all versions are seen
pub seen_all : (at : ℕ) (versions : List Version) (last : Version) → ascends versions ≡ true → newest versions ≡ Some last → last.commit ≤ at → versions_up_to at versions ≡ versions
seen_all at versions last rising is le =
    up_to_all at versions (all_weaker (λ v. nat_le v.commit last.commit) (λ v. nat_le v.commit at)
    (λ v within. le-leb v.commit at (let lower : v.commit ≤ last.commit = leb-true v.commit last.commit within in omega arith)) versions (newest_is_last versions last rising is))
