-- The value that stands in a row, and that rows in which something stands are seen.
use Rattle.std.proofs.Common.{◌≡◌, ◌<◌, ◌≤◌, ◌^◌, ℕ, Bool, true, false, cond, is_some, ◌||◌, List, [], ◌∷◌, Option, Some, None, IfSome, refl, ap, sym, ◌∙◌, arith}
use Rattle.std.specs.List.{All}
use Rattle.std.specs.Option.{option_map}
use Rattle.std.proofs.lemmas.Bool.{le-leb, ltb-true}
use Rattle.std.proofs.lemmas.List.Elements.{All-head, All-tail}
use Rattle.pcj_table.specs.declared.lock.Lock.{Lock}
use Rattle.pcj_table.specs.declared.version.Version.{Version}
use Rattle.pcj_table.specs.declared.row.Row.{Row}
use Rattle.pcj_table.specs.Row.{has_nothing, has_plain_value, is_locked_up_to, is_put, is_seen_at, newest, versions_up_to}
use Rattle.pcj_table.specs.Table.{Key}
use Rattle.pcj_table.proofs.RowLemmas.{no_row_is}
use Rattle.pcj_encode.specs.declared.key_name.KeyName.{KeyName}
use Rattle.pcj_mvcc.specs.Acts.{version_of}
use Rattle.pcj_mvcc.specs.Reading.{Put, Rows, committed, put_of, reading, standing, with_lock}
use Rattle.pcj_mvcc.specs.Times.{TimesInOrder, starts_first}
use Rattle.pcj_mvcc.proofs.Versions.{below_more, newest_added, version_of_start}
use Rattle.pcj_rows.specs.Rows.{HoldsVersions, IsLockOf, IsVersionOf}
use Rattle.pcj_registrations.specs.Reading.{lock_commit, value_by, version_value}

all_up_to : (next : ℕ) (name : KeyName) (versions : List Version) → next ≤ 2 ^ 48 → All (IsVersionOf next name) versions → versions_up_to (2 ^ 48) versions ≡ versions
all_up_to next name [] le all = refl
all_up_to next name (version ∷ versions) le all =
    let lower = (All-head (IsVersionOf next name) version versions all).commit in
    ap (λ b. cond b (version ∷ versions_up_to (2 ^ 48) versions) (versions_up_to (2 ^ 48) versions)) (le-leb version.commit (2 ^ 48) (omega (arith, lower, le)))
    ∙ ap (λ vs. version ∷ vs) (all_up_to next name versions le (All-tail (IsVersionOf next name) version versions all))

-- ---- the value

abbrev first_of : Put → List ℕ
first_of put = put.0

put_value : (version : Option Version) → option_map first_of (put_of version) ≡ version_value version
put_value None = refl
put_value (Some version) = by version.value
  where
    by : (value : Option (List ℕ)) → option_map first_of (option_map (λ v. (v, version.commit)) value) ≡ value
    by None = refl
    by (Some v) = refl

commit_later : (rows : Rows) (primary : Key) (start commit : ℕ) → TimesInOrder rows → committed rows primary start ≡ Some commit → start < commit
commit_later rows primary start commit times is =
    let found = version_of_start starts_first start commit (rows primary).versions (times.first primary) is in
    let less = ltb-true found.0.start found.0.commit found.3 in
    omega (arith, less, found.1, found.2)

pub value_stands : (next : ℕ) (rows : Rows) (key : Key) (name : KeyName) → next ≤ 2 ^ 48 → TimesInOrder rows → HoldsVersions next name (rows key) → option_map (λ (put : Put). put.0) (standing rows key) ≡ value_by (rows key) (is_some (lock_commit rows (rows key).lock))
value_stands next rows key name le times holds = by (rows key).lock refl
  where
    versions : List Version
    versions = (rows key).versions

    last : option_map first_of (put_of (newest versions)) ≡ version_value (newest (versions_up_to (2 ^ 48) versions))
    last = put_value (newest versions) ∙ ap (λ vs. version_value (newest vs)) (sym (all_up_to next name versions le holds.versions))

    with : (lock : Lock) → (rows key).lock ≡ Some lock → (commit : Option ℕ) → committed rows lock.primary lock.start ≡ commit →
        option_map first_of (put_of (newest (with_lock lock commit versions))) ≡ value_by (record { lock = Some lock; versions = versions; plain = (rows key).plain }) (is_some commit)
    with lock is None e = last
    with lock is (Some commit) e =
        let less = commit_later rows lock.primary lock.start commit times e in
        ap (λ v. option_map first_of (put_of v)) (newest_added (version_of lock commit) versions (below_more lock.start commit versions (omega (arith, less)) (times.last key lock is))) ∙ put_value (Some (version_of lock commit))

    by : (lock : Option Lock) → (rows key).lock ≡ lock → option_map first_of (put_of (newest (reading (committed rows) lock versions))) ≡ value_by (record { lock = lock; versions = versions; plain = (rows key).plain }) (is_some (lock_commit rows lock))
    by None is = last
    by (Some lock) is = with lock is (committed rows lock.primary lock.start) refl

-- ---- what is seen

put_there : (version : Option Version) (put : Put) → put_of version ≡ Some put → is_put version ≡ true
put_there None put is = absurd cc
put_there (Some version) put is = by version.value is
  where
    by : (value : Option (List ℕ)) → option_map (λ v. (v, version.commit)) value ≡ Some put → is_some value ≡ true
    by None e = absurd cc
    by (Some v) e = refl

pub standing_is_seen : (next : ℕ) (rows : Rows) (key : Key) (name : KeyName) (put : Put) → next ≤ 2 ^ 48 → HoldsVersions next name (rows key) → standing rows key ≡ Some put → is_seen_at (2 ^ 48) (rows key) ≡ true
standing_is_seen next rows key name put le holds stands = by (rows key).lock holds.lock stands
  where
    versions : List Version
    versions = (rows key).versions

    by : (lock : Option Lock) → IfSome lock (IsLockOf next name) → put_of (newest (reading (committed rows) lock versions)) ≡ Some put → (is_locked_up_to (2 ^ 48) lock || is_put (newest (versions_up_to (2 ^ 48) versions)) || has_plain_value (rows key).plain) ≡ true
    by None is e = ap (λ b. b || has_plain_value (rows key).plain) (ap (λ vs. is_put (newest vs)) (all_up_to next name versions le holds.versions) ∙ put_there (newest versions) put e)
    by (Some lock) is e = let lower = is.start.1 in ap (λ b. b || is_put (newest (versions_up_to (2 ^ 48) versions)) || has_plain_value (rows key).plain) (le-leb lock.start (2 ^ 48) (omega (arith, lower, le)))

pub seen_has_something : (found : Row) → is_seen_at (2 ^ 48) found ≡ true → has_nothing found ≡ false
seen_has_something found seen = by (has_nothing found) refl
  where
    by : (b : Bool) → has_nothing found ≡ b → b ≡ false
    by true none = absurd (let clash : false ≡ true = sym (ap (is_seen_at (2 ^ 48)) (no_row_is found none)) ∙ seen in cc)
    by false some = refl
