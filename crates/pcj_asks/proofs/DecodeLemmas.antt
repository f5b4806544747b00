-- What rows that were seen are, and what they hold.
use Rattle.std.proofs.Common.{◌≡◌, ℕ, Bool, true, false, nat_le, List, [], ◌∷◌, Option, Some, None, IfSome, refl, ap, sym, subst, ◌∙◌}
use Rattle.std.specs.List.{All}
use Rattle.std.specs.Option.{option_map}
use Rattle.std.proofs.lemmas.List.Elements.{All-filter, All-head, All-tail, All-weaker}
use Rattle.std.proofs.lemmas.Option.{same_Some}
use Rattle.pcj_table.proofs.RowLemmas.{no_row_is}
use Rattle.pcj_table.specs.Row.{has_nothing, newest, versions_up_to}
use Rattle.pcj_table.specs.Table.{Key}
use Rattle.pcj_table.specs.declared.lock.Lock.{Lock}
use Rattle.pcj_table.specs.declared.row.Row.{Row}
use Rattle.pcj_table.specs.declared.version.Version.{Version}
use Rattle.pcj_encode.specs.declared.key_name.KeyName.{KeyName}
use Rattle.pcj_encode.specs.declared.key_name.KeyName.TheVariants as row
use Rattle.pcj_encode.specs.declared.task_name.TaskName.{TaskName}
use Rattle.pcj_encode.specs.Name.{IsTask}
use Rattle.pcj_notify.specs.Plans.{task_key}
use Rattle.pcj_mvcc.specs.Acts.{version_of}
use Rattle.pcj_mvcc.specs.Reading.{Put, Rows, committed, put_of, reading, versions_read, with_lock}
use Rattle.pcj_moves.specs.Reads.{value_seen}
use Rattle.pcj_rows.proofs.RowLemmas.{all_with_version, row_of_name}
use Rattle.pcj_rows.specs.Rows.{Decodes, HoldsVersions, IsDecoded, IsLockOf, IsVersionOf}
use Rattle.pcj_rows.specs.Values.{IsValue, MayHold}

-- ---- the name

-- the row of a key that was seen
seen_is_there : (rows : Rows) (key : Key) (at : ℕ) (value : List ℕ) → value_seen rows key at ≡ Some value → has_nothing (rows key) ≡ false
seen_is_there rows key at value is = by (has_nothing (rows key)) refl
  where
    by : (b : Bool) → has_nothing (rows key) ≡ b → b ≡ false
    by true none = absurd (let clash : Some value ≡ None = sym is ∙ ap (λ (r : Row). option_map (λ (put : Put). put.0) (put_of (newest (versions_up_to at (reading (committed rows) r.lock r.versions))))) (no_row_is (rows key) none) in cc)
    by false some = refl

-- is that of a name
pub seen_is_named : (number : ℕ) (rows : Rows) (key : Key) (at : ℕ) (value : List ℕ) → Decodes number rows → value_seen rows key at ≡ Some value → IsDecoded number key (rows key)
seen_is_named number rows key at value decodes is = decodes key (seen_is_there rows key at value is)

-- ---- the value

abbrev Holds : ℕ → KeyName → Version → Type 0
Holds number name version = MayHold number name version.value

-- what is read of a row
read_holds : (number : ℕ) (name : KeyName) (rows : Rows) (key : Key) → HoldsVersions number name (rows key) → All (Holds number name) (versions_read rows key)
read_holds number name rows key holds = by (rows key).lock holds.lock
  where
    own : All (Holds number name) (rows key).versions
    own = All-weaker (IsVersionOf number name) (Holds number name) (λ version is. is.value) (rows key).versions holds.versions

    locked : (lock : Lock) (commit : Option ℕ) → MayHold number name lock.value → All (Holds number name) (with_lock lock commit (rows key).versions)
    locked lock None may = own
    locked lock (Some commit) may = all_with_version (Holds number name) (version_of lock commit) (rows key).versions may own

    by : (lock : Option Lock) → IfSome lock (IsLockOf number name) → All (Holds number name) (reading (committed rows) lock (rows key).versions)
    by None none = own
    by (Some lock) is = locked lock (committed rows lock.primary lock.start) is.value

-- the newest of versions
newest_holds : (P : Version → Type 0) (versions : List Version) (version : Version) → All P versions → newest versions ≡ Some version → P version
newest_holds P [] version all is = absurd cc
newest_holds P (one ∷ []) version all is = subst P (same_Some one version is) (All-head P one [] all)
newest_holds P (one ∷ next ∷ versions) version all is = newest_holds P (next ∷ versions) version (All-tail P one (next ∷ versions) all) is

-- a value that is seen is what the row may hold
value_holds : (number : ℕ) (name : KeyName) (rows : Rows) (key : Key) (at : ℕ) (value : List ℕ) → HoldsVersions number name (rows key) → value_seen rows key at ≡ Some value → IsValue number name value
value_holds number name rows key at value holds is = by (newest (versions_up_to at (versions_read rows key))) refl is
  where
    all : All (Holds number name) (versions_up_to at (versions_read rows key))
    all = All-filter (λ (v : Version). nat_le v.commit at) (Holds number name) (versions_read rows key) (read_holds number name rows key holds)

    of : (version : Version) (held : Option (List ℕ)) → version.value ≡ held → MayHold number name held → option_map (λ (put : Put). put.0) (option_map (λ bytes. (bytes, version.commit)) held) ≡ Some value → IsValue number name value
    of version None e may none = absurd cc
    of version (Some bytes) e may some = subst (IsValue number name) (same_Some bytes value some) may

    by : (found : Option Version) → newest (versions_up_to at (versions_read rows key)) ≡ found → option_map (λ (put : Put). put.0) (put_of found) ≡ Some value → IsValue number name value
    by None e none = absurd cc
    by (Some version) e some = of version version.value refl (newest_holds (Holds number name) _ version all e) some

-- the cursor of a task
pub cursor_is : (number : ℕ) (rows : Rows) (name : TaskName) (at : ℕ) (cursor : List ℕ) → Decodes number rows → IsTask name → value_seen rows (task_key name) at ≡ Some cursor → IsValue number (row.Task name) cursor
cursor_is number rows name at cursor decodes valid is = value_holds number (row.Task name) rows (task_key name) at cursor (row_of_name number rows (row.Task name) decodes valid) is
