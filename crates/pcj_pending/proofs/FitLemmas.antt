-- What walks meet in fit tables: all locks, and all that stands of tasks.
use Rattle.std.proofs.Common.{◌≡◌, ◌≢◌, ◌≤◌, ◌^◌, ℕ, Bool, true, false, cond, not, is_some, ◌&&◌, ◌||◌, List, [], ◌∷◌, length, Option, Some, None, IfSome, refl, ap, sym, subst, ◌∙◌, arith}
use Rattle.std.specs.List.{All}
use Rattle.std.proofs.lemmas.Bool.{and_parts, le-leb}
use Rattle.std.proofs.lemmas.List.Elements.{All-head, All-tail}
use Rattle.pcj_term.proofs.ByteLemmas.{less_is}
use Rattle.pcj_table.specs.declared.lock.Lock.{Lock}
use Rattle.pcj_table.specs.declared.version.Version.{Version}
use Rattle.pcj_table.specs.declared.row.Row.{Row}
use Rattle.pcj_table.specs.Row.{has_nothing, has_plain_value, is_empty, is_locked_up_to, is_put, is_seen_at, newest, versions_up_to}
use Rattle.pcj_table.specs.Table.{Key, Table, row_at, is_before, is_next_at, is_next_lock, rows_that}
use Rattle.pcj_table.proofs.EntryLemmas.{row_there}
use Rattle.pcj_table.proofs.RowLemmas.{no_row_is}
use Rattle.pcj_encode.specs.declared.order.Order.TheVariants.{Spo, Pos, Osp}
use Rattle.pcj_encode.specs.declared.task_name.TaskName.{TaskName}
use Rattle.pcj_encode.specs.declared.key_name.KeyName.{KeyName}
use Rattle.pcj_encode.specs.declared.key_name.KeyName.TheVariants as row
use Rattle.pcj_encode.specs.Name.{key_of, parts_of}
use Rattle.pcj_encode.specs.Range as kind
use Rattle.pcj_encode.specs.Range.{Holds, range_of}
use Rattle.pcj_encode.proofs.Ranges.{hold_names, some_key}
use Rattle.pcj_rows.specs.Rows.{Decodes, HoldsVersions, IsDecoded, IsLockOf, IsRowOf, IsVersionOf}
use Rattle.pcj_pending.specs.Pending.{IsFit, is_of_task, is_standing, locks_of, notifications_of}
use Rattle.pcj_pending.proofs.WalkLemmas.{as_many}

-- ---- tasks

all_up_to : (next at : ℕ) (name : KeyName) (versions : List Version) → next ≤ at → All (IsVersionOf next name) versions → versions_up_to at versions ≡ versions
all_up_to next at name [] le all = refl
all_up_to next at name (version ∷ versions) le all =
    let lower = (All-head (IsVersionOf next name) version versions all).commit in
    ap (λ b. cond b (version ∷ versions_up_to at versions) (versions_up_to at versions)) (le-leb version.commit at (omega (arith, lower, le)))
    ∙ ap (λ vs. version ∷ vs) (all_up_to next at name versions le (All-tail (IsVersionOf next name) version versions all))

locked_up_to : (next at : ℕ) (name : KeyName) (lock : Option Lock) → next ≤ at → IfSome lock (IsLockOf next name) → is_locked_up_to at lock ≡ is_some lock
locked_up_to next at name None le is = refl
locked_up_to next at name (Some lock) le is = let lower = is.start.1 in le-leb lock.start at (omega (arith, lower, le))

or_false : (a b : Bool) → (a || b || false) ≡ (a || b)
or_false true b = refl
or_false false true = refl
or_false false false = refl

any_of : (a b c d e : Bool) → a ≡ d → b ≡ e → c ≡ false → (a || b || c) ≡ (d || e)
any_of a b c d e first second third = ap (λ x. x || b || c) first ∙ ap (λ x. d || x || c) second ∙ ap (λ x. d || e || x) third ∙ or_false d e

-- whatever stands in a row of versions is seen at a time above all that was granted
seen_is_standing : (next at : ℕ) (name : KeyName) (found : Row) → next ≤ at → HoldsVersions next name found → is_seen_at at found ≡ is_standing found
seen_is_standing next at name found le holds =
    any_of (is_locked_up_to at found.lock) (is_put (newest (versions_up_to at found.versions))) (has_plain_value found.plain) (is_some found.lock) (is_put (newest found.versions))
    (locked_up_to next at name found.lock le holds.lock) (ap (λ vs. is_put (newest vs)) (all_up_to next at name found.versions le holds.versions)) (ap has_plain_value holds.plain)

-- rows in the range are those of tasks
task_row : (next : ℕ) (key : Key) (found : Row) → is_of_task key ≡ true → IsDecoded next key found → (task : TaskName) × HoldsVersions next (row.Task task) found
task_row next key found within decoded =
    let ends = and_parts (is_before (range_of kind.tasks).after key) (is_before key (range_of kind.tasks).end) within in
    let holds : Holds (range_of kind.tasks) (key_of decoded.name) = subst (Holds (range_of kind.tasks)) decoded.is (less_is _ ends.0, less_is _ ends.1) in
    let task = (hold_names kind.tasks decoded.name tt decoded.valid).1 holds in
    (task.0, subst (λ name. IsRowOf next name found) task.1 decoded.holds)

task_is_standing : (next : ℕ) (rows : Key → Row) (key : Key) → next ≤ 2 ^ 48 → Decodes next rows → is_of_task key ≡ true → is_seen_at (2 ^ 48) (rows key) ≡ is_standing (rows key)
task_is_standing next rows key le decodes within = by (has_nothing (rows key)) refl
  where
    by : (b : Bool) → has_nothing (rows key) ≡ b → is_seen_at (2 ^ 48) (rows key) ≡ is_standing (rows key)
    by true none = let same = no_row_is (rows key) none in ap (is_seen_at (2 ^ 48)) same ∙ sym (ap is_standing same)
    by false some = let held = task_row next key (rows key) within (decodes key some) in seen_is_standing next (2 ^ 48) (row.Task held.0) (rows key) le held.1

where_first : (a b c : Bool) → (a ≡ true → b ≡ c) → (a && b) ≡ (a && c)
where_first true b c same = same refl
where_first false b c same = refl

pub notifications_are_seen : (table : Table) → IsFit (row_at table) → rows_that (is_next_at (range_of kind.tasks).after (range_of kind.tasks).end (2 ^ 48)) table ≡ notifications_of table
notifications_are_seen table fit = as_many _ _ table (λ entry there. where_first (is_of_task entry.0) (is_seen_at (2 ^ 48) entry.1) (is_standing entry.1) (λ within.
    subst (λ found. is_seen_at (2 ^ 48) found ≡ is_standing found) (row_there table entry there) (task_is_standing fit.next (row_at table) entry.0 fit.last fit.fit.decodes within)))

-- ---- locks

some_parts : (name : KeyName) → parts_of name ≢ []
some_parts row.Clock = λ e. absurd cc
some_parts (row.Triple Spo triple) = λ e. absurd cc
some_parts (row.Triple Pos triple) = λ e. absurd cc
some_parts (row.Triple Osp triple) = λ e. absurd cc
some_parts (row.Node registration node cells) = λ e. absurd cc
some_parts (row.Group registration cells) = λ e. absurd cc
some_parts (row.Member registration cells term) = λ e. absurd cc
some_parts (row.Registration registration) = λ e. absurd cc
some_parts (row.Name name) = λ e. absurd cc
some_parts (row.Pattern registration node) = λ e. absurd cc
some_parts (row.Task task) = λ e. absurd cc
some_parts (row.Export registration cells) = λ e. absurd cc

-- no key is empty
empty_key_has_nothing : (next : ℕ) (rows : Key → Row) → Decodes next rows → has_nothing (rows []) ≡ false → ⊥
empty_key_has_nothing next rows decodes some =
    let decoded = decodes [] some in
    let longer = some_key (parts_of decoded.name) (some_parts decoded.name) in
    let none : 0 ≡ length (key_of decoded.name) = ap length decoded.is in
    omega (arith, longer, none)

has_something : (found : Row) → is_some found.lock ≡ true → has_nothing found ≡ false
has_something found locked = ap (λ b. not b && is_empty found.versions && not (is_some found.plain)) locked

locked_comes_later : (next : ℕ) (rows : Key → Row) (key : Key) → Decodes next rows → is_some (rows key).lock ≡ true → is_before [] key ≡ true
locked_comes_later next rows [] decodes locked = absurd (empty_key_has_nothing next rows decodes (has_something (rows []) locked))
locked_comes_later next rows (byte ∷ key) decodes locked = refl

where_second : (a b : Bool) → (b ≡ true → a ≡ true) → (a && b) ≡ b
where_second true b is = refl
where_second false true is = is refl
where_second false false is = refl

pub locks_are_met : (table : Table) → IsFit (row_at table) → rows_that (is_next_lock []) table ≡ locks_of table
locks_are_met table fit = as_many _ _ table (λ entry there. where_second (is_before [] entry.0) (is_some entry.1.lock) (λ locked.
    locked_comes_later fit.next (row_at table) entry.0 fit.fit.decodes (ap (λ (found : Row). is_some found.lock) (row_there table entry there) ∙ locked)))
