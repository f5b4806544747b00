-- A walk over the rows between two keys: what it has read, and what is ahead of it.
use Rattle.std.proofs.Common.{◌≡◌, ◌<◌, ◌^◌, ℕ, suc, Bool, true, false, cond, ◌||◌, ◌&&◌, List, [], ◌∷◌, ◌++◌, filter, filter_map, length, option_to_list, is_some, Contains, Option, Some, None, refl, ap, sym, subst, ◌∙◌, arith, append_assoc, append-nil}
use Rattle.std.specs.List.{cons_option}
use Rattle.std.specs.FinMap as finmap
use Rattle.pcj_term.proofs.ListLemmas.{first_there, later_there}
use Rattle.pcj_table.specs.declared.found.Found.{Found}
use Rattle.pcj_table.specs.declared.lock.Lock.{Lock}
use Rattle.pcj_table.specs.declared.plain.Plain.{Plain}
use Rattle.pcj_table.specs.declared.row.Row.{Row}
use Rattle.pcj_table.specs.declared.version.Version.{Version}
use Rattle.pcj_table.specs.Row.{has_plain_value, is_locked_up_to, is_put, is_seen_at, newest, versions_up_to}
use Rattle.pcj_table.specs.Table.{Key, Table, first_row, is_between, is_next_at, rows_that}
use Rattle.pcj_table.proofs.EntryLemmas.{Entry, row_there}
use Rattle.pcj_pending.proofs.WalkLemmas.{ahead, entry_of, seen_walk, walk_ends, walk_goes_on}
use Rattle.pcj_export.specs.Laws.{MeetsValuesAlone}
use Rattle.pcj_export.specs.Lines.{export_range, plain_value, values_between}

-- ---- what is seen, and what has a value

abbrev pub test_from : Key → Key → Entry → Bool
test_from end after = is_next_at after end (2 ^ 48)

abbrev between : Key → Key → Entry → Bool
between first end entry = is_between first end entry.0

abbrev value_in : Entry → Option (List ℕ)
value_in entry = plain_value entry.1.plain

-- the values of what is ahead of a walk
abbrev values_ahead : Key → Key → Table → List (List ℕ)
values_ahead last end table = filter_map value_in (ahead (test_from end) last table)

-- how much is ahead of it
abbrev pub ahead_of : Key → Key → Table → ℕ
ahead_of last end table = rows_that (is_next_at last end (2 ^ 48)) table

one_more : (value : Option (List ℕ)) (values : List (List ℕ)) → option_to_list value ++ values ≡ cons_option value values
one_more None values = refl
one_more (Some one) values = refl

-- a row that isn't seen has no value
unseen_has_none : (at : ℕ) (held : Row) → is_seen_at at held ≡ false → plain_value held.plain ≡ None
unseen_has_none at held unseen = by (is_locked_up_to at held.lock) (is_put (newest (versions_up_to at held.versions))) held.plain unseen
  where
    none : (value : Option (List ℕ)) → is_some value ≡ false → value ≡ None
    none None is = refl
    none (Some one) is = absurd cc

    by : (locked put : Bool) (plain : Option Plain) → (locked || put || has_plain_value plain) ≡ false → plain_value plain ≡ None
    by true put plain is = absurd cc
    by false true plain is = absurd cc
    by false false None is = refl
    by false false (Some plain) is = none plain.value is

-- so that of the rows between two keys those that are seen give all values
seen_give_all : (first end : Key) (es : List Entry) → filter_map value_in (filter (test_from end first) es) ≡ filter_map value_in (filter (between first end) es)
seen_give_all first end [] = refl
seen_give_all first end (entry ∷ es) = by (is_between first end entry.0) (is_seen_at (2 ^ 48) entry.1) refl (seen_give_all first end es)
  where
    by : (b s : Bool) → is_seen_at (2 ^ 48) entry.1 ≡ s → filter_map value_in (filter (test_from end first) es) ≡ filter_map value_in (filter (between first end) es) →
        filter_map value_in (cond (b && s) (entry ∷ filter (test_from end first) es) (filter (test_from end first) es)) ≡ filter_map value_in (cond b (entry ∷ filter (between first end) es) (filter (between first end) es))
    by false s is rest = rest
    by true true is rest = ap (cons_option (value_in entry)) rest
    by true false is rest = rest ∙ sym (ap (λ (value : Option (List ℕ)). cons_option value (filter_map value_in (filter (between first end) es))) (unseen_has_none (2 ^ 48) entry.1 is))

-- ---- the walk

-- what was read and what is ahead are all, and the table is as it was
pub record Reads (first end : Key) (old new : Table) (values : List (List ℕ)) (last : Key) : Type 0 where
  pub all : values ++ values_ahead last end old ≡ values_ahead first end old
  pub same : new ≡ old

pub reads_begin : (first end : Key) (table : Table) → Reads first end table table [] first
reads_begin first end table = record { all = refl; same = refl }

-- what is met is the first that was ahead, and the rest is ahead of its key
met_first : (end last : Key) (table : Table) (met : Found) → first_row (test_from end last) table ≡ Some met → ahead (test_from end) last table ≡ entry_of met ∷ ahead (test_from end) met.key table
met_first end last table met is = walk_goes_on (test_from end) _ (seen_walk end (2 ^ 48)) table last met is

pub one_less_ahead : (end last key : Key) (table : Table) (met : Found) → first_row (test_from end last) table ≡ Some met → key ≡ met.key → ahead_of last end table ≡ suc (ahead_of key end table)
one_less_ahead end last key table met is same = ap length (met_first end last table met is) ∙ ap (λ (k : Key). suc (ahead_of k end table)) (sym same)

pub smaller : (end last key : Key) (table next : Table) (met : Found) → first_row (test_from end last) table ≡ Some met → key ≡ met.key → next ≡ table → ahead_of key end next < ahead_of last end table
smaller end last key table next met is same still =
    let fewer = one_less_ahead end last key table met is same in
    let same_ahead : ahead_of key end next ≡ ahead_of key end table = ap (ahead_of key end) still in
    omega (arith, fewer, same_ahead)

pub reads_on : (first end last key : Key) (old new next : Table) (values more : List (List ℕ)) (met : Found) → first_row (test_from end last) old ≡ Some met → key ≡ met.key → next ≡ new →
    more ≡ values ++ option_to_list (plain_value met.row.plain) → Reads first end old new values last → Reads first end old next more key
reads_on first end last key old new next values more met is same still added reads = record { all = all; same = still ∙ reads.same }
  where
    value : Option (List ℕ)
    value = plain_value met.row.plain

    ahead_is : option_to_list value ++ values_ahead key end old ≡ values_ahead last end old
    ahead_is =
        ap (λ (k : Key). option_to_list value ++ values_ahead k end old) same
        ∙ one_more value (values_ahead met.key end old)
        ∙ sym (ap (filter_map value_in) (met_first end last old met is))

    all : more ++ values_ahead key end old ≡ values_ahead first end old
    all =
        ap (λ (vs : List (List ℕ)). vs ++ values_ahead key end old) added
        ∙ append_assoc values (option_to_list value) (values_ahead key end old)
        ∙ ap (λ (vs : List (List ℕ)). values ++ vs) ahead_is
        ∙ reads.all

pub reads_all : (first end last : Key) (old new : Table) (values : List (List ℕ)) → first_row (test_from end last) old ≡ None → Reads first end old new values last → values ≡ values_between first end old
reads_all first end last old new values none reads =
    sym (append-nil values)
    ∙ sym (ap (λ (es : List Entry). values ++ filter_map value_in es) (walk_ends (test_from end last) old none))
    ∙ reads.all ∙ seen_give_all first end (finmap.entries old)

-- what was found, in the words of the walk
pub found_is : (table first : Table) (last given end : Key) (found : Option Found) → given ≡ last → table ≡ first → found ≡ first_row (is_next_at given end (2 ^ 48)) table → first_row (test_from end last) first ≡ found
found_is table first last given end found same still is =
    sym (is ∙ ap (λ (k : Key). first_row (is_next_at k end (2 ^ 48)) table) same ∙ ap (λ (t : Table). first_row (is_next_at last end (2 ^ 48)) t) still)

-- ---- rows with plain values alone

abbrev HasPlainAlone : Row → Type 0
HasPlainAlone held = (held.lock ≡ None) × (held.versions ≡ [])

seen_by_plain : (at : ℕ) (held : Row) → HasPlainAlone held → is_seen_at at held ≡ has_plain_value held.plain
seen_by_plain at held alone =
    ap (λ (lock : Option Lock). is_locked_up_to at lock || is_put (newest (versions_up_to at held.versions)) || has_plain_value held.plain) alone.0
    ∙ ap (λ (versions : List Version). is_put (newest (versions_up_to at versions)) || has_plain_value held.plain) alone.1

one_value : (plain : Option Plain) (values : List (List ℕ)) (n : ℕ) → n ≡ length values → cond (has_plain_value plain) (suc n) n ≡ length (cons_option (plain_value plain) values)
one_value None values n is = is
one_value (Some plain) values n is = by plain.value
  where
    by : (value : Option (List ℕ)) → cond (is_some value) (suc n) n ≡ length (cons_option value values)
    by None = is
    by (Some one) = ap suc is

as_many : (first end : Key) (es : List Entry) → ((entry : Entry) → Contains es entry → is_between first end entry.0 ≡ true → HasPlainAlone entry.1) →
    length (filter (test_from end first) es) ≡ length (filter_map value_in (filter (between first end) es))
as_many first end [] alone = refl
as_many first end (entry ∷ es) alone = by (is_between first end entry.0) refl (as_many first end es (λ other there. alone other (later_there entry es other there)))
  where
    seen : List Entry
    seen = filter (test_from end first) es

    counted : (s : Bool) → length (cond s (entry ∷ seen) seen) ≡ cond s (suc (length seen)) (length seen)
    counted true = refl
    counted false = refl

    by : (b : Bool) → is_between first end entry.0 ≡ b → length seen ≡ length (filter_map value_in (filter (between first end) es)) →
        length (cond (b && is_seen_at (2 ^ 48) entry.1) (entry ∷ seen) seen) ≡ length (filter_map value_in (cond b (entry ∷ filter (between first end) es) (filter (between first end) es)))
    by false is rest = rest
    by true is rest =
        counted (is_seen_at (2 ^ 48) entry.1)
        ∙ ap (λ s. cond s (suc (length seen)) (length seen)) (seen_by_plain (2 ^ 48) entry.1 (alone entry (first_there entry es) is))
        ∙ one_value entry.1.plain (filter_map value_in (filter (between first end) es)) (length seen) rest

pub values_alone : MeetsValuesAlone
values_alone registration table alone =
    as_many (export_range registration).after (export_range registration).end (finmap.entries table)
    (λ entry there is. subst HasPlainAlone (row_there table entry there) (alone entry.0 is))
