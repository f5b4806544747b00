-- Walks over the rows of a table: what is still ahead of one, and how much that is.
use Rattle.std.proofs.Common.{◌≡◌, ◌≤◌, ◌<◌, ◌+◌, ◌^◌, ℕ, suc, Bool, true, false, cond, is_some, nat_lt, ◌&&◌, List, [], ◌∷◌, filter, find, length, Option, Some, None, refl, ap, sym, subst, ◌∙◌, arith}
use Rattle.std.specs.List.{Contains}
use Rattle.std.specs.Option.{option_map}
use Rattle.std.specs.Ordering.{is_lt, ordering_reverse}
use Rattle.std.specs.Cmp.{tied_itself}
use Rattle.std.specs.declared.cmp.Ordering.TheVariants.{Less}
use Rattle.std.specs.FinMap as finmap
use Rattle.std.specs.FinMap.{len-entries}
use Rattle.std.specs.FinMap.Entries.{below_all, is_sorted}
use Rattle.std.proofs.lemmas.Cmp.{nat_list_cmp_total}
use Rattle.std.proofs.lemmas.Bool.{and_parts, and_left, cond-false, lt-ltb}
use Rattle.pcj_term.specs.Order.{bytes_cmp}
use Rattle.pcj_term.proofs.ByteLemmas.{less_is}
use Rattle.pcj_term.proofs.ListLemmas.{first_there, later_there}
use Rattle.pcj_term.proofs.OptionLemmas.{map_some}
use Rattle.pcj_table.specs.declared.found.Found.{Found}
use Rattle.pcj_table.specs.Calls.{counted}
use Rattle.pcj_table.specs.Row.{is_seen_at}
use Rattle.pcj_table.specs.Table.{Key, Table, found, first_row, is_before, is_next_at, is_next_lock, rows_that}
use Rattle.pcj_table.proofs.EntryLemmas.{Entry, above_low, found_there, rising}

-- ---- tests of entries

pub same_filter : {A : Type 0} (test other : A → Bool) (xs : List A) → ((x : A) → Contains xs x → test x ≡ other x) → filter test xs ≡ filter other xs
same_filter test other [] same = refl
same_filter test other (x ∷ xs) same =
    ap (λ b. cond b (x ∷ filter test xs) (filter test xs)) (same x (first_there x xs))
    ∙ ap (λ ys. cond (other x) (x ∷ ys) ys) (same_filter test other xs (λ y there. same y (later_there x xs y there)))

-- tests that agree on a table's rows pass as many of them
pub as_many : (test other : Entry → Bool) (table : Table) → ((entry : Entry) → Contains (finmap.entries table) entry → test entry ≡ other entry) → rows_that test table ≡ rows_that other table
as_many test other table same = ap length (same_filter test other (finmap.entries table) same)

pub filtered_are_fewer : {A : Type 0} (test : A → Bool) (xs : List A) → length (filter test xs) ≤ length xs
filtered_are_fewer test [] = omega arith
filtered_are_fewer test (x ∷ xs) = by (test x) (filtered_are_fewer test xs)
  where
    by : (b : Bool) → length (filter test xs) ≤ length xs → length (cond b (x ∷ filter test xs) (filter test xs)) ≤ length (x ∷ xs)
    by true fewer = omega (arith, fewer)
    by false fewer = omega (arith, fewer)

pub at_most_all : (test : Entry → Bool) (table : Table) → rows_that test table ≤ finmap.len table
at_most_all test table =
    let fewer = filtered_are_fewer test (finmap.entries table) in
    let all = len-entries table in
    omega (arith, fewer, all)

-- ---- walks

-- a walk asks, from a key on, for the next row that passes
abbrev pub IsWalk : (Key → Entry → Bool) → (Entry → Bool) → Type 0
IsWalk test passes = (after : Key) (entry : Entry) → test after entry ≡ (is_before after entry.0 && passes entry)

-- what it still has before it
abbrev pub ahead : (Key → Entry → Bool) → Key → Table → List Entry
ahead test after table = filter (test after) (finmap.entries table)

-- what was met, as an entry
abbrev pub entry_of : Found → Entry
entry_of met = (met.key, met.row)

not_before_itself : (key : Key) → is_before key key ≡ false
not_before_itself key = ap is_lt (tied_itself nat_list_cmp_total key)

not_back : (key other : Key) → bytes_cmp key other ≡ Less → is_before other key ≡ false
not_back key other less = ap is_lt (nat_list_cmp_total.antisymm other key ∙ ap ordering_reverse less)

-- an entry that isn't above the key is passed over
passed_over : (test : Key → Entry → Bool) (passes : Entry → Bool) → IsWalk test passes → (after : Key) (entry : Entry) (es : List Entry) → is_before after entry.0 ≡ false →
    filter (test after) (entry ∷ es) ≡ filter (test after) es
passed_over test passes walk after entry es below =
    cond-false (test after entry) (entry ∷ filter (test after) es) (filter (test after) es) (walk after entry ∙ and_left (is_before after entry.0) (passes entry) below)

-- of the entries after one that was met the same are met from its key on
met_from : (test : Key → Entry → Bool) (passes : Entry → Bool) → IsWalk test passes → (after : Key) (first : Entry) (es : List Entry) → below_all bytes_cmp first.0 es ≡ true → test after first ≡ true →
    filter (test after) es ≡ filter (test first.0) (first ∷ es)
met_from test passes walk after first es above met =
    same_filter (test after) (test first.0) es same ∙ sym (passed_over test passes walk first.0 first es (not_before_itself first.0))
  where
    low : bytes_cmp after first.0 ≡ Less
    low = less_is _ (and_parts (is_before after first.0) (passes first) (sym (walk after first) ∙ met)).0

    same : (entry : Entry) → Contains es entry → test after entry ≡ test first.0 entry
    same entry there =
        let over = above_low first.0 es entry above there in
        walk after entry ∙ ap (λ b. b && passes entry) (ap is_lt (nat_list_cmp_total.trans after first.0 entry.0 low over) ∙ sym (ap is_lt over)) ∙ sym (walk first.0 entry)

goes_on : (test : Key → Entry → Bool) (passes : Entry → Bool) → IsWalk test passes → (after : Key) (es : List Entry) (entry : Entry) → is_sorted bytes_cmp es ≡ true → find (test after) es ≡ Some entry →
    filter (test after) es ≡ entry ∷ filter (test entry.0) es
goes_on test passes walk after [] entry sorted is = absurd cc
goes_on test passes walk after (first ∷ es) entry sorted is = by (test after first) refl is (λ later. goes_on test passes walk after es entry (and_parts _ _ sorted).1 later)
  where
    above : below_all bytes_cmp first.0 es ≡ true
    above = (and_parts _ _ sorted).0

    by : (b : Bool) → test after first ≡ b → cond b (Some first) (find (test after) es) ≡ Some entry →
        (find (test after) es ≡ Some entry → filter (test after) es ≡ entry ∷ filter (test entry.0) es) →
        cond b (first ∷ filter (test after) es) (filter (test after) es) ≡ entry ∷ filter (test entry.0) (first ∷ es)
    by true met is later =
        let same : first ≡ entry = cc in
        subst (λ (e : Entry). first ∷ filter (test after) es ≡ e ∷ filter (test e.0) (first ∷ es)) same (ap (λ ys. first ∷ ys) (met_from test passes walk after first es above met))
    by false fails is later =
        let over = above_low first.0 es entry above (found_there (test after) es entry is).0 in
        later is ∙ ap (λ ys. entry ∷ ys) (sym (passed_over test passes walk entry.0 first es (not_back first.0 entry.0 over)))

none_met : (test : Entry → Bool) (es : List Entry) → find test es ≡ None → filter test es ≡ []
none_met test [] is = refl
none_met test (first ∷ es) is = by (test first) is (λ later. none_met test es later)
  where
    by : (b : Bool) → cond b (Some first) (find test es) ≡ None → (find test es ≡ None → filter test es ≡ []) → cond b (first ∷ filter test es) (filter test es) ≡ []
    by true is later = absurd cc
    by false is later = later is

no_entry : (o : Option Entry) → option_map found o ≡ None → o ≡ None
no_entry None is = refl
no_entry (Some entry) is = absurd cc

-- what is met is the first that was ahead, and from its key on the rest is
pub walk_goes_on : (test : Key → Entry → Bool) (passes : Entry → Bool) → IsWalk test passes → (table : Table) (after : Key) (met : Found) → first_row (test after) table ≡ Some met →
    ahead test after table ≡ entry_of met ∷ ahead test met.key table
walk_goes_on test passes walk table after met is =
    let read = map_some found (find (test after) (finmap.entries table)) met is in
    goes_on test passes walk after (finmap.entries table) read.0 (rising table) read.1 ∙ ap (λ (f : Found). entry_of f ∷ ahead test f.key table) read.2

pub walk_ends : (test : Entry → Bool) (table : Table) → first_row test table ≡ None → filter test (finmap.entries table) ≡ []
walk_ends test table is = none_met test (finmap.entries table) (no_entry _ is)

-- ---- walks that count

-- the key of what is met
abbrev pub met_key : (Entry → Bool) → Table → Option Key
met_key test table = option_map (λ met. met.key) (first_row test table)

pub one_fewer : (test : Key → Entry → Bool) (passes : Entry → Bool) → IsWalk test passes → (table : Table) (after key : Key) → Some key ≡ met_key (test after) table →
    rows_that (test after) table ≡ suc (rows_that (test key) table)
one_fewer test passes walk table after key is =
    let read = map_some (λ (met : Found). met.key) (first_row (test after) table) key (sym is) in
    ap length (walk_goes_on test passes walk table after read.0 read.1) ∙ ap (λ k. suc (rows_that (test k) table)) read.2

pub none_left : (test : Entry → Bool) (table : Table) → None ≡ met_key test table → rows_that test table ≡ 0
none_left test table is = by (first_row test table) refl is
  where
    by : (o : Option Found) → first_row test table ≡ o → None ≡ option_map (λ (met : Found). met.key) o → rows_that test table ≡ 0
    by None e none = ap length (walk_ends test table e)
    by (Some met) e none = absurd cc

-- something is met exactly where something is ahead
pub met_any : (test : Key → Entry → Bool) (passes : Entry → Bool) → IsWalk test passes → (table : Table) (after : Key) → is_some (met_key (test after) table) ≡ nat_lt 0 (rows_that (test after) table)
met_any test passes walk table after = by (met_key (test after) table) refl
  where
    by : (o : Option Key) → met_key (test after) table ≡ o → is_some (met_key (test after) table) ≡ nat_lt 0 (rows_that (test after) table)
    by None e = ap is_some e ∙ sym (ap (nat_lt 0) (none_left (test after) table (sym e)))
    by (Some key) e = let more = one_fewer test passes walk table after key (sym e) in ap is_some e ∙ sym (lt-ltb 0 (rows_that (test after) table) (omega (arith, more)))

-- ---- the walks of a table

and_again : (a b c : Bool) → ((a && b) && c) ≡ (a && (b && c))
and_again true b c = refl
and_again false b c = refl

pub seen_walk : (end : Key) (at : ℕ) → IsWalk (λ after. is_next_at after end at) (λ entry. is_before entry.0 end && is_seen_at at entry.1)
seen_walk end at after entry = and_again (is_before after entry.0) (is_before entry.0 end) (is_seen_at at entry.1)

pub lock_walk : IsWalk is_next_lock (λ entry. is_some entry.1.lock)
lock_walk after entry = refl

-- Where a walk that counts has come: what it has counted and what is ahead are all that it began with, each of these took
-- one call, and the table is as it was.
pub record Counts (test : Key → Entry → Bool) (first : Key) (old new : Table) (count : ℕ) (last : Key) : Type 0 where
  pub all : count + rows_that (test last) new ≡ rows_that (test first) old
  pub same : new ≡ old
  pub few : finmap.len old < 2 ^ 64

pub counts_on : (test : Key → Entry → Bool) (passes : Entry → Bool) → IsWalk test passes → (first : Key) (old new next : Table) (count : ℕ) (last key : Key) → Some key ≡ met_key (test last) new → next ≡ new →
    Counts test first old new count last → Counts test first old next (count + 1) key
counts_on test passes walk first old new next count last key met still counts =
    let fewer = one_fewer test passes walk new last key met in
    let ahead_same : rows_that (test key) next ≡ rows_that (test key) new = ap (rows_that (test key)) still in
    let all = counts.all in
    record { all = omega (arith, fewer, ahead_same, all); same = still ∙ counts.same; few = counts.few }

pub can_be_counted : (test : Key → Entry → Bool) (passes : Entry → Bool) → IsWalk test passes → (first : Key) (old new : Table) (count : ℕ) (last key : Key) → Some key ≡ met_key (test last) new →
    Counts test first old new count last → count + 1 < 2 ^ 64
can_be_counted test passes walk first old new count last key met counts =
    let fewer = one_fewer test passes walk new last key met in
    let all = counts.all in
    let most = at_most_all (test first) old in
    let few = counts.few in
    omega (arith, fewer, all, most, few)

pub ahead_is_less : (test : Key → Entry → Bool) (passes : Entry → Bool) → IsWalk test passes → (new next : Table) (last key : Key) → Some key ≡ met_key (test last) new → next ≡ new → rows_that (test key) next < rows_that (test last) new
ahead_is_less test passes walk new next last key met still =
    let fewer = one_fewer test passes walk new last key met in
    let ahead_same : rows_that (test key) next ≡ rows_that (test key) new = ap (rows_that (test key)) still in
    omega (arith, fewer, ahead_same)

pub all_counted : (test : Key → Entry → Bool) (first : Key) (old new : Table) (count : ℕ) (last : Key) → None ≡ met_key (test last) new → Counts test first old new count last → count ≡ rows_that (test first) old
all_counted test first old new count last none counts =
    let left = none_left (test last) new none in
    let all = counts.all in
    omega (arith, left, all)

pub counted_so_far : (test : Key → Entry → Bool) (first : Key) (old new : Table) (count : ℕ) (last : Key) → Counts test first old new count last → count ≤ rows_that (test first) old
counted_so_far test first old new count last counts = let all = counts.all in omega (arith, all)

pub one_call : (before after : ℕ) → after ≡ counted before → after ≤ before + 1
one_call before after is = omega (arith, is)

pub counts_begin : (test : Key → Entry → Bool) (first : Key) (table : Table) → finmap.len table < 2 ^ 64 → Counts test first table table 0 first
counts_begin test first table few = record { all = omega arith; same = refl; few = few }
