-- How much more rows of one table pass a test than rows of another.
use Rattle.std.proofs.Common.{◌≡◌, ◌⊎◌, inl, inr, ◌≤◌, ◌+◌, Bool, true, false, cond, not, List, [], ◌∷◌, ◌++◌, filter, length, refl, ap, sym, subst, ◌∙◌, arith}
use Rattle.std.specs.List.{Contains}
use Rattle.std.specs.FinMap as finmap
use Rattle.std.specs.FinMap.Entries.{is_sorted}
use Rattle.std.proofs.lemmas.Bool.{and_parts}
use Rattle.std.proofs.lemmas.List.{length-append}
use Rattle.std.proofs.lemmas.List.Elements.{Contains-append_left, Contains-append_right}
use Rattle.pcj_term.specs.Order.{bytes_cmp, same_bytes}
use Rattle.pcj_term.proofs.ByteLemmas.{other_bytes, same_bytes_itself, bytes_cmp_itself}
use Rattle.pcj_term.proofs.ListLemmas.{nothing_in, first_or_later, first_there, later_there}
use Rattle.pcj_table.specs.declared.row.Row.{Row}
use Rattle.pcj_table.specs.Row.{has_nothing, no_row}
use Rattle.pcj_table.specs.Table.{Key, Table, row_at, rows_that}
use Rattle.pcj_table.proofs.EntryLemmas.{Entry, above_low, rising, row_there, there_with_row}
use Rattle.pcj_table.proofs.RowLemmas.{no_row_is}
use Rattle.pcj_pending.proofs.WalkLemmas.{filtered_are_fewer}

-- ---- keys that are all among others

abbrev without : Key → List Key → List Key
without key keys = filter (λ other. not (same_bytes key other)) keys

-- the list without a key that is in it is shorter
without_is_shorter : (key : Key) (keys : List Key) → Contains keys key → length (without key keys) + 1 ≤ length keys
without_is_shorter key [] there = absurd (nothing_in key there)
without_is_shorter key (first ∷ keys) there = by (same_bytes key first) refl (first_or_later first keys key there) (without_is_shorter key keys)
  where
    by : (b : Bool) → same_bytes key first ≡ b → (first ≡ key) ⊎ Contains keys key → (Contains keys key → length (without key keys) + 1 ≤ length keys) →
        length (cond (not b) (first ∷ without key keys) (without key keys)) + 1 ≤ length (first ∷ keys)
    by true e either later = let fewer = filtered_are_fewer (λ other. not (same_bytes key other)) keys in omega (arith, fewer)
    by false e (inl here) later = absurd (let clash : true ≡ false = sym (same_bytes_itself key) ∙ ap (same_bytes key) (sym here) ∙ e in cc)
    by false e (inr there) later = let shorter = later there in omega (arith, shorter)

stays : (key other : Key) (keys : List Key) → same_bytes key other ≡ false → Contains keys other → Contains (without key keys) other
stays key other [] apart there = absurd (nothing_in other there)
stays key other (first ∷ keys) apart there = by (same_bytes key first) refl (first_or_later first keys other there) (stays key other keys apart)
  where
    by : (b : Bool) → same_bytes key first ≡ b → (first ≡ other) ⊎ Contains keys other → (Contains keys other → Contains (without key keys) other) → Contains (cond (not b) (first ∷ without key keys) (without key keys)) other
    by true e (inl here) later = absurd (let clash : true ≡ false = sym e ∙ ap (same_bytes key) here ∙ apart in cc)
    by true e (inr there) later = later there
    by false e (inl here) later = subst (λ (k : Key). Contains (first ∷ without key keys) k) here (first_there first (without key keys))
    by false e (inr there) later = later_there first (without key keys) other (later there)

-- each key once
abbrev AreApart : List Key → Type 0
AreApart [] = Unit {0}
AreApart (key ∷ keys) = ((other : Key) → Contains keys other → same_bytes key other ≡ false) × AreApart keys

no_more_than : (keys others : List Key) → AreApart keys → ((key : Key) → Contains keys key → Contains others key) → length keys ≤ length others
no_more_than [] others apart all = omega arith
no_more_than (key ∷ keys) others apart all =
    let rest = no_more_than keys (without key others) apart.1 (λ other there. stays key other others (apart.0 other there) (all other (later_there key keys other there))) in
    let shorter = without_is_shorter key others (all key (first_there key keys)) in
    omega (arith, rest, shorter)

-- ---- the keys of the rows that pass

abbrev keys_that : (Entry → Bool) → List Entry → List Key
keys_that test [] = []
keys_that test (entry ∷ es) = cond (test entry) (entry.0 ∷ keys_that test es) (keys_that test es)

as_many_keys : (test : Entry → Bool) (es : List Entry) → length (keys_that test es) ≡ length (filter test es)
as_many_keys test [] = refl
as_many_keys test (entry ∷ es) = by (test entry) (as_many_keys test es)
  where
    by : (b : Bool) → length (keys_that test es) ≡ length (filter test es) → length (cond b (entry.0 ∷ keys_that test es) (keys_that test es)) ≡ length (cond b (entry ∷ filter test es) (filter test es))
    by true same = omega (arith, same)
    by false same = same

key_there : (test : Entry → Bool) (es : List Entry) (entry : Entry) → Contains es entry → test entry ≡ true → Contains (keys_that test es) entry.0
key_there test [] entry there passes = absurd (nothing_in entry there)
key_there test (first ∷ es) entry there passes = by (test first) refl (first_or_later first es entry there) (λ later. key_there test es entry later passes)
  where
    by : (b : Bool) → test first ≡ b → (first ≡ entry) ⊎ Contains es entry → (Contains es entry → Contains (keys_that test es) entry.0) → Contains (cond b (first.0 ∷ keys_that test es) (keys_that test es)) entry.0
    by true e (inl here) later = subst (λ (x : Entry). Contains (first.0 ∷ keys_that test es) x.0) here (first_there first.0 (keys_that test es))
    by true e (inr there) later = later_there first.0 (keys_that test es) entry.0 (later there)
    by false e (inl here) later = absurd (let clash : false ≡ true = sym e ∙ ap test here ∙ passes in cc)
    by false e (inr there) later = later there

of_key : (test : Entry → Bool) (es : List Entry) (key : Key) → Contains (keys_that test es) key → (found : Row) × Contains es (key, found) × (test (key, found) ≡ true)
of_key test [] key there = absurd (nothing_in key there)
of_key test (first ∷ es) key there = by (test first) refl there (of_key test es key)
  where
    after : (found : Row) × Contains es (key, found) × (test (key, found) ≡ true) → (found : Row) × Contains (first ∷ es) (key, found) × (test (key, found) ≡ true)
    after one = (one.0, later_there first es (key, one.0) one.1, one.2)

    by : (b : Bool) → test first ≡ b → Contains (cond b (first.0 ∷ keys_that test es) (keys_that test es)) key → (Contains (keys_that test es) key → (found : Row) × Contains es (key, found) × (test (key, found) ≡ true)) →
        (found : Row) × Contains (first ∷ es) (key, found) × (test (key, found) ≡ true)
    by true e there later = elim (first_or_later first.0 (keys_that test es) key there) [
      | inl here ↦ (first.1, subst (λ (k : Key). Contains (first ∷ es) (k, first.1)) here (first_there first es), subst (λ (k : Key). test (k, first.1) ≡ true) here e)
      | inr rest ↦ after (later rest)
    ]
    by false e there later = after (later there)

keys_are_apart : (test : Entry → Bool) (es : List Entry) → is_sorted bytes_cmp es ≡ true → AreApart (keys_that test es)
keys_are_apart test [] sorted = tt
keys_are_apart test (first ∷ es) sorted = by (test first) (keys_are_apart test es (and_parts _ _ sorted).1)
  where
    over : (other : Key) → Contains (keys_that test es) other → same_bytes first.0 other ≡ false
    over other there =
        let held = of_key test es other there in
        let less = above_low first.0 es (other, held.0) (and_parts _ _ sorted).0 held.1 in
        other_bytes first.0 other (λ same. absurd (let clash = sym (bytes_cmp_itself first.0) ∙ ap (bytes_cmp first.0) same ∙ less in cc))

    by : (b : Bool) → AreApart (keys_that test es) → AreApart (cond b (first.0 ∷ keys_that test es) (keys_that test es))
    by true rest = (over, rest)
    by false rest = rest

-- ---- two tables

passing_is_there : (test : Entry → Bool) (table : Table) (key : Key) → ((key : Key) → test (key, no_row) ≡ false) → test (key, row_at table key) ≡ true → Contains (keys_that test (finmap.entries table)) key
passing_is_there test table key nothing passes = key_there test (finmap.entries table) (key, row_at table key) (there (has_nothing (row_at table key)) refl) passes
  where
    there : (b : Bool) → has_nothing (row_at table key) ≡ b → Contains (finmap.entries table) (key, row_at table key)
    there true none = absurd (let clash : false ≡ true = sym (nothing key) ∙ ap (λ found. test (key, found)) (sym (no_row_is (row_at table key) none)) ∙ passes in cc)
    there false some = there_with_row table key some

-- where a row that passes passed before, but for those of some keys, no more pass than before and those
pub added_at_most : (test : Entry → Bool) (before after : Table) (keys : List Key) → ((key : Key) → test (key, no_row) ≡ false) →
    ((key : Key) → test (key, row_at after key) ≡ true → (test (key, row_at before key) ≡ true) ⊎ Contains keys key) → rows_that test after ≤ rows_that test before + length keys
added_at_most test before after keys nothing added =
    let new = as_many_keys test (finmap.entries after) in
    let old = as_many_keys test (finmap.entries before) in
    let both = length-append (keys_that test (finmap.entries before)) keys in
    let most = no_more_than (keys_that test (finmap.entries after)) (keys_that test (finmap.entries before) ++ keys) (keys_are_apart test (finmap.entries after) (rising after)) each in
    omega (arith, new, old, both, most)
  where
    each : (key : Key) → Contains (keys_that test (finmap.entries after)) key → Contains (keys_that test (finmap.entries before) ++ keys) key
    each key there =
        let held = of_key test (finmap.entries after) key there in
        by (added key (ap (λ found. test (key, found)) (row_there after (key, held.0) held.1) ∙ held.2))
      where
        by : (test (key, row_at before key) ≡ true) ⊎ Contains keys key → Contains (keys_that test (finmap.entries before) ++ keys) key
        by (inl passes) = Contains-append_left (keys_that test (finmap.entries before)) keys key (passing_is_there test before key nothing passes)
        by (inr new) = Contains-append_right (keys_that test (finmap.entries before)) keys key new

-- ---- rows that come and go

-- One row that passed does so no more, and each that passes did before: there is one fewer at least.
pub taken_away : (test : Entry → Bool) (before after : Table) (key : Key) → ((key : Key) → test (key, no_row) ≡ false) → test (key, row_at before key) ≡ true → test (key, row_at after key) ≡ false →
    ((other : Key) → test (other, row_at after other) ≡ true → test (other, row_at before other) ≡ true) → rows_that test after + 1 ≤ rows_that test before
taken_away test before after key nothing was gone others =
    let new = as_many_keys test (finmap.entries after) in
    let old = as_many_keys test (finmap.entries before) in
    let most = no_more_than (key ∷ keys_that test (finmap.entries after)) (keys_that test (finmap.entries before)) (apart, keys_are_apart test (finmap.entries after) (rising after)) each in
    omega (arith, new, old, most)
  where
    passes_after : (other : Key) → Contains (keys_that test (finmap.entries after)) other → test (other, row_at after other) ≡ true
    passes_after other there = let held = of_key test (finmap.entries after) other there in ap (λ found. test (other, found)) (row_there after (other, held.0) held.1) ∙ held.2

    apart : (other : Key) → Contains (keys_that test (finmap.entries after)) other → same_bytes key other ≡ false
    apart other there = other_bytes key other (λ same. absurd (let clash : false ≡ true = sym gone ∙ ap (λ k. test (k, row_at after k)) same ∙ passes_after other there in cc))

    each : (other : Key) → Contains (key ∷ keys_that test (finmap.entries after)) other → Contains (keys_that test (finmap.entries before)) other
    each other there = elim (first_or_later key (keys_that test (finmap.entries after)) other there) [
      | inl here ↦ passing_is_there test before other nothing (subst (λ k. test (k, row_at before k) ≡ true) here was)
      | inr later ↦ passing_is_there test before other nothing (others other (passes_after other later))
    ]
