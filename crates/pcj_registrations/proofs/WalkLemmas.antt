-- A walk over the rows of registrations: what it has found, up to a key.
use Rattle.std.proofs.Common.{◌≡◌, ◌⊎◌, inl, inr, ◌<◌, ◌^◌, ℕ, suc, Bool, true, false, Less, List, [], ◌∷◌, ◌++◌, Option, Some, None, refl, ap, sym, subst, ◌∙◌, arith}
use Rattle.std.specs.declared.cmp.Ordering.{Ordering}
use Rattle.std.specs.declared.cmp.Ordering.TheVariants.{Equal, Greater}
use Rattle.std.specs.List.{Contains}
use Rattle.std.specs.Option.{option_map}
use Rattle.std.specs.Ordering.{is_lt, ordering_reverse}
use Rattle.std.specs.Cmp.{tied_itself}
use Rattle.std.proofs.lemmas.Bool.{and_parts, and_from}
use Rattle.std.proofs.lemmas.Cmp.{nat_list_cmp_total}
use Rattle.std.proofs.lemmas.List.{map-append}
use Rattle.std.proofs.lemmas.List.Elements.{All-nil, Contains-append_left, Contains-push, Contains-push_cases}
use Rattle.pcj_term.specs.Order.{bytes_cmp}
use Rattle.pcj_term.proofs.ByteLemmas.{less_is}
use Rattle.pcj_term.proofs.ListLemmas.{first_there, later_there, nothing_in}
use Rattle.pcj_table.specs.declared.found.Found.{Found}
use Rattle.pcj_table.specs.declared.row.Row.{Row}
use Rattle.pcj_table.specs.Row.{has_nothing, is_seen_at}
use Rattle.pcj_table.specs.Table.{Key, Table, first_row, is_before, is_between, is_next_at, row_at, rows_that}
use Rattle.pcj_table.proofs.EntryLemmas.{first_row_is, no_first_row}
use Rattle.pcj_key.proofs.Keys.{injective}
use Rattle.pcj_encode.specs.declared.key_name.KeyName.TheVariants as row
use Rattle.pcj_encode.specs.declared.key_range.KeyRange.{KeyRange}
use Rattle.pcj_encode.specs.Name.{IsName, IsRegistration, key_of}
use Rattle.pcj_encode.specs.Range as kind
use Rattle.pcj_encode.specs.Range.{Holds, range_of}
use Rattle.pcj_encode.proofs.Names.{names_one_row}
use Rattle.pcj_encode.proofs.Ranges.{hold_names}
use Rattle.pcj_tree.specs.Stored.{stored_tree}
use Rattle.pcj_tree.proofs.StoredLaws.{can_be_stored, stores_one_tree}
use Rattle.pcj_mvcc.specs.Reading.{Put, Rows, standing}
use Rattle.pcj_fit.specs.Fit.{Fit}
use Rattle.pcj_fit.specs.Queries as fit
use Rattle.pcj_fit.specs.Queries.{Ascend, HasQueries, IsValidRegistration, StandsAs}
use Rattle.pcj_rows.specs.Registrations.{registration_value}
use Rattle.pcj_rows.specs.Rows.{HoldsVersions}
use Rattle.pcj_rows.proofs.EachLemmas.{each_of, of_each}
use Rattle.pcj_rows.proofs.ValueLemmas.{one_put, one_value}
use Rattle.pcj_fit.proofs.QueryLemmas.{same_registration}
use Rattle.pcj_rows.proofs.RowLemmas.{row_of_name}
use Rattle.pcj_pending.specs.Pending.{IsFit}
use Rattle.pcj_pending.proofs.WalkLemmas.{one_fewer, seen_walk}
use Rattle.pcj_registrations.specs.declared.registration.Registration.{Registration}
use Rattle.pcj_registrations.specs.Reading.{AddsMet, AddsValue, IsStored, ReadsRow, with_one}
use Rattle.pcj_registrations.specs.Registrations.{list_of, registration_of}
use Rattle.pcj_registrations.proofs.NumberLemmas.{numbers_in_order}
use Rattle.pcj_registrations.proofs.StandingLemmas.{seen_has_something, standing_is_seen, value_stands}

-- ---- keys

-- the key of a registration's row
abbrev pub key_at : ℕ → Key
key_at number = key_of (row.Registration number)

abbrev first_key : Key
first_key = (range_of kind.registrations).after

abbrev end_key : Key
end_key = (range_of kind.registrations).end

not_before_itself : (key : Key) → is_before key key ≡ false
not_before_itself key = ap is_lt (tied_itself nat_list_cmp_total key)

not_back : (key other : Key) → bytes_cmp key other ≡ Less → is_before other key ≡ false
not_back key other less = ap is_lt (nat_list_cmp_total.antisymm other key ∙ ap ordering_reverse less)

before_next : (last key next : Key) → is_before last key ≡ true → is_before key next ≡ true → is_before last next ≡ true
before_next last key next first second = ap is_lt (nat_list_cmp_total.trans last key next (less_is _ first) (less_is _ second))

-- what isn't above a key is below all that is
below_next : (last key next : Key) → is_before last key ≡ false → is_before last next ≡ true → bytes_cmp key next ≡ Less
below_next last key next not_above above = by (bytes_cmp key last) refl
  where
    by : (order : Ordering) → bytes_cmp key last ≡ order → bytes_cmp key next ≡ Less
    by Less e = nat_list_cmp_total.trans key last next e (less_is _ above)
    by Equal e = nat_list_cmp_total.congr key last next e ∙ less_is _ above
    by Greater e = absurd (let clash : true ≡ false = sym (ap is_lt (nat_list_cmp_total.antisymm last key ∙ ap ordering_reverse e)) ∙ not_above in cc)

in_range : (number : ℕ) → IsRegistration number → (is_before first_key (key_at number) ≡ true) × (is_before (key_at number) end_key ≡ true)
in_range number fits = let holds = (hold_names kind.registrations (row.Registration number) tt fits).0 (number, refl) in (ap is_lt holds.0, ap is_lt holds.1)

-- ---- rows

abbrev test_from : Key → Key × Row → Bool
test_from last = is_next_at last end_key (2 ^ 48)

holds_versions : (next : ℕ) (rows : Rows) (number : ℕ) → Fit next rows → IsRegistration number → HoldsVersions next (row.Registration number) (rows (key_at number))
holds_versions next rows number fits valid = row_of_name next rows (row.Registration number) fits.decodes valid

-- one that stands ahead passes
ahead_passes : (rows : Rows) (last : Key) (r : fit.Registration) → IsFit rows → IsValidRegistration r → StandsAs rows r → is_before last (key_at r.number) ≡ true →
    (has_nothing (rows (key_at r.number)) ≡ false) × (test_from last (key_at r.number, rows (key_at r.number)) ≡ true)
ahead_passes rows last r fits valid stands above =
    let seen = standing_is_seen fits.next rows (key_at r.number) (row.Registration r.number) _ fits.last (holds_versions fits.next rows r.number fits.fit valid.number) stands.1 in
    (seen_has_something _ seen, and_from (is_between last end_key (key_at r.number)) (is_seen_at (2 ^ 48) (rows (key_at r.number))) (and_from (is_before last (key_at r.number)) (is_before (key_at r.number) end_key) above (in_range r.number valid.number).1) seen)

-- a row in the range is that of a registration
named : (rows : Rows) (key : Key) → IsFit rows → is_before first_key key ≡ true → is_before key end_key ≡ true → is_seen_at (2 ^ 48) (rows key) ≡ true → (number : ℕ) × IsRegistration number × (key ≡ key_at number)
named rows key fits above below seen =
    let its = fits.fit.decodes key (seen_has_something (rows key) seen) in
    let holds : Holds (range_of kind.registrations) (key_of its.name) = subst (Holds (range_of kind.registrations)) its.is (less_is _ above, less_is _ below) in
    let known = (hold_names kind.registrations its.name tt its.valid).1 holds in
    (known.0, subst IsName known.1 its.valid, its.is ∙ ap key_of known.1)

-- ---- two registrations in one row

same_number : (number other : ℕ) → IsRegistration number → IsRegistration other → key_at number ≡ key_at other → number ≡ other
same_number number other fits fits' same = let names = names_one_row (row.Registration number) (row.Registration other) fits fits' same in cc

one_there : (rows : Rows) (r other : fit.Registration) → IsValidRegistration r → IsValidRegistration other → StandsAs rows r → StandsAs rows other → key_at r.number ≡ key_at other.number → r ≡ other
one_there rows r other valid valid' stands stands' same =
    let numbers = same_number r.number other.number valid.number valid'.number same in
    let values = one_value r.name other.name r.tree other.tree valid.of_query valid'.of_query
    (one_put (standing rows (key_at r.number)) _ _ stands.0 stands'.0 stands.1 (ap (λ n. standing rows (key_at n)) numbers ∙ stands'.1)) in
    same_registration r other values.0 numbers values.1

stored_once : (key : Key) (value : List ℕ) (r other : fit.Registration) → IsStored key value r.number r.name r.tree → IsStored key value other.number other.name other.tree → r ≡ other
stored_once key value r other is is' =
    let parts : r.name ∷ stored_tree r.tree ∷ [] ≡ other.name ∷ stored_tree other.tree ∷ [] = injective (r.name ∷ stored_tree r.tree ∷ []) (other.name ∷ stored_tree other.tree ∷ []) (sym is.is_value ∙ is'.is_value) in
    let names : r.name ≡ other.name = cc in
    let stored : stored_tree r.tree ≡ stored_tree other.tree = cc in
    same_registration r other names (same_number r.number other.number is.number_fits is'.number_fits (sym is.is_key ∙ is'.is_key)) (stores_one_tree r.tree other.tree is.storable is'.storable stored)

-- ---- what was found up to a key

pub record Passed (rows : Rows) (last : Key) (known : List fit.Registration) : Type 0 where
  pub from : (key : Key) → is_before last key ≡ true → is_before (range_of kind.registrations).after key ≡ true
  pub each : (r : fit.Registration) → Contains known r → IsValidRegistration r × StandsAs rows r × (is_before last (key_at r.number) ≡ false)
  pub ascend : Ascend known
  pub whole : (r : fit.Registration) → IsValidRegistration r → StandsAs rows r → is_before last (key_at r.number) ≡ false → Contains known r

pub passed_none : (rows : Rows) (known : List fit.Registration) → known ≡ [] → Passed rows (range_of kind.registrations).after known
passed_none rows known none = subst (Passed rows (range_of kind.registrations).after) (sym none) (record {
  from = λ key above. above;
  each = λ r there. absurd (nothing_in r there);
  ascend = tt;
  whole = λ r valid stands not_above. absurd (let clash : true ≡ false = sym (in_range r.number valid.number).0 ∙ not_above in cc);
})

ascend_last : (known : List fit.Registration) (one : fit.Registration) → Ascend known → ((r : fit.Registration) → Contains known r → r.number < one.number) → Ascend (known ++ one ∷ [])
ascend_last [] one ascend lower = (All-nil (λ (later : fit.Registration). one.number < later.number), tt)
ascend_last (first ∷ known) one ascend lower = (
  each_of (λ (later : fit.Registration). first.number < later.number) (known ++ one ∷ []) (λ r there. elim (Contains-push_cases known one r there) [
    | inl before ↦ of_each (λ (later : fit.Registration). first.number < later.number) known r ascend.0 before
    | inr same ↦ subst (λ (later : fit.Registration). first.number < later.number) same (lower first (first_there first known))
  ]),
  ascend_last known one ascend.1 (λ r there. lower r (later_there first known r there)),
)

-- no other stands between the last key and the next one that is met
none_between : (table : Table) (last key : Key) (r : fit.Registration) → IsFit (row_at table) → ((k : Key) → has_nothing (row_at table k) ≡ false → test_from last (k, row_at table k) ≡ true → (key ≡ k) ⊎ (bytes_cmp key k ≡ Less)) →
    IsValidRegistration r → StandsAs (row_at table) r → is_before key (key_at r.number) ≡ false → (is_before last (key_at r.number) ≡ false) ⊎ (key ≡ key_at r.number)
none_between table last key r fits others valid stands not_above = by (is_before last (key_at r.number)) refl
  where
    by : (b : Bool) → is_before last (key_at r.number) ≡ b → (is_before last (key_at r.number) ≡ false) ⊎ (key ≡ key_at r.number)
    by false e = inl e
    by true e =
        let passes = ahead_passes (row_at table) last r fits valid stands e in
        elim (others (key_at r.number) passes.0 passes.1) [
          | inl same ↦ inr same
          | inr less ↦ absurd (let clash : true ≡ false = sym (ap is_lt less) ∙ not_above in cc)
        ]

-- at a row in which nothing stands
passed_over : (table : Table) (last : Key) (number : ℕ) (known : List fit.Registration) → IsFit (row_at table) → is_before last (key_at number) ≡ true →
    ((k : Key) → has_nothing (row_at table k) ≡ false → test_from last (k, row_at table k) ≡ true → (key_at number ≡ k) ⊎ (bytes_cmp (key_at number) k ≡ Less)) →
    standing (row_at table) (key_at number) ≡ None → Passed (row_at table) last known → Passed (row_at table) (key_at number) known
passed_over table last number known fits above others none passed = record {
  from = λ key later. passed.from key (before_next last (key_at number) key above later);
  each = λ r there. let its = passed.each r there in (its.0, its.1, not_back (key_at r.number) (key_at number) (below_next last (key_at r.number) (key_at number) its.2 above));
  ascend = passed.ascend;
  whole = λ r valid stands not_above. elim (none_between table last (key_at number) r fits others valid stands not_above) [
    | inl before ↦ passed.whole r valid stands before
    | inr same ↦ absurd (let clash : None ≡ Some (registration_value r.name r.tree, stands.0) = sym none ∙ ap (standing (row_at table)) same ∙ stands.1 in cc)
  ];
}

-- at the row of one
passed_one : (table : Table) (last : Key) (one : fit.Registration) (known : List fit.Registration) → IsFit (row_at table) → is_before last (key_at one.number) ≡ true →
    ((k : Key) → has_nothing (row_at table k) ≡ false → test_from last (k, row_at table k) ≡ true → (key_at one.number ≡ k) ⊎ (bytes_cmp (key_at one.number) k ≡ Less)) →
    IsValidRegistration one → StandsAs (row_at table) one → Passed (row_at table) last known → Passed (row_at table) (key_at one.number) (known ++ one ∷ [])
passed_one table last one known fits above others valid stands passed = record {
  from = λ key later. passed.from key (before_next last (key_at one.number) key above later);
  each = λ r there. elim (Contains-push_cases known one r there) [
    | inl before ↦ (let its = passed.each r before in (its.0, its.1, not_back (key_at r.number) (key_at one.number) (below_next last (key_at r.number) (key_at one.number) its.2 above)))
    | inr same ↦ subst (λ (r' : fit.Registration). IsValidRegistration r' × StandsAs (row_at table) r' × (is_before (key_at one.number) (key_at r'.number) ≡ false)) same (valid, stands, not_before_itself (key_at one.number))
  ];
  ascend = ascend_last known one passed.ascend (λ r there. let its = passed.each r there in
      numbers_in_order r.number one.number (its.0).number valid.number (below_next last (key_at r.number) (key_at one.number) its.2 above));
  whole = λ r valid' stands' not_above. elim (none_between table last (key_at one.number) r fits others valid' stands' not_above) [
    | inl before ↦ Contains-append_left known (one ∷ []) r (passed.whole r valid' stands' before)
    | inr same ↦ subst (Contains (known ++ one ∷ [])) (one_there (row_at table) one r valid valid' stands stands' same) (Contains-push known one)
  ];
}

-- ---- one more row

adds_at : (table : Table) (last : Key) (number : ℕ) (old new : List Registration) → IsFit (row_at table) → IsRegistration number → is_before last (key_at number) ≡ true →
    ((k : Key) → has_nothing (row_at table k) ≡ false → test_from last (k, row_at table k) ≡ true → (key_at number ≡ k) ⊎ (bytes_cmp (key_at number) k ≡ Less)) →
    AddsMet (row_at table) (key_at number) (row_at table (key_at number)) old new → Passed (row_at table) last (list_of old) → Passed (row_at table) (key_at number) (list_of new)
adds_at table last number old new fits valid above others adds passed =
    by (standing rows (key_at number)) refl
    (subst (λ (value : Option (List ℕ)). AddsValue (key_at number) value old new) (sym (value_stands fits.next rows (key_at number) (row.Registration number) fits.last fits.fit.times (holds_versions fits.next rows number fits.fit valid))) adds)
  where
    rows : Rows
    rows = row_at table

    read : (one : fit.Registration) → one.number ≡ number → (value : List ℕ) → IsValidRegistration one → StandsAs rows one → IsStored (key_at number) value one.number one.name one.tree →
        (found : Option Registration) → ReadsRow (key_at number) value found → new ≡ with_one old found → Passed rows (key_at number) (list_of new)
    read one same value is stands stored None reads added = absurd (reads one.number one.name one.tree stored)
    read one same value is stands stored (Some found) reads added =
        let known = stored_once (key_at number) value (registration_of found) one reads stored in
        let all : list_of new ≡ list_of old ++ one ∷ [] = ap list_of added ∙ map-append registration_of old (found ∷ []) ∙ ap (λ r. list_of old ++ r ∷ []) known in
        subst (λ (n : ℕ). Passed rows (key_at n) (list_of new)) same
        (subst (Passed rows (key_at one.number)) (sym all) (passed_one table last one (list_of old) fits (ap (λ n. is_before last (key_at n)) same ∙ above)
        (subst (λ (n : ℕ). (k : Key) → has_nothing (row_at table k) ≡ false → test_from last (k, row_at table k) ≡ true → (key_at n ≡ k) ⊎ (bytes_cmp (key_at n) k ≡ Less)) (sym same) others) is stands passed))

    by : (put : Option Put) → standing rows (key_at number) ≡ put → AddsValue (key_at number) (option_map (λ (p : Put). p.0) put) old new → Passed rows (key_at number) (list_of new)
    by None e added = subst (Passed rows (key_at number)) (ap list_of (sym added)) (passed_over table last number (list_of old) fits above others e passed)
    by (Some put) e added =
        let its = fits.fit.registered.registrations number put valid e in
        let one : fit.Registration = record { name = its.0; number = number; tree = its.1 } in
        let value : put.0 ≡ registration_value its.0 its.1 = one_put (standing rows (key_at number)) put.0 (registration_value its.0 its.1) put.1 put.1 e its.2.stands in
        let query = its.2.of_query in
        read one refl put.0 (record { number = valid; of_query = query }) (put.1, its.2.stands)
        (record { number_fits = valid; storable = can_be_stored query.query its.1 query.storable query.is; is_key = refl; is_value = value }) added.0 added.1 added.2

pub passed_on : (table : Table) (last : Key) (met : Found) (old new : List Registration) → first_row (is_next_at last (range_of kind.registrations).end (2 ^ 48)) table ≡ Some met → AddsMet (row_at table) met.key met.row old new →
    (IsFit (row_at table) → Passed (row_at table) last (list_of old)) → IsFit (row_at table) → Passed (row_at table) met.key (list_of new)
passed_on table last met old new is adds before fits =
    let passed = before fits in
    let first = first_row_is (test_from last) table met is in
    let parts = and_parts (is_between last end_key met.key) (is_seen_at (2 ^ 48) met.row) first.passes in
    let ends = and_parts (is_before last met.key) (is_before met.key end_key) parts.0 in
    let name = named (row_at table) met.key fits (passed.from met.key ends.0) ends.1 (ap (is_seen_at (2 ^ 48)) first.there ∙ parts.1) in
    let here = subst (λ (held : Row). AddsMet (row_at table) met.key held old new) (sym first.there) adds in
    subst (λ (k : Key). Passed (row_at table) k (list_of new)) (sym name.2)
    (adds_at table last name.0 old new fits name.1 (subst (λ (k : Key). is_before last k ≡ true) name.2 ends.0)
    (subst (λ (q : Key). (k : Key) → has_nothing (row_at table k) ≡ false → test_from last (k, row_at table k) ≡ true → (q ≡ k) ⊎ (bytes_cmp q k ≡ Less)) name.2 first.others)
    (subst (λ (k : Key). AddsMet (row_at table) k (row_at table k) old new) name.2 here) passed)

-- ---- the end

pub all_passed : (table : Table) (last : Key) (found : List Registration) → first_row (is_next_at last (range_of kind.registrations).end (2 ^ 48)) table ≡ None →
    (IsFit (row_at table) → Passed (row_at table) last (list_of found)) → IsFit (row_at table) → HasQueries (row_at table) (list_of found)
all_passed table last found none before fits =
    let passed = before fits in
    record {
      valid = each_of IsValidRegistration (list_of found) (λ r there. (passed.each r there).0);
      ascend = passed.ascend;
      each = λ r valid. (λ there. (passed.each r there).1, λ stands. passed.whole r valid stands (not_ahead r valid stands (is_before last (key_at r.number)) refl));
    }
  where
    not_ahead : (r : fit.Registration) → IsValidRegistration r → StandsAs (row_at table) r → (b : Bool) → is_before last (key_at r.number) ≡ b → is_before last (key_at r.number) ≡ false
    not_ahead r valid stands false e = e
    not_ahead r valid stands true e = absurd (
        let passes = ahead_passes (row_at table) last r fits valid stands e in
        let clash : true ≡ false = sym passes.1 ∙ no_first_row (test_from last) table (key_at r.number) none passes.0 in cc
        )

-- ---- calls

-- how much is ahead of a key
abbrev pub ahead_of : Key → Table → ℕ
ahead_of last table = rows_that (is_next_at last (range_of kind.registrations).end (2 ^ 48)) table

pub less_ahead : (table : Table) (last : Key) (met : Found) → first_row (is_next_at last (range_of kind.registrations).end (2 ^ 48)) table ≡ Some met → ahead_of last table ≡ suc (ahead_of met.key table)
less_ahead table last met is =
    one_fewer (λ key. is_next_at key end_key (2 ^ 48)) _ (seen_walk end_key (2 ^ 48)) table last met.key (sym (ap (option_map (λ (found : Found). found.key)) is))

pub smaller : (table next : Table) (last key : Key) (met : Found) → first_row (is_next_at last (range_of kind.registrations).end (2 ^ 48)) table ≡ Some met → key ≡ met.key → next ≡ table → ahead_of key next < ahead_of last table
smaller table next last key met is same still =
    let fewer = less_ahead table last met is in
    let same_ahead : ahead_of key next ≡ ahead_of met.key table = ap (ahead_of key) still ∙ ap (λ k. ahead_of k table) same in
    omega (arith, fewer, same_ahead)

-- what was found, in the words of the walk
pub found_is : (table : Table) (last given end : Key) (range : KeyRange) (found : Option Found) → given ≡ last → end ≡ range.end → range ≡ range_of kind.registrations → found ≡ first_row (is_next_at given end (2 ^ 48)) table →
    first_row (is_next_at last (range_of kind.registrations).end (2 ^ 48)) table ≡ found
found_is table last given end range found same ends whole is =
    sym (is ∙ ap (λ (k : Key). first_row (is_next_at k end (2 ^ 48)) table) same ∙ ap (λ (k : Key). first_row (is_next_at last k (2 ^ 48)) table) (ends ∙ ap (λ (r : KeyRange). r.end) whole))

-- the same of a table that is the same
pub first_met : (table first : Table) (last : Key) (found : Option Found) → table ≡ first → first_row (is_next_at last (range_of kind.registrations).end (2 ^ 48)) table ≡ found → first_row (is_next_at last (range_of kind.registrations).end (2 ^ 48)) first ≡ found
first_met table first last found same is = subst (λ (t : Table). first_row (is_next_at last (range_of kind.registrations).end (2 ^ 48)) t ≡ found) same is
