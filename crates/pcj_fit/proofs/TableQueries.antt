-- Each fit table has one list of its queries.
use Rattle.std.proofs.Common.{◌≡◌, ◌≢◌, ◌⊎◌, ◌<◌, ℕ, Bool, true, false, List, [], ◌∷◌, Option, Some, None, inl, inr, refl, ap, sym, subst, ◌∙◌, arith}
use Rattle.std.specs.List.{All, Contains}
use Rattle.std.specs.FinMap.{entries, find}
use Rattle.std.proofs.lemmas.List.Elements.{All-nil}
use Rattle.pcj_term.specs.Order.{bytes_cmp}
use Rattle.pcj_term.proofs.ListLemmas.{first_or_later, first_there, later_there, nothing_in}
use Rattle.pcj_table.specs.declared.row.Row.{Row}
use Rattle.pcj_table.specs.Row.{has_nothing}
use Rattle.pcj_table.specs.Table.{Key, row_at}
use Rattle.pcj_encode.proofs.Names.{names_one_row}
use Rattle.pcj_encode.specs.declared.key_name.KeyName.{KeyName}
use Rattle.pcj_encode.specs.declared.key_name.KeyName.TheVariants as row
use Rattle.pcj_encode.specs.Name.{IsName, key_of}
use Rattle.pcj_mvcc.specs.Reading.{Put, Rows, standing}
use Rattle.pcj_moves.proofs.ActorLemmas.{by_number}
use Rattle.pcj_fit.specs.Fit.{Fit}
use Rattle.pcj_fit.specs.Queries.{Ascend, IsValidRegistration, Registration, StandsAs, added}
use Rattle.pcj_fit.specs.QueryLaws.{QueriesAreOne, TablesHaveQueries}
use Rattle.pcj_rows.specs.Registrations.{registration_value}
use Rattle.pcj_rows.proofs.EachLemmas.{each_of, of_each}
use Rattle.pcj_rows.proofs.ValueLemmas.{one_put, one_value}
use Rattle.pcj_fit.proofs.QueryLemmas.{all_added, ascend_added, in_added, known_added, new_added, same_registration}
use Rattle.pcj_rows.proofs.TableTriples.{found_here, has_row, nothing_stands}

-- ---- the registration at a key

-- that whose row stands there
record StandsAt (rows : Rows) (key : Key) : Type 0 where
  pub registration : Registration
  pub valid : IsValidRegistration registration
  pub is : key ≡ key_of (row.Registration registration.number)
  pub stands : StandsAs rows registration

-- there is none
abbrev NoneAt : Rows → Key → Type 0
NoneAt rows key = (registration : Registration) → IsValidRegistration registration → key ≡ key_of (row.Registration registration.number) → StandsAs rows registration → ⊥

named_otherwise : (rows : Rows) (key : Key) (name : KeyName) → IsName name → key ≡ key_of name → ((registration : ℕ) → name ≡ row.Registration registration → ⊥) → NoneAt rows key
named_otherwise rows key name valid is other registration its same stands = other registration.number (names_one_row name (row.Registration registration.number) valid its.number (sym is ∙ same))

which_of : (next : ℕ) (rows : Rows) (key : Key) (name : KeyName) → Fit next rows → IsName name → key ≡ key_of name → StandsAt rows key ⊎ NoneAt rows key
which_of next rows key (row.Registration number) fit valid is = by (standing rows key) refl
  where
    by : (found : Option Put) → standing rows key ≡ found → StandsAt rows key ⊎ NoneAt rows key
    by None none = inr (λ registration its same stands. let clash : None ≡ Some (registration_value registration.name registration.tree, stands.0) = sym none ∙ ap (standing rows) same ∙ stands.1 in cc)
    by (Some put) some =
        let its = fit.registered.registrations number put valid (ap (standing rows) (sym is) ∙ some) in
        inl (record {
          registration = record { name = its.0; number = number; tree = its.1 };
          valid = record { number = valid; of_query = its.2.of_query };
          is = is;
          stands = (put.1, its.2.stands);
        })
which_of next rows key (row.Triple order triple) fit valid is = inr (named_otherwise rows key (row.Triple order triple) valid is (λ other same. let clash = same in cc))
which_of next rows key row.Clock fit valid is = inr (named_otherwise rows key row.Clock valid is (λ other same. let clash = same in cc))
which_of next rows key (row.Node registration node cells) fit valid is = inr (named_otherwise rows key (row.Node registration node cells) valid is (λ other same. let clash = same in cc))
which_of next rows key (row.Group registration cells) fit valid is = inr (named_otherwise rows key (row.Group registration cells) valid is (λ other same. let clash = same in cc))
which_of next rows key (row.Member registration cells term) fit valid is = inr (named_otherwise rows key (row.Member registration cells term) valid is (λ other same. let clash = same in cc))
which_of next rows key (row.Name name) fit valid is = inr (named_otherwise rows key (row.Name name) valid is (λ other same. let clash = same in cc))
which_of next rows key (row.Pattern registration node) fit valid is = inr (named_otherwise rows key (row.Pattern registration node) valid is (λ other same. let clash = same in cc))
which_of next rows key (row.Task task) fit valid is = inr (named_otherwise rows key (row.Task task) valid is (λ other same. let clash = same in cc))
which_of next rows key (row.Export registration cells) fit valid is = inr (named_otherwise rows key (row.Export registration cells) valid is (λ other same. let clash = same in cc))

which_at : (next : ℕ) (rows : Rows) → Fit next rows → (key : Key) → StandsAt rows key ⊎ NoneAt rows key
which_at next rows fit key = by (has_nothing (rows key)) refl
  where
    by : (b : Bool) → has_nothing (rows key) ≡ b → StandsAt rows key ⊎ NoneAt rows key
    by true none = inr (λ registration its same stands. let clash : None ≡ Some (registration_value registration.name registration.tree, stands.0) = sym (nothing_stands rows key none) ∙ ap (standing rows) same ∙ stands.1 in cc)
    by false some = let its = fit.decodes key some in which_of next rows key its.name fit its.valid its.is

-- two that stand with one number are one
one_standing : (rows : Rows) (one other : Registration) → IsValidRegistration one → IsValidRegistration other → StandsAs rows one → StandsAs rows other → one.number ≡ other.number → one ≡ other
one_standing rows one other valid valid' stands stands' same =
    let values = one_value one.name other.name one.tree other.tree valid.of_query valid'.of_query
    (one_put (standing rows (key_of (row.Registration one.number))) _ _ stands.0 stands'.0 stands.1 (ap (λ n. standing rows (key_of (row.Registration n))) same ∙ stands'.1)) in
    same_registration one other values.0 same values.1

-- ---- of some entries of the table

record ListsOf (rows : Rows) (found : List (Key × Row)) (known : List Registration) : Type 0 where
  pub valid : All IsValidRegistration known
  pub ascend : Ascend known
  pub stand : (registration : Registration) → Contains known registration → StandsAs rows registration
  pub whole : (registration : Registration) (held : Row) → IsValidRegistration registration → StandsAs rows registration → find bytes_cmp (key_of (row.Registration registration.number)) found ≡ Some held → Contains known registration

-- whether one of them has this number
with_number : (known : List Registration) (number : ℕ) → ((registration : Registration) × Contains known registration × (registration.number ≡ number)) ⊎ ((registration : Registration) → Contains known registration → registration.number ≢ number)
with_number [] number = inr (λ registration there. absurd (nothing_in registration there))
with_number (first ∷ known) number = by_number first.number number (λ same. inl (first, first_there first known, same)) (λ differs. by differs (with_number known number))
  where
    by : first.number ≢ number → ((registration : Registration) × Contains known registration × (registration.number ≡ number)) ⊎ ((registration : Registration) → Contains known registration → registration.number ≢ number) →
        ((registration : Registration) × Contains (first ∷ known) registration × (registration.number ≡ number)) ⊎ ((registration : Registration) → Contains (first ∷ known) registration → registration.number ≢ number)
    by differs (inl one) = inl (one.0, later_there first known one.0 one.1, one.2)
    by differs (inr none) = inr (λ registration there. or registration (first_or_later first known registration there))
      where
        or : (registration : Registration) → (first ≡ registration) ⊎ Contains known registration → registration.number ≢ number
        or registration (inl same) = subst (λ (r : Registration). r.number ≢ number) same differs
        or registration (inr later) = none registration later

-- with one entry more
with_entry : (rows : Rows) (entry : Key × Row) (more : List (Key × Row)) (known : List Registration) → ListsOf rows more known → StandsAt rows entry.0 ⊎ NoneAt rows entry.0 → (all : List Registration) × ListsOf rows (entry ∷ more) all
with_entry rows entry more known lists (inr none) = (
  known,
  record {
    valid = lists.valid;
    ascend = lists.ascend;
    stand = lists.stand;
    whole = λ registration held its stands is. by registration held its stands (found_here (key_of (row.Registration registration.number)) entry more held is);
  },
)
  where
    by : (registration : Registration) (held : Row) → IsValidRegistration registration → StandsAs rows registration → (key_of (row.Registration registration.number) ≡ entry.0) ⊎ (find bytes_cmp (key_of (row.Registration registration.number)) more ≡ Some held) →
        Contains known registration
    by registration held its stands (inl here) = absurd (none registration its (sym here) stands)
    by registration held its stands (inr later) = lists.whole registration held its stands later
with_entry rows entry more known lists (inl one) = either (with_number known one.registration.number)
  where
    -- what stands at the entry's key is this one
    is_one : (registration : Registration) → IsValidRegistration registration → StandsAs rows registration → key_of (row.Registration registration.number) ≡ entry.0 → one.registration ≡ registration
    is_one registration its stands here =
        let names = names_one_row (row.Registration one.registration.number) (row.Registration registration.number) one.valid.number its.number (sym one.is ∙ sym here) in
        let same : one.registration.number ≡ registration.number = cc in
        one_standing rows one.registration registration one.valid its one.stands stands same

    all_known : (all : List Registration) → Contains all one.registration → ((registration : Registration) → Contains known registration → Contains all registration) →
        (registration : Registration) (held : Row) → IsValidRegistration registration → StandsAs rows registration → (key_of (row.Registration registration.number) ≡ entry.0) ⊎ (find bytes_cmp (key_of (row.Registration registration.number)) more ≡ Some held) → Contains all registration
    all_known all there kept registration held its stands (inl here) = subst (Contains all) (is_one registration its stands here) there
    all_known all there kept registration held its stands (inr later) = kept registration (lists.whole registration held its stands later)

    either : ((registration : Registration) × Contains known registration × (registration.number ≡ one.registration.number)) ⊎ ((registration : Registration) → Contains known registration → registration.number ≢ one.registration.number) →
        (all : List Registration) × ListsOf rows (entry ∷ more) all
    either (inl twice) = (
      known,
      record {
        valid = lists.valid;
        ascend = lists.ascend;
        stand = lists.stand;
        whole = λ registration held its stands is. all_known known
            (subst (Contains known) (one_standing rows twice.0 one.registration (of_each IsValidRegistration known twice.0 lists.valid twice.1) one.valid (lists.stand twice.0 twice.1) one.stands twice.2) twice.1)
            (λ other there. there) registration held its stands (found_here (key_of (row.Registration registration.number)) entry more held is);
      },
    )
    either (inr new) = (
      added one.registration known,
      record {
        valid = all_added IsValidRegistration one.registration known one.valid lists.valid;
        ascend = ascend_added one.registration known lists.ascend (each_of (λ (other : Registration). other.number ≢ one.registration.number) known new);
        stand = λ registration there. stand registration (in_added one.registration known registration there);
        whole = λ registration held its stands is. all_known (added one.registration known) (new_added one.registration known) (known_added one.registration known) registration held its stands
            (found_here (key_of (row.Registration registration.number)) entry more held is);
      },
    )
      where
        stand : (registration : Registration) → (one.registration ≡ registration) ⊎ Contains known registration → StandsAs rows registration
        stand registration (inl same) = subst (StandsAs rows) same one.stands
        stand registration (inr later) = lists.stand registration later

lists_of : (next : ℕ) (rows : Rows) → Fit next rows → (found : List (Key × Row)) → (known : List Registration) × ListsOf rows found known
lists_of next rows fit [] = (
  [],
  record { valid = All-nil IsValidRegistration; ascend = tt; stand = λ registration there. absurd (nothing_in registration there); whole = λ registration held its stands is. absurd (let clash = is in cc) },
)
lists_of next rows fit (entry ∷ more) = let (known, lists) = lists_of next rows fit more in with_entry rows entry more known lists (which_at next rows fit entry.0)

-- ---- of a table

pub tables_have_queries : TablesHaveQueries
tables_have_queries number table fit =
    let (known, lists) = lists_of number (row_at table) fit (entries table) in (
      known,
      record {
        valid = lists.valid;
        ascend = lists.ascend;
        each = λ registration its. (
          lists.stand registration,
          λ stands. let (held, is) = has_row table (key_of (row.Registration registration.number)) (ap Rattle.std.specs.Prelude.is_some stands.1) in lists.whole registration held its stands is,
        );
      },
    )

-- ---- two lists

-- the first of an ascending list isn't among those behind it
first_alone : (first : Registration) (known : List Registration) → Ascend (first ∷ known) → Contains known first → ⊥
first_alone first known ascend there = let lt = of_each (λ (later : Registration). first.number < later.number) known first ascend.0 there in omega (arith, lt)

-- lists that ascend and have the same are one
one_list : (known others : List Registration) → Ascend known → Ascend others → ((registration : Registration) → Contains known registration → Contains others registration) → ((registration : Registration) → Contains others registration → Contains known registration) →
    known ≡ others
one_list [] [] ascend ascend' to from = refl
one_list [] (other ∷ others) ascend ascend' to from = absurd (nothing_in other (from other (first_there other others)))
one_list (first ∷ known) [] ascend ascend' to from = absurd (nothing_in first (to first (first_there first known)))
one_list (first ∷ known) (other ∷ others) ascend ascend' to from =
    subst (λ r. first ∷ known ≡ r ∷ others) same (ap (λ rest. first ∷ rest) (one_list known others ascend.1 ascend'.1
    (λ registration there. later_to registration there (first_or_later other others registration (to registration (later_there first known registration there))))
    (λ registration there. later_from registration there (first_or_later first known registration (from registration (later_there other others registration there))))))
  where
    same : first ≡ other
    same = by (first_or_later other others first (to first (first_there first known))) (first_or_later first known other (from other (first_there other others)))
      where
        by : (other ≡ first) ⊎ Contains others first → (first ≡ other) ⊎ Contains known other → first ≡ other
        by (inl is) either = sym is
        by (inr later) (inl is) = is
        by (inr later) (inr before) =
            let lt = of_each (λ (r : Registration). other.number < r.number) others first ascend'.0 later in
            let gt = of_each (λ (r : Registration). first.number < r.number) known other ascend.0 before in
            absurd (omega (arith, lt, gt))

    later_to : (registration : Registration) → Contains known registration → (other ≡ registration) ⊎ Contains others registration → Contains others registration
    later_to registration there (inl is) = absurd (first_alone first known ascend (subst (Contains known) (sym is ∙ sym same) there))
    later_to registration there (inr later) = later

    later_from : (registration : Registration) → Contains others registration → (first ≡ registration) ⊎ Contains known registration → Contains known registration
    later_from registration there (inl is) = absurd (first_alone other others ascend' (subst (Contains others) (sym is ∙ same) there))
    later_from registration there (inr later) = later

pub queries_are_one : QueriesAreOne
queries_are_one rows known others has has' = one_list known others has.ascend has'.ascend
    (λ registration there. let valid = of_each IsValidRegistration known registration has.valid there in (has'.each registration valid).1 ((has.each registration valid).0 there))
    (λ registration there. let valid = of_each IsValidRegistration others registration has'.valid there in (has.each registration valid).1 ((has'.each registration valid).0 there))
