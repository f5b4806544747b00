-- Each fit table has a list of its triples.
use Rattle.std.proofs.Common.{◌≡◌, ◌⊎◌, ℕ, Bool, true, false, cond, List, [], ◌∷◌, Option, Some, None, is_some, IsSome, inl, inr, refl, ap, sym, subst, ◌∙◌}
use Rattle.std.specs.List.{All, Contains}
use Rattle.std.specs.Option.{unwrap_or}
use Rattle.std.specs.Ordering.{eq_by_cmp}
use Rattle.std.specs.FinMap.{entries, find, get-entries}
use Rattle.std.proofs.lemmas.List.Elements.{All-cons, All-nil}
use Rattle.pcj_term.specs.declared.triple.Triple.{Triple}
use Rattle.pcj_term.specs.Order.{bytes_cmp}
use Rattle.pcj_term.proofs.ByteLemmas.{is_eq-bytes_cmp, same_bytes_are}
use Rattle.pcj_term.proofs.ListLemmas.{first_or_later, first_there, later_there, nothing_in}
use Rattle.pcj_table.specs.declared.row.Row.{Row}
use Rattle.pcj_table.specs.Row.{has_nothing, newest, no_row}
use Rattle.pcj_table.specs.Table.{Key, Table, row_at}
use Rattle.pcj_table.proofs.RowLemmas.{no_row_is}
use Rattle.pcj_encode.specs.declared.key_name.KeyName.{KeyName}
use Rattle.pcj_encode.specs.declared.key_name.KeyName.TheVariants as row
use Rattle.pcj_encode.specs.declared.order.Order.TheVariants.{Spo, Pos, Osp}
use Rattle.pcj_encode.specs.Name.{IsName, IsTriple, key_of}
use Rattle.pcj_encode.proofs.Names.{names_one_row}
use Rattle.pcj_rowtables.specs.Rows.{triple_key}
use Rattle.pcj_mvcc.specs.Reading.{Rows, committed, put_of, reading, standing}
use Rattle.pcj_rows.specs.Rows.{Decodes}
use Rattle.pcj_rows.specs.Triples.{HasTriples}

-- the triple whose row stands at a key
record StandsAt (rows : Rows) (key : Key) : Type 0 where
  pub triple : Triple
  pub valid : IsTriple triple
  pub is : key ≡ triple_key Spo triple
  pub stands : IsSome (standing rows key)

-- there is none
abbrev NoneAt : Rows → Key → Type 0
NoneAt rows key = (triple : Triple) → IsTriple triple → key ≡ triple_key Spo triple → IsSome (standing rows key) → ⊥

pub nothing_stands : (rows : Rows) (key : Key) → has_nothing (rows key) ≡ true → standing rows key ≡ None
nothing_stands rows key none = ap (λ (held : Row). put_of (newest (reading (committed rows) held.lock held.versions))) (no_row_is (rows key) none)

named_otherwise : (rows : Rows) (key : Key) (name : KeyName) → IsName name → key ≡ key_of name → ((triple : Triple) → name ≡ row.Triple Spo triple → ⊥) → NoneAt rows key
named_otherwise rows key name valid is other triple its same stands = other triple (names_one_row name (row.Triple Spo triple) valid its (sym is ∙ same))

-- what a row with something in it is
which_of : (rows : Rows) (key : Key) (name : KeyName) → IsName name → key ≡ key_of name → StandsAt rows key ⊎ NoneAt rows key
which_of rows key (row.Triple Spo triple) valid is = by (is_some (standing rows key)) refl
  where
    by : (b : Bool) → is_some (standing rows key) ≡ b → StandsAt rows key ⊎ NoneAt rows key
    by true some = inl (record { triple = triple; valid = valid; is = is; stands = some })
    by false none = inr (λ other its same stands. let clash : false ≡ true = sym none ∙ stands in cc)
which_of rows key (row.Triple Pos triple) valid is = inr (named_otherwise rows key (row.Triple Pos triple) valid is (λ other same. let clash = same in cc))
which_of rows key (row.Triple Osp triple) valid is = inr (named_otherwise rows key (row.Triple Osp triple) valid is (λ other same. let clash = same in cc))
which_of rows key row.Clock valid is = inr (named_otherwise rows key row.Clock valid is (λ other same. let clash = same in cc))
which_of rows key (row.Node registration node cells) valid is = inr (named_otherwise rows key (row.Node registration node cells) valid is (λ other same. let clash = same in cc))
which_of rows key (row.Group registration cells) valid is = inr (named_otherwise rows key (row.Group registration cells) valid is (λ other same. let clash = same in cc))
which_of rows key (row.Member registration cells term) valid is = inr (named_otherwise rows key (row.Member registration cells term) valid is (λ other same. let clash = same in cc))
which_of rows key (row.Registration registration) valid is = inr (named_otherwise rows key (row.Registration registration) valid is (λ other same. let clash = same in cc))
which_of rows key (row.Name name) valid is = inr (named_otherwise rows key (row.Name name) valid is (λ other same. let clash = same in cc))
which_of rows key (row.Pattern registration node) valid is = inr (named_otherwise rows key (row.Pattern registration node) valid is (λ other same. let clash = same in cc))
which_of rows key (row.Task task) valid is = inr (named_otherwise rows key (row.Task task) valid is (λ other same. let clash = same in cc))
which_of rows key (row.Export registration cells) valid is = inr (named_otherwise rows key (row.Export registration cells) valid is (λ other same. let clash = same in cc))

which_at : (next : ℕ) (rows : Rows) → Decodes next rows → (key : Key) → StandsAt rows key ⊎ NoneAt rows key
which_at next rows decodes key = by (has_nothing (rows key)) refl
  where
    by : (b : Bool) → has_nothing (rows key) ≡ b → StandsAt rows key ⊎ NoneAt rows key
    by true none = inr (λ triple its same stands. let clash : false ≡ true = sym (ap is_some (nothing_stands rows key none)) ∙ stands in cc)
    by false some = let its = decodes key some in which_of rows key its.name its.valid its.is

-- ---- of some entries of the table

record ListsOf (rows : Rows) (found : List (Key × Row)) (triples : List Triple) : Type 0 where
  pub valid : All IsTriple triples
  pub stand : (triple : Triple) → Contains triples triple → IsSome (standing rows (triple_key Spo triple))
  pub whole : (triple : Triple) (held : Row) → IsTriple triple → IsSome (standing rows (triple_key Spo triple)) → find bytes_cmp (triple_key Spo triple) found ≡ Some held → Contains triples triple

pub found_here : (key : Key) (entry : Key × Row) (more : List (Key × Row)) (held : Row) → find bytes_cmp key (entry ∷ more) ≡ Some held → (key ≡ entry.0) ⊎ (find bytes_cmp key more ≡ Some held)
found_here key entry more held is = by (eq_by_cmp bytes_cmp key entry.0) refl is
  where
    by : (b : Bool) → eq_by_cmp bytes_cmp key entry.0 ≡ b → cond b (Some entry.1) (find bytes_cmp key more) ≡ Some held → (key ≡ entry.0) ⊎ (find bytes_cmp key more ≡ Some held)
    by true same found = inl (same_bytes_are key entry.0 (sym (is_eq-bytes_cmp key entry.0) ∙ same))
    by false apart found = inr found

same_triple : (one other : Triple) → IsTriple one → IsTriple other → triple_key Spo one ≡ triple_key Spo other → one ≡ other
same_triple one other its valid same = let names = names_one_row (row.Triple Spo one) (row.Triple Spo other) its valid same in cc

-- with one entry more, whose row is that of a triple, or not
with_entry : (rows : Rows) (entry : Key × Row) (more : List (Key × Row)) (triples : List Triple) → ListsOf rows more triples → StandsAt rows entry.0 ⊎ NoneAt rows entry.0 → (all : List Triple) × ListsOf rows (entry ∷ more) all
with_entry rows entry more triples lists (inr none) = (
  triples,
  record {
    valid = lists.valid;
    stand = lists.stand;
    whole = λ triple held its stands is. by triple held its stands (found_here (triple_key Spo triple) entry more held is);
  },
)
  where
    by : (triple : Triple) (held : Row) → IsTriple triple → IsSome (standing rows (triple_key Spo triple)) → (triple_key Spo triple ≡ entry.0) ⊎ (find bytes_cmp (triple_key Spo triple) more ≡ Some held) → Contains triples triple
    by triple held its stands (inl here) = absurd (none triple its (sym here) (subst (λ k. IsSome (standing rows k)) here stands))
    by triple held its stands (inr later) = lists.whole triple held its stands later
with_entry rows entry more triples lists (inl one) = (
  one.triple ∷ triples,
  record {
    valid = All-cons IsTriple one.triple triples one.valid lists.valid;
    stand = λ triple there. stand triple (first_or_later one.triple triples triple there);
    whole = λ triple held its stands is. by triple held its stands (found_here (triple_key Spo triple) entry more held is);
  },
)
  where
    stand : (triple : Triple) → (one.triple ≡ triple) ⊎ Contains triples triple → IsSome (standing rows (triple_key Spo triple))
    stand triple (inl same) = subst (λ t. IsSome (standing rows (triple_key Spo t))) same (subst (λ k. IsSome (standing rows k)) one.is one.stands)
    stand triple (inr later) = lists.stand triple later

    by : (triple : Triple) (held : Row) → IsTriple triple → IsSome (standing rows (triple_key Spo triple)) → (triple_key Spo triple ≡ entry.0) ⊎ (find bytes_cmp (triple_key Spo triple) more ≡ Some held) → Contains (one.triple ∷ triples) triple
    by triple held its stands (inl here) = subst (Contains (one.triple ∷ triples)) (sym (same_triple triple one.triple its one.valid (here ∙ one.is))) (first_there one.triple triples)
    by triple held its stands (inr later) = later_there one.triple triples triple (lists.whole triple held its stands later)

lists_of : (next : ℕ) (rows : Rows) → Decodes next rows → (found : List (Key × Row)) → (triples : List Triple) × ListsOf rows found triples
lists_of next rows decodes [] = ([], record { valid = All-nil IsTriple; stand = λ triple there. absurd (nothing_in triple there); whole = λ triple held its stands is. absurd (let clash = is in cc) })
lists_of next rows decodes (entry ∷ more) = let (triples, lists) = lists_of next rows decodes more in with_entry rows entry more triples lists (which_at next rows decodes entry.0)

-- ---- of a table

-- where something stands, the table has a row
pub has_row : (table : Table) (key : Key) → IsSome (standing (row_at table) key) → (held : Row) × (find bytes_cmp key (entries table) ≡ Some held)
has_row table key stands = by (find bytes_cmp key (entries table)) refl
  where
    at : row_at table key ≡ unwrap_or (find bytes_cmp key (entries table)) no_row
    at = ap (λ (found : Option Row). unwrap_or found no_row) (get-entries table key)

    by : (found : Option Row) → find bytes_cmp key (entries table) ≡ found → (held : Row) × (find bytes_cmp key (entries table) ≡ Some held)
    by (Some held) is = (held, is)
    by None is =
        let none : row_at table key ≡ no_row = at ∙ ap (λ (found : Option Row). unwrap_or found no_row) is in
        absurd (let clash : false ≡ true = sym (ap is_some (nothing_stands (row_at table) key (ap has_nothing none))) ∙ stands in cc)

pub table_triples : (next : ℕ) (table : Table) → Decodes next (row_at table) → (triples : List Triple) × HasTriples (row_at table) triples
table_triples next table decodes =
    let (triples, lists) = lists_of next (row_at table) decodes (entries table) in (
      triples,
      record {
        valid = lists.valid;
        each = λ triple its. (lists.stand triple, λ stands. let (held, is) = has_row table (triple_key Spo triple) stands in lists.whole triple held its stands is);
      },
    )
