-- Rows of a range: whose they are, that none has a plain value, and how many are ahead.
use Rattle.std.proofs.Common.{◌≡◌, ◌≢◌, ◌⊎◌, inl, inr, ◌≤◌, ◌+◌, ℕ, Bool, true, false, cond, not, ◌&&◌, ◌||◌, ◌==◌, List, [], ◌∷◌, ◌++◌, filter, length, Option, Some, None, IfSome, IfNone, refl, ap, sym, subst, ◌∙◌, arith}
use Rattle.std.specs.FinMap as finmap
use Rattle.std.specs.List.{Contains}
use Rattle.std.specs.Ordering.{is_lt}
use Rattle.std.specs.Cmp.{tied_itself}
use Rattle.std.proofs.lemmas.Bool.{and_parts, and_from, and_left}
use Rattle.std.proofs.lemmas.Cmp.{nat_list_cmp_total}
use Rattle.std.proofs.lemmas.List.Elements.{Contains-push, Contains-push_cases, Contains-append_left}
use Rattle.pcj_term.specs.declared.term.Term.{Term}
use Rattle.pcj_term.specs.declared.triple.Triple.{Triple}
use Rattle.pcj_term.proofs.ByteLemmas.{less_is}
use Rattle.pcj_term.proofs.ListLemmas.{nothing_in, first_or_later}
use Rattle.pcj_table.specs.declared.row.Row.{Row}
use Rattle.pcj_table.specs.Row.{has_nothing}
use Rattle.pcj_table.specs.Table.{Key, Table, is_before, is_between, row_at}
use Rattle.pcj_table.proofs.EntryLemmas.{Entry, there_with_row}
use Rattle.pcj_table.proofs.RowLemmas.{no_row_is}
use Rattle.pcj_key.specs.Key as parts
use Rattle.pcj_key.specs.Order.{BeginsWith}
use Rattle.pcj_key.proofs.Ranges.{holds_bytes}
use Rattle.pcj_encode.specs.declared.order.Order.{Order}
use Rattle.pcj_encode.specs.declared.order.Order.TheVariants.{Spo, Pos, Osp}
use Rattle.pcj_encode.specs.declared.key_name.KeyName.{KeyName}
use Rattle.pcj_encode.specs.declared.key_name.KeyName.TheVariants as row
use Rattle.pcj_encode.specs.Name.{key_of}
use Rattle.pcj_encode.specs.Read.{ReadsKey}
use Rattle.pcj_encode.proofs.Names.{names_one_row, reads_back}
use Rattle.pcj_expr.specs.declared.mapping.Mapping.{Mapping}
use Rattle.pcj_algebra.specs.declared.triple_pattern.TriplePattern.{TriplePattern}
use Rattle.pcj_algebra.specs.Match.{Matches}
use Rattle.pcj_algebra.proofs.OneMatch.{matches_once}
use Rattle.pcj_solutions.specs.Solutions.{AddsMatch}
use Rattle.pcj_patterns.specs.Serving.{front_of, rows_of, serving}
use Rattle.pcj_oracle.specs.Clock.{clock_key}
use Rattle.pcj_rows.proofs.RowLemmas.{is_written, to_versions}
use Rattle.pcj_pending.proofs.CountLemmas.{added_at_most}
use Rattle.pcj_scan.specs.Ranges.{AddsMatchOf, AddsNoRow, IsAhead, IsRowOf, IsTripleOf, NeverHasPlain, rows_in}

-- ---- the triple of a row

abbrev triple_or : Triple → KeyName → Triple
triple_or other (row.Triple order triple) = triple
triple_or other _ = other

one_triple : (key : Key) (triple other : Triple) → IsRowOf triple key → IsRowOf other key → triple ≡ other
one_triple key triple other (order, valid, is) (order', valid', is') =
    ap (triple_or triple) (names_one_row (row.Triple order triple) (row.Triple order' other) valid valid' (is ∙ sym is'))

-- of what is read from a key the triple, if it is a triple's row
pub triple_read : (key : Key) (found : Option KeyName) (triple : Option Triple) → ReadsKey key found → IfSome triple (λ triple. (order : Order) × (found ≡ Some (row.Triple order triple))) →
    IfNone triple ((order : Order) (triple : Triple) → found ≢ Some (row.Triple order triple)) → IsTripleOf key triple
triple_read key found (Some triple) reads some none = let is = subst (ReadsKey key) some.1 reads in (some.0, is.0, is.1)
triple_read key found None reads some none = λ triple of. none of.0 triple (reads_back (row.Triple of.0 triple) found of.1 (subst (λ k. ReadsKey k found) (sym of.2) reads))

-- ---- the match of a row

pub adds_none : (pattern : TriplePattern) (key : Key) (mappings : List Mapping) → IsTripleOf key None → AddsMatchOf pattern key mappings mappings
adds_none pattern key mappings none mapping = (λ there. inl there, by)
  where
    by : Contains mappings mapping ⊎ ((triple : Triple) × IsRowOf triple key × Matches pattern triple mapping) → Contains mappings mapping
    by (inl there) = there
    by (inr match) = absurd (none match.0 match.1)

pub adds_one : (pattern : TriplePattern) (triple : Triple) (mappings : List Mapping) (found : Mapping) → Matches pattern triple found → AddsMatch pattern triple mappings (mappings ++ found ∷ [])
adds_one pattern triple mappings found match mapping = (to, from)
  where
    to : Contains (mappings ++ found ∷ []) mapping → Contains mappings mapping ⊎ Matches pattern triple mapping
    to there = elim (Contains-push_cases mappings found mapping there) [
      | inl old ↦ inl old
      | inr new ↦ inr (subst (Matches pattern triple) new match)
    ]

    from : Contains mappings mapping ⊎ Matches pattern triple mapping → Contains (mappings ++ found ∷ []) mapping
    from (inl old) = Contains-append_left mappings (found ∷ []) mapping old
    from (inr other) = subst (Contains (mappings ++ found ∷ [])) (matches_once pattern triple found mapping match other) (Contains-push mappings found)

pub adds_of : (pattern : TriplePattern) (key : Key) (triple : Triple) (old new : List Mapping) → IsTripleOf key (Some triple) → AddsMatch pattern triple old new → AddsMatchOf pattern key old new
adds_of pattern key triple old new is adds mapping = (to, from)
  where
    to : Contains new mapping → Contains old mapping ⊎ ((other : Triple) × IsRowOf other key × Matches pattern other mapping)
    to there = elim ((adds mapping).0 there) [
      | inl before ↦ inl before
      | inr match ↦ inr (triple, is, match)
    ]

    from : Contains old mapping ⊎ ((other : Triple) × IsRowOf other key × Matches pattern other mapping) → Contains new mapping
    from (inl before) = (adds mapping).1 (inl before)
    from (inr other) = (adds mapping).1 (inr (subst (λ (t : Triple). Matches pattern t mapping) (one_triple key other.0 triple other.1 is) other.2))

-- ---- plain values

abbrev first_byte : List ℕ → ℕ
first_byte [] = 0
first_byte (byte ∷ bytes) = byte

abbrev is_letter : ℕ → Bool
is_letter byte = byte == 115 || byte == 112 || byte == 111

of_order : (order : Order) (terms : List Term) (rest : List ℕ) → is_letter (first_byte (parts.key_of (front_of order terms) ++ rest)) ≡ true
of_order Spo terms rest = refl
of_order Pos terms rest = refl
of_order Osp terms rest = refl

unwritten_letter : (name : KeyName) → is_written name ≡ false → is_letter (first_byte (key_of name)) ≡ false
unwritten_letter row.Clock is = refl
unwritten_letter (row.Triple order triple) is = absurd cc
unwritten_letter (row.Node registration node cells) is = absurd cc
unwritten_letter (row.Group registration cells) is = absurd cc
unwritten_letter (row.Member registration cells term) is = absurd cc
unwritten_letter (row.Registration registration) is = absurd cc
unwritten_letter (row.Name name) is = absurd cc
unwritten_letter (row.Pattern registration node) is = absurd cc
unwritten_letter (row.Task task) is = absurd cc
unwritten_letter (row.Export registration cells) is = refl

begins_with_order : (order : Order) (terms : List Term) (key : Key) → BeginsWith (parts.key_of (front_of order terms)) key → is_letter (first_byte key) ≡ true
begins_with_order order terms key (rest, is) = ap (λ bytes. is_letter (first_byte bytes)) is ∙ of_order order terms rest

in_range : (pattern : TriplePattern) (key : Key) → is_between (rows_of pattern).1.after (rows_of pattern).1.end key ≡ true → is_letter (first_byte key) ≡ true
in_range pattern key within =
    let ends = and_parts (is_before (rows_of pattern).1.after key) (is_before key (rows_of pattern).1.end) within in
    begins_with_order (rows_of pattern).0 terms key ((holds_bytes (front_of (rows_of pattern).0 terms) key (λ e. absurd cc)).1 (less_is _ ends.0, less_is _ ends.1))
  where
    terms : List Term
    terms = (serving pattern.subject pattern.predicate pattern.object).1

-- the clock's row isn't in it
pub clock_outside : (pattern : TriplePattern) (key : Key) → is_between (rows_of pattern).1.after (rows_of pattern).1.end key ≡ true → key ≢ clock_key
clock_outside pattern key within is = let clash : true ≡ false = sym (in_range pattern key within) ∙ ap (λ bytes. is_letter (first_byte bytes)) is in absurd cc

-- no row of a pattern's range has a plain value
pub never_plain : (pattern : TriplePattern) → NeverHasPlain (rows_of pattern).1.after (rows_of pattern).1.end
never_plain pattern next rows fit key within = by (has_nothing (rows key)) refl
  where
    by : (b : Bool) → has_nothing (rows key) ≡ b → (rows key).plain ≡ None
    by true none = ap (λ (r : Row). r.plain) (no_row_is (rows key) none)
    by false some = written (is_written (fit.decodes key some).name) refl
      where
        written : (b : Bool) → is_written (fit.decodes key some).name ≡ b → (rows key).plain ≡ None
        written true e = (to_versions next (fit.decodes key some).name (rows key) e (fit.decodes key some).holds).plain
        written false e = absurd (let clash : true ≡ false = sym (in_range pattern key within) ∙ ap (λ bytes. is_letter (first_byte bytes)) (fit.decodes key some).is ∙ unwritten_letter (fit.decodes key some).name e in cc)

-- ---- keys in order

before_then : (key other last : Key) → is_before key other ≡ true → is_before other last ≡ true → is_before key last ≡ true
before_then key other last first then = ap is_lt (nat_list_cmp_total.trans key other last (less_is _ first) (less_is _ then))

pub not_before_itself : (key : Key) → is_before key key ≡ false
not_before_itself key = ap is_lt (tied_itself nat_list_cmp_total key)

-- what lies between a key in a range and its end lies in the range
pub further_in : (after end key other : Key) → is_between after end key ≡ true → is_between key end other ≡ true → is_between after end other ≡ true
further_in after end key other first then =
    let to = and_parts (is_before after key) (is_before key end) first in
    let on = and_parts (is_before key other) (is_before other end) then in
    and_from (is_before after other) (is_before other end) (before_then after key other to.0 on.0) on.1

pub still_never_plain : (after end key : Key) → is_between after end key ≡ true → NeverHasPlain after end → NeverHasPlain key end
still_never_plain after end key within never next rows fit other between = never next rows fit other (further_in after end key other within between)

-- ---- how many are ahead

fewer_by_one : {X : Type 0} (test other : X → Bool) (xs : List X) (x : X) → ((y : X) → other y ≡ true → test y ≡ true) → Contains xs x → test x ≡ true → other x ≡ false → length (filter other xs) + 1 ≤ length (filter test xs)
fewer_by_one test other [] x over there was gone = absurd (nothing_in x there)
fewer_by_one {X} test other (y ∷ ys) x over there was gone = by (test y) refl (other y) refl (first_or_later y ys x there) (λ later. fewer_by_one test other ys x over later was gone)
  where
    no_more : (zs : List X) → length (filter other zs) ≤ length (filter test zs)
    no_more [] = omega arith
    no_more (z ∷ zs) = step (test z) refl (other z) refl (no_more zs)
      where
        step : (a : Bool) → test z ≡ a → (b : Bool) → other z ≡ b → length (filter other zs) ≤ length (filter test zs) → length (cond b (z ∷ filter other zs) (filter other zs)) ≤ length (cond a (z ∷ filter test zs) (filter test zs))
        step true e true f rest = omega (arith, rest)
        step true e false f rest = omega (arith, rest)
        step false e true f rest = absurd (let clash : false ≡ true = sym e ∙ over z f in cc)
        step false e false f rest = rest

    by : (a : Bool) → test y ≡ a → (b : Bool) → other y ≡ b → (y ≡ x) ⊎ Contains ys x → (Contains ys x → length (filter other ys) + 1 ≤ length (filter test ys)) → length (cond b (y ∷ filter other ys) (filter other ys)) + 1 ≤ length (cond a (y ∷ filter test ys) (filter test ys))
    by true e true f (inl here) rest_of = absurd (let clash : true ≡ false = sym f ∙ ap other here ∙ gone in cc)
    by true e true f (inr later) rest_of = let rest = rest_of later in omega (arith, rest)
    by true e false f (inl here) rest_of = let rest = no_more ys in omega (arith, rest)
    by true e false f (inr later) rest_of = let rest = rest_of later in omega (arith, rest)
    by false e true f either rest_of = absurd (let clash : false ≡ true = sym e ∙ over y f in cc)
    by false e false f (inl here) rest_of = absurd (let clash : false ≡ true = sym e ∙ ap test here ∙ was in cc)
    by false e false f (inr later) rest_of = rest_of later

abbrev ahead : Key → Key → Entry → Bool
ahead after end entry = is_between after end entry.0 && not (has_nothing entry.1)

-- from the key that was found on there is one row fewer ahead
pub one_row_fewer : (after end key : Key) (table : Table) → IsAhead after end table key → rows_in key end table + 1 ≤ rows_in after end table
one_row_fewer after end key table found =
    fewer_by_one (ahead after end) (ahead key end) (finmap.entries table) (key, row_at table key) over (there_with_row table key found.some)
    (and_from (is_between after end key) (not (has_nothing (row_at table key))) found.between (ap not found.some)) gone
  where
    over : (entry : Entry) → ahead key end entry ≡ true → ahead after end entry ≡ true
    over entry passes =
        let both = and_parts (is_between key end entry.0) (not (has_nothing entry.1)) passes in
        and_from (is_between after end entry.0) (not (has_nothing entry.1)) (further_in after end key entry.0 found.between both.0) both.1

    gone : ahead key end (key, row_at table key) ≡ false
    gone = and_left (is_between key end key) (not (has_nothing (row_at table key))) (and_left (is_before key key) (is_before key end) (not_before_itself key))

-- where no row is added between the keys there are no more
pub no_more_rows : (after end : Key) (before now : Table) → ((key : Key) → is_between after end key ≡ true → has_nothing (row_at before key) ≡ true → has_nothing (row_at now key) ≡ true) → rows_in after end now ≤ rows_in after end before
no_more_rows after end before now adds =
    let most = added_at_most (ahead after end) before now [] (λ key. none (is_between after end key)) there in
    omega (arith, most)
  where
    none : (b : Bool) → (b && false) ≡ false
    none true = refl
    none false = refl

    there : (key : Key) → ahead after end (key, row_at now key) ≡ true → (ahead after end (key, row_at before key) ≡ true) ⊎ Contains [] key
    there key passes = by (has_nothing (row_at before key)) refl
      where
        both : (is_between after end key ≡ true) × (not (has_nothing (row_at now key)) ≡ true)
        both = and_parts (is_between after end key) (not (has_nothing (row_at now key))) passes

        by : (b : Bool) → has_nothing (row_at before key) ≡ b → (ahead after end (key, row_at before key) ≡ true) ⊎ Contains [] key
        by true e = absurd (let clash : false ≡ true = sym (ap not (adds key both.0 e)) ∙ both.1 in cc)
        by false e = inl (and_from (is_between after end key) (not (has_nothing (row_at before key))) both.0 (ap not e))

pub adds_no_row_then : (before between after : Table) → AddsNoRow before between → AddsNoRow between after → AddsNoRow before after
adds_no_row_then before between after first then key nothing = then key (first key nothing)
