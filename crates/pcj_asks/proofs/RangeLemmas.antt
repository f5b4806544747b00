-- The name of a key that lies in what is left of a range.
use Rattle.std.proofs.Common.{◌≡◌, ◌⊎◌, inl, inr, ℕ, Bool, true, false, List, [], ◌∷◌, ◌++◌, map, refl, ap, sym, subst, ◌∙◌, append-nil}
use Rattle.std.specs.Prelude.{codes, ◌||◌}
use Rattle.std.specs.declared.cmp.Ordering.{Ordering}
use Rattle.std.specs.declared.cmp.Ordering.TheVariants.{Less, Equal, Greater}
use Rattle.std.proofs.lemmas.Bool.{and_parts}
use Rattle.std.proofs.lemmas.Cmp.{nat_list_cmp_total}
use Rattle.pcj_term.proofs.ByteLemmas.{equal_bytes_are, less_is}
use Rattle.pcj_term.specs.declared.triple.Triple.{Triple}
use Rattle.pcj_term.specs.Order.{bytes_cmp, same_bytes}
use Rattle.pcj_term.specs.Term.{printed}
use Rattle.pcj_table.specs.Table.{Key, is_before, is_between}
use Rattle.pcj_key.specs.Key as parts
use Rattle.pcj_key.specs.Order.{IsBelow, end_of, parts_cmp, without_last}
use Rattle.pcj_key.proofs.Ordered.{ordered}
use Rattle.pcj_key.proofs.Ranges.{holds_keys}
use Rattle.pcj_encode.proofs.Ranges.{hold_names}
use Rattle.pcj_encode.specs.declared.key_name.KeyName.{KeyName}
use Rattle.pcj_encode.specs.declared.key_name.KeyName.TheVariants as row
use Rattle.pcj_encode.specs.declared.key_range.KeyRange.{KeyRange}
use Rattle.pcj_encode.specs.declared.order.Order.{Order}
use Rattle.pcj_encode.specs.declared.order.Order.TheVariants.{Spo, Pos, Osp}
use Rattle.pcj_encode.specs.declared.task_name.TaskName.TheVariants as named
use Rattle.pcj_encode.specs.Name.{IsName, key_of, parts_of, triple_parts}
use Rattle.pcj_encode.specs.Range.{Holds, IsOfKind, patterns, range_of}
use Rattle.pcj_algebra.specs.declared.triple_pattern.TriplePattern.{TriplePattern}
use Rattle.pcj_patterns.specs.Serving.{order_letter, rows_of, serving}
use Rattle.pcj_notify.specs.Plans.{beyond}
use Rattle.pcj_rows.specs.Values.{IsValue}
use Rattle.pcj_asks.specs.Asks.{IsInOrder}

-- ---- ranges

-- what is between a range's ends is held
between_holds : (range : KeyRange) (key : Key) → is_between range.after range.end key ≡ true → Holds range key
between_holds range key within =
    let both = and_parts (is_before range.after key) (is_before key range.end) within in
    (less_is (bytes_cmp range.after key) both.0, less_is (bytes_cmp key range.end) both.1)

-- behind a cursor that is behind the range's front the keys are in the range
beyond_within : (cursor : List ℕ) (range : KeyRange) (key : Key) → (cursor ≡ []) ⊎ IsBelow range.after cursor → Holds (beyond cursor range) key → Holds range key
beyond_within [] range key is holds = holds
beyond_within (byte ∷ bytes) range key (inl none) holds = absurd cc
beyond_within (byte ∷ bytes) range key (inr above) holds = (nat_list_cmp_total.trans range.after (byte ∷ bytes) key above holds.0, holds.1)

-- ---- patterns

-- a key that a triple's task goes on to is that of a pattern's row
pub pattern_beyond : (number : ℕ) (triple : Triple) (cursor : List ℕ) (name : KeyName) → IsName name → IsValue number (row.Task (named.Triple triple)) cursor →
    is_between (beyond cursor (range_of patterns)).after (beyond cursor (range_of patterns)).end (key_of name) ≡ true → IsOfKind patterns name
pattern_beyond number triple cursor name valid is within =
    (hold_names patterns name tt valid).1 (beyond_within cursor (range_of patterns) (key_of name) (by is) (between_holds (beyond cursor (range_of patterns)) (key_of name) within))
  where
    by : IsValue number (row.Task (named.Triple triple)) cursor → (cursor ≡ []) ⊎ IsBelow (range_of patterns).after cursor
    by (inl none) = inl none
    by (inr (other, kind, valid', granted, e)) = inr (subst (IsBelow (range_of patterns).after) (sym e) ((hold_names patterns other tt valid').0 kind).0)

-- ---- triples

abbrev is_order_letter : List ℕ → Bool
is_order_letter part = same_bytes part (codes "s") || (same_bytes part (codes "p") || same_bytes part (codes "o"))

is_letter_of : (order : Order) → is_order_letter (order_letter order) ≡ true
is_letter_of Spo = refl
is_letter_of Pos = refl
is_letter_of Osp = refl

same_order : (order other : Order) → same_bytes (order_letter order) (order_letter other) ≡ true → order ≡ other
same_order Spo Spo e = refl
same_order Spo Pos e = absurd cc
same_order Spo Osp e = absurd cc
same_order Pos Spo e = absurd cc
same_order Pos Pos e = refl
same_order Pos Osp e = absurd cc
same_order Osp Spo e = absurd cc
same_order Osp Pos e = absurd cc
same_order Osp Osp e = refl

abbrev first_part : List (List ℕ) → List ℕ
first_part [] = []
first_part (part ∷ parts) = part

no_row : (order : Order) (parts more : List (List ℕ)) → is_order_letter (first_part parts) ≡ false → parts ≡ order_letter order ∷ more → ⊥
no_row order parts more none e =
    let row : is_order_letter (first_part parts) ≡ true = ap is_order_letter (ap first_part e) ∙ is_letter_of order in
    absurd cc

abbrev IsRow : Order → KeyName → Type 0
IsRow order name = (triple : Triple) × (name ≡ row.Triple order triple)

-- a name whose parts begin with an order's letter is that of a triple's row
row_is : (order : Order) (name : KeyName) (more : List (List ℕ)) → parts_of name ≡ order_letter order ∷ more → IsRow order name
row_is order row.Clock more e = absurd (no_row order _ more refl e)
row_is order (row.Triple other triple) more e =
    (triple, ap (λ (o : Order). row.Triple o triple) (same_order other order (letters other (ap first_part e))))
  where
    letters : (other : Order) → first_part (triple_parts other triple) ≡ order_letter order → same_bytes (order_letter other) (order_letter order) ≡ true
    letters Spo e = subst (λ (part : List ℕ). same_bytes (codes "s") part ≡ true) e refl
    letters Pos e = subst (λ (part : List ℕ). same_bytes (codes "p") part ≡ true) e refl
    letters Osp e = subst (λ (part : List ℕ). same_bytes (codes "o") part ≡ true) e refl
row_is order (row.Node registration node cells) more e = absurd (no_row order _ more refl e)
row_is order (row.Group registration cells) more e = absurd (no_row order _ more refl e)
row_is order (row.Member registration cells term) more e = absurd (no_row order _ more refl e)
row_is order (row.Registration registration) more e = absurd (no_row order _ more refl e)
row_is order (row.Name name) more e = absurd (no_row order _ more refl e)
row_is order (row.Pattern registration node) more e = absurd (no_row order _ more refl e)
row_is order (row.Task task) more e = absurd (no_row order _ more refl e)
row_is order (row.Export registration cells) more e = absurd (no_row order _ more refl e)

abbrev BeginsSo : List ℕ → List (List ℕ) → Type 0
BeginsSo letter all = (more : List (List ℕ)) × (all ≡ letter ∷ more)

-- a key in the range of some parts begins with the first of them
held_begins : (letter : List ℕ) (front all : List (List ℕ)) → IsBelow (without_last (parts.key_of (letter ∷ front))) (parts.key_of all) → IsBelow (parts.key_of all) (end_of (parts.key_of (letter ∷ front))) → BeginsSo letter all
held_begins letter front all above below =
    let begins = (holds_keys (letter ∷ front) all (λ e. absurd cc)).1 (above, below) in (front ++ begins.0, begins.1)

-- so does one behind another that begins with it, and before the range's end
behind_begins : (letter : List ℕ) (others front all : List (List ℕ)) → IsBelow (parts.key_of (letter ∷ others)) (parts.key_of all) → IsBelow (parts.key_of all) (end_of (parts.key_of (letter ∷ front))) → BeginsSo letter all
behind_begins letter others front all behind below = by all refl
  where
    compared : parts_cmp (letter ∷ others) all ≡ Less
    compared = sym (ordered (letter ∷ others) all) ∙ behind

    -- the key of the range's parts is in the range
    front_above : IsBelow (without_last (parts.key_of (letter ∷ front))) (parts.key_of (letter ∷ front))
    front_above = ((holds_keys (letter ∷ front) (letter ∷ front) (λ e. absurd cc)).0 ([], sym (append-nil (letter ∷ front)))).0

    first : (part : List ℕ) (more : List (List ℕ)) → all ≡ part ∷ more → (order : Ordering) → bytes_cmp letter part ≡ order → BeginsSo letter all
    first part more is Less e =
        let later : parts_cmp (letter ∷ front) all ≡ Less = ap (parts_cmp (letter ∷ front)) is ∙ (rw e refl) in
        held_begins letter front all (nat_list_cmp_total.trans (without_last (parts.key_of (letter ∷ front))) (parts.key_of (letter ∷ front)) (parts.key_of all) front_above (ordered (letter ∷ front) all ∙ later)) below
    first part more is Equal e = (more, is ∙ ap (λ (p : List ℕ). p ∷ more) (sym (equal_bytes_are letter part e)))
    first part more is Greater e = absurd (let clash : Less ≡ Greater = sym compared ∙ ap (parts_cmp (letter ∷ others)) is ∙ (rw e refl) in cc)

    by : (parts : List (List ℕ)) → all ≡ parts → BeginsSo letter all
    by [] none = absurd (let clash : Less ≡ Greater = sym compared ∙ ap (parts_cmp (letter ∷ others)) none in cc)
    by (part ∷ more) is = first part more is (bytes_cmp letter part) refl

-- the parts of a triple's row begin with the order's letter
letter_first : (order : Order) (triple : Triple) → BeginsSo (order_letter order) (triple_parts order triple)
letter_first Spo triple = (_, refl)
letter_first Pos triple = (_, refl)
letter_first Osp triple = (_, refl)

-- a key that a backfill goes on to is that of a triple's row in the order that serves the pattern
pub triple_beyond : (of : TriplePattern) (cursor : List ℕ) (name : KeyName) → IsInOrder (rows_of of).0 cursor → is_between (beyond cursor (rows_of of).1).after (beyond cursor (rows_of of).1).end (key_of name) ≡ true → IsRow (rows_of of).0 name
triple_beyond of cursor name is within = row_is order name begins.0 begins.1
  where
    order : Order
    order = (rows_of of).0

    front : List (List ℕ)
    front = map printed (serving of.subject of.predicate of.object).1

    by : (cursor : List ℕ) → IsInOrder order cursor → Holds (beyond cursor (rows_of of).1) (key_of name) → BeginsSo (order_letter order) (parts_of name)
    by [] is holds = held_begins (order_letter order) front (parts_of name) holds.0 holds.1
    by (byte ∷ bytes) (inl none) holds = absurd cc
    by (byte ∷ bytes) (inr (triple, valid, e)) holds =
        let first = letter_first order triple in
        behind_begins (order_letter order) first.0 front (parts_of name) (subst (λ k. IsBelow k (key_of name)) (e ∙ ap parts.key_of first.1) holds.0) holds.1

    begins : BeginsSo (order_letter order) (parts_of name)
    begins = by cursor is (between_holds (beyond cursor (rows_of of).1) (key_of name) within)
