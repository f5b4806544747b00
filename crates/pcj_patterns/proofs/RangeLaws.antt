-- The rows of a pattern's range are those of the triples that have its constants.
use Rattle.std.proofs.Common.{◌≡◌, ◌≢◌, ℕ, Bool, true, false, List, [], ◌∷◌, ◌++◌, refl, ap, sym, subst, ◌∙◌}
use Rattle.std.specs.Prelude.{codes, ◌||◌}
use Rattle.pcj_term.specs.declared.term.Term.{Term}
use Rattle.pcj_term.specs.declared.triple.Triple.{Triple}
use Rattle.pcj_term.specs.Order.{same_bytes}
use Rattle.pcj_term.specs.Term.{printed}
use Rattle.pcj_term.proofs.Cells.{prints_one_term}
use Rattle.pcj_key.specs.Order.{BeginsWith}
use Rattle.pcj_key.proofs.Ranges.{holds_keys}
use Rattle.pcj_expr.specs.declared.mapping.Mapping.{Mapping}
use Rattle.pcj_algebra.specs.declared.triple_pattern.Slot.{Slot}
use Rattle.pcj_algebra.specs.declared.triple_pattern.Slot.TheVariants.{Var, Value}
use Rattle.pcj_algebra.specs.declared.triple_pattern.TriplePattern.{TriplePattern}
use Rattle.pcj_algebra.specs.Match.{Stands}
use Rattle.pcj_encode.specs.declared.order.Order.{Order}
use Rattle.pcj_encode.specs.declared.order.Order.TheVariants.{Spo, Pos, Osp}
use Rattle.pcj_encode.specs.declared.key_name.KeyName.{KeyName}
use Rattle.pcj_encode.specs.declared.key_name.KeyName.TheVariants as row
use Rattle.pcj_encode.specs.Name.{parts_of, triple_parts, IsTriple, IsName}
use Rattle.pcj_patterns.specs.Serving.{serving, order_letter, front_of, rows_of}
use Rattle.pcj_patterns.specs.Laws.{HasConstant, HasConstants, IsValidSlot, IsValidPattern, IsRowOf, MatchesAreInRange, RangesHoldConstants}

abbrev order_of : TriplePattern → Order
order_of pattern = (rows_of pattern).0

abbrev front : Slot → Slot → Slot → List (List ℕ)
front s p o = front_of (serving s p o).0 (serving s p o).1

some_front : (order : Order) (terms : List Term) → front_of order terms ≢ []
some_front order terms = λ e. absurd cc

-- ---- the row of a triple with the constants

begins : (s p o : Slot) (t : Triple) → HasConstant s t.subject → HasConstant p t.predicate → HasConstant o t.object → BeginsWith (front s p o) (triple_parts (serving s p o).0 t)
begins (Value s) (Value p) (Value o) t e f g = ([], cc)
begins (Value s) (Value p) (Var o) t e f g = (printed t.object ∷ [], cc)
begins (Value s) (Var p) (Value o) t e f g = (printed t.predicate ∷ [], cc)
begins (Value s) (Var p) (Var o) t e f g = (printed t.predicate ∷ printed t.object ∷ [], cc)
begins (Var s) (Value p) (Value o) t e f g = (printed t.subject ∷ [], cc)
begins (Var s) (Value p) (Var o) t e f g = (printed t.object ∷ printed t.subject ∷ [], cc)
begins (Var s) (Var p) (Value o) t e f g = (printed t.subject ∷ printed t.predicate ∷ [], cc)
begins (Var s) (Var p) (Var o) t e f g = (printed t.subject ∷ printed t.predicate ∷ printed t.object ∷ [], refl)

begins_so : (p : TriplePattern) (t : Triple) → HasConstants p t → BeginsWith (front p.subject p.predicate p.object) (triple_parts (order_of p) t)
begins_so p t has = begins p.subject p.predicate p.object t has.subject has.predicate has.object

stands_for : (m : Mapping) (slot : Slot) (term : Term) → Stands m slot term → HasConstant slot term
stands_for m (Var name) term stands = tt
stands_for m (Value value) term stands = stands

pub matches_are_in_range : MatchesAreInRange
matches_are_in_range p t m match =
    (holds_keys (front p.subject p.predicate p.object) (triple_parts (order_of p) t) (some_front _ _)).0
    (begins_so p t (record {
      subject = stands_for m p.subject t.subject match.subject;
      predicate = stands_for m p.predicate t.predicate match.predicate;
      object = stands_for m p.object t.object match.object;
    }))

-- ---- the names in a range

abbrev is_order_letter : List ℕ → Bool
is_order_letter part = same_bytes part (codes "s") || (same_bytes part (codes "p") || same_bytes part (codes "o"))

is_letter_of : (order : Order) → is_order_letter (order_letter order) ≡ true
is_letter_of Spo = refl
is_letter_of Pos = refl
is_letter_of Osp = refl

same_order : (order other : Order) → same_bytes (order_letter order) (order_letter other) ≡ true → order ≡ other
same_order Spo Spo e = refl
same_order Spo Pos e = absurd cc
same_order Spo Osp e = absurd cc
same_order Pos Spo e = absurd cc
same_order Pos Pos e = refl
same_order Pos Osp e = absurd cc
same_order Osp Spo e = absurd cc
same_order Osp Pos e = absurd cc
same_order Osp Osp e = refl

abbrev first_part : List (List ℕ) → List ℕ
first_part [] = []
first_part (part ∷ parts) = part

no_row : (order : Order) (parts more : List (List ℕ)) → is_order_letter (first_part parts) ≡ false → parts ≡ order_letter order ∷ more → ⊥
no_row order parts more none e =
    let row : is_order_letter (first_part parts) ≡ true = ap is_order_letter (ap first_part e) ∙ is_letter_of order in
    absurd cc

abbrev IsRow : Order → KeyName → Type 0
IsRow order name = (triple : Triple) × (name ≡ row.Triple order triple)

row_is : (order : Order) (name : KeyName) (more : List (List ℕ)) → parts_of name ≡ order_letter order ∷ more → IsRow order name
row_is order row.Clock more e = absurd (no_row order _ more refl e)
row_is order (row.Triple other triple) more e =
    (triple, ap (λ (o : Order). row.Triple o triple) (same_order other order (letters other (ap first_part e))))
  where
    letters : (other : Order) → first_part (triple_parts other triple) ≡ order_letter order → same_bytes (order_letter other) (order_letter order) ≡ true
    letters Spo e = subst (λ (part : List ℕ). same_bytes (codes "s") part ≡ true) e refl
    letters Pos e = subst (λ (part : List ℕ). same_bytes (codes "p") part ≡ true) e refl
    letters Osp e = subst (λ (part : List ℕ). same_bytes (codes "o") part ≡ true) e refl
row_is order (row.Node registration node cells) more e = absurd (no_row order _ more refl e)
row_is order (row.Group registration cells) more e = absurd (no_row order _ more refl e)
row_is order (row.Member registration cells term) more e = absurd (no_row order _ more refl e)
row_is order (row.Registration registration) more e = absurd (no_row order _ more refl e)
row_is order (row.Name name) more e = absurd (no_row order _ more refl e)
row_is order (row.Pattern registration node) more e = absurd (no_row order _ more refl e)
row_is order (row.Task task) more e = absurd (no_row order _ more refl e)
row_is order (row.Export registration cells) more e = absurd (no_row order _ more refl e)

-- a row that begins with the constants is that of a triple that has them
has_constants : (s p o : Slot) (t : Triple) (rest : List (List ℕ)) → IsValidSlot s → IsValidSlot p → IsValidSlot o → IsTriple t → triple_parts (serving s p o).0 t ≡ front s p o ++ rest →
    HasConstant s t.subject × HasConstant p t.predicate × HasConstant o t.object
has_constants (Value s) (Value p) (Value o) t rest vs vp vo valid e =
    (prints_one_term s t.subject vs valid.0 cc, prints_one_term p t.predicate vp valid.1 cc, prints_one_term o t.object vo valid.2 cc)
has_constants (Value s) (Value p) (Var o) t rest vs vp vo valid e =
    (prints_one_term s t.subject vs valid.0 cc, prints_one_term p t.predicate vp valid.1 cc, tt)
has_constants (Value s) (Var p) (Value o) t rest vs vp vo valid e =
    (prints_one_term s t.subject vs valid.0 cc, tt, prints_one_term o t.object vo valid.2 cc)
has_constants (Value s) (Var p) (Var o) t rest vs vp vo valid e = (prints_one_term s t.subject vs valid.0 cc, tt, tt)
has_constants (Var s) (Value p) (Value o) t rest vs vp vo valid e =
    (tt, prints_one_term p t.predicate vp valid.1 cc, prints_one_term o t.object vo valid.2 cc)
has_constants (Var s) (Value p) (Var o) t rest vs vp vo valid e = (tt, prints_one_term p t.predicate vp valid.1 cc, tt)
has_constants (Var s) (Var p) (Value o) t rest vs vp vo valid e = (tt, tt, prints_one_term o t.object vo valid.2 cc)
has_constants (Var s) (Var p) (Var o) t rest vs vp vo valid e = (tt, tt, tt)

row_begins : (p : TriplePattern) (name : KeyName) → IsRowOf p name → BeginsWith (front p.subject p.predicate p.object) (parts_of name)
row_begins p name (t, is, has) =
    subst (λ (n : KeyName). BeginsWith (front p.subject p.predicate p.object) (parts_of n)) (sym is) (begins_so p t has)

begun_row : (p : TriplePattern) (name : KeyName) → IsValidPattern p → IsName name → BeginsWith (front p.subject p.predicate p.object) (parts_of name) → IsRowOf p name
begun_row p name valid named (rest, begun) =
    let is = row_is (order_of p) name _ begun in
    let row_named : IsName (row.Triple (order_of p) is.0) = subst IsName is.1 named in
    let parts : triple_parts (order_of p) is.0 ≡ front p.subject p.predicate p.object ++ rest = sym (ap parts_of is.1) ∙ begun in
    let has = has_constants p.subject p.predicate p.object is.0 rest valid.subject valid.predicate valid.object row_named parts in
    (is.0, is.1, record { subject = has.0; predicate = has.1; object = has.2 })

pub ranges_hold_constants : RangesHoldConstants
ranges_hold_constants p name valid named =
    let range = holds_keys (front p.subject p.predicate p.object) (parts_of name) (some_front _ _) in
    (λ is. range.0 (row_begins p name is), λ between. begun_row p name valid named (range.1 between))
