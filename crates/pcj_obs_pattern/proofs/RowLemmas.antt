-- What is read from keys and from the value of a pattern's row is what they were written from.
use Rattle.std.proofs.Common.{◌≡◌, ℕ, false, true, List, Option, Some, None, IsSome, slice_index_or, is_some, ap, ap₂, sym, subst, ◌∙◌}
use Rattle.std.proofs.lemmas.Option.{same_Some}
use Rattle.pcj_term.specs.declared.term.Term.{Term}
use Rattle.pcj_term.specs.declared.triple.Triple.{Triple}
use Rattle.pcj_term.specs.Read.{Reads}
use Rattle.pcj_term.specs.Reading.{term_of}
use Rattle.pcj_key.specs.Key.{Splits}
use Rattle.pcj_key.proofs.Keys.{injective}
use Rattle.pcj_encode.specs.declared.order.Order.{Order}
use Rattle.pcj_encode.specs.declared.key_name.KeyName.{KeyName}
use Rattle.pcj_encode.specs.declared.key_name.KeyName.TheVariants as named
use Rattle.pcj_encode.specs.Name.{key_of, IsTriple}
use Rattle.pcj_encode.specs.Read.{ReadsKey}
use Rattle.pcj_encode.proofs.Cells.{term_read}
use Rattle.pcj_encode.proofs.Names.{reads_back}
use Rattle.pcj_algebra.specs.declared.triple_pattern.Slot.{Slot}
use Rattle.pcj_algebra.specs.declared.triple_pattern.TriplePattern.{TriplePattern}
use Rattle.pcj_tree.specs.Stored.{slot_part}
use Rattle.pcj_tree.specs.Read.{IsSlot}
use Rattle.pcj_tree.specs.Reading.{slot_of}
use Rattle.pcj_tree.proofs.SlotLemmas.{slot_again}
use Rattle.pcj_obs_pattern.specs.Rows.{row_parts}
use Rattle.pcj_obs_pattern.specs.Reading.{IsKeyOf, ArePartsOf, IsValueOf, row_of}

-- ---- terms and names

pub none_read : (part : List ℕ) (found : Option Term) → Reads part found → found ≡ None → IsSome (term_of part) → ⊥
none_read part found reads none some = let wrong : false ≡ true = ap is_some (sym none ∙ term_read part found reads) ∙ some in absurd cc

pub pattern_named : (key : List ℕ) (found : Option KeyName) (registration node : ℕ) → IsKeyOf registration node key → ReadsKey key found → found ≡ Some (named.Pattern registration node)
pattern_named key found registration node is reads =
    reads_back (named.Pattern registration node) found (is.number, is.small) (subst (λ (k : List ℕ). ReadsKey k found) is.key_is reads)

pub triple_named : (key : List ℕ) (found : Option KeyName) (order : Order) (triple : Triple) → IsTriple triple → key ≡ key_of (named.Triple order triple) → ReadsKey key found → found ≡ Some (named.Triple order triple)
triple_named key found order triple valid is reads =
    reads_back (named.Triple order triple) found valid (subst (λ (k : List ℕ). ReadsKey k found) is reads)

-- ---- the parts of a value

-- a part that stands at a place where a slot is written is read as that slot
slot_at : (place : ℕ) (parts : List (List ℕ)) (slot : Slot) (item part : List ℕ) → IsSlot slot → slice_index_or parts place item ≡ slot_part slot → item ≡ slice_index_or parts place item → part ≡ item → slot_of part ≡ Some slot
slot_at place parts slot item part valid is there same = ap slot_of (same ∙ there ∙ is) ∙ slot_again slot valid

pub subject_at : (of : TriplePattern) (order parts : List (List ℕ)) (item part : List ℕ) → ArePartsOf of order parts → item ≡ slice_index_or parts 0 item → part ≡ item → slot_of part ≡ Some of.subject
subject_at of order parts item part are = slot_at 0 parts of.subject item part are.valid.0 (ap (λ (ps : List (List ℕ)). slice_index_or ps 0 item) are.parts_are)

pub predicate_at : (of : TriplePattern) (order parts : List (List ℕ)) (item part : List ℕ) → ArePartsOf of order parts → item ≡ slice_index_or parts 1 item → part ≡ item → slot_of part ≡ Some of.predicate
predicate_at of order parts item part are = slot_at 1 parts of.predicate item part are.valid.1 (ap (λ (ps : List (List ℕ)). slice_index_or ps 1 item) are.parts_are)

pub object_at : (of : TriplePattern) (order parts : List (List ℕ)) (item part : List ℕ) → ArePartsOf of order parts → item ≡ slice_index_or parts 2 item → part ≡ item → slot_of part ≡ Some of.object
object_at of order parts item part are = slot_at 2 parts of.object item part are.valid.2 (ap (λ (ps : List (List ℕ)). slice_index_or ps 2 item) are.parts_are)

-- the slots and the order that are read are those of the row
pub same_row : (registration node : ℕ) (made of : TriplePattern) (copy order : List (List ℕ)) (s p o : Option Slot) →
    s ≡ Some made.subject → p ≡ Some made.predicate → o ≡ Some made.object → s ≡ Some of.subject → p ≡ Some of.predicate → o ≡ Some of.object → copy ≡ order →
    row_of registration node made copy ≡ row_of registration node of order
same_row registration node made of copy order s p o a b c d e f g =
    let subject = same_Some made.subject of.subject (sym a ∙ d) in
    let predicate = same_Some made.predicate of.predicate (sym b ∙ e) in
    let object = same_Some made.object of.object (sym c ∙ f) in
    ap₂ (λ x y. row_of registration node (record { subject = x; predicate = y; object = made.object }) copy) subject predicate
    ∙ ap₂ (λ x names. row_of registration node (record { subject = of.subject; predicate = of.predicate; object = x }) names) object g

-- ---- values

pub parts_split : (value : List ℕ) (of : TriplePattern) (order : List (List ℕ)) (found : Option (List (List ℕ))) (parts given : List (List ℕ)) →
    IsValueOf of order value → Splits value found → found ≡ Some parts → given ≡ parts → ArePartsOf of order given
parts_split value of order found parts given is splits some same =
    let read : Splits value (Some parts) = subst (λ (f : Option (List (List ℕ))). Splits value f) some splits in
    record { valid = is.valid; parts_are = same ∙ injective parts (row_parts of order) (read ∙ is.value_is) }

pub no_parts : (value : List ℕ) (of : TriplePattern) (order : List (List ℕ)) (found : Option (List (List ℕ))) → IsValueOf of order value → Splits value found → found ≡ None → ⊥
no_parts value of order found is splits none =
    let unread : Splits value None = subst (λ (f : Option (List (List ℕ))). Splits value f) none splits in
    unread (row_parts of order) (sym is.value_is)
