-- Slots, operands and comparisons are read as they are stored.
use Rattle.std.proofs.Common.{◌≡◌, ℕ, Bool, true, false, cond, List, Option, Some, None, refl, ap, sym, subst, ◌∙◌, option_map}
use Rattle.std.proofs.lemmas.Option.{same_Some}
use Rattle.pcj_term.specs.declared.term.Term.{Term}
use Rattle.pcj_term.specs.declared.term.Term.TheVariants.{Iri, Blank, Literal}
use Rattle.pcj_term.specs.Order.{same_bytes}
use Rattle.pcj_term.specs.Reading.{after, term_of}
use Rattle.pcj_term.specs.Term.{printed}
use Rattle.pcj_term.proofs.ByteLemmas.{same_bytes_are}
use Rattle.pcj_term.proofs.OptionLemmas.{map_some}
use Rattle.pcj_term.proofs.Parts.{after_takes}
use Rattle.pcj_term.proofs.Reading.{term_again}
use Rattle.pcj_encode.proofs.Cells.{term_takes}
use Rattle.pcj_expr.specs.declared.compare.Compare.{Compare}
use Rattle.pcj_expr.specs.declared.compare.Compare.TheVariants as compare
use Rattle.pcj_expr.specs.declared.operand.Operand.{Operand}
use Rattle.pcj_expr.specs.declared.operand.Operand.TheVariants as operand
use Rattle.pcj_algebra.specs.declared.triple_pattern.Slot.{Slot}
use Rattle.pcj_algebra.specs.declared.triple_pattern.Slot.TheVariants as slot
use Rattle.pcj_tree.specs.Stored.{slot_part, operand_part, compare_part}
use Rattle.pcj_tree.specs.Read.{IsSlot, IsOperand}
use Rattle.pcj_tree.specs.Reading.{slot_from, slot_of, operand_from, operand_of, compare_of}

-- no printed term begins with a question mark
no_mark : (term : Term) → after 63 (printed term) ≡ None
no_mark (Iri iri) = refl
no_mark (Blank load label) = refl
no_mark (Literal text kind) = refl

pub slot_takes : (part : List ℕ) (s : Slot) → slot_of part ≡ Some s → IsSlot s × (slot_part s ≡ part)
slot_takes part s e = by (after 63 part) refl e
  where
    by : (name : Option (List ℕ)) → after 63 part ≡ name → slot_from part name ≡ Some s → IsSlot s × (slot_part s ≡ part)
    by (Some name) is e = subst (λ (x : Slot). IsSlot x × (slot_part x ≡ part)) (same_Some (slot.Var name) s e) (tt, sym (after_takes 63 part name is))
    by None is e =
        let read = map_some slot.Value (term_of part) s e in
        subst (λ (x : Slot). IsSlot x × (slot_part x ≡ part)) read.2 (term_takes part read.0 read.1)

pub slot_again : (s : Slot) → IsSlot s → slot_of (slot_part s) ≡ Some s
slot_again (slot.Var name) is = refl
slot_again (slot.Value term) is = ap (slot_from (printed term)) (no_mark term) ∙ ap (λ (t : Option Term). option_map slot.Value t) (term_again term is)

pub operand_takes : (part : List ℕ) (s : Operand) → operand_of part ≡ Some s → IsOperand s × (operand_part s ≡ part)
operand_takes part s e = by (after 63 part) refl e
  where
    by : (name : Option (List ℕ)) → after 63 part ≡ name → operand_from part name ≡ Some s → IsOperand s × (operand_part s ≡ part)
    by (Some name) is e = subst (λ (x : Operand). IsOperand x × (operand_part x ≡ part)) (same_Some (operand.Var name) s e) (tt, sym (after_takes 63 part name is))
    by None is e =
        let read = map_some operand.Value (term_of part) s e in
        subst (λ (x : Operand). IsOperand x × (operand_part x ≡ part)) read.2 (term_takes part read.0 read.1)

pub operand_again : (s : Operand) → IsOperand s → operand_of (operand_part s) ≡ Some s
operand_again (operand.Var name) is = refl
operand_again (operand.Value term) is = ap (operand_from (printed term)) (no_mark term) ∙ ap (λ (t : Option Term). option_map operand.Value t) (term_again term is)

-- ---- comparisons

this_or : (part : List ℕ) (of : Compare) (rest : Option Compare) (c : Compare) → (rest ≡ Some c → compare_part c ≡ part) → cond (same_bytes part (compare_part of)) (Some of) rest ≡ Some c → compare_part c ≡ part
this_or part of rest c other e = by (same_bytes part (compare_part of)) refl e
  where
    by : (same : Bool) → same_bytes part (compare_part of) ≡ same → cond same (Some of) rest ≡ Some c → compare_part c ≡ part
    by true is e = ap compare_part (sym (same_Some of c e)) ∙ sym (same_bytes_are part (compare_part of) is)
    by false is e = other e

pub compare_takes : (part : List ℕ) (c : Compare) → compare_of part ≡ Some c → compare_part c ≡ part
compare_takes part c =
    this_or part compare.Eq _ c (
    this_or part compare.Ne _ c (
    this_or part compare.Lt _ c (
    this_or part compare.Gt _ c (
    this_or part compare.Le _ c (
    this_or part compare.Ge None c (λ e. absurd cc))))))

pub compare_again : (c : Compare) → compare_of (compare_part c) ≡ Some c
compare_again compare.Eq = refl
compare_again compare.Ne = refl
compare_again compare.Lt = refl
compare_again compare.Gt = refl
compare_again compare.Le = refl
compare_again compare.Ge = refl
