-- Sets of names, a name at a time.
use Rattle.std.proofs.Common.{◌≡◌, ℕ, ◌+◌, Bool, true, false, ◌||◌, if◌then◌else◌, List, [], ◌∷◌, ◌++◌, length, refl, ap, sym, subst, ◌∙◌, append_assoc, arith}
use Rattle.std.specs.List.{list_any}
use Rattle.std.proofs.lemmas.List.Folds.{list_any-append}
use Rattle.std.proofs.Math.Bool.{or_comm}
use Rattle.pcj_term.specs.Order.{same_bytes}
use Rattle.pcj_term.proofs.ByteLemmas.{same_bytes_are, same_bytes_itself}
use Rattle.pcj_algebra.specs.declared.triple_pattern.Slot.{Slot}
use Rattle.pcj_algebra.specs.declared.triple_pattern.Slot.TheVariants.{Var}
use Rattle.pcj_translate.specs.Variables.{has_variable, distinct_variables, slot_variables}
use Rattle.pcj_translate.specs.Names.{with_name, IsSetOf}

false_true : (v : Bool) → v ≡ false → v ≡ true → ⊥
false_true v e f = absurd cc

flipped : (a b : List ℕ) (v w : Bool) → same_bytes a b ≡ v → same_bytes b a ≡ w → v ≡ w
flipped a b true true e f = refl
flipped a b false false e f = refl
flipped a b true false e f = let one = same_bytes_are a b e in let odd = subst (λ (k : List ℕ). same_bytes k a ≡ true) one (same_bytes_itself a) in absurd (false_true (same_bytes b a) f odd)
flipped a b false true e f = let one = same_bytes_are b a f in let odd = subst (λ (k : List ℕ). same_bytes k b ≡ true) one (same_bytes_itself b) in absurd (false_true (same_bytes a b) e odd)

pub same_flipped : (a b : List ℕ) → same_bytes a b ≡ same_bytes b a
same_flipped a b = flipped a b (same_bytes a b) (same_bytes b a) refl refl

-- std's sets compare the other way round
pub has_flipped : (set : List (List ℕ)) (name : List ℕ) → list_any (same_bytes name) set ≡ has_variable set name
has_flipped set name = λ i. list_any (λ other. same_flipped name other i) set

-- ---- members

absorbed : (set : List (List ℕ)) (name other : List ℕ) (v : Bool) → has_variable set name ≡ true → same_bytes name other ≡ v → has_variable set other ≡ (v || has_variable set other)
absorbed set name other false here e = refl
absorbed set name other true here e = subst (λ (k : List ℕ). has_variable set k ≡ true) (same_bytes_are name other e) here

added_has : (set : List (List ℕ)) (name other : List ℕ) (v : Bool) → has_variable set name ≡ v → has_variable (if v then set else set ++ name ∷ []) other ≡ (same_bytes name other || has_variable set other)
added_has set name other true e = absorbed set name other (same_bytes name other) e refl
added_has set name other false e =
    list_any-append (λ (k : List ℕ). same_bytes k other) set (name ∷ []) ∙ or_comm (has_variable set other) (same_bytes name other || false)
    ∙ ap (λ (b : Bool). b || has_variable set other) (or_comm (same_bytes name other) false)

pub with_has : (set : List (List ℕ)) (name other : List ℕ) → has_variable (with_name set name) other ≡ (same_bytes name other || has_variable set other)
with_has set name other = added_has set name other (has_variable set name) refl

-- ---- counts

length_more : (xs : List (List ℕ)) (x : List ℕ) → length (xs ++ x ∷ []) ≡ length xs + 1
length_more [] x = refl
length_more (y ∷ xs) x = let more = length_more xs x in omega (arith, more)

first_count : (names set : List (List ℕ)) (name : List ℕ) (v : Bool) → length set ≡ length (distinct_variables names) → length (if v then set else set ++ name ∷ []) ≡ length (if v then distinct_variables names else name ∷ distinct_variables names)
first_count names set name true e = e
first_count names set name false e = let more = length_more set name in omega (arith, more, e)

pub set_first : (names set : List (List ℕ)) (name : List ℕ) → IsSetOf names set → IsSetOf (name ∷ names) (with_name set name)
set_first names set name h = record {
  members = λ other. with_has set name other ∙ ap (λ (b : Bool). same_bytes name other || b) (h.members other);
  count = first_count names set name (has_variable set name) h.count ∙ ap (λ (v : Bool). length (if v then distinct_variables names else name ∷ distinct_variables names)) (h.members name);
}

-- a name behind others
last_any : (names : List (List ℕ)) (name other : List ℕ) → has_variable (names ++ name ∷ []) other ≡ (same_bytes name other || has_variable names other)
last_any names name other =
    list_any-append (λ (k : List ℕ). same_bytes k other) names (name ∷ []) ∙ or_comm (has_variable names other) (same_bytes name other || false)
    ∙ ap (λ (b : Bool). b || has_variable names other) (or_comm (same_bytes name other) false)

abbrev grown : Bool → ℕ → ℕ
grown true n = n
grown false n = n + 1

-- a name that is there, and one that is not, behind others
abbrev dv : List (List ℕ) → List (List ℕ)
dv names = distinct_variables names

by_first : (first name : List ℕ) (s f n : Bool) → same_bytes first name ≡ s → (s ≡ true → f ≡ n) → (before after : List (List ℕ)) → length after ≡ grown n (length before)
    → length (if s || f then after else first ∷ after) ≡ grown (s || n) (length (if f then before else first ∷ before))
by_first first name true true true e same before after h = h
by_first first name true false false e same before after h = h ∙ (let one : length before + 1 ≡ length (first ∷ before) = omega arith in one)
by_first first name true true false e same before after h = let odd = same refl in absurd cc
by_first first name true false true e same before after h = let odd = same refl in absurd cc
by_first first name false true n e same before after h = h
by_first first name false false true e same before after h = let one = h in omega (arith, one)
by_first first name false false false e same before after h = let one = h in omega (arith, one)

same_has : (names : List (List ℕ)) (first name : List ℕ) → same_bytes first name ≡ true → has_variable names first ≡ has_variable names name
same_has names first name e = ap (has_variable names) (same_bytes_are first name e)

last_count : (names : List (List ℕ)) (name : List ℕ) → length (dv (names ++ name ∷ [])) ≡ grown (has_variable names name) (length (dv names))
last_count [] name = refl
last_count (first ∷ names) name =
    ap (λ (v : Bool). length (if v then dv (names ++ name ∷ []) else first ∷ dv (names ++ name ∷ []))) (last_any names name first ∙ ap (λ (v : Bool). v || has_variable names first) (same_flipped name first))
    ∙ by_first first name (same_bytes first name) (has_variable names first) (has_variable names name) refl (λ e. same_has names first name e) (dv names) (dv (names ++ name ∷ [])) (last_count names name)

with_count : (set : List (List ℕ)) (name : List ℕ) (v : Bool) → length (if v then set else set ++ name ∷ []) ≡ grown v (length set)
with_count set name true = refl
with_count set name false = length_more set name

pub set_last : (names set : List (List ℕ)) (name : List ℕ) → IsSetOf names set → IsSetOf (names ++ name ∷ []) (with_name set name)
set_last names set name h = record {
  members = λ other. with_has set name other ∙ ap (λ (b : Bool). same_bytes name other || b) (h.members other) ∙ sym (last_any names name other);
  count = with_count set name (has_variable set name) ∙ ap (λ (v : Bool). grown v (length set)) (h.members name) ∙ ap (grown (has_variable names name)) h.count ∙ sym (last_count names name);
}

pub no_names : IsSetOf [] []
no_names = record { members = λ name. refl; count = refl }

pub joined_set : (xs ys names set : List (List ℕ)) → IsSetOf (xs ++ (ys ++ names)) set → IsSetOf ((xs ++ ys) ++ names) set
joined_set xs ys names set h = subst (λ (k : List (List ℕ)). IsSetOf k set) (sym (append_assoc xs ys names)) h

pub slot_added : (slot : Slot) (name : List ℕ) (names old new : List (List ℕ)) → slot ≡ Var name → new ≡ with_name old name → IsSetOf names old → IsSetOf (slot_variables slot ++ names) new
slot_added slot name names old new is added h =
    subst (λ (k : Slot). IsSetOf (slot_variables k ++ names) new) (sym is) (subst (λ (k : List (List ℕ)). IsSetOf (name ∷ names) k) (sym added) (set_first names old name h))
