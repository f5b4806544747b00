-- The cell at a variable's place: how it is found, and that a mapping gives it.
use Rattle.std.proofs.Common.{◌≡◌, inl, inr, ℕ, suc, ◌+◌, ◌<◌, ◌≤◌, length, Bool, true, false, cond, ltb, List, [], ◌∷◌, Option, Some, None, refl, ap, subst, arith}
use Rattle.std.specs.List.{Contains, AllByRecursion, position_or_len, slice_get}
use Rattle.std.specs.Option.{unwrap_or}
use Rattle.std.proofs.lemmas.Bool.{ltb-true, ltb-false}
use Rattle.std.proofs.lemmas.List.Elements.{recursion_from_All}
use Rattle.std.proofs.lemmas.Option.{cond_some}
use Rattle.pcj_term.specs.Order.{same_bytes}
use Rattle.pcj_term.proofs.ByteLemmas.{same_bytes_are, same_bytes_itself}
use Rattle.pcj_term.proofs.ListLemmas.{nothing_in, first_or_later}
use Rattle.pcj_expr.specs.declared.mapping.Mapping.{Mapping}
use Rattle.pcj_expr.specs.Truth.{bound}
use Rattle.pcj_answers.specs.Rows.{cell}
use Rattle.pcj_obs_pass.specs.Cells.{cell_at, cells_at, cells_of}
use Rattle.pcj_obs_pass.specs.Laws.{CellsAreProjected}

-- ---- how it is found

-- the place of the variable, or how many there are
abbrev pub place_of : List (List ℕ) → List ℕ → ℕ
place_of order name = position_or_len (λ first. same_bytes first name) order

at_place : (order cells : List (List ℕ)) (name : List ℕ) → place_of order name < length order → unwrap_or (slice_get cells (place_of order name)) [] ≡ cell_at order cells name
at_place [] cells name within = absurd (omega (arith, within))
at_place (first ∷ names) [] name within = refl
at_place (first ∷ names) (c ∷ cells) name within = by (same_bytes first name) refl (at_place names cells name)
  where
    by : (test : Bool) → same_bytes first name ≡ test → (place_of names name < length names → unwrap_or (slice_get cells (place_of names name)) [] ≡ cell_at names cells name) →
        unwrap_or (slice_get (c ∷ cells) (place_of (first ∷ names) name)) [] ≡ cell_at (first ∷ names) (c ∷ cells) name
    by true e later = rw e refl
    by false e later =
        let next : 1 + place_of names name ≡ suc (place_of names name) = omega arith in
        let less : 1 + place_of names name < suc (length names) = rw e at within in
        rw (e, next) (later (omega (arith, less)))

at_no_place : (order cells : List (List ℕ)) (name : List ℕ) → length order ≤ place_of order name → [] ≡ cell_at order cells name
at_no_place [] cells name past = refl
at_no_place (first ∷ names) [] name past = refl
at_no_place (first ∷ names) (c ∷ cells) name past = by (same_bytes first name) refl (at_no_place names cells name)
  where
    by : (test : Bool) → same_bytes first name ≡ test → (length names ≤ place_of names name → [] ≡ cell_at names cells name) → [] ≡ cell_at (first ∷ names) (c ∷ cells) name
    by true e later = let none : suc (length names) ≤ 0 = rw e at past in absurd (omega (arith, none))
    by false e later = let less : suc (length names) ≤ 1 + place_of names name = rw e at past in rw e (later (omega (arith, less)))

-- the place as `position` finds it
abbrev pub found_at : List (List ℕ) → List ℕ → Option ℕ
found_at order name = cond (ltb (place_of order name) (length order)) (Some (place_of order name)) None

pub cell_placed : (order cells : List (List ℕ)) (name : List ℕ) (place : ℕ) → found_at order name ≡ Some place → unwrap_or (slice_get cells place) [] ≡ cell_at order cells name
cell_placed order cells name place e =
    let found = cond_some (ltb (place_of order name) (length order)) (place_of order name) place e in
    subst (λ (n : ℕ). unwrap_or (slice_get cells n) [] ≡ cell_at order cells name) found.1 (at_place order cells name (ltb-true _ _ found.0))

pub cell_unplaced : (order cells : List (List ℕ)) (name : List ℕ) → found_at order name ≡ None → [] ≡ cell_at order cells name
cell_unplaced order cells name e = by (ltb (place_of order name) (length order)) refl
  where
    by : (test : Bool) → ltb (place_of order name) (length order) ≡ test → [] ≡ cell_at order cells name
    by true is = let some = rw is at e in absurd cc
    by false is = at_no_place order cells name (ltb-false _ _ is)

-- ---- what a mapping gives

-- the cell at a variable's place is what the mapping gives that variable
cell_given : (mapping : Mapping) (order : List (List ℕ)) (name : List ℕ) → Contains order name → cell_at order (cells_of order mapping) name ≡ cell (bound mapping name)
cell_given mapping [] name there = absurd (nothing_in name there)
cell_given mapping (first ∷ names) name there = by (same_bytes first name) refl (cell_given mapping names name)
  where
    in_rest : same_bytes first name ≡ false → Contains names name
    in_rest e = elim (first_or_later first names name there) [
      | inl is ↦ absurd (let same : same_bytes first name ≡ true = subst (λ (n : List ℕ). same_bytes first n ≡ true) is (same_bytes_itself first) in cc)
      | inr later ↦ later
    ]

    by : (test : Bool) → same_bytes first name ≡ test → (Contains names name → cell_at names (cells_of names mapping) name ≡ cell (bound mapping name)) →
        cell_at (first ∷ names) (cells_of (first ∷ names) mapping) name ≡ cell (bound mapping name)
    by true e later = rw e (ap (λ (n : List ℕ). cell (bound mapping n)) (same_bytes_are first name e))
    by false e later = rw e (later (in_rest e))

each_given : (mapping : Mapping) (order wanted : List (List ℕ)) → AllByRecursion (Contains order) wanted → cells_at order (cells_of order mapping) wanted ≡ cells_of wanted mapping
each_given mapping order [] there = refl
each_given mapping order (name ∷ names) there = rw (cell_given mapping order name there.0, each_given mapping order names there.1) refl

pub cells_are_projected : CellsAreProjected
cells_are_projected mapping order wanted there = each_given mapping order wanted (recursion_from_All (Contains order) wanted there)
