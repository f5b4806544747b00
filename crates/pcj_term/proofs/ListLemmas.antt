-- What a list contains, and an element that others are apart from.
use Rattle.std.proofs.Common.{◌≡◌, ℕ, zero, suc, ◌<◌, ◌≤◌, ◌⊎◌, inl, inr, Bool, true, false, List, [], ◌∷◌, length, get_or, take, refl, subst, arith}
use Rattle.std.specs.List.{Contains, IsDistinct, AllByRecursion, list_any}
use Rattle.std.proofs.lemmas.Bool.{or_cases, or_parts, or_from, or_left, or_right, false_from_ne_true}
use Rattle.std.proofs.lemmas.List.Elements.{Contains-append_cases, Contains-append_left, Contains-append_right, Contains-push_cases, Contains-push, Contains-get_or}
use Rattle.std.proofs.lemmas.Map.Keys.{IsDistinct-head, IsDistinct-tail}

pub nothing_in : {X : Type 0} (x : X) → Contains [] x → ⊥
nothing_in x there = absurd (omega (arith, there.1))

pub first_or_later : {X : Type 0} (first : X) (xs : List X) (x : X) → Contains (first ∷ xs) x → (first ≡ x) ⊎ Contains xs x
first_or_later first xs x there = elim (Contains-append_cases (first ∷ []) xs x there) [
  | inl here ↦ inl (elim (Contains-push_cases [] first x here) [ inl none ↦ absurd (nothing_in x none) | inr same ↦ same ])
  | inr later ↦ inr later
]

pub first_there : {X : Type 0} (first : X) (xs : List X) → Contains (first ∷ xs) first
first_there first xs = Contains-append_left (first ∷ []) xs first (Contains-push [] first)

pub later_there : {X : Type 0} (first : X) (xs : List X) (x : X) → Contains xs x → Contains (first ∷ xs) x
later_there first xs x there = Contains-append_right (first ∷ []) xs x there

-- ---- elements that pass a test

pub none_passes : {X : Type 0} (test : X → Bool) (xs : List X) → list_any test xs ≡ false → AllByRecursion (λ x. test x ≡ false) xs
none_passes test [] none = tt
none_passes test (x ∷ xs) none = let parts = or_parts (test x) (list_any test xs) none in (parts.0, none_passes test xs parts.1)

pub all_by_recursion : {X : Type 0} (P : X → Type 0) (xs : List X) → ((x : X) → Contains xs x → P x) → AllByRecursion P xs
all_by_recursion P [] each = tt
all_by_recursion P (x ∷ xs) each = (each x (first_there x xs), all_by_recursion P xs (λ y there. each y (later_there x xs y there)))

pub at_recursion : {X : Type 0} (P : X → Type 0) (xs : List X) (x : X) → AllByRecursion P xs → Contains xs x → P x
at_recursion P [] x all there = absurd (nothing_in x there)
at_recursion P (first ∷ xs) x all there = elim (first_or_later first xs x there) [
  | inl here ↦ subst P here all.0
  | inr later ↦ at_recursion P xs x all.1 later
]

pub passed_by_one : {X : Type 0} (test : X → Bool) (xs : List X) → list_any test xs ≡ true → (x : X) × Contains xs x × (test x ≡ true)
passed_by_one test [] passes = absurd cc
passed_by_one test (x ∷ xs) passes = elim (or_cases (test x) (list_any test xs) passes) [
  | inl here ↦ (x, first_there x xs, here)
  | inr later ↦ let found = passed_by_one test xs later in (found.0, later_there x xs found.0 found.1, found.2)
]

-- one that is among the first is among them all
pub passed_by_first : {X : Type 0} (test : X → Bool) (count : ℕ) (xs : List X) → list_any test (take count xs) ≡ true → list_any test xs ≡ true
passed_by_first test zero xs passes = absurd cc
passed_by_first test (suc count) [] passes = absurd cc
passed_by_first test (suc count) (x ∷ xs) passes = elim (or_cases (test x) (list_any test (take count xs)) passes) [
  | inl here ↦ or_left (test x) (list_any test xs) here
  | inr later ↦ or_right (test x) (list_any test xs) (passed_by_first test count xs later)
]

-- the first element is among the first ones, where there is any
pub passed_by_head : {X : Type 0} (test : X → Bool) (count : ℕ) (xs : List X) (d : X) → 1 ≤ count → test (get_or xs 0 d) ≡ true → (xs ≡ []) ⊎ (list_any test (take count xs) ≡ true)
passed_by_head test zero xs d some passes = absurd (omega (arith, some))
passed_by_head test (suc count) [] d some passes = inl refl
passed_by_head test (suc count) (x ∷ xs) d some passes = inr (or_left (test x) (list_any test (take count xs)) passes)

-- ---- distinct elements

-- the elements before a place are apart from the one there
pub none_before : {X : Type 0} (e : X → X → Bool) → ((x y : X) → e x y ≡ true → e y x ≡ true) → (xs : List X) (i : ℕ) (d : X) → IsDistinct e xs → i < length xs → list_any (e (get_or xs i d)) (take i xs) ≡ false
none_before e flips [] i d once within = absurd (omega (arith, within))
none_before e flips (x ∷ xs) zero d once within = refl
none_before e flips (x ∷ xs) (suc i) d once within =
    let inside : i < length xs = omega (arith, within) in
    or_from _ _ (false_from_ne_true (e (get_or xs i d) x) (λ same. let apart : e x (get_or xs i d) ≡ false = at_recursion (λ y. e x y ≡ false) xs (get_or xs i d) (IsDistinct-head e x xs once) (Contains-get_or xs i d inside) in
    absurd (let is : e x (get_or xs i d) ≡ true = flips (get_or xs i d) x same in cc)))
    (none_before e flips xs i d (IsDistinct-tail e x xs once) inside)
