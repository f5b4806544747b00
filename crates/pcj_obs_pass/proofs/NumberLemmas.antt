-- A node and its number, which counts from 1.
use Rattle.std.proofs.Common.{◌≡◌, ◌≤◌, ◌-◌, ℕ, zero, suc, List, [], ◌∷◌, length, Some, IsSome, refl, ap, ◌∙◌, arith}
use Rattle.std.specs.List.{slice_get}
use Rattle.pcj_tree.specs.Meaning.{numbered}

pub counted_from_1 : {X : Type 0} (xs : List X) (number : ℕ) → IsSome (numbered xs number) → 1 ≤ number
counted_from_1 [] zero is = absurd cc
counted_from_1 (x ∷ xs) zero is = absurd cc
counted_from_1 xs (suc number) is = omega arith

pub at_most : {X : Type 0} (xs : List X) (number : ℕ) → IsSome (numbered xs number) → number ≤ length xs
at_most [] number is = absurd cc
at_most (x ∷ xs) zero is = omega arith
at_most (x ∷ xs) (suc zero) is = omega arith
at_most (x ∷ xs) (suc (suc number)) is = let less = at_most xs (suc number) is in omega (arith, less)

numbered_next : {X : Type 0} (xs : List X) (place : ℕ) → numbered xs (suc place) ≡ slice_get xs place
numbered_next [] place = refl
numbered_next (x ∷ xs) zero = refl
numbered_next (x ∷ xs) (suc place) = numbered_next xs place

-- it stands at the place before, counted from 0
pub numbered_at : {X : Type 0} (xs : List X) (number from : ℕ) (x : X) → 1 ≤ number → from ≡ number → slice_get xs (from - 1) ≡ Some x → numbered xs number ≡ Some x
numbered_at xs zero from x some same is = absurd (omega (arith, some))
numbered_at xs (suc number) from x some same is =
    numbered_next xs number ∙ ap (slice_get xs) (let e : number ≡ from - 1 = omega (arith, same) in e) ∙ is
