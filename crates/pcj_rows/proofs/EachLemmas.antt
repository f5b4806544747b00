-- What holds of all elements of a list holds of each that it contains, and back.
use Rattle.std.proofs.Common.{◌≡◌, ◌⊎◌, inl, inr, List, [], ◌∷◌, subst}
use Rattle.std.proofs.lemmas.List.Elements.{All-cons, All-head, All-nil, All-tail}
use Rattle.std.specs.List.{All, Contains}
use Rattle.pcj_term.proofs.ListLemmas.{first_or_later, first_there, later_there, nothing_in}

pub each_of : {X : Type 0} (P : X → Type 0) (xs : List X) → ((x : X) → Contains xs x → P x) → All P xs
each_of P [] each = All-nil P
each_of P (x ∷ xs) each = All-cons P x xs (each x (first_there x xs)) (each_of P xs (λ y there. each y (later_there x xs y there)))

pub of_each : {X : Type 0} (P : X → Type 0) (xs : List X) (x : X) → All P xs → Contains xs x → P x
of_each P [] x all there = absurd (nothing_in x there)
of_each P (first ∷ xs) x all there = by (first_or_later first xs x there) (of_each P xs x (All-tail P first xs all))
  where
    by : (first ≡ x) ⊎ Contains xs x → (Contains xs x → P x) → P x
    by (inl same) rest = subst P same (All-head P first xs all)
    by (inr later) rest = rest later

-- and what follows from it, of each
pub all_map : {X : Type 0} (P Q : X → Type 0) → ((x : X) → P x → Q x) → (xs : List X) → All P xs → All Q xs
all_map P Q f [] all = All-nil Q
all_map P Q f (x ∷ xs) all = All-cons Q x xs (f x (All-head P x xs all)) (all_map P Q f xs (All-tail P x xs all))
