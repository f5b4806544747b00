-- The words of the command line.
use Rattle.std.proofs.Common.{◌≡◌, ℕ, Bool, List, [], ◌∷◌, map, length, slice_index_or, refl, ap, sym, ◌∙◌, arith}
use Rattle.std.specs.Prelude.{◌↔◌, IsTrue, nat_eq}
use Rattle.std.specs.Cmp.Lexicographic.{pointwise}
use Rattle.std.proofs.lemmas.Slice.Eq.{slice_eq-Decides}
use Rattle.std.proofs.lemmas.Bool.Decides.{Decides-eqb}

pub one_word : {X : Type 0} (f : X → List ℕ) (words : List X) (d : X) → length words ≡ 1 → map f words ≡ f (slice_index_or words 0 d) ∷ []
one_word f [] d h = absurd (omega arith)
one_word f (w ∷ []) d h = refl
one_word f (w ∷ v ∷ ws) d h = absurd (omega arith)

pub is_the_word : (words : List (List ℕ)) (word text : List ℕ) (same : Bool) → words ≡ word ∷ [] → same ≡ pointwise nat_eq word text → IsTrue same ↔ (words ≡ text ∷ [])
is_the_word words word text same one test = (
  (λ yes. one ∙ ap (λ (w : List ℕ). w ∷ []) ((slice_eq-Decides Decides-eqb word text same test).0 yes)),
  (λ e. let both : word ∷ [] ≡ text ∷ [] = sym one ∙ e in
      let is : word ≡ text = cc in
      (slice_eq-Decides Decides-eqb word text same test).1 is),
)
