-- Bytes that are the same, and bytes in order.
use Rattle.std.proofs.Common.{◌≡◌, ◌≢◌, ◌↔◌, ◌⊎◌, inl, inr, ℕ, true, false, List, refl, ap, sym, ◌∙◌}
use Rattle.std.specs.Bool.{Decides}
use Rattle.std.specs.Ordering.{is_eq, is_lt, ordering_reverse}
use Rattle.std.specs.declared.cmp.Ordering.{Ordering}
use Rattle.std.specs.declared.cmp.Ordering.TheVariants.{Less, Equal, Greater}
use Rattle.std.specs.Cmp.{tied_itself, Equal-is}
use Rattle.std.proofs.lemmas.Bool.{cases_Bool, false_from_ne_true, true≢false}
use Rattle.std.proofs.lemmas.Cmp.{nat_list_cmp_total}
use Rattle.std.proofs.lemmas.Map.Text.{is_eq-slice_cmp}
use Rattle.std.proofs.lemmas.Slice.Eq.{bytes_eq-Decides}
use Rattle.pcj_term.specs.Order.{same_bytes, bytes_cmp}

pub same_bytes-Decides : (bytes other : List ℕ) → Decides (same_bytes bytes other) (bytes ≡ other)
same_bytes-Decides = bytes_eq-Decides

pub same_bytes_are : (bytes other : List ℕ) → same_bytes bytes other ≡ true → bytes ≡ other
same_bytes_are bytes other = (same_bytes-Decides bytes other).0

pub same_bytes_itself : (bytes : List ℕ) → same_bytes bytes bytes ≡ true
same_bytes_itself bytes = (same_bytes-Decides bytes bytes).1 refl

pub other_bytes : (bytes other : List ℕ) → bytes ≢ other → same_bytes bytes other ≡ false
other_bytes bytes other differs = false_from_ne_true _ (λ same. differs (same_bytes_are bytes other same))

pub bytes_cases : (bytes other : List ℕ) → (bytes ≡ other) ⊎ (bytes ≢ other)
bytes_cases bytes other = elim (cases_Bool (same_bytes bytes other)) [
  | inl same ↦ inl (same_bytes_are bytes other same)
  | inr apart ↦ inr (λ e. true≢false (sym ((same_bytes-Decides bytes other).1 e) ∙ apart))
]

-- ---- order

-- bytes are the same where neither comes first
pub is_eq-bytes_cmp : (bytes other : List ℕ) → is_eq (bytes_cmp bytes other) ≡ same_bytes bytes other
is_eq-bytes_cmp = is_eq-slice_cmp

pub bytes_cmp_itself : (bytes : List ℕ) → bytes_cmp bytes bytes ≡ Equal
bytes_cmp_itself bytes = tied_itself nat_list_cmp_total bytes

pub same_bytes_compare : (bytes other : List ℕ) → (same_bytes bytes other ≡ true) ↔ (bytes_cmp bytes other ≡ Equal)
same_bytes_compare bytes other = (
  λ same. (Equal-is (bytes_cmp bytes other)).0 (is_eq-bytes_cmp bytes other ∙ same),
  λ equal. sym (is_eq-bytes_cmp bytes other) ∙ ap is_eq equal,
)

pub equal_bytes_are : (bytes other : List ℕ) → bytes_cmp bytes other ≡ Equal → bytes ≡ other
equal_bytes_are bytes other equal = same_bytes_are bytes other ((same_bytes_compare bytes other).1 equal)

pub less_is : (order : Ordering) → is_lt order ≡ true → order ≡ Less
less_is Less e = refl
less_is Equal e = absurd cc
less_is Greater e = absurd cc

pub above_is : (bytes other : List ℕ) → bytes_cmp bytes other ≡ Less → bytes_cmp other bytes ≡ Greater
above_is bytes other less = nat_list_cmp_total.antisymm other bytes ∙ ap ordering_reverse less

pub below_is : (bytes other : List ℕ) → bytes_cmp bytes other ≡ Greater → bytes_cmp other bytes ≡ Less
below_is bytes other greater = nat_list_cmp_total.antisymm other bytes ∙ ap ordering_reverse greater
