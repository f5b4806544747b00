-- Bytes of UTF-8 are in the order of the code points that they encode.
use Rattle.std.proofs.Common.{◌≡◌, ℕ, ◌<◌, ◌≤◌, ◌+◌, ◌/◌, ◌%◌, ◌⊎◌, inl, inr, Bool, true, false, List, [], ◌∷◌, ◌++◌, refl, ap, ap₂, sym, subst, ◌∙◌, arith}
use Rattle.std.specs.Prelude.{nat_lt}
use Rattle.std.specs.Ordering.{nat_cmp}
use Rattle.std.specs.Cmp.Lexicographic.{slice_cmp}
use Rattle.std.specs.declared.cmp.Ordering.{Ordering}
use Rattle.std.specs.declared.cmp.Ordering.TheVariants.{Less, Equal, Greater}
use Rattle.std.specs.Str.{chars, is_utf8}
use Rattle.std.specs.Cmp.{nat_cmp_is}
use Rattle.std.proofs.lemmas.Bool.{cases_Bool, ltb-true, ltb-false}
use Rattle.std.proofs.lemmas.Str.{chars-encodes, IsUtf8-from_is_utf8}
use Rattle.std.proofs.lemmas.Cmp.{ranked}
use lib.Utf8.{encode, encodes}
use Rattle.pcj_term.specs.Order.{bytes_cmp}
use Rattle.pcj_term.proofs.ByteLemmas.{above_is}
use Rattle.pcj_expr.specs.CodePoints.{TextsCompareByCodePoints}

-- ---- the bytes of a code point, by how many there are

abbrev of_two : ℕ → List ℕ
of_two c = (192 + c / 64) ∷ (128 + c % 64) ∷ []

abbrev of_three : ℕ → List ℕ
of_three c = (224 + c / 4096) ∷ (128 + c / 64 % 64) ∷ (128 + c % 64) ∷ []

abbrev of_four : ℕ → List ℕ
of_four c = (240 + c / 262144) ∷ (128 + c / 4096 % 64) ∷ (128 + c / 64 % 64) ∷ (128 + c % 64) ∷ []

abbrev IsOne : ℕ → Type 0
IsOne c = (c < 128) × (encode c ≡ c ∷ [])

abbrev IsTwo : ℕ → Type 0
IsTwo c = (128 ≤ c) × (c < 2048) × (encode c ≡ of_two c)

abbrev IsThree : ℕ → Type 0
IsThree c = (2048 ≤ c) × (c < 65536) × (encode c ≡ of_three c)

abbrev IsFour : ℕ → Type 0
IsFour c = (65536 ≤ c) × (encode c ≡ of_four c)

abbrev Form : ℕ → Type 0
Form c = IsOne c ⊎ (IsTwo c ⊎ (IsThree c ⊎ IsFour c))

form : (c : ℕ) → Form c
unfolding encode
form c = by (nat_lt c 128) (nat_lt c 2048) (nat_lt c 65536) refl refl refl
  where
    by : (x y z : Bool) → nat_lt c 128 ≡ x → nat_lt c 2048 ≡ y → nat_lt c 65536 ≡ z → Form c
    by true y z e f g = inl (ltb-true c 128 e, rw e refl)
    by false true z e f g = inr (inl (ltb-false c 128 e, ltb-true c 2048 f, rw (e, f) refl))
    by false false true e f g = inr (inr (inl (ltb-false c 2048 f, ltb-true c 65536 g, rw (e, f, g) refl)))
    by false false false e f g = inr (inr (inr (ltb-false c 65536 g, rw (e, f, g) refl)))

-- ---- a code point below another

less_is : (x y : ℕ) → x < y → nat_cmp x y ≡ Less
less_is x y less = sym (nat_cmp_is x y Less less)

-- the first bytes decide where they differ
first_less : (x y : ℕ) (r t : List ℕ) → x < y → bytes_cmp (x ∷ r) (y ∷ t) ≡ Less
first_less x y r t less = rw (less_is x y less) refl

-- and else what comes after them
then_less : (x y : ℕ) (r t : List ℕ) → x ≤ y → (x ≡ y → bytes_cmp r t ≡ Less) → bytes_cmp (x ∷ r) (y ∷ t) ≡ Less
then_less x y r t most later = elim (cases_Bool (nat_lt x y)) [
  | inl less ↦ first_less x y r t (ltb-true x y less)
  | inr not_less ↦
      let least : y ≤ x = ltb-false x y not_less in
      let same : x ≡ y = omega (arith, most, least) in
      rw (sym (nat_cmp_is x y Equal same)) (later same)
]

abbrev IsLess : ℕ → ℕ → Type 0
IsLess c d = (r t : List ℕ) → bytes_cmp (encode c ++ r) (encode d ++ t) ≡ Less

two_less : (c d : ℕ) → c < d → (r t : List ℕ) → bytes_cmp (of_two c ++ r) (of_two d ++ t) ≡ Less
two_less c d less r t =
    then_less (192 + c / 64) (192 + d / 64) ((128 + c % 64) ∷ r) ((128 + d % 64) ∷ t) (omega (arith, less)) (λ e.
    first_less (128 + c % 64) (128 + d % 64) r t (omega (arith, less, e)))

three_less : (c d : ℕ) → c < d → (r t : List ℕ) → bytes_cmp (of_three c ++ r) (of_three d ++ t) ≡ Less
three_less c d less r t =
    then_less (224 + c / 4096) (224 + d / 4096) ((128 + c / 64 % 64) ∷ (128 + c % 64) ∷ r) ((128 + d / 64 % 64) ∷ (128 + d % 64) ∷ t) (omega (arith, less)) (λ e.
    then_less (128 + c / 64 % 64) (128 + d / 64 % 64) ((128 + c % 64) ∷ r) ((128 + d % 64) ∷ t) (omega (arith, less, e)) (λ f.
    first_less (128 + c % 64) (128 + d % 64) r t (omega (arith, less, e, f))))

four_less : (c d : ℕ) → c < d → (r t : List ℕ) → bytes_cmp (of_four c ++ r) (of_four d ++ t) ≡ Less
four_less c d less r t =
    then_less (240 + c / 262144) (240 + d / 262144) ((128 + c / 4096 % 64) ∷ (128 + c / 64 % 64) ∷ (128 + c % 64) ∷ r) ((128 + d / 4096 % 64) ∷ (128 + d / 64 % 64) ∷ (128 + d % 64) ∷ t) (omega (arith, less)) (λ e.
    then_less (128 + c / 4096 % 64) (128 + d / 4096 % 64) ((128 + c / 64 % 64) ∷ (128 + c % 64) ∷ r) ((128 + d / 64 % 64) ∷ (128 + d % 64) ∷ t) (omega (arith, less, e)) (λ f.
    then_less (128 + c / 64 % 64) (128 + d / 64 % 64) ((128 + c % 64) ∷ r) ((128 + d % 64) ∷ t) (omega (arith, less, e, f)) (λ g.
    first_less (128 + c % 64) (128 + d % 64) r t (omega (arith, less, e, f, g)))))

one_and : (c d : ℕ) → c < d → IsOne c → Form d → IsLess c d
one_and c d less one (inl other) r t = rw (one.1, other.1) (first_less c d r t less)
one_and c d less one (inr (inl other)) r t = rw (one.1, other.2) (first_less c (192 + d / 64) r ((128 + d % 64) ∷ t) (let low = one.0 in omega (arith, low)))
one_and c d less one (inr (inr (inl other))) r t = rw (one.1, other.2) (first_less c (224 + d / 4096) r ((128 + d / 64 % 64) ∷ (128 + d % 64) ∷ t) (let low = one.0 in omega (arith, low)))
one_and c d less one (inr (inr (inr other))) r t = rw (one.1, other.1) (first_less c (240 + d / 262144) r ((128 + d / 4096 % 64) ∷ (128 + d / 64 % 64) ∷ (128 + d % 64) ∷ t) (let low = one.0 in omega (arith, low)))

two_and : (c d : ℕ) → c < d → IsTwo c → Form d → IsLess c d
two_and c d less two (inl other) r t = absurd (let low = other.0 in let high = two.0 in omega (arith, less, low, high))
two_and c d less two (inr (inl other)) r t = rw (two.2, other.2) (two_less c d less r t)
two_and c d less two (inr (inr (inl other))) r t = rw (two.2, other.2) (first_less (192 + c / 64) (224 + d / 4096) ((128 + c % 64) ∷ r) ((128 + d / 64 % 64) ∷ (128 + d % 64) ∷ t) (let low = two.1 in omega (arith, low)))
two_and c d less two (inr (inr (inr other))) r t = rw (two.2, other.1) (first_less (192 + c / 64) (240 + d / 262144) ((128 + c % 64) ∷ r) ((128 + d / 4096 % 64) ∷ (128 + d / 64 % 64) ∷ (128 + d % 64) ∷ t) (let low = two.1 in omega (arith, low)))

three_and : (c d : ℕ) → c < d → IsThree c → Form d → IsLess c d
three_and c d less three (inl other) r t = absurd (let low = other.0 in let high = three.0 in omega (arith, less, low, high))
three_and c d less three (inr (inl other)) r t = absurd (let low = other.1 in let high = three.0 in omega (arith, less, low, high))
three_and c d less three (inr (inr (inl other))) r t = rw (three.2, other.2) (three_less c d less r t)
three_and c d less three (inr (inr (inr other))) r t = rw (three.2, other.1) (first_less (224 + c / 4096) (240 + d / 262144) ((128 + c / 64 % 64) ∷ (128 + c % 64) ∷ r) ((128 + d / 4096 % 64) ∷ (128 + d / 64 % 64) ∷ (128 + d % 64) ∷ t) (let low = three.1 in omega (arith, low)))

four_and : (c d : ℕ) → c < d → IsFour c → Form d → IsLess c d
four_and c d less four (inl other) r t = absurd (let low = other.0 in let high = four.0 in omega (arith, less, low, high))
four_and c d less four (inr (inl other)) r t = absurd (let low = other.1 in let high = four.0 in omega (arith, less, low, high))
four_and c d less four (inr (inr (inl other))) r t = absurd (let low = other.1 in let high = four.0 in omega (arith, less, low, high))
four_and c d less four (inr (inr (inr other))) r t = rw (four.1, other.1) (four_less c d less r t)

encoded_less : (c d : ℕ) → c < d → IsLess c d
encoded_less c d less = elim (form c) [
  | inl one ↦ one_and c d less one (form d)
  | inr (inl two) ↦ two_and c d less two (form d)
  | inr (inr (inl three)) ↦ three_and c d less three (form d)
  | inr (inr (inr four)) ↦ four_and c d less four (form d)
]

-- ---- texts

some_bytes : (c : ℕ) (r : List ℕ) → bytes_cmp [] (encode c ++ r) ≡ Less
some_bytes c r = elim (form c) [
  | inl one ↦ rw one.1 refl
  | inr (inl two) ↦ rw two.2 refl
  | inr (inr (inl three)) ↦ rw three.2 refl
  | inr (inr (inr four)) ↦ rw four.1 refl
]

-- what both begin with makes no difference
after_front : (front r t : List ℕ) → bytes_cmp (front ++ r) (front ++ t) ≡ bytes_cmp r t
after_front [] r t = refl
after_front (x ∷ front) r t = rw (sym (nat_cmp_is x x Equal refl)) (after_front front r t)

encoded : (cs ds : List ℕ) → bytes_cmp (encodes cs) (encodes ds) ≡ slice_cmp nat_cmp cs ds
encoded [] [] = refl
encoded [] (d ∷ ds) = some_bytes d (encodes ds)
encoded (c ∷ cs) [] = above_is [] (encode c ++ encodes cs) (some_bytes c (encodes cs))
encoded (c ∷ cs) (d ∷ ds) = by (nat_cmp c d) refl (encoded cs ds)
  where
    by : (order : Ordering) → nat_cmp c d ≡ order → bytes_cmp (encodes cs) (encodes ds) ≡ slice_cmp nat_cmp cs ds →
        bytes_cmp (encodes (c ∷ cs)) (encodes (d ∷ ds)) ≡ slice_cmp nat_cmp (c ∷ cs) (d ∷ ds)
    by Less e later = rw e (encoded_less c d (ranked c d Less (sym e)) (encodes cs) (encodes ds))
    by Equal e later =
        let same : c ≡ d = ranked c d Equal (sym e) in
        rw e (subst (λ x. bytes_cmp (encode c ++ encodes cs) (encode x ++ encodes ds) ≡ slice_cmp nat_cmp cs ds) same (after_front (encode c) (encodes cs) (encodes ds) ∙ later))
    by Greater e later =
        rw e (above_is (encode d ++ encodes ds) (encode c ++ encodes cs) (encoded_less d c (ranked c d Greater (sym e)) (encodes ds) (encodes cs)))

pub texts_compare_by_code_points : TextsCompareByCodePoints
texts_compare_by_code_points text other valid other_valid =
    let first = is_chars text valid in
    let second = is_chars other other_valid in
    sym (ap₂ bytes_cmp first second) ∙ encoded (chars text) (chars other)
  where
    is_chars : (bs : List ℕ) → is_utf8 bs ≡ true → encodes (chars bs) ≡ bs
    is_chars bs valid = let known = IsUtf8-from_is_utf8 bs valid in
        subst (λ (text : List ℕ). encodes (chars text) ≡ text) known.1.1 (ap encodes (chars-encodes known.0 known.1.0))
