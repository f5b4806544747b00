-- What std parses as an i64 is what the definition says.
use Rattle.std.proofs.Common.{◌≡◌, ℕ, zero, suc, ◌<◌, ◌^◌, ◌-◌, Bool, true, false, ◌&&◌, nat_eq, List, [], ◌∷◌, Some, None, refl, ap, arith}
use Rattle.std.specs.Prelude.{ℤ, pos, negsuc, FitsSigned, Result, Ok, Err}
use Rattle.std.specs.Int.{w64}
use Rattle.std.specs.Result.{result_ok}
use Rattle.std.specs.Str.{IsUtf8, IsAscii, all_ascii_digits}
use Rattle.std.specs.Str.Parse.{AllDigits, IsNumeral, ParsesSigned, digits_value, without_leading_sign, signed_digits_value}
use Rattle.std.proofs.lemmas.Bool.{and_parts, eqb-true, ltb-true, ltb-false, lt-ltb, le-ltb, not-true, and_from}
use Rattle.std.proofs.lemmas.Str.{IsUtf8-from_ascii}
use Rattle.std.proofs.lemmas.Str.Parse.{IsNumeralModel, numerals_by_value, tells_all_ascii_digits, digit_from_value}
use Rattle.pcj_term.specs.Integer.{is_integer_text, is_i64, integer_text}

pub digits_tested : IsNumeralModel (λ ds. all_ascii_digits ds ≡ true) (digits_value 10)
digits_tested = numerals_by_value _ tells_all_ascii_digits

fits_from_test : (z : ℤ) → is_i64 z ≡ true → FitsSigned w64 z
fits_from_test (pos n) h = record { sfits = ltb-true n (2 ^ 63) h }
fits_from_test (negsuc n) h = let low = ltb-false (2 ^ 63 - 1) n (not-true _ (and_parts _ _ h).0) in record { sfits = omega (arith, low) }

test_from_fits : (z : ℤ) → FitsSigned w64 z → is_i64 z ≡ true
test_from_fits (pos n) h = lt-ltb n (2 ^ 63) h.sfits
test_from_fits (negsuc n) h = let low = le-ltb (2 ^ 63 - 1) n (omega (arith, h.sfits)) in rw low refl

numeral_from_test : (text : List ℕ) → is_integer_text text ≡ true → IsNumeral 10 (without_leading_sign text)
numeral_from_test text h =
    let parts = and_parts _ _ h in
    (ltb-true 0 _ parts.0, digits_tested.to _ parts.1)

test_from_numeral : (text : List ℕ) → IsNumeral 10 (without_leading_sign text) → is_integer_text text ≡ true
test_from_numeral text h = and_from _ _ (lt-ltb 0 _ h.0) (digits_tested.from _ h.1)

pub parsed : {E : Type 0} (text : List ℕ) (r : Result ℤ E) → ParsesSigned w64 10 text r → result_ok r ≡ integer_text text
unfolding integer_text
parsed text (Ok x) h = rw (test_from_numeral text h.0.0, test_from_fits _ h.0.1) (ap Some h.1)
parsed text (Err e) h = by (is_integer_text text && is_i64 (signed_digits_value 10 text)) refl
  where
    by : (v : Bool) → is_integer_text text && is_i64 (signed_digits_value 10 text) ≡ v → None ≡ integer_text text
    by true is = let parts = and_parts _ _ is in absurd (h (numeral_from_test text parts.0, fits_from_test _ parts.1))
    by false is = rw is refl

pub ascii_digits : (ds : List ℕ) → AllDigits 10 ds → IsAscii ds
ascii_digits [] d i = omega arith
ascii_digits (c ∷ cs) d zero = omega (arith, digit_from_value c d.0)
ascii_digits (c ∷ cs) d (suc i) = ascii_digits cs d.1 i

pub ascii_more : (c : ℕ) (cs : List ℕ) → c < 128 → IsAscii cs → IsAscii (c ∷ cs)
ascii_more c cs low h zero = low
ascii_more c cs low h (suc i) = h i

ascii_signed : (text : List ℕ) → AllDigits 10 (without_leading_sign text) → IsAscii text
ascii_signed [] d = ascii_digits [] tt
ascii_signed (c ∷ cs) d = by (nat_eq c 45) (nat_eq c 43) refl refl
  where
    by : (minus plus : Bool) → nat_eq c 45 ≡ minus → nat_eq c 43 ≡ plus → IsAscii (c ∷ cs)
    by true plus p q = let digits = rw p at d in ascii_more c cs (omega (arith, eqb-true c 45 p)) (ascii_digits cs digits)
    by false true p q = let digits = rw (p, q) at d in ascii_more c cs (omega (arith, eqb-true c 43 q)) (ascii_digits cs digits)
    by false false p q = let digits = rw (p, q) at d in ascii_digits (c ∷ cs) digits

pub not_text : (text : List ℕ) → ¬ (IsUtf8 text) → None ≡ integer_text text
unfolding integer_text
not_text text h = by (is_integer_text text) refl
  where
    by : (v : Bool) → is_integer_text text ≡ v → None ≡ integer_text text
    by true is = absurd (h (IsUtf8-from_ascii text (ascii_signed text (numeral_from_test text is).1)))
    by false is = rw is refl
