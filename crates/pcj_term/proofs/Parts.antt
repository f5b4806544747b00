-- The pieces that a printed term is read by: what they take from the bytes, and that they take it again.
use Rattle.std.proofs.Common.{◌≡◌, ℕ, zero, suc, ◌-◌, ◌<◌, ◌≤◌, ◌^◌, length, get_or, take, drop, Bool, true, false, ◌&&◌, cond, nat_eq, nat_le, nat_lt, ltb, List, [], ◌∷◌, ◌++◌, Option, Some, None, option_map, Result, Ok, Err, refl, ap, sym, subst, ◌∙◌, arith, decimal, IsUtf8}
use Rattle.std.specs.List.{position_or_len}
use Rattle.std.specs.Result.{result_ok}
use Rattle.std.specs.Str.{all_ascii_digits}
use Rattle.std.specs.Str.Parse.{AllDigits, ParsesUnsigned, digits_value}
use Rattle.std.proofs.lemmas.Bool.{and_parts, eqb-true, eq-eqb, ne_eqb, leb-true, le-leb, lt-leb, ltb-true, ltb-false, lt-ltb}
use Rattle.std.proofs.lemmas.Fmt.{digits_decimal, digits_value-decimal, decimal-digits_value, decimal_digit, first_decimal}
use Rattle.std.proofs.lemmas.List.Sums.{fails_before_first, passes_at_first}
use Rattle.std.proofs.lemmas.Option.{cond_some, same_Some}
use Rattle.std.proofs.lemmas.Str.{IsUtf8-from_ascii}
use Rattle.std.proofs.lemmas.Str.Parse.{parse_plain, digit_from_value}
use Rattle.pcj_term.proofs.IntegerText.{digits_tested, ascii_digits}
use Rattle.pcj_term.proofs.OptionLemmas.{bind_some}
use Rattle.pcj_term.specs.Reading.{after, before, cut, is_canonical, number_of_digits}

-- ---- one byte

pub after_takes : (byte : ℕ) (bytes rest : List ℕ) → after byte bytes ≡ Some rest → bytes ≡ byte ∷ rest
after_takes byte [] rest e = absurd cc
after_takes byte (first ∷ bytes) rest e =
    let found = cond_some (nat_eq first byte) bytes rest e in
    let same : first ≡ byte = eqb-true first byte found.0 in
    rw (same, found.1) refl

pub before_takes : (byte : ℕ) (bytes front : List ℕ) → before byte bytes ≡ Some front → bytes ≡ front ++ byte ∷ []
before_takes byte [] front e = absurd cc
before_takes byte (first ∷ []) front e =
    let found = cond_some (nat_eq first byte) [] front e in
    let same : first ≡ byte = eqb-true first byte found.0 in
    subst (λ (f : List ℕ). first ∷ [] ≡ f ++ byte ∷ []) found.1 (ap (λ (b : ℕ). b ∷ []) same)
before_takes byte (first ∷ next ∷ bytes) front e = by (before byte (next ∷ bytes)) refl (λ inner is. before_takes byte (next ∷ bytes) inner is)
  where
    by : (found : Option (List ℕ)) → before byte (next ∷ bytes) ≡ found → ((inner : List ℕ) → before byte (next ∷ bytes) ≡ Some inner → next ∷ bytes ≡ inner ++ byte ∷ []) → first ∷ next ∷ bytes ≡ front ++ byte ∷ []
    by None is later = let none = rw is at e in absurd cc
    by (Some inner) is later =
        let here = rw is at e in
        subst (λ (f : List ℕ). first ∷ next ∷ bytes ≡ f ++ byte ∷ []) (same_Some (first ∷ inner) front here) (ap (λ (t : List ℕ). first ∷ t) (later inner is))

pub before_again : (byte : ℕ) (front : List ℕ) → before byte (front ++ byte ∷ []) ≡ Some front
before_again byte [] = let same = eq-eqb byte byte refl in rw same refl
before_again byte (first ∷ []) = let same = eq-eqb byte byte refl in rw same refl
before_again byte (first ∷ next ∷ front) = let later = before_again byte (next ∷ front) in rw later refl

before_at : (byte : ℕ) (bytes : List ℕ) (last : ℕ) → length bytes ≡ suc last → before byte bytes ≡ cond (nat_eq (get_or bytes last 0) byte) (Some (take last bytes)) None
before_at byte [] last long = absurd (omega arith)
before_at byte (first ∷ []) zero long = refl
before_at byte (first ∷ []) (suc last) long = absurd (omega arith)
before_at byte (first ∷ next ∷ bytes) zero long = absurd (omega arith)
before_at byte (first ∷ next ∷ bytes) (suc last) long = ap (option_map (λ (front : List ℕ). first ∷ front)) (before_at byte (next ∷ bytes) last (omega arith)) ∙ onto (nat_eq (get_or (next ∷ bytes) last 0) byte)
  where
    onto : (v : Bool) → option_map (λ (front : List ℕ). first ∷ front) (cond v (Some (take last (next ∷ bytes))) None) ≡ cond v (Some (first ∷ take last (next ∷ bytes))) None
    onto true = refl
    onto false = refl

pub before_end : (byte : ℕ) (bytes : List ℕ) → 1 ≤ length bytes → before byte bytes ≡ cond (nat_eq (get_or bytes (length bytes - 1) 0) byte) (Some (take (length bytes - 1) bytes)) None
before_end byte bytes some = before_at byte bytes (length bytes - 1) (omega arith)

-- ---- up to a byte

pub cut_takes : (byte : ℕ) (bytes : List ℕ) (parts : List ℕ × List ℕ) → cut byte bytes ≡ Some parts → bytes ≡ parts.0 ++ byte ∷ parts.1
cut_takes byte [] parts e = absurd cc
cut_takes byte (first ∷ bytes) parts e = by (nat_eq first byte) refl (λ found is. cut_takes byte bytes found is)
  where
    by : (found : Bool) → nat_eq first byte ≡ found → ((found : List ℕ × List ℕ) → cut byte bytes ≡ Some found → bytes ≡ found.0 ++ byte ∷ found.1) → first ∷ bytes ≡ parts.0 ++ byte ∷ parts.1
    by true is later =
        let here = rw is at e in
        let same : first ≡ byte = eqb-true first byte is in
        subst (λ (p : List ℕ × List ℕ). first ∷ bytes ≡ p.0 ++ byte ∷ p.1) (same_Some ([], bytes) parts here) (ap (λ (b : ℕ). b ∷ bytes) same)
    by false is later =
        let there = rw is at e in
        let found = bind_some (cut byte bytes) (λ p. Some (first ∷ p.0, p.1)) parts there in
        let same = same_Some (first ∷ found.0.0, found.0.1) parts found.2 in
        subst (λ (p : List ℕ × List ℕ). first ∷ bytes ≡ p.0 ++ byte ∷ p.1) same (ap (λ (t : List ℕ). first ∷ t) (later found.0 found.1))

-- a letter isn't among digits
pub cut_digits : (byte : ℕ) (digits rest : List ℕ) → 57 < byte → AllDigits 10 digits → cut byte (digits ++ byte ∷ rest) ≡ Some (digits, rest)
cut_digits byte [] rest high all = let same = eq-eqb byte byte refl in rw same refl
cut_digits byte (first ∷ digits) rest high all =
    let other = ne_eqb first byte (λ e. omega (arith, digit_from_value first all.0, e)) in
    let later = cut_digits byte digits rest high all.1 in
    rw (other, later) refl

cut_nowhere : (byte : ℕ) (bytes : List ℕ) → ((k : ℕ) → k < length bytes → nat_eq (get_or bytes k 0) byte ≡ false) → cut byte bytes ≡ None
cut_nowhere byte [] none = refl
cut_nowhere byte (first ∷ bytes) none =
    let other = none 0 (omega arith) in
    let later = cut_nowhere byte bytes (λ k lt. none (suc k) (omega arith)) in
    rw (other, later) refl

cut_here : (byte : ℕ) (bytes : List ℕ) (at : ℕ) → at < length bytes → nat_eq (get_or bytes at 0) byte ≡ true → ((k : ℕ) → k < at → nat_eq (get_or bytes k 0) byte ≡ false) → (rest : List ℕ) → after byte (drop at bytes) ≡ Some rest → cut byte bytes ≡ Some (take at bytes, rest)
cut_here byte [] at within here none rest e = absurd (omega arith)
cut_here byte (first ∷ bytes) zero within here none rest e =
    let found = cond_some (nat_eq first byte) bytes rest e in
    rw (here, found.1) refl
cut_here byte (first ∷ bytes) (suc at) within here none rest e =
    let other = none 0 (omega arith) in
    let later = cut_here byte bytes at (omega arith) here (λ k lt. none (suc k) (omega arith)) rest e in
    rw (other, later) refl

-- the place of the first such byte, as `position` finds it
abbrev pub place_of : ℕ → List ℕ → ℕ
place_of byte bytes = position_or_len (λ other. nat_eq other byte) bytes

abbrev pub found_at : ℕ → List ℕ → Option ℕ
found_at byte bytes = cond (ltb (place_of byte bytes) (length bytes)) (Some (place_of byte bytes)) None

pub cut_unplaced : (byte : ℕ) (bytes : List ℕ) → found_at byte bytes ≡ None → cut byte bytes ≡ None
cut_unplaced byte bytes e = by (ltb (place_of byte bytes) (length bytes)) refl
  where
    by : (v : Bool) → ltb (place_of byte bytes) (length bytes) ≡ v → cut byte bytes ≡ None
    by true is = let some = rw is at e in absurd cc
    by false is = let past = ltb-false _ _ is in cut_nowhere byte bytes (λ k lt. fails_before_first (λ other. nat_eq other byte) bytes k 0 (omega arith))

pub cut_placed : (byte : ℕ) (bytes : List ℕ) (at : ℕ) (rest : List ℕ) → found_at byte bytes ≡ Some at → after byte (drop at bytes) ≡ Some rest → cut byte bytes ≡ Some (take at bytes, rest)
cut_placed byte bytes at rest e f =
    let found = cond_some (ltb (place_of byte bytes) (length bytes)) (place_of byte bytes) at e in
    let within : place_of byte bytes < length bytes = ltb-true _ _ found.0 in
    let here = passes_at_first (λ other. nat_eq other byte) bytes 0 within in
    let first : after byte (drop (place_of byte bytes) bytes) ≡ Some rest = subst (λ (n : ℕ). after byte (drop n bytes) ≡ Some rest) (sym found.1) f in
    subst (λ (n : ℕ). cut byte bytes ≡ Some (take n bytes, rest)) found.1
    (cut_here byte bytes (place_of byte bytes) within here (λ k lt. fails_before_first (λ other. nat_eq other byte) bytes k 0 lt) rest first)

-- ---- a number

canonical_first : (d : ℕ) (ds : List ℕ) → is_canonical (d ∷ ds) ≡ true → 48 ≤ d
canonical_first d ds h = by (nat_le 49 d) (nat_eq d 48) refl refl
  where
    by : (large zero : Bool) → nat_le 49 d ≡ large → nat_eq d 48 ≡ zero → 48 ≤ d
    by true z p q = let low = leb-true 49 d p in omega arith
    by false true p q = omega (arith, eqb-true d 48 q)
    by false false p q = let none = rw (p, q) at h in absurd cc

canonical_zero : (ds : List ℕ) → is_canonical ds ≡ true → get_or ds 0 0 ≡ 48 → length ds ≡ 1
canonical_zero [] h e = absurd (omega arith)
canonical_zero (d ∷ ds) h e =
    let small : nat_le 49 d ≡ false = lt-leb 49 d (omega arith) in
    let zero = eq-eqb d 48 e in
    let alone = rw (small, zero) at h in
    omega (arith, eqb-true (length ds) 0 alone)

canonical_some : (ds : List ℕ) → is_canonical ds ≡ true → 0 < length ds
canonical_some [] h = absurd cc
canonical_some (d ∷ ds) h = omega arith

canonical_no_plus : (ds : List ℕ) → is_canonical ds ≡ true → get_or ds 0 0 ≡ 43 → ⊥
canonical_no_plus [] h e = omega arith
canonical_no_plus (d ∷ ds) h e = omega (arith, canonical_first d ds h)

canonical_large : (ds : List ℕ) → AllDigits 10 ds → 48 < get_or ds 0 0 → is_canonical ds ≡ true
canonical_large [] all large = absurd (omega arith)
canonical_large (d ∷ ds) all large =
    let low = le-leb 49 d (omega arith) in
    let high = le-leb d 57 (digit_from_value d all.0).1 in
    rw (low, high) refl

pub number_parsed : {E : Type 0} (digits : List ℕ) (r : Result ℕ E) → is_canonical digits ≡ true → ParsesUnsigned 64 10 digits r → result_ok r ≡ number_of_digits digits
unfolding number_of_digits
number_parsed {E = E} digits (Ok n) h parses =
    let is = parse_plain digits_tested {E = E} 64 digits (Ok n) parses (canonical_no_plus digits h) in
    let fits = lt-ltb _ _ is.0.2 in
    rw (h, is.0.0, fits) (ap Some is.1)
number_parsed {E = E} digits (Err e) h parses = by (all_ascii_digits digits && nat_lt (digits_value 10 digits) (2 ^ 64)) refl
  where
    by : (v : Bool) → all_ascii_digits digits && nat_lt (digits_value 10 digits) (2 ^ 64) ≡ v → None ≡ number_of_digits digits
    by true p =
        let parts = and_parts _ _ p in
        absurd (parse_plain digits_tested {E = E} 64 digits (Err e) parses (canonical_no_plus digits h) (parts.0, canonical_some digits h, ltb-true _ _ parts.1))
    by false p = rw (h, p) refl

pub number_not_canonical : (digits : List ℕ) → is_canonical digits ≡ false → None ≡ number_of_digits digits
unfolding number_of_digits
number_not_canonical digits h = rw h refl

pub number_not_text : (digits : List ℕ) → ¬ (IsUtf8 digits) → None ≡ number_of_digits digits
unfolding number_of_digits
number_not_text digits h = by (all_ascii_digits digits) (is_canonical digits) refl refl
  where
    by : (all canonical : Bool) → all_ascii_digits digits ≡ all → is_canonical digits ≡ canonical → None ≡ number_of_digits digits
    by true canonical p q = absurd (h (IsUtf8-from_ascii digits (ascii_digits digits (digits_tested.to digits p))))
    by false true p q = rw (p, q) refl
    by false false p q = rw (p, q) refl

pub number_takes : (digits : List ℕ) (n : ℕ) → number_of_digits digits ≡ Some n → (n < 2 ^ 64) × (digits ≡ decimal n) × AllDigits 10 digits
unfolding number_of_digits
number_takes digits n e =
    let found = cond_some (is_canonical digits && (all_ascii_digits digits && nat_lt (digits_value 10 digits) (2 ^ 64))) (digits_value 10 digits) n e in
    let outer = and_parts _ _ found.0 in
    let inner = and_parts _ _ outer.1 in
    let small : digits_value 10 digits < 2 ^ 64 = ltb-true _ _ inner.1 in
    let written = decimal-digits_value digits_tested digits inner.0 (canonical_some digits outer.0) (canonical_zero digits outer.0) small in
    (subst (λ (m : ℕ). m < 2 ^ 64) found.1 small, sym written ∙ ap decimal found.1, digits_tested.to digits inner.0)

canonical_decimal : (n : ℕ) → n < 2 ^ 64 → is_canonical (decimal n) ≡ true
canonical_decimal zero small = let written = decimal_digit 0 (omega arith) in rw written refl
canonical_decimal (suc n) small = canonical_large (decimal (suc n)) (digits_tested.to _ (digits_decimal digits_tested (suc n) small)) (first_decimal (suc n) (omega arith) small)

pub decimal_digits : (n : ℕ) → n < 2 ^ 64 → AllDigits 10 (decimal n)
decimal_digits n small = digits_tested.to _ (digits_decimal digits_tested n small)

pub number_again : (n : ℕ) → n < 2 ^ 64 → number_of_digits (decimal n) ≡ Some n
unfolding number_of_digits
number_again n small =
    let value : digits_value 10 (decimal n) ≡ n = digits_value-decimal digits_tested n small in
    let fits : nat_lt (digits_value 10 (decimal n)) (2 ^ 64) ≡ true = lt-ltb _ _ (omega (arith, value)) in
    rw (canonical_decimal n small, digits_decimal digits_tested n small, fits) (ap Some value)
