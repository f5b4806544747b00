-- Bytes that stand for themselves in a key, one after another, and what follows them.
use Rattle.std.proofs.Common.{◌≡◌, ℕ, suc, ◌+◌, ◌<◌, length, take, drop, Bool, true, false, nat_eq, ne_eqb, List, [], ◌∷◌, ◌++◌, Option, Some, None, option_map, refl, ap, sym, subst, ◌∙◌, append_assoc, append-nil, arith}
use Rattle.std.specs.List.{flat_map, prefix_len}
use Rattle.std.proofs.lemmas.Bool.{ltb-true, lt-ltb}
use Rattle.std.proofs.lemmas.Option.{cond_some, same_Some}
use Rattle.pcj_term.specs.Reading.{after, with_front}
use Rattle.pcj_term.proofs.Escapes.{with_front-nil, with_front-append}
use Rattle.pcj_key.specs.Key.{byte_key}
use Rattle.pcj_key.specs.Reading.{first_part, is_plain_in_key, key_byte}
use Rattle.pcj_key.proofs.Reading.{by_byte}

not_none : (byte : ℕ) → is_plain_in_key byte ≡ true → nat_eq byte 0 ≡ false
not_none byte is = let high : 1 < byte = ltb-true 1 byte is in ne_eqb byte 0 (λ e. omega (arith, high, e))

not_one : (byte : ℕ) → is_plain_in_key byte ≡ true → nat_eq byte 1 ≡ false
not_one byte is = let high : 1 < byte = ltb-true 1 byte is in ne_eqb byte 1 (λ e. omega (arith, high, e))

-- ---- in a key that is written

key_front : (bytes : List ℕ) → flat_map byte_key bytes ≡ take (prefix_len is_plain_in_key bytes) bytes ++ flat_map byte_key (drop (prefix_len is_plain_in_key bytes) bytes)
key_front [] = refl
key_front (byte ∷ bytes) = by (is_plain_in_key byte) refl (key_front bytes)
  where
    by : (v : Bool) → is_plain_in_key byte ≡ v → flat_map byte_key bytes ≡ take (prefix_len is_plain_in_key bytes) bytes ++ flat_map byte_key (drop (prefix_len is_plain_in_key bytes) bytes) →
        flat_map byte_key (byte ∷ bytes) ≡ take (prefix_len is_plain_in_key (byte ∷ bytes)) (byte ∷ bytes) ++ flat_map byte_key (drop (prefix_len is_plain_in_key (byte ∷ bytes)) (byte ∷ bytes))
    by true is later = let one : 1 + prefix_len is_plain_in_key bytes ≡ suc (prefix_len is_plain_in_key bytes) = omega arith in rw (is, not_none byte is, not_one byte is, one) (ap (λ (t : List ℕ). byte ∷ t) later)
    by false is later = rw is refl

key_cut : (bytes plain end : List ℕ) → plain ≡ take (prefix_len is_plain_in_key bytes) bytes → end ≡ drop (prefix_len is_plain_in_key bytes) bytes → plain ++ flat_map byte_key end ≡ flat_map byte_key bytes
key_cut bytes plain end front back = rw (front, back) (sym (key_front bytes))

pub key_step : (key bytes plain end following : List ℕ) (byte : ℕ) → plain ≡ take (prefix_len is_plain_in_key bytes) bytes → end ≡ drop (prefix_len is_plain_in_key bytes) bytes → end ≡ byte ∷ following → ((key ++ plain) ++ byte_key byte) ++ flat_map byte_key following ≡ key ++ flat_map byte_key bytes
key_step key bytes plain end following byte front back parts =
    append_assoc (key ++ plain) (byte_key byte) (flat_map byte_key following)
    ∙ append_assoc key plain (byte_key byte ++ flat_map byte_key following)
    ∙ ap (λ (t : List ℕ). key ++ (plain ++ flat_map byte_key t)) (sym parts)
    ∙ ap (λ (t : List ℕ). key ++ t) (key_cut bytes plain end front back)

pub key_last : (key bytes plain end : List ℕ) → plain ≡ take (prefix_len is_plain_in_key bytes) bytes → end ≡ drop (prefix_len is_plain_in_key bytes) bytes → length end < 1 → key ++ plain ≡ key ++ flat_map byte_key bytes
key_last key bytes plain [] front back none = ap (λ (t : List ℕ). key ++ t) (sym (append-nil plain) ∙ key_cut bytes plain [] front back)
key_last key bytes plain (byte ∷ end) front back none = absurd (omega arith)

-- ---- in a key that is read

abbrev Found : Type 0
Found = Option (List ℕ × List ℕ)

plain_first : (byte : ℕ) (bytes : List ℕ) → is_plain_in_key byte ≡ true → first_part false (byte ∷ bytes) ≡ with_front (byte ∷ []) (first_part false bytes)
plain_first byte bytes is = rw (not_none byte is, not_one byte is) refl

part_front : (bytes : List ℕ) → first_part false bytes ≡ with_front (take (prefix_len is_plain_in_key bytes) bytes) (first_part false (drop (prefix_len is_plain_in_key bytes) bytes))
part_front [] = refl
part_front (byte ∷ bytes) = by (is_plain_in_key byte) refl (part_front bytes)
  where
    by : (v : Bool) → is_plain_in_key byte ≡ v → first_part false bytes ≡ with_front (take (prefix_len is_plain_in_key bytes) bytes) (first_part false (drop (prefix_len is_plain_in_key bytes) bytes)) →
        first_part false (byte ∷ bytes) ≡ with_front (take (prefix_len is_plain_in_key (byte ∷ bytes)) (byte ∷ bytes)) (first_part false (drop (prefix_len is_plain_in_key (byte ∷ bytes)) (byte ∷ bytes)))
    by true is later =
        let one : 1 + prefix_len is_plain_in_key bytes ≡ suc (prefix_len is_plain_in_key bytes) = omega arith in
        plain_first byte bytes is ∙ rw (is, one) (ap (with_front (byte ∷ [])) later ∙ sym (with_front-append (byte ∷ []) (take (prefix_len is_plain_in_key bytes) bytes) (first_part false (drop (prefix_len is_plain_in_key bytes) bytes))))
    by false is later = rw is (sym (with_front-nil (first_part false (byte ∷ bytes))))

pub part_cut : (bytes plain end : List ℕ) → plain ≡ take (prefix_len is_plain_in_key bytes) bytes → end ≡ drop (prefix_len is_plain_in_key bytes) bytes → with_front plain (first_part false end) ≡ first_part false bytes
part_cut bytes plain end front back = rw (front, back) (sym (part_front bytes))

abbrev Steps : List ℕ → ℕ × List ℕ → Type 0
Steps bytes found = (first_part false bytes ≡ with_front (found.0 ∷ []) (first_part false found.1)) × (length found.1 < length bytes)

step_is : (bytes : List ℕ) (is found : ℕ × List ℕ) → Some is ≡ Some found → Steps bytes is → Steps bytes found
step_is bytes is found same step = subst (λ (p : ℕ × List ℕ). Steps bytes p) (same_Some is found same) step

pub key_byte_step : (bytes : List ℕ) (found : ℕ × List ℕ) → key_byte bytes ≡ Some found → Steps bytes found
key_byte_step [] found = λ e. absurd cc
key_byte_step (byte ∷ []) found = λ e.
    let plain = cond_some (is_plain_in_key byte) (byte, []) found e in
    step_is (byte ∷ []) (byte, []) found (ap Some plain.1) (plain_first byte [] plain.0, omega arith)
key_byte_step (byte ∷ next ∷ bytes) found = by_byte (λ b. key_byte (b ∷ next ∷ bytes) ≡ Some found → Steps (b ∷ next ∷ bytes) found) (λ e. absurd cc) (λ e. by (nat_eq next 1) (nat_eq next 2) refl refl e) other byte
  where
    by : (one two : Bool) → nat_eq next 1 ≡ one → nat_eq next 2 ≡ two → key_byte (1 ∷ next ∷ bytes) ≡ Some found → Steps (1 ∷ next ∷ bytes) found
    by true two p q e = let there = rw p at e in step_is (1 ∷ next ∷ bytes) (0, bytes) found there (rw p refl, omega arith)
    by false true p q e = let there = rw (p, q) at e in step_is (1 ∷ next ∷ bytes) (1, bytes) found there (rw (p, q) refl, omega arith)
    by false false p q e = let none = rw (p, q) at e in absurd cc

    other : (b : ℕ) → nat_eq b 0 ≡ false → nat_eq b 1 ≡ false → 1 < b → key_byte (b ∷ next ∷ bytes) ≡ Some found → Steps (b ∷ next ∷ bytes) found
    other b p q high e =
        let is : is_plain_in_key b ≡ true = lt-ltb 1 b high in
        let there = rw is at e in
        step_is (b ∷ next ∷ bytes) (b, next ∷ bytes) found there (plain_first b (next ∷ bytes) is, omega arith)

abbrev Ends : List ℕ → Type 0
Ends bytes = first_part false bytes ≡ option_map (λ rest. ([], rest)) (after 0 bytes)

pub key_byte_end : (bytes : List ℕ) → key_byte bytes ≡ None → Ends bytes
key_byte_end [] = λ e. refl
key_byte_end (byte ∷ []) = by_byte (λ b. key_byte (b ∷ []) ≡ None → Ends (b ∷ [])) (λ e. refl) (λ e. refl) (λ b p q high e. let is : is_plain_in_key b ≡ true = lt-ltb 1 b high in let none = rw is at e in absurd cc) byte
key_byte_end (byte ∷ next ∷ bytes) = by_byte (λ b. key_byte (b ∷ next ∷ bytes) ≡ None → Ends (b ∷ next ∷ bytes)) (λ e. refl) (λ e. by (nat_eq next 1) (nat_eq next 2) refl refl e) (λ b p q high e. let is : is_plain_in_key b ≡ true = lt-ltb 1 b high in let none = rw is at e in absurd cc) byte
  where
    by : (one two : Bool) → nat_eq next 1 ≡ one → nat_eq next 2 ≡ two → key_byte (1 ∷ next ∷ bytes) ≡ None → Ends (1 ∷ next ∷ bytes)
    by true two p q e = let none = rw p at e in absurd cc
    by false true p q e = let none = rw (p, q) at e in absurd cc
    by false false p q e = rw (p, q) refl
