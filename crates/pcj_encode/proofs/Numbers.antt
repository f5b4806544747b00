-- A number that is read is in its range and written as the part, and a number in its range is read again.
use Rattle.std.proofs.Common.{◌≡◌, ◌≢◌, ℕ, zero, suc, ◌<◌, ◌≤◌, ◌^◌, ◌%◌, ◌/◌, true, nat_lt, ne_eqb, eq-eqb, Some, None, List, [], ◌∷◌, length, refl, ap, sym, subst, arith}
use Rattle.std.proofs.Math.ListN.{get_or}
use Rattle.std.specs.Int.{w16, w64, from_be_bytes}
use Rattle.std.proofs.lemmas.Bool.{and_parts, eqb-true, ltb-true, lt-ltb}
use Rattle.std.proofs.lemmas.Option.{cond_some}
use Rattle.std.proofs.lemmas.Nat.{be_bytes_2, be_bytes_8, from_be_bytes-to_be_bytes_2, from_be_bytes-to_be_bytes_8}
use Rattle.pcj_encode.specs.Name.{registration_part, node_part, IsRegistration, IsNode}
use Rattle.pcj_encode.specs.Reading.{are_bytes, registration_of, node_of}

abbrev AreSmall : List ℕ → Type 0
AreSmall bytes = (i : ℕ) → get_or bytes i 0 < 256

are_bytes_true : (bytes : List ℕ) → AreSmall bytes → are_bytes bytes ≡ true
are_bytes_true [] small = refl
are_bytes_true (byte ∷ bytes) small = rw (lt-ltb byte 256 (small 0)) (are_bytes_true bytes (λ i. small (suc i)))

are_small : (bytes : List ℕ) → are_bytes bytes ≡ true → AreSmall bytes
are_small [] e i = omega arith
are_small (byte ∷ bytes) e zero = ltb-true byte 256 (and_parts _ _ e).0
are_small (byte ∷ bytes) e (suc i) = are_small bytes (and_parts _ _ e).1 i

-- what is left of a division is a byte
left_over : (n : ℕ) → nat_lt (n % 256) 256 ≡ true
left_over n = lt-ltb (n % 256) 256 (omega arith)

-- ---- a registration

pub registration_read : (part : List ℕ) (n : ℕ) → 8 ≤ length part → length part < 9 → AreSmall part → n ≡ from_be_bytes w64 part → Some n ≡ registration_of part
unfolding registration_of
registration_read part n least most small is =
    rw (eq-eqb (length part) 8 (omega arith), are_bytes_true part small) (ap Some is)

pub registration_unread : (part : List ℕ) → length part ≢ 8 → None ≡ registration_of part
unfolding registration_of
registration_unread part other = rw (ne_eqb (length part) 8 other) refl

below_64 : (part : List ℕ) → AreSmall part → from_be_bytes w64 part < 2 ^ 64
below_64 part small =
    let a = small 0 in let b = small 1 in let c = small 2 in let d = small 3 in
    let e = small 4 in let f = small 5 in let g = small 6 in let h = small 7 in
    omega arith

pub registration_takes : (part : List ℕ) (n : ℕ) → registration_of part ≡ Some n → IsRegistration n × (registration_part n ≡ part)
unfolding registration_of
registration_takes part n e =
    let tested = cond_some _ (from_be_bytes w64 part) n e in
    let tests = and_parts _ _ tested.0 in
    let small = are_small part tests.1 in
    (subst (λ (m : ℕ). m < 2 ^ 64) tested.1 (below_64 part small), be_bytes_8 part n (eqb-true (length part) 8 tests.0) small (sym tested.1))

pub registration_again : (n : ℕ) → IsRegistration n → registration_of (registration_part n) ≡ Some n
unfolding registration_of
registration_again n fits =
    let bytes : are_bytes (registration_part n) ≡ true =
    rw (left_over n, left_over (n / 256), left_over (n / 65536), left_over (n / 16777216), left_over (n / 4294967296), left_over (n / 1099511627776), left_over (n / 281474976710656), left_over (n / 72057594037927936)) refl in
    rw bytes (ap Some (from_be_bytes-to_be_bytes_8 n fits))

-- ---- a node

pub node_read : (part : List ℕ) (n : ℕ) → 2 ≤ length part → length part < 3 → AreSmall part → n ≡ from_be_bytes w16 part → Some n ≡ node_of part
unfolding node_of
node_read part n least most small is =
    rw (eq-eqb (length part) 2 (omega arith), are_bytes_true part small) (ap Some is)

pub node_unread : (part : List ℕ) → length part ≢ 2 → None ≡ node_of part
unfolding node_of
node_unread part other = rw (ne_eqb (length part) 2 other) refl

below_16 : (part : List ℕ) → AreSmall part → from_be_bytes w16 part < 2 ^ 16
below_16 part small = let a = small 0 in let b = small 1 in omega arith

pub node_takes : (part : List ℕ) (n : ℕ) → node_of part ≡ Some n → IsNode n × (node_part n ≡ part)
unfolding node_of
node_takes part n e =
    let tested = cond_some _ (from_be_bytes w16 part) n e in
    let tests = and_parts _ _ tested.0 in
    let small = are_small part tests.1 in
    (subst (λ (m : ℕ). m < 2 ^ 16) tested.1 (below_16 part small), be_bytes_2 part n (eqb-true (length part) 2 tests.0) small (sym tested.1))

pub node_again : (n : ℕ) → IsNode n → node_of (node_part n) ≡ Some n
unfolding node_of
node_again n fits =
    let bytes : are_bytes (node_part n) ≡ true = rw (left_over n, left_over (n / 256)) refl in
    rw bytes (ap Some (from_be_bytes-to_be_bytes_2 n fits))
