-- What begins with a key is a range of bytes.
use Rattle.std.proofs.Common.{◌≡◌, ◌≢◌, ◌↔◌, ◌<◌, ◌-◌, ℕ, zero, suc, nat_cmp, Less, List, [], ◌∷◌, ◌++◌, length, refl, ap, ap₂, sym, subst, ◌∙◌, append_assoc, arith}
use Rattle.std.specs.List.{flat_map}
use Rattle.std.specs.declared.cmp.Ordering.{Ordering}
use Rattle.std.specs.declared.cmp.Ordering.TheVariants.{Equal, Greater}
use Rattle.std.specs.Ordering.{MatchOrdering}
use Rattle.std.specs.Cmp.{ranks, nat_cmp_is}
use Rattle.std.proofs.lemmas.List.{length-append}
use Rattle.std.proofs.Math.Seq.{take-append_seam}
use Rattle.pcj_key.specs.Key.{byte_key, key_of}
use Rattle.pcj_key.specs.Order.{IsBelow, BeginsWith, without_last, IsInRange}
use Rattle.pcj_key.proofs.Reading.{with_part}
use Rattle.pcj_key.proofs.Keys.{key_joined, rest_is_key}
use Rattle.pcj_key.proofs.Ordered.{greater}

itself : (a : ℕ) → nat_cmp a a ≡ Equal
itself a = sym (nat_cmp_is a a Equal refl)

-- bytes above some front, and below that front with the byte 1 behind it, begin with the front and the byte 0
within : (front bytes : List ℕ) → IsBelow front bytes → IsBelow bytes (front ++ 1 ∷ []) → (rest : List ℕ) × (bytes ≡ front ++ 0 ∷ rest)
within [] [] above below = absurd cc
within [] (zero ∷ bytes) above below = (bytes, refl)
within [] (suc zero ∷ []) above below = absurd cc
within [] (suc zero ∷ byte ∷ bytes) above below = absurd cc
within [] (suc (suc byte) ∷ bytes) above below =
    let high = greater (suc (suc byte)) 1 (omega arith) in
    let wrong : Greater ≡ Less = rw high at below in absurd cc
within (a ∷ front) [] above below = absurd cc
within (a ∷ front) (b ∷ bytes) above below = by (nat_cmp a b) (ranks a b) refl (within front bytes)
  where
    by : (r : Ordering) → MatchOrdering r (a < b) (a ≡ b) (b < a) → nat_cmp a b ≡ r →
        (IsBelow front bytes → IsBelow bytes (front ++ 1 ∷ []) → (rest : List ℕ) × (bytes ≡ front ++ 0 ∷ rest)) → (rest : List ℕ) × (b ∷ bytes ≡ a ∷ front ++ 0 ∷ rest)
    by Less lt e later = let wrong : Greater ≡ Less = rw (greater b a lt) at below in absurd cc
    by Equal same e later =
        let above' : IsBelow front bytes = rw e at above in
        let back : nat_cmp b a ≡ Equal = sym (nat_cmp_is b a Equal (sym same)) in
        let below' : IsBelow bytes (front ++ 1 ∷ []) = rw back at below in
        let found = later above' below' in
        (found.0, ap₂ (λ x xs. x ∷ xs) (sym same) found.1)
    by Greater lt e later = let wrong : Greater ≡ Less = rw e at above in absurd cc

above_front : (front rest : List ℕ) → IsBelow front (front ++ 0 ∷ rest)
above_front [] rest = refl
above_front (a ∷ front) rest = rw (itself a) (above_front front rest)

below_end : (front rest : List ℕ) → IsBelow (front ++ 0 ∷ rest) (front ++ 1 ∷ [])
below_end [] rest = refl
below_end (a ∷ front) rest = rw (itself a) (below_end front rest)

last_off : (front : List ℕ) (byte : ℕ) → without_last (front ++ byte ∷ []) ≡ front
last_off front byte =
    let long : length (front ++ byte ∷ []) - 1 ≡ length front = rw (length-append front (byte ∷ [])) (omega arith) in
    rw long (take-append_seam front (byte ∷ []))

-- what begins with some bytes and the byte 0 is a range
front_range : (front bytes : List ℕ) → BeginsWith (front ++ 0 ∷ []) bytes ↔ IsInRange (front ++ 0 ∷ []) bytes
front_range front bytes = rw (last_off front 0) (into, back)
  where
    into : BeginsWith (front ++ 0 ∷ []) bytes → IsBelow front bytes × IsBelow bytes (front ++ 1 ∷ [])
    into begins =
        let same : bytes ≡ front ++ 0 ∷ begins.0 = begins.1 ∙ append_assoc front (0 ∷ []) begins.0 in
        rw same (above_front front begins.0, below_end front begins.0)

    back : IsBelow front bytes × IsBelow bytes (front ++ 1 ∷ []) → BeginsWith (front ++ 0 ∷ []) bytes
    back between =
        let found = within front bytes between.0 between.1 in
        (found.0, found.1 ∙ sym (append_assoc front (0 ∷ []) found.0))

-- a key of one part or more ends with the byte 0
key_ends : (part : List ℕ) (parts : List (List ℕ)) → (front : List ℕ) × (key_of (part ∷ parts) ≡ front ++ 0 ∷ [])
key_ends part [] = (flat_map byte_key part, refl)
key_ends part (next ∷ parts) =
    let later = key_ends next parts in
    (flat_map byte_key part ++ 0 ∷ later.0, ap (with_part part) later.1 ∙ sym (append_assoc (flat_map byte_key part) (0 ∷ later.0) (0 ∷ [])))

pub holds_bytes : (parts : List (List ℕ)) (bytes : List ℕ) → parts ≢ [] → BeginsWith (key_of parts) bytes ↔ IsInRange (key_of parts) bytes
holds_bytes [] bytes some = absurd (some refl)
holds_bytes (part ∷ parts) bytes some =
    let ends = key_ends part parts in
    subst (λ key. BeginsWith key bytes ↔ IsInRange key bytes) (sym ends.1) (front_range ends.0 bytes)

-- others begin with parts exactly where the key of the others begins with that of the parts
parts_begin : (parts others : List (List ℕ)) → BeginsWith parts others ↔ BeginsWith (key_of parts) (key_of others)
parts_begin parts others = (into, back)
  where
    into : BeginsWith parts others → BeginsWith (key_of parts) (key_of others)
    into begins = (key_of begins.0, ap key_of begins.1 ∙ key_joined parts begins.0)

    back : BeginsWith (key_of parts) (key_of others) → BeginsWith parts others
    back begins = let rest = rest_is_key parts others begins.0 begins.1 in (rest.0, rest.1)

pub holds_keys : (parts others : List (List ℕ)) → parts ≢ [] → BeginsWith parts others ↔ IsInRange (key_of parts) (key_of others)
holds_keys parts others some =
    let range = holds_bytes parts (key_of others) some in
    let begins = parts_begin parts others in
    (λ p. range.0 (begins.0 p), λ r. begins.1 (range.1 r))
