-- The rows of registrations stand in the order of their numbers.
use Rattle.std.proofs.Common.{◌≡◌, ◌⊎◌, inl, inr, ◌<◌, ◌/◌, ◌%◌, ◌^◌, ℕ, nat_cmp, Less, [], refl, sym, ◌∙◌, arith}
use Rattle.std.specs.declared.cmp.Ordering.{Ordering}
use Rattle.std.specs.declared.cmp.Ordering.TheVariants.{Equal, Greater}
use Rattle.std.specs.Ordering.{MatchOrdering, ordering_then}
use Rattle.std.specs.Cmp.{ranked}
use Rattle.pcj_term.specs.Order.{bytes_cmp}
use Rattle.pcj_encode.specs.declared.key_name.KeyName.TheVariants as row
use Rattle.pcj_encode.specs.Name.{IsRegistration, key_of, registration_part}
use Rattle.pcj_encode.proofs.Names.{keeps_order}

-- the first bytes that differ decide
decided : (x y : ℕ) (rest : Ordering) → ordering_then (nat_cmp x y) rest ≡ Less → (x < y) ⊎ ((x ≡ y) × (rest ≡ Less))
decided x y rest is = by (nat_cmp x y) (ranked x y (nat_cmp x y) refl) is
  where
    by : (order : Ordering) → MatchOrdering order (x < y) (x ≡ y) (y < x) → ordering_then order rest ≡ Less → (x < y) ⊎ ((x ≡ y) × (rest ≡ Less))
    by Less lt e = inl lt
    by Equal same e = inr (same, e)
    by Greater gt e = absurd cc

-- numbers that agree but for their last byte, and in that byte or in what follows
last_byte : (n m : ℕ) → n / 256 ≡ m / 256 → n % 256 < m % 256 → n < m
last_byte n m same less = omega (arith, same, less)

agree : (n m : ℕ) → n / 256 ≡ m / 256 → n % 256 ≡ m % 256 → n ≡ m
agree n m same byte = omega (arith, same, byte)

-- what is below so far is below with more bytes
later : (a b n m : ℕ) → n / 256 ≡ a → m / 256 ≡ b → a < b → n < m
later a b n m is is' less = omega (arith, is, is', less)

none_last : bytes_cmp [] [] ≡ Less → ⊥
none_last is = cc

-- the number above a byte
above : (n : ℕ) → n < 2 ^ 64 → (n / 72057594037927936 / 256 ≡ 0) × (n / 281474976710656 / 256 ≡ n / 72057594037927936) × (n / 1099511627776 / 256 ≡ n / 281474976710656) × (n / 4294967296 / 256 ≡ n / 1099511627776)
    × (n / 16777216 / 256 ≡ n / 4294967296) × (n / 65536 / 256 ≡ n / 16777216) × (n / 256 / 256 ≡ n / 65536)
above n fits = (omega (arith, fits), omega arith, omega arith, omega arith, omega arith, omega arith, omega arith)

-- one byte more: either less in it or before, or the same so far and less behind
step : (n m high other : ℕ) (rest : Ordering) → n / 256 ≡ high → m / 256 ≡ other → (high < other) ⊎ ((high ≡ other) × (ordering_then (nat_cmp (n % 256) (m % 256)) rest ≡ Less)) → (n < m) ⊎ ((n ≡ m) × (rest ≡ Less))
step n m high other rest is is' (inl less) = inl (later high other n m is is' less)
step n m high other rest is is' (inr (same, e)) = by (decided (n % 256) (m % 256) rest e)
  where
    by : ((n % 256) < (m % 256)) ⊎ ((n % 256 ≡ m % 256) × (rest ≡ Less)) → (n < m) ⊎ ((n ≡ m) × (rest ≡ Less))
    by (inl less) = inl (last_byte n m (is ∙ same ∙ sym is') less)
    by (inr (byte, left)) = inr (agree n m (is ∙ same ∙ sym is') byte, left)

pub parts_in_order : (n m : ℕ) → n < 2 ^ 64 → m < 2 ^ 64 → bytes_cmp (registration_part n) (registration_part m) ≡ Less → n < m
parts_in_order n m fits fits' is =
    let a = above n fits in
    let b = above m fits' in
    let one = step (n / 72057594037927936) (m / 72057594037927936) 0 0 _ a.0 b.0 (inr (refl, is)) in
    let two = step (n / 281474976710656) (m / 281474976710656) (n / 72057594037927936) (m / 72057594037927936) _ a.1 b.1 one in
    let three = step (n / 1099511627776) (m / 1099511627776) (n / 281474976710656) (m / 281474976710656) _ a.2 b.2 two in
    let four = step (n / 4294967296) (m / 4294967296) (n / 1099511627776) (m / 1099511627776) _ a.3 b.3 three in
    let five = step (n / 16777216) (m / 16777216) (n / 4294967296) (m / 4294967296) _ a.4 b.4 four in
    let six = step (n / 65536) (m / 65536) (n / 16777216) (m / 16777216) _ a.5 b.5 five in
    let seven = step (n / 256) (m / 256) (n / 65536) (m / 65536) _ a.6 b.6 six in
    let eight = step n m (n / 256) (m / 256) _ refl refl seven in
    elim eight [ inl less ↦ less | inr left ↦ absurd (none_last left.1) ]

pub numbers_in_order : (n m : ℕ) → IsRegistration n → IsRegistration m → bytes_cmp (key_of (row.Registration n)) (key_of (row.Registration m)) ≡ Less → n < m
numbers_in_order n m fits fits' is = parts_in_order n m fits fits' (of_parts (bytes_cmp (registration_part n) (registration_part m)) (sym (keeps_order (row.Registration n) (row.Registration m)) ∙ is))
  where
    of_parts : (order : Ordering) → ordering_then order Equal ≡ Less → order ≡ Less
    of_parts Less e = refl
    of_parts Equal e = absurd cc
    of_parts Greater e = absurd cc
