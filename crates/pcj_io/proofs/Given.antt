-- The bytes that a read from memory gives.
use Rattle.std.proofs.Common.{◌≡◌, ℕ, ◌+◌, List, ◌++◌, length, take, drop, take-append-drop, drop-drop, take_at}

-- what was left is the front that the buffer holds now, and what is left
pub given : (bytes front buf : List ℕ) (at n : ℕ) → front ≡ take n (drop at bytes) → length front ≡ n → drop at bytes ≡ take n (front ++ drop n buf) ++ drop (at + n) bytes
given bytes front buf at n is len =
    let first : take n (front ++ drop n buf) ≡ front = take_at front (drop n buf) n len in
    let rest : drop n (drop at bytes) ≡ drop (at + n) bytes = drop-drop n at bytes in
    let whole : take n (drop at bytes) ++ drop n (drop at bytes) ≡ drop at bytes = take-append-drop n (drop at bytes) in
    cc
