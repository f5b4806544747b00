-- Reading a key from left to right.
use Rattle.std.specs.Prelude.{ℕ, Bool, true, false, List, [], ◌∷◌, ◌==◌, ◌&&◌, nat_lt, Option, Some, None, if◌then◌else◌}
use Rattle.pcj_term.specs.Reading.{with_front}

-- The first part and what follows its end, where there is one. An escape is open after the byte 1.
abbrev pub first_part : Bool → List ℕ → Option (List ℕ × List ℕ)
first_part is_open [] = None
first_part false (byte ∷ bytes) =
    if byte == 0 then Some ([], bytes) else
    if byte == 1 then first_part true bytes else
    with_front (byte ∷ []) (first_part false bytes)
first_part true (byte ∷ bytes) =
    if byte == 1 then with_front (0 ∷ []) (first_part false bytes) else
    if byte == 2 then with_front (1 ∷ []) (first_part false bytes) else
    None

-- a byte of a part that stands for itself in a key
abbrev pub is_plain_in_key : ℕ → Bool
is_plain_in_key byte = nat_lt 1 byte

-- the first byte of a part by what stands for it in a key, and what follows that
abbrev pub key_byte : List ℕ → Option (ℕ × List ℕ)
key_byte [] = None
key_byte (byte ∷ []) = if is_plain_in_key byte then Some (byte, []) else None
key_byte (byte ∷ next ∷ bytes) =
    if is_plain_in_key byte then Some (byte, next ∷ bytes) else
    if byte == 1 && next == 1 then Some (0, bytes) else
    if byte == 1 && next == 2 then Some (1, bytes) else
    None
