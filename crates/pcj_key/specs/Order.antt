-- The order of keys is that of their parts, and what begins with a key is a range.
use Rattle.std.specs.Prelude.{◌≡◌, ◌≢◌, ◌↔◌, ℕ, ◌-◌, List, [], ◌∷◌, ◌++◌, length, take}
use Rattle.std.specs.declared.cmp.Ordering.{Ordering}
use Rattle.std.specs.Cmp.Lexicographic.{slice_cmp}
pub use Rattle.pcj_term.specs.Order.{bytes_cmp, IsBelow}
use Rattle.pcj_key.specs.Key.{key_of}

-- the order of lists of parts: the first parts that differ decide, and a list that is a front of the other comes first
abbrev pub parts_cmp : List (List ℕ) → List (List ℕ) → Ordering
parts_cmp = slice_cmp bytes_cmp

abbrev pub BeginsWith : {A : Type 0} → List A → List A → Type 0
BeginsWith front list = (rest : _) × (list ≡ front ++ rest)

-- all but the last byte
abbrev pub without_last : List ℕ → List ℕ
without_last bytes = take (length bytes - 1) bytes

-- the bytes with the last one replaced by 1
abbrev pub end_of : List ℕ → List ℕ
end_of bytes = without_last bytes ++ 1 ∷ []

-- keys compare as their lists of parts
abbrev pub KeepsOrder : Type 0
KeepsOrder = (parts others : List (List ℕ)) → bytes_cmp (key_of parts) (key_of others) ≡ parts_cmp parts others

-- bytes lie in the range of a prefix: above it less its last byte, and below its end
abbrev pub IsInRange : List ℕ → List ℕ → Type 0
IsInRange prefix bytes = IsBelow (without_last prefix) bytes × IsBelow bytes (end_of prefix)

-- Of all lists of bytes, those that begin with a key of one part or more are those in its range.
abbrev pub RangeHoldsBytes : Type 0
RangeHoldsBytes = (parts : List (List ℕ)) (bytes : List ℕ) → parts ≢ [] → BeginsWith (key_of parts) bytes ↔ IsInRange (key_of parts) bytes

-- Of all keys, those whose parts begin with these, of which there is one or more, are those in the range.
abbrev pub RangeHoldsKeys : Type 0
RangeHoldsKeys = (parts others : List (List ℕ)) → parts ≢ [] → BeginsWith parts others ↔ IsInRange (key_of parts) (key_of others)
