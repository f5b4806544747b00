-- A key is its parts one after another: each ends with the byte 0, and what it has of 0 and 1 is escaped.
use Rattle.std.specs.Prelude.{◌≡◌, ℕ, List, [], ◌∷◌, ◌++◌, Option, Some, None, if◌then◌else◌, ◌==◌}
use Rattle.std.specs.List.{flat_map}

-- a byte of a part as it stands in a key
abbrev pub byte_key : ℕ → List ℕ
byte_key byte =
    if byte == 0 then 1 ∷ 1 ∷ [] else
    if byte == 1 then 1 ∷ 2 ∷ [] else
    byte ∷ []

-- the key of a list of parts
abbrev pub key_of : List (List ℕ) → List ℕ
key_of [] = []
key_of (part ∷ parts) = flat_map byte_key part ++ 0 ∷ key_of parts

-- whether a key is split: into the parts whose key it is, or not at all where it is the key of none
abbrev pub Splits : List ℕ → Option (List (List ℕ)) → Type 0
Splits key (Some parts) = key_of parts ≡ key
Splits key None = (parts : List (List ℕ)) → key_of parts ≡ key → ⊥

-- no two lists of parts have one key
abbrev pub IsInjective : Type 0
IsInjective = (parts others : List (List ℕ)) → key_of parts ≡ key_of others → parts ≡ others
