-- The fields of a line, and what each stands for.
use Rattle.std.specs.Prelude.{◌≡◌, ◌≢◌, ℕ, List, [], ◌∷◌, ◌++◌, ◌+◌, ◌*◌, ◌<◌, length, Option, Some, None, if◌then◌else◌, ◌==◌}
use Rattle.std.specs.Char.{digit_value}

-- what a letter behind a backslash stands for: nothing, a TAB, an LF, a CR, or a backslash
abbrev pub escape_of : ℕ → Option (List ℕ)
escape_of letter =
    if letter == 101 then Some [] else
    if letter == 116 then Some (9 ∷ []) else
    if letter == 110 then Some (10 ∷ []) else
    if letter == 114 then Some (13 ∷ []) else
    if letter == 92 then Some (92 ∷ []) else
    None

-- A line has these fields. A TAB stands between two of them, an escape by number for the byte of its two hexadecimal
-- digits, and every other byte for itself.
pub data HasFields : List ℕ → List (List ℕ) → Type 0 where
  end : HasFields [] ([] ∷ [])
  tab : {line : List ℕ} {fields : List (List ℕ)} → HasFields line fields → HasFields (9 ∷ line) ([] ∷ fields)
  escape : {letter : ℕ} {piece line field : List ℕ} {fields : List (List ℕ)} → escape_of letter ≡ Some piece → HasFields line (field ∷ fields) → HasFields (92 ∷ letter ∷ line) ((piece ++ field) ∷ fields)
  number : {high low : ℕ} {line field : List ℕ} {fields : List (List ℕ)} → digit_value high < 16 → digit_value low < 16 → HasFields line (field ∷ fields) → HasFields (92 ∷ 120 ∷ high ∷ low ∷ line) (((digit_value high * 16 + digit_value low) ∷ field) ∷ fields)
  itself : {byte : ℕ} {line field : List ℕ} {fields : List (List ℕ)} → byte ≢ 9 → byte ≢ 92 → HasFields line (field ∷ fields) → HasFields (byte ∷ line) ((byte ∷ field) ∷ fields)

-- ---- how fields are read

-- a piece of a field stands at the front of a line, and the rest behind it
abbrev pub IsPiece : List ℕ → List ℕ → List ℕ → Type 0
IsPiece line piece rest = (field : List ℕ) (fields : List (List ℕ)) → HasFields rest (field ∷ fields) → HasFields line ((piece ++ field) ∷ fields)

-- a piece at the front of a line was added to a field
abbrev pub AddsPiece : List ℕ → List ℕ → List ℕ → List ℕ → Type 0
AddsPiece line old new rest = (length rest < length line) × ((piece : List ℕ) × (new ≡ old ++ piece) × IsPiece line piece rest)

-- a field was read of a line up to a TAB, or to the end
abbrev pub IsField : List ℕ → List ℕ → Option (List ℕ) → Type 0
IsField line field (Some rest) = (length rest < length line) × ((fields : List (List ℕ)) → HasFields rest fields → HasFields line (field ∷ fields))
IsField line field None = HasFields line (field ∷ [])

-- the value of a hexadecimal digit at the front of a line
abbrev pub IsDigit : List ℕ → ℕ → List ℕ → Type 0
IsDigit line value rest = (digit : ℕ) × (line ≡ digit ∷ rest) × (digit_value digit ≡ value) × (value < 16)
