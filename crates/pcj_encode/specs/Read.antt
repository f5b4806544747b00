-- What reading a key gives.
use Rattle.std.specs.Prelude.{◌≡◌, ℕ, List, Option, Some, None}
use Rattle.pcj_encode.specs.declared.key_name.KeyName.{KeyName}
use Rattle.pcj_encode.specs.Name.{key_of, IsName}

-- the valid name whose key the bytes are, or that there is none
abbrev pub ReadsKey : List ℕ → Option KeyName → Type 0
ReadsKey key (Some name) = IsName name × (key_of name ≡ key)
ReadsKey key None = (name : KeyName) → IsName name → key_of name ≡ key → ⊥
