-- What reading a printed term gives.
use Rattle.std.specs.Prelude.{◌≡◌, ℕ, List, Option, Some, None}
use Rattle.pcj_term.specs.declared.term.Term.{Term}
use Rattle.pcj_term.specs.Term.{printed}
use Rattle.pcj_term.specs.Valid.{IsValid}

-- the valid term whose printed form the bytes are, or that there is none
abbrev pub Reads : List ℕ → Option Term → Type 0
Reads bytes (Some term) = IsValid term × (printed term ≡ bytes)
Reads bytes None = (term : Term) → IsValid term → printed term ≡ bytes → ⊥
