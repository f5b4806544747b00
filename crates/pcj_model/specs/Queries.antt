-- The registered queries, and which of them has a name.
use Rattle.std.specs.Prelude.{◌≡◌, ℕ, nat_lt, List, [], ◌∷◌, Option, None, if◌then◌else◌}
use Rattle.std.specs.List.{find}
use Rattle.pcj_term.specs.Order.{same_bytes}
use Rattle.pcj_algebra.specs.declared.query.Query.{Query}

-- a registered query: its name, its number, and itself in the standard's algebra
pub record Registration : Type 0 where
  pub name : List ℕ
  pub number : ℕ
  pub query : Query

-- the one that has a name
abbrev pub named : List ℕ → List Registration → Option Registration
named name queries = find (λ registration. same_bytes name registration.name) queries

-- one more, at its place by number, where they ascend
abbrev pub placed : Registration → List Registration → List Registration
placed registration [] = registration ∷ []
placed registration (first ∷ queries) = if nat_lt registration.number first.number then registration ∷ first ∷ queries else first ∷ placed registration queries

-- no two have one name
abbrev pub AreNamedApart : List Registration → Type 0
AreNamedApart [] = Unit {0}
AreNamedApart (first ∷ queries) = (named first.name queries ≡ None) × AreNamedApart queries
