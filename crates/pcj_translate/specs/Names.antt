-- Sets of names.
use Rattle.std.specs.Prelude.{◌≡◌, ℕ, List, [], ◌∷◌, ◌++◌, length, if◌then◌else◌}
use Rattle.pcj_translate.specs.Variables.{has_variable, distinct_variables}

abbrev pub with_name : List (List ℕ) → List ℕ → List (List ℕ)
with_name set name = if has_variable set name then set else set ++ name ∷ []

-- the set has the names of the list, each once
pub record IsSetOf (names set : List (List ℕ)) : Type 0 where
  pub members : (name : List ℕ) → has_variable set name ≡ has_variable names name
  pub count : length set ≡ length (distinct_variables names)

abbrev pub with_names : List (List ℕ) → List (List ℕ) → List (List ℕ)
with_names set [] = set
with_names set (name ∷ names) = with_names (with_name set name) names
