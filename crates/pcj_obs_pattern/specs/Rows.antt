-- The row of a pattern of a registered query, and the cells of a match.
use Rattle.std.specs.Prelude.{◌≡◌, ℕ, List, ◌∷◌, map}
use Rattle.std.specs.List.{All, Contains}
use Rattle.pcj_key.specs.Key as parts
use Rattle.pcj_encode.specs.declared.key_name.KeyName.TheVariants as row
use Rattle.pcj_encode.specs.Name.{key_of, IsRegistration, IsNode}
use Rattle.pcj_expr.specs.declared.mapping.Mapping.{Mapping}
use Rattle.pcj_algebra.specs.declared.triple_pattern.TriplePattern.{TriplePattern}
use Rattle.pcj_algebra.specs.Variables.{triple_names}
use Rattle.pcj_answers.specs.Rows.{terms_of, cell}
use Rattle.pcj_tree.specs.Laws.{IsTriplePattern}
use Rattle.pcj_tree.specs.Stored.{slot_part}

-- what a mapping gives the variables of an order, printed
abbrev pub cells_of : List (List ℕ) → Mapping → List (List ℕ)
cells_of order mapping = map cell (terms_of order mapping)

-- the parts of the value of a pattern's row: its slots, and the variables of its node's order
abbrev pub row_parts : TriplePattern → List (List ℕ) → List (List ℕ)
row_parts of order = slot_part of.subject ∷ slot_part of.predicate ∷ slot_part of.object ∷ order

-- the value of a pattern's row
abbrev pub pattern_row : TriplePattern → List (List ℕ) → List ℕ
pattern_row of order = parts.key_of (row_parts of order)

-- The row of a pattern of a registered query: of its node the variables stand in this order.
pub record IsPatternRow (registration node : ℕ) (of : TriplePattern) (order : List (List ℕ)) (key value : List ℕ) : Type 0 where
  pub number : IsRegistration registration
  pub small : IsNode node
  pub valid : IsTriplePattern of
  pub names : All (λ name. Contains (triple_names of) name) order
  pub key_is : key ≡ key_of (row.Pattern registration node)
  pub value_is : value ≡ pattern_row of order
