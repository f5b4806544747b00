-- The order of a node's variables.
use Rattle.std.specs.Prelude.{◌≡◌, ℕ, Bool, List, ◌++◌, filter}
use Rattle.std.specs.Bool.{beq}
use Rattle.std.specs.List.{Contains, list_any}
use Rattle.pcj_term.specs.Order.{bytes_cmp, same_bytes}
use Rattle.pcj_answers.specs.Ascending.{IsListOf}

-- The variables that the sibling has too, ascending by their bytes, and behind them the others, ascending.
pub record IsOrder (all sibling order : List (List ℕ)) : Type 0 where
  pub shared : List (List ℕ)
  pub others : List (List ℕ)
  pub is_order : order ≡ shared ++ others
  pub are_shared : IsListOf bytes_cmp (λ name. Contains all name × Contains sibling name) shared
  pub are_others : IsListOf bytes_cmp (λ name. Contains all name × (Contains sibling name → ⊥)) others

-- ---- how an order is made

abbrev pub has_name : List (List ℕ) → List ℕ → Bool
has_name names name = list_any (same_bytes name) names

-- the names that are among others, or those that are not
abbrev pub chosen : Bool → List (List ℕ) → List (List ℕ) → List (List ℕ)
chosen is_shared sibling names = filter (λ name. beq (has_name sibling name) is_shared) names
