-- The variables and the size of patterns.
use Rattle.std.specs.Prelude.{ℕ, ◌+◌, Bool, ◌&&◌, List, [], ◌∷◌, ◌++◌, Option, Some, None, if◌then◌else◌}
use Rattle.std.specs.List.{list_any, list_all}
use Rattle.pcj_term.specs.Order.{same_bytes}
use Rattle.pcj_algebra.specs.declared.triple_pattern.Slot.{Slot}
use Rattle.pcj_algebra.specs.declared.triple_pattern.Slot.TheVariants as slots
use Rattle.pcj_algebra.specs.declared.triple_pattern.TriplePattern.{TriplePattern}
use Rattle.pcj_algebra.specs.declared.pattern.Pattern.{Pattern, Pattern-F, fold-Pattern}
use Rattle.pcj_algebra.specs.declared.pattern.Pattern.TheOpen as open_pattern

abbrev pub slot_variables : Slot → List (List ℕ)
slot_variables (slots.Var variable) = variable ∷ []
slot_variables (slots.Value term) = []

abbrev pub triple_variables : TriplePattern → List (List ℕ)
triple_variables triple = slot_variables triple.subject ++ (slot_variables triple.predicate ++ slot_variables triple.object)

abbrev pub variables_step : Pattern-F (List (List ℕ)) → List (List ℕ)
variables_step (open_pattern.Triple triple) = triple_variables triple
variables_step (open_pattern.Join left right) = left ++ right
variables_step (open_pattern.Filter condition inner) = inner
variables_step (open_pattern.Union left right) = left ++ right

-- the variables of a pattern's triple patterns, in the order of the text, each as often as it stands there
abbrev pub variables_of : Pattern → List (List ℕ)
variables_of pattern = fold-Pattern (List (List ℕ)) variables_step pattern

abbrev pub variables_in : Option Pattern → List (List ℕ)
variables_in None = []
variables_in (Some pattern) = variables_of pattern

abbrev pub has_variable : List (List ℕ) → List ℕ → Bool
has_variable variables variable = list_any (λ other. same_bytes other variable) variables

-- each variable once
abbrev pub distinct_variables : List (List ℕ) → List (List ℕ)
distinct_variables [] = []
distinct_variables (variable ∷ variables) = if has_variable variables variable then distinct_variables variables else variable ∷ distinct_variables variables

-- two lists with the same variables
abbrev pub same_variables : List (List ℕ) → List (List ℕ) → Bool
same_variables left right = list_all (has_variable right) left && list_all (has_variable left) right

abbrev pub triples_step : Pattern-F ℕ → ℕ
triples_step (open_pattern.Triple triple) = 1
triples_step (open_pattern.Join left right) = left + right
triples_step (open_pattern.Filter condition inner) = inner
triples_step (open_pattern.Union left right) = left + right

abbrev pub triple_count : Pattern → ℕ
triple_count pattern = fold-Pattern ℕ triples_step pattern

abbrev pub nodes_step : Pattern-F ℕ → ℕ
nodes_step (open_pattern.Triple triple) = 1
nodes_step (open_pattern.Join left right) = left + right + 1
nodes_step (open_pattern.Filter condition inner) = inner + 1
nodes_step (open_pattern.Union left right) = left + right + 1

-- the nodes of a query's tree, its last one among them
abbrev pub node_count : Pattern → ℕ
node_count pattern = fold-Pattern ℕ nodes_step pattern + 1
