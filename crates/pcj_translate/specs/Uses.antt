-- Places in groups where something is wrong: groups without a pattern, variables that a filter's group doesn't have, and UNION of
-- groups with different variables.
use Rattle.std.specs.Prelude.{ℕ, Bool, true, false, not, ◌&&◌, List, [], ◌∷◌, ◌++◌, map, filter, if◌then◌else◌}
use Rattle.pcj_grammar.specs.declared.lexeme.Lexeme.{Lexeme}
use Rattle.pcj_grammar.specs.declared.terminal.Terminal.TheVariants as t
use Rattle.pcj_grammar.specs.Grammar.{Form, word, name, maybe, many, ◌▹◌, ◌or◌, Derives, is, by, one_after, left, right, without, with_it, end, again}
use Rattle.pcj_grammar.specs.Grammar as g
use Rattle.pcj_translate.specs.Term.{Scope, variable_of}
use Rattle.pcj_translate.specs.Triples.{token_of}
use Rattle.pcj_translate.specs.Group.{group_by, others_form, unions_form}
use Rattle.pcj_translate.specs.Variables.{variables_in, has_variable, same_variables}

-- ---- variables of conditions

abbrev pub value_uses : {x y : List Lexeme} → Derives (name g.Value) x y → List Lexeme
value_uses (by (left d)) = token_of d ∷ []
value_uses (by (right d)) = []

-- the tokens of the variables of a condition
abbrev mutual
  pub expr_uses : {x y : List Lexeme} → Derives (name g.Expr) x y → List Lexeme
  expr_uses (by (one_after a more)) = all_uses a ++ or_uses more

  pub or_uses : {x y : List Lexeme} → Derives (many (word t.Or ▹ name g.All)) x y → List Lexeme
  or_uses end = []
  or_uses (again (one_after d a) more) = all_uses a ++ or_uses more

  pub all_uses : {x y : List Lexeme} → Derives (name g.All) x y → List Lexeme
  all_uses (by (one_after o more)) = one_uses o ++ and_uses more

  pub and_uses : {x y : List Lexeme} → Derives (many (word t.And ▹ name g.One)) x y → List Lexeme
  and_uses end = []
  and_uses (again (one_after d o) more) = one_uses o ++ and_uses more

  pub one_uses : {x y : List Lexeme} → Derives (name g.One) x y → List Lexeme
  one_uses (by (left (one_after n (one_after p (one_after e c))))) = expr_uses e
  one_uses (by (right (left (one_after p (one_after e c))))) = expr_uses e
  one_uses (by (right (right (one_after v (one_after o w))))) = value_uses v ++ value_uses w

abbrev pub place_of : Lexeme → ℕ
place_of l = l.at

-- the places of the variables that aren't among these
abbrev pub unknown_among : Scope → List (List ℕ) → List Lexeme → List ℕ
unknown_among scope variables uses = map place_of (filter (λ l. not (has_variable variables (variable_of scope l))) uses)

-- ---- groups

abbrev pub is_bare_block : {x y : List Lexeme} → Derives (maybe (name g.Block)) x y → Bool
is_bare_block without = true
is_bare_block (with_it b) = false

-- no triple pattern and no group among these
abbrev pub are_bare : {x y : List Lexeme} → Derives others_form x y → Bool
are_bare end = true
are_bare (again (one_after (by (left o)) (one_after d b)) more) = is_bare_block b && are_bare more
are_bare (again (one_after (by (right o)) (one_after d b)) more) = false

-- the places of the braces of groups without triple pattern and group
abbrev mutual
  pub bare_groups : {x y : List Lexeme} → Derives (name g.Group) x y → List ℕ
  bare_groups (by (one_after o (one_after b (one_after others c)))) =
      (if is_bare_block b && are_bare others then place_of (token_of o) ∷ [] else []) ++ bare_others others

  pub bare_others : {x y : List Lexeme} → Derives others_form x y → List ℕ
  bare_others end = []
  bare_others (again (one_after o (one_after d b)) more) = bare_other o ++ bare_others more

  pub bare_other : {x y : List Lexeme} → Derives (name g.Other) x y → List ℕ
  bare_other (by (left o)) = []
  bare_other (by (right (one_after group unions))) = bare_groups group ++ bare_unions unions

  pub bare_unions : {x y : List Lexeme} → Derives unions_form x y → List ℕ
  bare_unions end = []
  bare_unions (again (one_after u group) more) = bare_groups group ++ bare_unions more

-- the places of variables of filters that no triple pattern has in the filter's group or in a group inside it
abbrev mutual
  pub unknown_in_group : {x y : List Lexeme} → Scope → Derives (name g.Group) x y → List ℕ
  unknown_in_group scope (by (one_after o (one_after b (one_after others c)))) = unknown_in_others scope (variables_in (group_by scope (by (one_after o (one_after b (one_after others c)))))) others

  pub unknown_in_others : {x y : List Lexeme} → Scope → List (List ℕ) → Derives others_form x y → List ℕ
  unknown_in_others scope variables end = []
  unknown_in_others scope variables (again (one_after o (one_after d b)) more) = unknown_in_other scope variables o ++ unknown_in_others scope variables more

  pub unknown_in_other : {x y : List Lexeme} → Scope → List (List ℕ) → Derives (name g.Other) x y → List ℕ
  unknown_in_other scope variables (by (left (one_after f (one_after p (one_after e c))))) = unknown_among scope variables (expr_uses e)
  unknown_in_other scope variables (by (right (one_after group unions))) = unknown_in_group scope group ++ unknown_in_unions scope unions

  pub unknown_in_unions : {x y : List Lexeme} → Scope → Derives unions_form x y → List ℕ
  unknown_in_unions scope end = []
  unknown_in_unions scope (again (one_after u group) more) = unknown_in_group scope group ++ unknown_in_unions scope more

-- the places of the words UNION whose group has other variables than those before it
abbrev pub uneven_at : Bool → Lexeme → List ℕ
uneven_at true l = []
uneven_at false l = place_of l ∷ []

abbrev mutual
  pub uneven_in_group : {x y : List Lexeme} → Scope → Derives (name g.Group) x y → List ℕ
  uneven_in_group scope (by (one_after o (one_after b (one_after others c)))) = uneven_in_others scope others

  pub uneven_in_others : {x y : List Lexeme} → Scope → Derives others_form x y → List ℕ
  uneven_in_others scope end = []
  uneven_in_others scope (again (one_after o (one_after d b)) more) = uneven_in_other scope o ++ uneven_in_others scope more

  pub uneven_in_other : {x y : List Lexeme} → Scope → Derives (name g.Other) x y → List ℕ
  uneven_in_other scope (by (left o)) = []
  uneven_in_other scope (by (right (one_after group unions))) = uneven_in_group scope group ++ uneven_in_unions scope (variables_in (group_by scope group)) unions

  pub uneven_in_unions : {x y : List Lexeme} → Scope → List (List ℕ) → Derives unions_form x y → List ℕ
  uneven_in_unions scope variables end = []
  uneven_in_unions scope variables (again (one_after u group) more) =
      uneven_at (same_variables variables (variables_in (group_by scope group))) (token_of u) ++ (uneven_in_group scope group ++ uneven_in_unions scope variables more)
