-- For private contracts: how the rows of patterns are read, and what is asked of a pattern that was read.
use Rattle.std.specs.Prelude.{◌≡◌, ℕ, List, [], ◌∷◌, Option, Some, None}
use Rattle.pcj_term.specs.declared.triple.Triple.{Triple}
use Rattle.pcj_table.specs.Table.{Key}
use Rattle.pcj_encode.specs.declared.key_name.KeyName.TheVariants as named
use Rattle.pcj_encode.specs.Name.{key_of, IsRegistration, IsNode}
use Rattle.pcj_expr.specs.declared.mapping.Mapping.{Mapping}
use Rattle.pcj_algebra.specs.declared.triple_pattern.TriplePattern.{TriplePattern}
use Rattle.pcj_tree.specs.Laws.{IsTriplePattern}
use Rattle.pcj_notify.specs.declared.answer.Answer.{Answer}
use Rattle.pcj_notify.specs.declared.ask.Ask.{Ask}
use Rattle.pcj_notify.specs.declared.ask.Ask.TheVariants.{Get, Commit}
use Rattle.pcj_notify.specs.declared.task.Task.{Task}
use Rattle.pcj_notify.specs.Plans.{advance}
use Rattle.pcj_obs_pattern.specs.declared.row.PatternRow.{PatternRow}
use Rattle.pcj_obs_pattern.specs.Plan.{Meets, IsOverTriples}
use Rattle.pcj_obs_pattern.specs.Rows.{cells_of, row_parts, pattern_row}

-- the key is that of the row of this pattern
pub record IsKeyOf (registration node : ℕ) (key : List ℕ) : Type 0 where
  pub number : IsRegistration registration
  pub small : IsNode node
  pub key_is : key ≡ key_of (named.Pattern registration node)

-- these are the parts of the value of a pattern's row
pub record ArePartsOf (of : TriplePattern) (order : List (List ℕ)) (parts : List (List ℕ)) : Type 0 where
  pub valid : IsTriplePattern of
  pub parts_are : parts ≡ row_parts of order

-- this is the value of a pattern's row
pub record IsValueOf (of : TriplePattern) (order : List (List ℕ)) (value : List ℕ) : Type 0 where
  pub valid : IsTriplePattern of
  pub value_is : value ≡ pattern_row of order

-- ---- a pattern that was read

abbrev pub row_of : ℕ → ℕ → TriplePattern → List (List ℕ) → PatternRow
row_of registration node of order = record { registration = registration; node = node; pattern = of; order = order }

-- what is asked first where this is the match of a pattern: for the match's row, or to move on
abbrev pub first_ask : Task → Key → PatternRow → Option Mapping → Ask
first_ask task next row (Some mapping) = Get (key_of (named.Node row.registration row.node (cells_of row.order mapping)))
first_ask task next row None = Commit (advance task next ∷ [])

-- what is asked where the pattern meets a triple
abbrev pub MeetsAt : Task → Key → PatternRow → Triple → List Answer → Ask → Type 0
MeetsAt task next row triple answers ask = Meets task next row.registration row.node row.pattern row.order triple answers ask

-- what is asked where the pattern goes over the triples
abbrev pub OverAt : Task → PatternRow → List Answer → Ask → Type 0
OverAt task row answers ask = IsOverTriples task row.registration row.node row.pattern row.order answers ask
