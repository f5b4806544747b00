-- Graph patterns of derivations (SPARQL 1.1 Query, sections 5.2, 7, 17 and 18.2.2): triple patterns and inner groups are joined from
-- left to right, a chain of UNION from the left, and the filters of a group are one around the whole of it.
use Rattle.std.specs.Prelude.{List, [], ◌∷◌, Option, Some, None}
use Rattle.pcj_algebra.specs.declared.triple_pattern.TriplePattern.{TriplePattern}
use Rattle.pcj_algebra.specs.declared.pattern.Pattern.{Pattern}
use Rattle.pcj_algebra.specs.declared.pattern.Pattern.TheVariants.{Triple, Join, Filter, Union}
use Rattle.pcj_expr.specs.declared.expr.Expr.{Expr}
use Rattle.pcj_expr.specs.declared.expr.Expr.TheVariants.{And}
use Rattle.pcj_grammar.specs.declared.lexeme.Lexeme.{Lexeme}
use Rattle.pcj_grammar.specs.declared.terminal.Terminal.TheVariants as t
use Rattle.pcj_grammar.specs.Grammar.{Form, word, name, maybe, many, ◌▹◌, ◌or◌, Derives, is, by, one_after, left, right, without, with_it, end, again}
use Rattle.pcj_grammar.specs.Grammar as g
use Rattle.pcj_translate.specs.declared.content.Content.{Content}
use Rattle.pcj_translate.specs.Term.{Scope}
use Rattle.pcj_translate.specs.Triples.{block_triples}
use Rattle.pcj_translate.specs.Filter.{expr_by}

-- ---- joining

abbrev pub joined : Option Pattern → Pattern → Option Pattern
joined None pattern = Some pattern
joined (Some first) pattern = Some (Join first pattern)

abbrev pub joined_group : Option Pattern → Option Pattern → Option Pattern
joined_group first None = first
joined_group first (Some pattern) = joined first pattern

abbrev pub joined_triples : Option Pattern → List TriplePattern → Option Pattern
joined_triples first [] = first
joined_triples first (triple ∷ triples) = joined_triples (joined first (Triple triple)) triples

abbrev pub united : Option Pattern → Option Pattern → Option Pattern
united None next = next
united (Some first) None = Some first
united (Some first) (Some next) = Some (Union first next)

abbrev pub both_conditions : Option Expr → Expr → Option Expr
both_conditions None condition = Some condition
both_conditions (Some first) condition = Some (And first condition)

abbrev pub filtered : Option Expr → Option Pattern → Option Pattern
filtered None pattern = pattern
filtered (Some condition) None = None
filtered (Some condition) (Some pattern) = Some (Filter condition pattern)

abbrev pub closed : Content → Option Pattern
closed content = filtered content.condition content.pattern

abbrev pub with_triples : Content → List TriplePattern → Content
with_triples content triples = record { pattern = joined_triples content.pattern triples; condition = content.condition }

abbrev pub with_group : Content → Option Pattern → Content
with_group content group = record { pattern = joined_group content.pattern group; condition = content.condition }

abbrev pub with_condition : Content → Expr → Content
with_condition content condition = record { pattern = content.pattern; condition = both_conditions content.condition condition }

abbrev pub with_block : {x y : List Lexeme} → Scope → Content → Derives (maybe (name g.Block)) x y → Content
with_block scope content without = content
with_block scope content (with_it b) = with_triples content (block_triples scope b)

abbrev pub others_form : Form
others_form = many (name g.Other ▹ maybe (word t.Dot) ▹ maybe (name g.Block))

abbrev pub unions_form : Form
unions_form = many (word t.Union ▹ name g.Group)

-- the pattern of a group, or none where it has no triple pattern and no group
abbrev mutual
  pub group_by : {x y : List Lexeme} → Scope → Derives (name g.Group) x y → Option Pattern
  group_by scope (by (one_after o (one_after b (one_after others c)))) = closed (others_by scope (with_block scope (record { pattern = None; condition = None }) b) others)

  pub others_by : {x y : List Lexeme} → Scope → Content → Derives others_form x y → Content
  others_by scope content end = content
  others_by scope content (again (one_after o (one_after d b)) more) = others_by scope (with_block scope (other_by scope content o) b) more

  pub other_by : {x y : List Lexeme} → Scope → Content → Derives (name g.Other) x y → Content
  other_by scope content (by (left (one_after f (one_after p (one_after e c))))) = with_condition content (expr_by scope e)
  other_by scope content (by (right (one_after group unions))) = with_group content (unions_by scope (group_by scope group) unions)

  pub unions_by : {x y : List Lexeme} → Scope → Option Pattern → Derives unions_form x y → Option Pattern
  unions_by scope first end = first
  unions_by scope first (again (one_after u group) more) = unions_by scope (united first (group_by scope group)) more
