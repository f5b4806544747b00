-- The clauses of a query as they are read, for its derivation.
use Rattle.std.specs.Prelude.{◌≡◌, ℕ, List, [], ◌∷◌, ◌++◌, Option, Some}
use Rattle.pcj_grammar.specs.declared.lexeme.Lexeme.{Lexeme}
use Rattle.pcj_grammar.specs.declared.fault.Refusal.{Refusal}
use Rattle.pcj_grammar.specs.declared.fault.Refusal.TheVariants as grammar
use Rattle.pcj_grammar.specs.Grammar.{name, Derives, by, one_after}
use Rattle.pcj_grammar.specs.Grammar as g
use Rattle.pcj_algebra.specs.declared.pattern.Pattern.{Pattern}
use Rattle.pcj_translate.specs.Term.{Scope}
use Rattle.pcj_translate.specs.Group.{group_by}
use Rattle.pcj_translate.specs.Grouping.{IsWithinGroup}
use Rattle.pcj_translate.specs.Triples.{token_of}
use Rattle.pcj_translate.specs.Uses.{unknown_among, bare_groups, unknown_in_group, uneven_in_group}
use Rattle.pcj_translate.specs.Variables.{variables_in}
use Rattle.pcj_translate.specs.Reading.{scope_by}
use Rattle.pcj_algebra.specs.declared.query.Query.{Query}
use Rattle.pcj_sparql.specs.declared.error.QueryRefusal.{QueryRefusal}
use Rattle.pcj_sparql.specs.declared.error.QueryRefusal.TheVariants.{Refused, Memory}
use Rattle.pcj_sparql.specs.declared.error.QueryError.{QueryError}
use Rattle.pcj_sparql.specs.declared.clauses.Clauses.{Clauses}
use Rattle.pcj_sparql.specs.declared.head.Head.{Head}
use Rattle.pcj_sparql.specs.Query.{Parts, kind_of_fault, parts_of, fault_of, IsQueryOf, items_uses, declared_by, is_with, item_by, items_by, tail_form, tail_keys}

-- what stands before the group of a query
abbrev pub IsHeadOf : {x y : List Lexeme} → Derives (name g.Query) x y → Head → Type 0
IsHeadOf (by (one_after {y = body} decls (one_after sel (one_after dis (one_after (one_after i more) (one_after {y = group} wh (one_after gr tail))))))) head =
    (head.declared ≡ declared_by decls) × (head.body.now ≡ body) × (head.select ≡ token_of sel) × (head.distinct ≡ is_with dis)
    × (head.items ≡ item_by i ∷ items_by more) × (head.group.now ≡ group)

-- the pattern and the keys of what stands behind the head
abbrev pub ReadsRest : Scope → List Lexeme → Option Pattern → List Lexeme → Type 0
ReadsRest scope x pattern keys = (y : List Lexeme) (d : Derives (name g.Group) x y) (tail : Derives tail_form y []) → IsWithinGroup 64 d → (pattern ≡ group_by scope d) × (keys ≡ tail_keys tail)

-- the parts of a query by its clauses, and what is wrong in its group
abbrev pub parts_with : Clauses → List ℕ → List ℕ → List ℕ → Parts
parts_with c bare unknown uneven = record {
  scope = scope_by c.text.now c.prefixes.now;
  declared = c.head.now.declared;
  body = c.head.now.body.now;
  select = c.head.now.select;
  distinct = c.head.now.distinct;
  items = c.head.now.items;
  keys = c.keys;
  pattern = c.pattern;
  bare = bare;
  unknown = unknown;
  uneven = uneven;
}

-- the same, but for its group
abbrev pub parts_in : Clauses → Parts
parts_in c = parts_with c [] [] []

-- the places of variables of SELECT, of aggregates and of GROUP BY that no triple pattern has
abbrev pub unknown_in : Clauses → List ℕ
unknown_in c = unknown_among (scope_by c.text.now c.prefixes.now) (variables_in c.pattern) (items_uses c.head.now.items ++ c.keys)

-- the fault of the clauses, for every derivation of their group
abbrev pub HasFault : Clauses → Option QueryError → Type 0
HasFault c fault =
    (y : List Lexeme) (d : Derives (name g.Group) c.head.now.group.now y) → IsWithinGroup 64 d
    → fault ≡ fault_of (parts_with c (bare_groups d) (unknown_in_group (scope_by c.text.now c.prefixes.now) d) (uneven_in_group (scope_by c.text.now c.prefixes.now) d))

abbrev pub IsFaultOf : Clauses → QueryRefusal → Type 0
IsFaultOf c (Refused e) = HasFault c (Some e)
IsFaultOf c Memory = Unit {0}

-- ---- what the tokens of a text of the grammar mean

abbrev pub Means : List ℕ → List Lexeme → Query → Type 0
Means text lexemes query = (d : Derives (name g.Query) lexemes []) → IsQueryOf (parts_of text d) query

abbrev pub Fails : List ℕ → List Lexeme → QueryRefusal → Type 0
Fails text lexemes (Refused e) = (d : Derives (name g.Query) lexemes []) → fault_of (parts_of text d) ≡ Some e
Fails text lexemes Memory = Unit {0}

abbrev pub by_grammar : Refusal → QueryRefusal
by_grammar (grammar.Refused fault) = Refused (record { at = fault.at; kind = kind_of_fault fault.kind })
by_grammar grammar.Memory = Memory
