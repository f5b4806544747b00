-- The query of a derivation, and what is wrong with it (SPARQL 1.1 Query, sections 4.1.1, 11.1, 16.1 and 18.2).
use Rattle.std.specs.Prelude.{◌≡◌, ℕ, ◌≤◌, ◌<◌, nat_lt, min, Bool, true, false, not, ◌&&◌, ◌||◌, List, [], ◌∷◌, ◌++◌, length, map, filter, Option, Some, None, ◌⊎◌, if◌then◌else◌}
use Rattle.std.specs.List.{list_all, list_any}
use Rattle.std.specs.Str.{is_utf8}
use Rattle.std.specs.Str.Lossy.{utf8_valid_len}
use Rattle.pcj_term.specs.Iri.{is_absolute}
use Rattle.pcj_algebra.specs.declared.pattern.Pattern.{Pattern}
use Rattle.pcj_algebra.specs.declared.query.Aggregate.{Aggregate}
use Rattle.pcj_algebra.specs.declared.query.Aggregate.TheVariants as aggregates
use Rattle.pcj_algebra.specs.declared.query.Shape.{Shape}
use Rattle.pcj_algebra.specs.declared.query.Shape.TheVariants as shapes
use Rattle.pcj_algebra.specs.declared.query.Query.{Query}
use Rattle.pcj_grammar.specs.declared.fault.Fault.{Fault}
use Rattle.pcj_grammar.specs.declared.fault.FaultKind.{FaultKind}
use Rattle.pcj_grammar.specs.declared.fault.FaultKind.TheVariants as faults
use Rattle.pcj_grammar.specs.declared.lexeme.Lexeme.{Lexeme}
use Rattle.pcj_grammar.specs.declared.terminal.Terminal.{Terminal}
use Rattle.pcj_grammar.specs.declared.terminal.Terminal.TheVariants as t
use Rattle.pcj_grammar.specs.Grammar.{Form, word, name, maybe, many, ◌▹◌, ◌or◌, Derives, is, by, one_after, left, right, without, with_it, end, again}
use Rattle.pcj_grammar.specs.Grammar as g
use Rattle.pcj_grammar.specs.Text.{IsOfGrammar, HasFault}
use Rattle.pcj_sparql.specs.declared.declared.Declared.{Declared}
use Rattle.pcj_sparql.specs.declared.said.Said.{Said}
use Rattle.pcj_sparql.specs.declared.said.Said.TheVariants as said
use Rattle.pcj_sparql.specs.declared.error.QueryError.{QueryError}
use Rattle.pcj_sparql.specs.declared.error.QueryRefusal.{QueryRefusal}
use Rattle.pcj_sparql.specs.declared.error.QueryRefusal.TheVariants.{Refused, Memory}
use Rattle.pcj_sparql.specs.declared.kind.QueryKind.{QueryKind}
use Rattle.pcj_sparql.specs.declared.kind.QueryKind.TheVariants as kinds
use Rattle.pcj_translate.specs.Term.{Declaration, Scope, source_of, prefix_of, inside_of, iri_of, namespace_of, variable_of}
use Rattle.pcj_translate.specs.Triples.{token_of}
use Rattle.pcj_translate.specs.Group.{group_by}
use Rattle.pcj_translate.specs.Variables.{variables_of, variables_in, has_variable, distinct_variables, triple_count, node_count}
use Rattle.pcj_translate.specs.Uses.{place_of, unknown_among, bare_groups, unknown_in_group, uneven_in_group}

-- ---- the parts of a query

abbrev pub declarations_form : Form
declarations_form = many (word t.Prefix ▹ word t.Namespace ▹ word t.Iri)

abbrev pub declared_by : {x y : List Lexeme} → Derives declarations_form x y → List Declared
declared_by end = []
declared_by (again (one_after p (one_after n i)) more) = record { namespace = token_of n; iri = token_of i } ∷ declared_by more

abbrev pub is_with : {f : Form} {x y : List Lexeme} → Derives (maybe f) x y → Bool
is_with without = false
is_with (with_it d) = true

abbrev pub function_by : {x y : List Lexeme} → Derives (name g.Func) x y → Terminal
function_by (by (left d)) = t.Count
function_by (by (right (left d))) = t.Sum
function_by (by (right (right (left d)))) = t.Min
function_by (by (right (right (right d)))) = t.Max

abbrev pub argument_by : {x y : List Lexeme} → Derives (word t.Var or word t.Star) x y → Lexeme
argument_by (left d) = token_of d
argument_by (right d) = token_of d

abbrev pub item_by : {x y : List Lexeme} → Derives (name g.Item) x y → Said
item_by (by (left d)) = said.Plain (token_of d)
item_by (by (right (one_after o (one_after f (one_after p (one_after d (one_after a (one_after c (one_after s (one_after v e)))))))))) =
    said.Aggregate (function_by f) (is_with d) (argument_by a) (token_of v)

abbrev pub items_by : {x y : List Lexeme} → Derives (many (name g.Item)) x y → List Said
items_by end = []
items_by (again i more) = item_by i ∷ items_by more

abbrev pub keys_by : {x y : List Lexeme} → Derives (many (word t.Var)) x y → List Lexeme
keys_by end = []
keys_by (again v more) = token_of v ∷ keys_by more

abbrev pub tail_form : Form
tail_form = maybe (word t.Group ▹ word t.By ▹ word t.Var ▹ many (word t.Var))

abbrev pub tail_keys : {x y : List Lexeme} → Derives tail_form x y → List Lexeme
tail_keys without = []
tail_keys (with_it (one_after gr (one_after b (one_after v vs)))) = token_of v ∷ keys_by vs

-- A query's parts: its text and declarations, the word SELECT, whether DISTINCT follows it, its items, the tokens behind the
-- declarations, its keys, and its pattern, if any, with the places where something is wrong in it.
pub record Parts : Type 0 where
  pub scope : Scope
  pub declared : List Declared
  pub body : List Lexeme
  pub select : Lexeme
  pub distinct : Bool
  pub items : List Said
  pub keys : List Lexeme
  pub pattern : Option Pattern
  pub bare : List ℕ
  pub unknown : List ℕ
  pub uneven : List ℕ

abbrev pub declaration_of : List ℕ → Declared → Declaration
declaration_of text d = record { prefix = prefix_of (source_of text d.namespace); iri = inside_of (source_of text d.iri) }

abbrev pub scope_of : List ℕ → List Declared → Scope
scope_of text declared = record { text = text; namespace = namespace_of (map (declaration_of text) declared) }

abbrev pub parts_by : {x y z w : List Lexeme} → List ℕ → Derives declarations_form x y → Lexeme → Bool → List Said → Derives (name g.Group) z w → List Lexeme → Parts
parts_by {y = body} text decls select distinct items group keys = record {
  scope = scope_of text (declared_by decls);
  declared = declared_by decls;
  body = body;
  select = select;
  distinct = distinct;
  items = items;
  keys = keys;
  pattern = group_by (scope_of text (declared_by decls)) group;
  bare = bare_groups group;
  unknown = unknown_in_group (scope_of text (declared_by decls)) group;
  uneven = uneven_in_group (scope_of text (declared_by decls)) group;
}

abbrev pub parts_of : {x y : List Lexeme} → List ℕ → Derives (name g.Query) x y → Parts
parts_of text (by (one_after decls (one_after sel (one_after dis (one_after (one_after i more) (one_after wh (one_after group tail))))))) =
    parts_by text decls (token_of sel) (is_with dis) (item_by i ∷ items_by more) group (tail_keys tail)

-- ---- the checks, in their order: the places where each fails

abbrev pub is_iri_token : Terminal → Bool
is_iri_token t.Iri = true
is_iri_token t.Namespace = true
is_iri_token t.Name = true
is_iri_token _ = false

abbrev pub is_name_token : Terminal → Bool
is_name_token t.Namespace = true
is_name_token t.Name = true
is_name_token _ = false

abbrev pub is_none : Option (List ℕ) → Bool
is_none None = true
is_none (Some iri) = false

-- prefixed names whose prefix isn't declared
abbrev pub undeclared : Parts → List ℕ
undeclared p = map place_of (filter (λ l. is_name_token l.terminal && is_none (iri_of p.scope l)) p.body)

abbrev pub is_relative : Option (List ℕ) → Bool
is_relative None = false
is_relative (Some iri) = not (is_absolute iri)

-- IRIs that aren't absolute, those of declarations among them
abbrev pub relative : Parts → List ℕ
relative p =
    map place_of (filter (λ l. is_relative (iri_of p.scope l)) (map (λ d. d.iri) p.declared))
    ++ map place_of (filter (λ l. is_iri_token l.terminal && is_relative (iri_of p.scope l)) p.body)

-- ---- the shape

abbrev pub are_distinct : List (List ℕ) → Bool
are_distinct [] = true
are_distinct (variable ∷ variables) = not (has_variable variables variable) && are_distinct variables

abbrev pub is_variable : Said → Bool
is_variable (said.Plain l) = true
is_variable (said.Aggregate f d a n) = false

abbrev pub said_name : Scope → Said → List ℕ
said_name scope (said.Plain l) = variable_of scope l
said_name scope (said.Aggregate f d a n) = variable_of scope n

abbrev pub item_names : Scope → List Said → List (List ℕ)
item_names scope items = map (said_name scope) items

-- the items before the last, and the last
abbrev pub all_but_last : List Said → List Said
all_but_last [] = []
all_but_last (i ∷ []) = []
all_but_last (i ∷ j ∷ rest) = i ∷ all_but_last (j ∷ rest)

abbrev pub last_item : List Said → Option Said
last_item [] = None
last_item (i ∷ []) = Some i
last_item (i ∷ j ∷ rest) = last_item (j ∷ rest)

abbrev pub is_var_token : Terminal → Bool
is_var_token t.Var = true
is_var_token _ = false

-- COUNT goes with DISTINCT, and the others without
abbrev pub suits : Terminal → Bool → Bool
suits t.Count distinct = distinct
suits t.Sum distinct = not distinct
suits t.Min distinct = not distinct
suits t.Max distinct = not distinct
suits _ distinct = false

abbrev pub is_union_token : Terminal → Bool
is_union_token t.Union = true
is_union_token _ = false

abbrev pub same_names : List (List ℕ) → List (List ℕ) → Bool
same_names names others = list_all (has_variable others) names && list_all (has_variable names) others

abbrev pub is_empty : List Lexeme → Bool
is_empty [] = true
is_empty (l ∷ ls) = false

abbrev pub is_select : Parts → Bool
is_select p = p.distinct && is_empty p.keys && list_all is_variable p.items && are_distinct (item_names p.scope p.items)

abbrev pub key_names : Parts → List (List ℕ)
key_names p = map (variable_of p.scope) p.keys

abbrev pub suits_keys : Parts → List Said → Bool
suits_keys p keys =
    not (is_empty p.keys) && list_all is_variable keys && are_distinct (item_names p.scope keys) && are_distinct (key_names p)
    && same_names (item_names p.scope keys) (key_names p)

abbrev pub is_grouping_by : Parts → List Said → Option Said → Bool
is_grouping_by p keys None = false
is_grouping_by p keys (Some (said.Plain l)) = false
is_grouping_by p keys (Some (said.Aggregate f d a n)) =
    suits_keys p keys && suits f d && is_var_token a.terminal
    && not (has_variable (variables_in p.pattern) (variable_of p.scope n)) && not (has_variable (item_names p.scope keys) (variable_of p.scope n))
    && not (list_any (λ l. is_union_token l.terminal) p.body)

abbrev pub is_grouping : Parts → Bool
is_grouping p = is_grouping_by p (all_but_last p.items) (last_item p.items)

abbrev pub misshapen : Parts → List ℕ
misshapen p = if is_select p || is_grouping p then [] else place_of p.select ∷ []

-- ---- variables and sizes

abbrev pub said_uses : Said → List Lexeme
said_uses (said.Plain l) = l ∷ []
said_uses (said.Aggregate f d a n) = a ∷ []

abbrev pub items_uses : List Said → List Lexeme
items_uses [] = []
items_uses (i ∷ rest) = said_uses i ++ items_uses rest

abbrev pub unknown : Parts → List ℕ
unknown p = unknown_among p.scope (variables_in p.pattern) (items_uses p.items ++ p.keys) ++ p.unknown

abbrev pub is_large : Pattern → Bool
is_large pattern = nat_lt 16 (triple_count pattern) || nat_lt 32 (length (distinct_variables (variables_of pattern))) || nat_lt 128 (node_count pattern)

abbrev pub is_large_pattern : Option Pattern → Bool
is_large_pattern None = false
is_large_pattern (Some pattern) = is_large pattern

abbrev pub too_large : Parts → List ℕ
too_large p = if is_large_pattern p.pattern then place_of p.select ∷ [] else []

-- ---- the first check that fails, at its lowest place

abbrev pub lowest : ℕ → List ℕ → ℕ
lowest place [] = place
lowest place (other ∷ places) = lowest (min place other) places

abbrev pub failing : QueryKind → List ℕ → Option QueryError → Option QueryError
failing kind [] later = later
failing kind (place ∷ places) later = Some (record { at = lowest place places; kind = kind })

abbrev pub fault_of : Parts → Option QueryError
fault_of p =
    failing kinds.UnknownPrefix (undeclared p)
    (failing kinds.OutOfProfile (relative p)
    (failing kinds.OutOfProfile (misshapen p)
    (failing kinds.OutOfProfile p.bare
    (failing kinds.UnknownVariable (unknown p)
    (failing kinds.UnionVariables p.uneven
    (failing kinds.TooLarge (too_large p) None))))))

-- ---- the query

abbrev pub aggregate_of : Terminal → Aggregate
aggregate_of t.Sum = aggregates.Sum
aggregate_of t.Min = aggregates.Min
aggregate_of t.Max = aggregates.Max
aggregate_of _ = aggregates.Count

abbrev pub shape_by : Scope → List Said → List Said → Option Said → Shape
shape_by scope all keys None = shapes.Distinct (item_names scope all)
shape_by scope all keys (Some (said.Plain l)) = shapes.Distinct (item_names scope all)
shape_by scope all keys (Some (said.Aggregate f d a n)) = shapes.Group (item_names scope keys) (aggregate_of f) (variable_of scope a) (variable_of scope n)

abbrev pub shape_of : Parts → Shape
shape_of p = shape_by p.scope p.items (all_but_last p.items) (last_item p.items)

-- the query of a derivation that no check fails
abbrev pub IsQueryOf : Parts → Query → Type 0
IsQueryOf p q = (fault_of p ≡ None) × (q.shape ≡ shape_of p) × (p.pattern ≡ Some q.pattern)

-- ---- texts

-- Bytes are a query's text: short enough, in UTF-8, of the grammar, and no check fails.
pub record QueryText (text : List ℕ) (query : Query) : Type 0 where
  pub short : length text ≤ 65536
  pub utf8 : is_utf8 text ≡ true
  pub lexemes : List Lexeme
  pub reads : IsOfGrammar text lexemes
  pub derivation : Derives (name g.Query) lexemes []
  pub query_is : IsQueryOf (parts_of text derivation) query

abbrev pub kind_of_fault : FaultKind → QueryKind
kind_of_fault faults.Syntax = kinds.Syntax
kind_of_fault faults.OutOfProfile = kinds.OutOfProfile
kind_of_fault faults.TooDeep = kinds.TooLarge

abbrev pub IsTooLong : List ℕ → QueryError → Type 0
IsTooLong text e = (65536 < length text) × (e ≡ record { at = 65536; kind = kinds.TooLarge })

-- the first byte of the first sequence that isn't UTF-8
abbrev pub IsNotUtf8 : List ℕ → QueryError → Type 0
IsNotUtf8 text e = (length text ≤ 65536) × (is_utf8 text ≡ false) × (e ≡ record { at = utf8_valid_len text; kind = kinds.Syntax })

pub record IsUngrammatical (text : List ℕ) (e : QueryError) : Type 0 where
  pub short : length text ≤ 65536
  pub utf8 : is_utf8 text ≡ true
  pub fault : Fault
  pub has : HasFault text fault
  pub is_fault : e ≡ record { at = fault.at; kind = kind_of_fault fault.kind }

pub record FailsCheck (text : List ℕ) (e : QueryError) : Type 0 where
  pub short : length text ≤ 65536
  pub utf8 : is_utf8 text ≡ true
  pub lexemes : List Lexeme
  pub reads : IsOfGrammar text lexemes
  pub derivation : Derives (name g.Query) lexemes []
  pub fails : fault_of (parts_of text derivation) ≡ Some e

-- why bytes are no query's text, and where
abbrev pub QueryFault : List ℕ → QueryError → Type 0
QueryFault text e = IsTooLong text e ⊎ (IsNotUtf8 text e ⊎ (IsUngrammatical text e ⊎ FailsCheck text e))

abbrev pub Refuses : List ℕ → QueryRefusal → Type 0
Refuses text (Refused e) = QueryFault text e
Refuses text Memory = Unit {0}

-- ---- what holds of each text

abbrev pub SaysOneQuery : Type 0
SaysOneQuery = (text : List ℕ) (q r : Query) → QueryText text q → QueryText text r → q ≡ r

abbrev pub HasOneFault : Type 0
HasOneFault = (text : List ℕ) (e f : QueryError) → QueryFault text e → QueryFault text f → e ≡ f

abbrev pub IsNotBoth : Type 0
IsNotBoth = (text : List ℕ) (q : Query) (e : QueryError) → QueryText text q → QueryFault text e → ⊥

abbrev pub IsEither : Type 0
IsEither = (text : List ℕ) → ((q : Query) × QueryText text q) ⊎ ((e : QueryError) × QueryFault text e)
