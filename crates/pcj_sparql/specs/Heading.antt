-- Reading what stands around the group of a query.
use Rattle.std.specs.Prelude.{◌≡◌, Bool, true, false, List, [], ◌∷◌, ◌++◌}
use Rattle.pcj_grammar.specs.declared.lexeme.Lexeme.{Lexeme}
use Rattle.pcj_grammar.specs.declared.terminal.Terminal.{Terminal}
use Rattle.pcj_grammar.specs.declared.terminal.Terminal.TheVariants as t
use Rattle.pcj_grammar.specs.Grammar.{Form, word, name, maybe, many, ◌▹◌, ◌or◌, Derives, one_after}
use Rattle.pcj_grammar.specs.Grammar as g
use Rattle.pcj_translate.specs.Adding.{behind_one}
use Rattle.pcj_translate.specs.Triples.{token_of}
use Rattle.pcj_sparql.specs.declared.declared.Declared.{Declared}
use Rattle.pcj_sparql.specs.declared.said.Said.{Said}
use Rattle.pcj_sparql.specs.declared.said.Said.TheVariants.{Plain, Aggregate}
use Rattle.pcj_sparql.specs.Query.{is_var_token, keys_by, tail_form, tail_keys, is_with, declarations_form, declared_by, items_by, function_by, argument_by}

-- ---- one token

-- the first token: a word where there is none
abbrev pub front : List Lexeme → Lexeme
front [] = record { terminal = t.Word; at = 0; end = 0 }
front (l ∷ x) = l

abbrev pub behind_by : Bool → Lexeme → List Lexeme → List Lexeme
behind_by true l x = x
behind_by false l x = l ∷ x

abbrev pub is_distinct : Terminal → Bool
is_distinct t.Distinct = true
is_distinct _ = false

abbrev pub begins_distinct : List Lexeme → Bool
begins_distinct [] = false
begins_distinct (l ∷ x) = is_distinct l.terminal

-- what is left behind DISTINCT, where it stands at the front
abbrev pub behind_distinct : List Lexeme → List Lexeme
behind_distinct [] = []
behind_distinct (l ∷ x) = behind_by (is_distinct l.terminal) l x

abbrev pub distinct_form : Form
distinct_form = maybe (word t.Distinct)

abbrev pub is_where : Terminal → Bool
is_where t.Where = true
is_where _ = false

abbrev pub behind_where : List Lexeme → List Lexeme
behind_where [] = []
behind_where (l ∷ x) = behind_by (is_where l.terminal) l x

abbrev pub where_form : Form
where_form = maybe (word t.Where)

-- ---- declarations

abbrev pub is_prefix : Terminal → Bool
is_prefix t.Prefix = true
is_prefix _ = false

abbrev pub begins_prefix : List Lexeme → Bool
begins_prefix [] = false
begins_prefix (l ∷ x) = is_prefix l.terminal

abbrev pub declared_at : List Lexeme → Declared
declared_at x = record { namespace = front (behind_one x); iri = front (behind_one (behind_one x)) }

abbrev pub behind_declared : List Lexeme → List Lexeme
behind_declared x = behind_one (behind_one (behind_one x))

abbrev pub AddsDeclared : List Lexeme → List Lexeme → List Declared → List Declared → Type 0
AddsDeclared x z old new = (y : List Lexeme) (d : Derives declarations_form x y) → begins_prefix y ≡ false → (z ≡ y) × (new ≡ old ++ declared_by d)

-- ---- items

abbrev pub argument_form : Form
argument_form = word t.Var or word t.Star

abbrev pub aggregate_form : Form
aggregate_form = name g.Func ▹ word t.OpenParen ▹ distinct_form ▹ argument_form ▹ word t.CloseParen ▹ word t.As ▹ word t.Var ▹ word t.CloseParen

abbrev pub aggregate_by : {x y : List Lexeme} → Derives aggregate_form x y → Said
aggregate_by (one_after f (one_after p (one_after d (one_after a (one_after c (one_after s (one_after v e))))))) = Aggregate (function_by f) (is_with d) (argument_by a) (token_of v)

-- an aggregate's argument and what follows it, from its function on
abbrev pub argument_on : List Lexeme → List Lexeme
argument_on x = behind_distinct (behind_one (behind_one x))

abbrev pub aggregate_at : List Lexeme → Said
aggregate_at x = Aggregate (front x).terminal (begins_distinct (behind_one (behind_one x))) (front (argument_on x)) (front (behind_one (behind_one (behind_one (argument_on x)))))

abbrev pub behind_aggregate : List Lexeme → List Lexeme
behind_aggregate x = behind_one (behind_one (behind_one (behind_one (behind_one (argument_on x)))))

abbrev pub is_item : Terminal → Bool
is_item t.Var = true
is_item t.OpenParen = true
is_item _ = false

abbrev pub begins_item : List Lexeme → Bool
begins_item [] = false
begins_item (l ∷ x) = is_item l.terminal

abbrev pub item_by_kind : Lexeme → List Lexeme → Terminal → Said
item_by_kind l x t.OpenParen = aggregate_at x
item_by_kind l x _ = Plain l

abbrev pub item_at : List Lexeme → Said
item_at [] = Plain (front [])
item_at (l ∷ x) = item_by_kind l x l.terminal

abbrev pub behind_item_by : List Lexeme → Terminal → List Lexeme
behind_item_by x t.OpenParen = behind_aggregate x
behind_item_by x _ = x

abbrev pub behind_item : List Lexeme → List Lexeme
behind_item [] = []
behind_item (l ∷ x) = behind_item_by x l.terminal

abbrev pub AddsItems : List Lexeme → List Lexeme → List Said → List Said → Type 0
AddsItems x z old new = (y : List Lexeme) (d : Derives (many (name g.Item)) x y) → begins_item y ≡ false → (z ≡ y) × (new ≡ old ++ items_by d)

-- ---- keys

abbrev pub begins_var : List Lexeme → Bool
begins_var [] = false
begins_var (l ∷ x) = is_var_token l.terminal

abbrev pub keys_form : Form
keys_form = many (word t.Var)

abbrev pub AddsKeys : List Lexeme → List Lexeme → List Lexeme → List Lexeme → Type 0
AddsKeys x z old new = (y : List Lexeme) (d : Derives keys_form x y) → begins_var y ≡ false → (z ≡ y) × (new ≡ old ++ keys_by d)

-- the variables of `GROUP BY` at a query's end
abbrev pub ReadsKeys : List Lexeme → List Lexeme → Type 0
ReadsKeys x keys = (d : Derives tail_form x []) → keys ≡ tail_keys d
