-- What a reader adds, for every derivation of what it takes.
use Rattle.std.specs.Prelude.{◌≡◌, Bool, true, false, List, [], ◌∷◌, ◌++◌}
use Rattle.pcj_algebra.specs.declared.triple_pattern.Slot.{Slot}
use Rattle.pcj_algebra.specs.declared.triple_pattern.TriplePattern.{TriplePattern}
use Rattle.pcj_grammar.specs.declared.lexeme.Lexeme.{Lexeme}
use Rattle.pcj_grammar.specs.declared.terminal.Terminal.{Terminal}
use Rattle.pcj_grammar.specs.declared.terminal.Terminal.TheVariants as t
use Rattle.pcj_grammar.specs.Grammar.{Form, word, name, maybe, many, ◌▹◌, Derives, one_after, without, with_it}
use Rattle.pcj_grammar.specs.Grammar as g
use Rattle.pcj_translate.specs.Term.{Scope}
use Rattle.pcj_translate.specs.Triples.{verb_by, objects_by, triples_of, more_triples, same_triples, block_triples}
use Rattle.pcj_translate.specs.ValueReading.{value_at}

abbrev pub is_comma : Terminal → Bool
is_comma t.Comma = true
is_comma _ = false

abbrev pub begins_comma : List Lexeme → Bool
begins_comma [] = false
begins_comma (l ∷ x) = is_comma l.terminal

-- a token that goes on with none of the parts before it: no suffix of a string, and no comma
abbrev pub ends_objects : Terminal → Bool
ends_objects t.Tag = false
ends_objects t.Datatype = false
ends_objects t.Comma = false
ends_objects _ = true

abbrev pub IsPastObjects : List Lexeme → Type 0
IsPastObjects [] = Unit {0}
IsPastObjects (l ∷ x) = ends_objects l.terminal ≡ true

abbrev pub AddsObject : Scope → Slot → Slot → List Lexeme → List Lexeme → List TriplePattern → List TriplePattern → Type 0
AddsObject scope subject predicate x y old new =
    (object : Slot) × (value_at scope x ≡ (object, y)) × (new ≡ old ++ record { subject = subject; predicate = predicate; object = object } ∷ [])

abbrev pub AddsObjects : Scope → Slot → Slot → List Lexeme → List Lexeme → List TriplePattern → List TriplePattern → Type 0
AddsObjects scope subject predicate x z old new =
    (y : List Lexeme) (d : Derives (name g.Objects) x y) → IsPastObjects y → (z ≡ y) × (new ≡ old ++ triples_of subject predicate (objects_by scope d))

-- ---- a subject and what is said of it

-- what may follow it in a group
abbrev pub ends_same : Terminal → Bool
ends_same t.Dot = true
ends_same t.Filter = true
ends_same t.OpenBrace = true
ends_same t.CloseBrace = true
ends_same _ = false

abbrev pub IsPastSame : List Lexeme → Type 0
IsPastSame [] = Unit {0}
IsPastSame (l ∷ x) = ends_same l.terminal ≡ true

abbrev pub is_semicolon : Terminal → Bool
is_semicolon t.Semicolon = true
is_semicolon _ = false

abbrev pub begins_semicolon : List Lexeme → Bool
begins_semicolon [] = false
begins_semicolon (l ∷ x) = is_semicolon l.terminal

abbrev pub is_verb : Terminal → Bool
is_verb t.Var = true
is_verb t.Iri = true
is_verb t.Namespace = true
is_verb t.Name = true
is_verb t.A = true
is_verb _ = false

abbrev pub begins_verb : List Lexeme → Bool
begins_verb [] = false
begins_verb (l ∷ x) = is_verb l.terminal

abbrev pub predicate_triples : {x y : List Lexeme} → Scope → Slot → Derives (name g.Verb ▹ name g.Objects) x y → List TriplePattern
predicate_triples scope subject (one_after v os) = triples_of subject (verb_by scope v) (objects_by scope os)

abbrev pub AddsPredicate : Scope → Slot → List Lexeme → List Lexeme → List TriplePattern → List TriplePattern → Type 0
AddsPredicate scope subject x z old new =
    (y : List Lexeme) (d : Derives (name g.Verb ▹ name g.Objects) x y) → IsPastObjects y → (z ≡ y) × (new ≡ old ++ predicate_triples scope subject d)

abbrev pub AddsSame : Scope → List Lexeme → List Lexeme → List TriplePattern → List TriplePattern → Type 0
AddsSame scope x z old new = (y : List Lexeme) (d : Derives (name g.Same) x y) → IsPastSame y → (z ≡ y) × (new ≡ old ++ same_triples scope d)

abbrev pub semis_form : Form
semis_form = many (word t.Semicolon ▹ maybe (name g.Verb ▹ name g.Objects))

abbrev pub predicates_form : Form
predicates_form = name g.Verb ▹ name g.Objects ▹ semis_form

abbrev pub predicates_triples : {x y : List Lexeme} → Scope → Slot → Derives predicates_form x y → List TriplePattern
predicates_triples scope subject (one_after v (one_after os more)) = triples_of subject (verb_by scope v) (objects_by scope os) ++ more_triples scope subject more

abbrev pub AddsPredicates : Scope → Slot → List Lexeme → List Lexeme → List TriplePattern → List TriplePattern → Type 0
AddsPredicates scope subject x z old new =
    (y : List Lexeme) (d : Derives predicates_form x y) → IsPastSame y → (z ≡ y) × (new ≡ old ++ predicates_triples scope subject d)

-- ---- blocks

abbrev pub is_value : Terminal → Bool
is_value t.Var = true
is_value t.Iri = true
is_value t.Namespace = true
is_value t.Name = true
is_value t.Integer = true
is_value t.Text = true
is_value _ = false

abbrev pub begins_value : List Lexeme → Bool
begins_value [] = false
begins_value (l ∷ x) = is_value l.terminal

abbrev pub is_dot : Terminal → Bool
is_dot t.Dot = true
is_dot _ = false

abbrev pub behind_dot_by : Bool → Lexeme → List Lexeme → List Lexeme
behind_dot_by true l x = x
behind_dot_by false l x = l ∷ x

-- what is left behind a dot, where one stands at the front
abbrev pub behind_dot : List Lexeme → List Lexeme
behind_dot [] = []
behind_dot (l ∷ x) = behind_dot_by (is_dot l.terminal) l x

-- a token that may follow a block
abbrev pub ends_block : Terminal → Bool
ends_block t.Filter = true
ends_block t.OpenBrace = true
ends_block t.CloseBrace = true
ends_block _ = false

abbrev pub IsPastBlock : List Lexeme → Type 0
IsPastBlock [] = Unit {0}
IsPastBlock (l ∷ x) = ends_block l.terminal ≡ true

abbrev pub block_form : Form
block_form = maybe (name g.Block)

abbrev pub maybe_triples : {x y : List Lexeme} → Scope → Derives block_form x y → List TriplePattern
maybe_triples scope without = []
maybe_triples scope (with_it b) = block_triples scope b

abbrev pub AddsBlock : Scope → List Lexeme → List Lexeme → List TriplePattern → List TriplePattern → Type 0
AddsBlock scope x z old new =
    (y : List Lexeme) (d : Derives block_form x y) → IsPastBlock y → (z ≡ y) × (new ≡ old ++ maybe_triples scope d)

-- the tokens behind the first
abbrev pub behind_one : List Lexeme → List Lexeme
behind_one [] = []
behind_one (l ∷ x) = x
