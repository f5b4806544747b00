-- Values and triple patterns of derivations (SPARQL 1.1 Query, sections 4.2 and 5.1): `;` repeats the subject, `,` the subject and
-- the predicate.
use Rattle.std.specs.Prelude.{ℕ, List, [], ◌∷◌, ◌++◌, map, codes}
use Rattle.pcj_term.specs.declared.kind.Kind.{Kind}
use Rattle.pcj_term.specs.declared.kind.Kind.TheVariants.{Plain, Lang}
use Rattle.pcj_term.specs.declared.term.Term.{Term}
use Rattle.pcj_term.specs.declared.term.Term.TheVariants as terms
use Rattle.pcj_algebra.specs.declared.triple_pattern.Slot.{Slot}
use Rattle.pcj_algebra.specs.declared.triple_pattern.Slot.TheVariants.{Var, Value}
use Rattle.pcj_algebra.specs.declared.triple_pattern.TriplePattern.{TriplePattern}
use Rattle.pcj_grammar.specs.declared.lexeme.Lexeme.{Lexeme}
use Rattle.pcj_grammar.specs.declared.terminal.Terminal.TheVariants as t
use Rattle.pcj_grammar.specs.Grammar.{Form, word, name, maybe, many, ◌▹◌, ◌or◌, Derives, is, by, one_after, left, right, without, with_it, end, again}
use Rattle.pcj_grammar.specs.Grammar as g
use Rattle.pcj_translate.specs.Term.{Scope, source_of, iri_or_none, variable_of, text_of, tag_of, kind_of_datatype, integer_term}

-- the predicate `a`
abbrev pub rdf_type : List ℕ
rdf_type = codes "http://www.w3.org/1999/02/22-rdf-syntax-ns#type"

-- the token of a derivation of one word
abbrev pub token_of : {k : _} {x y : List Lexeme} → Derives (word k) x y → Lexeme
token_of (is {l = l} e) = l

abbrev pub iri_token : {x y : List Lexeme} → Derives (name g.IriName) x y → Lexeme
iri_token (by (left d)) = token_of d
iri_token (by (right (left d))) = token_of d
iri_token (by (right (right d))) = token_of d

abbrev pub kind_by : {x y : List Lexeme} → Scope → Derives (maybe (word t.Tag or word t.Datatype ▹ name g.IriName)) x y → Kind
kind_by scope without = Plain
kind_by scope (with_it (left d)) = Lang (tag_of (source_of scope.text (token_of d)))
kind_by scope (with_it (right (one_after d i))) = kind_of_datatype (iri_or_none scope (iri_token i))

abbrev pub literal_by : {x y : List Lexeme} → Scope → Derives (name g.Literal) x y → Term
literal_by scope (by (left d)) = integer_term (source_of scope.text (token_of d))
literal_by scope (by (right (one_after d suffix))) = terms.Literal (text_of (source_of scope.text (token_of d))) (kind_by scope suffix)

abbrev pub value_by : {x y : List Lexeme} → Scope → Derives (name g.Value) x y → Slot
value_by scope (by (left d)) = Var (variable_of scope (token_of d))
value_by scope (by (right (left i))) = Value (terms.Iri (iri_or_none scope (iri_token i)))
value_by scope (by (right (right l))) = Value (literal_by scope l)

abbrev pub verb_by : {x y : List Lexeme} → Scope → Derives (name g.Verb) x y → Slot
verb_by scope (by (left d)) = Var (variable_of scope (token_of d))
verb_by scope (by (right (left i))) = Value (terms.Iri (iri_or_none scope (iri_token i)))
verb_by scope (by (right (right d))) = Value (terms.Iri rdf_type)

abbrev pub more_objects : {x y : List Lexeme} → Scope → Derives (many (word t.Comma ▹ name g.Value)) x y → List Slot
more_objects scope end = []
more_objects scope (again (one_after c v) vs) = value_by scope v ∷ more_objects scope vs

abbrev pub objects_by : {x y : List Lexeme} → Scope → Derives (name g.Objects) x y → List Slot
objects_by scope (by (one_after v vs)) = value_by scope v ∷ more_objects scope vs

abbrev pub triples_of : Slot → Slot → List Slot → List TriplePattern
triples_of subject predicate objects = map (λ object. record { subject = subject; predicate = predicate; object = object }) objects

abbrev pub more_triples : {x y : List Lexeme} → Scope → Slot → Derives (many (word t.Semicolon ▹ maybe (name g.Verb ▹ name g.Objects))) x y → List TriplePattern
more_triples scope subject end = []
more_triples scope subject (again (one_after c without) more) = more_triples scope subject more
more_triples scope subject (again (one_after c (with_it (one_after v os))) more) = triples_of subject (verb_by scope v) (objects_by scope os) ++ more_triples scope subject more

abbrev pub same_triples : {x y : List Lexeme} → Scope → Derives (name g.Same) x y → List TriplePattern
same_triples scope (by (one_after s (one_after v (one_after os more)))) =
    triples_of (value_by scope s) (verb_by scope v) (objects_by scope os) ++ more_triples scope (value_by scope s) more

-- the triple patterns of a block, in the order of the text
abbrev pub block_triples : {x y : List Lexeme} → Scope → Derives (name g.Block) x y → List TriplePattern
block_triples scope (by (one_after s without)) = same_triples scope s
block_triples scope (by (one_after s (with_it (one_after d without)))) = same_triples scope s
block_triples scope (by (one_after s (with_it (one_after d (with_it b))))) = same_triples scope s ++ block_triples scope b
