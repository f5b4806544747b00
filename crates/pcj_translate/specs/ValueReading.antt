-- Reading values from the front of some tokens.
use Rattle.std.specs.Prelude.{ℕ, List, [], ◌∷◌}
use Rattle.pcj_term.specs.declared.kind.Kind.{Kind}
use Rattle.pcj_term.specs.declared.kind.Kind.TheVariants.{Plain, Lang}
use Rattle.pcj_term.specs.declared.term.Term.TheVariants as terms
use Rattle.pcj_algebra.specs.declared.triple_pattern.Slot.{Slot}
use Rattle.pcj_algebra.specs.declared.triple_pattern.Slot.TheVariants.{Var, Value}
use Rattle.pcj_grammar.specs.declared.lexeme.Lexeme.{Lexeme}
use Rattle.pcj_grammar.specs.declared.terminal.Terminal.{Terminal}
use Rattle.pcj_grammar.specs.declared.terminal.Terminal.TheVariants as t
use Rattle.pcj_translate.specs.Term.{Scope, source_of, iri_or_none, variable_of, text_of, tag_of, kind_of_datatype, integer_term}
use Rattle.pcj_translate.specs.Triples.{rdf_type}

abbrev pub datatype_at : Scope → List Lexeme → Kind × List Lexeme
datatype_at scope [] = (Plain, [])
datatype_at scope (l ∷ x) = (kind_of_datatype (iri_or_none scope l), x)

abbrev pub suffix_by : Scope → Lexeme → List Lexeme → Terminal → Kind × List Lexeme
suffix_by scope l x t.Tag = (Lang (tag_of (source_of scope.text l)), x)
suffix_by scope l x t.Datatype = datatype_at scope x
suffix_by scope l x _ = (Plain, l ∷ x)

-- the kind that follows a string, and what follows it
abbrev pub suffix_at : Scope → List Lexeme → Kind × List Lexeme
suffix_at scope [] = (Plain, [])
suffix_at scope (l ∷ x) = suffix_by scope l x l.terminal

abbrev pub text_slot : List ℕ → Kind × List Lexeme → Slot × List Lexeme
text_slot text found = (Value (terms.Literal text found.0), found.1)

abbrev pub value_by_kind : Scope → Lexeme → List Lexeme → Terminal → Slot × List Lexeme
value_by_kind scope l x t.Var = (Var (variable_of scope l), x)
value_by_kind scope l x t.Integer = (Value (integer_term (source_of scope.text l)), x)
value_by_kind scope l x t.Text = text_slot (text_of (source_of scope.text l)) (suffix_at scope x)
value_by_kind scope l x t.A = (Value (terms.Iri rdf_type), x)
value_by_kind scope l x _ = (Value (terms.Iri (iri_or_none scope l)), x)

-- a value or a verb at the front, and what follows it
abbrev pub value_at : Scope → List Lexeme → Slot × List Lexeme
value_at scope [] = (Var [], [])
value_at scope (l ∷ x) = value_by_kind scope l x l.terminal
