-- What reading values gives is what their derivations say.
use Rattle.std.proofs.Common.{◌≡◌, Bool, true, false, List, [], ◌∷◌, refl, ap, ◌∙◌}
use Rattle.pcj_grammar.specs.declared.lexeme.Lexeme.{Lexeme}
use Rattle.pcj_grammar.specs.declared.terminal.Terminal.{Terminal}
use Rattle.pcj_grammar.specs.declared.terminal.Terminal.TheVariants as t
use Rattle.pcj_grammar.specs.Grammar.{Form, word, name, maybe, many, ◌▹◌, ◌or◌, Derives, is, by, one_after, left, right, without, with_it, end, again}
use Rattle.pcj_grammar.specs.Grammar as g
use Rattle.pcj_translate.specs.Term.{Scope, source_of, text_of, kind_of_datatype, iri_or_none}
use Rattle.pcj_translate.specs.Triples.{iri_token, kind_by, value_by, verb_by}
use Rattle.pcj_translate.specs.ValueReading.{datatype_at, suffix_by, suffix_at, text_slot, value_by_kind, value_at}

-- what follows isn't the suffix of a string
abbrev pub ends_text : Terminal → Bool
ends_text t.Tag = false
ends_text t.Datatype = false
ends_text _ = true

abbrev pub IsPastText : List Lexeme → Type 0
IsPastText [] = Unit {0}
IsPastText (l ∷ x) = ends_text l.terminal ≡ true

kept_plain : (scope : Scope) (l : Lexeme) (x : List Lexeme) (k : Terminal) → ends_text k ≡ true → suffix_by scope l x k ≡ suffix_by scope l x t.Outside
kept_plain scope l x t.Tag e = absurd cc
kept_plain scope l x t.Datatype e = absurd cc
kept_plain scope l x _ e = refl

datatype_read : {x y : List Lexeme} (scope : Scope) (i : Derives (name g.IriName) x y) → datatype_at scope x ≡ (kind_of_datatype (iri_or_none scope (iri_token i)), y)
datatype_read scope (by (left (is e))) = refl
datatype_read scope (by (right (left (is e)))) = refl
datatype_read scope (by (right (right (is e)))) = refl

suffix_read : (x y : List Lexeme) (scope : Scope) (d : Derives (maybe (word t.Tag or word t.Datatype ▹ name g.IriName)) x y) → IsPastText y → suffix_at scope x ≡ (kind_by scope d, y)
suffix_read [] y scope without past = refl
suffix_read (l ∷ x) y scope without past = kept_plain scope l x l.terminal past
suffix_read x y scope (with_it (left (is {l = l} e))) past = ap (suffix_by scope l y) e
suffix_read x y scope (with_it (right (one_after (is {l = l} {x = z} e) i))) past = ap (suffix_by scope l z) e ∙ datatype_read scope i

pub value_read : (x y : List Lexeme) (scope : Scope) (d : Derives (name g.Value) x y) → IsPastText y → value_at scope x ≡ (value_by scope d, y)
value_read x y scope (by (left (is {l = l} e))) past = ap (value_by_kind scope l y) e
value_read x y scope (by (right (left (by (left (is {l = l} e)))))) past = ap (value_by_kind scope l y) e
value_read x y scope (by (right (left (by (right (left (is {l = l} e))))))) past = ap (value_by_kind scope l y) e
value_read x y scope (by (right (left (by (right (right (is {l = l} e))))))) past = ap (value_by_kind scope l y) e
value_read x y scope (by (right (right (by (left (is {l = l} e)))))) past = ap (value_by_kind scope l y) e
value_read x y scope (by (right (right (by (right (one_after (is {l = l} {x = z} e) d)))))) past = ap (value_by_kind scope l z) e ∙ ap (text_slot (text_of (source_of scope.text l))) (suffix_read z y scope d past)

pub verb_read : (x y : List Lexeme) (scope : Scope) (d : Derives (name g.Verb) x y) → value_at scope x ≡ (verb_by scope d, y)
verb_read x y scope (by (left (is {l = l} e))) = ap (value_by_kind scope l y) e
verb_read x y scope (by (right (left (by (left (is {l = l} e)))))) = ap (value_by_kind scope l y) e
verb_read x y scope (by (right (left (by (right (left (is {l = l} e))))))) = ap (value_by_kind scope l y) e
verb_read x y scope (by (right (left (by (right (right (is {l = l} e))))))) = ap (value_by_kind scope l y) e
verb_read x y scope (by (right (right (is {l = l} e)))) = ap (value_by_kind scope l y) e
