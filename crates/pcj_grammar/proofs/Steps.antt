-- One token: a form begins with it just where the symbol has a move, and what the move leaves is the rest of the form.
use Rattle.std.proofs.Common.{◌≡◌, true, List, ◌∷◌, Option, Some, None, refl, ap, sym, subst, inl, inr, ◌⊎◌}
use Rattle.pcj_grammar.specs.declared.lexeme.Lexeme.{Lexeme}
use Rattle.pcj_grammar.specs.declared.terminal.Terminal.{Terminal}
use Rattle.pcj_grammar.specs.declared.terminal.Terminal.TheVariants as t
use Rattle.pcj_grammar.specs.declared.symbol.Symbol.{Symbol}
use Rattle.pcj_grammar.specs.declared.symbol.Symbol.TheVariants as s
use Rattle.pcj_grammar.specs.declared.symbol.Move.{Move}
use Rattle.pcj_grammar.specs.declared.symbol.Move.TheVariants as m
use Rattle.pcj_grammar.specs.Grammar.{Form, word, name, maybe, many, ◌▹◌, ◌or◌, Derives, is, by, one_after, left, right, without, with_it, end, again}
use Rattle.pcj_grammar.specs.Grammar as g
use Rattle.pcj_grammar.specs.Reading.{suffix, others, body, after_other, after_group, after_objects, after_object, object, verb, condition, after_test, operand, operator, form_of, is_value, from_others, from_body, from_after_other, from_after_group, from_verb, from_object, from_after_object, from_after_semicolon, from_condition, from_after_test, from_operator, from_operand, from_text, from_iri_name, from_function, from_argument, from_aggregated, from_namespace, from_iri, from_by, from_as, from_var, from_open, from_close, from_brace, next_of, Follows}

-- what is so of a kind of token is so of a token of that kind
at_kind : (from : Terminal → Option Move) (l : Lexeme) (k : Terminal) (x y : List Lexeme) → l.terminal ≡ k → Follows (from k) x y → Follows (from l.terminal) x y
at_kind from l k x y e f = subst (λ (j : Terminal). Follows (from j) x y) (sym e) f

moved : (l : Lexeme) (k : Terminal) (x y : List Lexeme) → l.terminal ≡ k → x ≡ y → Derives (word k) (l ∷ x) y
moved l k x y e same = subst (λ (z : List Lexeme). Derives (word k) (l ∷ x) z) same (is e)

-- ---- values

-- a value's first token: the value itself, or a string and its suffix
abbrev ValueStart : Lexeme → List Lexeme → List Lexeme → Type 0
ValueStart l x z = ((is_value l.terminal ≡ true) × (x ≡ z)) ⊎ ((l.terminal ≡ t.Text) × Derives (maybe suffix) x z)

value_start : (l : Lexeme) (x z : List Lexeme) → Derives (name g.Value) (l ∷ x) z → ValueStart l x z
value_start l x z (by (left (is e))) = inl (ap is_value e, refl)
value_start l x z (by (right (left (by (left (is e)))))) = inl (ap is_value e, refl)
value_start l x z (by (right (left (by (right (left (is e))))))) = inl (ap is_value e, refl)
value_start l x z (by (right (left (by (right (right (is e))))))) = inl (ap is_value e, refl)
value_start l x z (by (right (right (by (left (is e)))))) = inl (ap is_value e, refl)
value_start l x z (by (right (right (by (right (one_after (is e) d)))))) = inr (e, d)

plain_value : (k : Terminal) (l : Lexeme) (x : List Lexeme) → l.terminal ≡ k → is_value k ≡ true → Derives (name g.Value) (l ∷ x) x
plain_value t.Var l x e v = by (left (is e))
plain_value t.Iri l x e v = by (right (left (by (left (is e)))))
plain_value t.Namespace l x e v = by (right (left (by (right (left (is e))))))
plain_value t.Name l x e v = by (right (left (by (right (right (is e))))))
plain_value t.Integer l x e v = by (right (right (by (left (is e)))))
plain_value _ l x e v = absurd cc

text_value : (l : Lexeme) (x z : List Lexeme) → l.terminal ≡ t.Text → Derives (maybe suffix) x z → Derives (name g.Value) (l ∷ x) z
text_value l x z e d = by (right (right (by (right (one_after (is e) d)))))

-- a value and what follows it
text_then : (l : Lexeme) (f : Form) (x y : List Lexeme) → l.terminal ≡ t.Text → Derives (maybe suffix ▹ f) x y → Derives (name g.Value ▹ f) (l ∷ x) y
text_then l f x y e (one_after d r) = one_after (text_value l x _ e d) r

value_moves : (from : Terminal → Option Move) (a b : Symbol) (l : Lexeme) (x z y : List Lexeme) → ((k : Terminal) → is_value k ≡ true → from k ≡ Some (m.To a)) → from t.Text ≡ Some (m.To b) → (Derives (maybe suffix ▹ form_of a) x y → Derives (form_of b) x y) → ValueStart l x z → Derives (form_of a) z y → Follows (from l.terminal) x y
value_moves from a b l x z y plain text same (inl v) r =
    subst (λ (o : Option Move). Follows o x y) (sym (plain l.terminal v.0)) (subst (λ (w : List Lexeme). Derives (form_of a) w y) (sym v.1) r)
value_moves from a b l x z y plain text same (inr v) r =
    at_kind from l t.Text x y v.0 (subst (λ (o : Option Move). Follows o x y) (sym text) (same (one_after v.1 r)))

-- ---- IRIs and verbs

iri_name_sound : (k : Terminal) (l : Lexeme) (x y : List Lexeme) → l.terminal ≡ k → Follows (from_iri_name k) x y → Derives (name g.IriName) (l ∷ x) y
iri_name_sound t.Iri l x y e f = by (left (moved l t.Iri x y e f))
iri_name_sound t.Namespace l x y e f = by (right (left (moved l t.Namespace x y e f)))
iri_name_sound t.Name l x y e f = by (right (right (moved l t.Name x y e f)))
iri_name_sound _ l x y e f = absurd f

iri_name_complete : (l : Lexeme) (x y : List Lexeme) → Derives (name g.IriName) (l ∷ x) y → Follows (from_iri_name l.terminal) x y
iri_name_complete l x y (by (left (is e))) = at_kind from_iri_name l t.Iri x x e refl
iri_name_complete l x y (by (right (left (is e)))) = at_kind from_iri_name l t.Namespace x x e refl
iri_name_complete l x y (by (right (right (is e)))) = at_kind from_iri_name l t.Name x x e refl

verb_sound : (k : Terminal) (l : Lexeme) (x y : List Lexeme) → l.terminal ≡ k → Follows (from_verb k) x y → Derives verb (l ∷ x) y
verb_sound t.Var l x y e f = one_after (by (left (is e))) f
verb_sound t.Iri l x y e f = one_after (by (right (left (by (left (is e)))))) f
verb_sound t.Namespace l x y e f = one_after (by (right (left (by (right (left (is e))))))) f
verb_sound t.Name l x y e f = one_after (by (right (left (by (right (right (is e))))))) f
verb_sound t.A l x y e f = one_after (by (right (right (is e)))) f
verb_sound _ l x y e f = absurd f

verb_complete : (l : Lexeme) (x y : List Lexeme) → Derives verb (l ∷ x) y → Follows (from_verb l.terminal) x y
verb_complete l x y (one_after (by (left (is e))) r) = at_kind from_verb l t.Var x y e r
verb_complete l x y (one_after (by (right (left (by (left (is e)))))) r) = at_kind from_verb l t.Iri x y e r
verb_complete l x y (one_after (by (right (left (by (right (left (is e))))))) r) = at_kind from_verb l t.Namespace x y e r
verb_complete l x y (one_after (by (right (left (by (right (right (is e))))))) r) = at_kind from_verb l t.Name x y e r
verb_complete l x y (one_after (by (right (right (is e)))) r) = at_kind from_verb l t.A x y e r

-- ---- groups

others_sound : (k : Terminal) (l : Lexeme) (x y : List Lexeme) → l.terminal ≡ k → Follows (from_others k) x y → Derives others (l ∷ x) y
others_sound t.CloseBrace l x y e f = one_after end (moved l t.CloseBrace x y e f)
others_sound t.Filter l x y e (one_after p (one_after (one_after ex cl) (one_after dot (one_after block (one_after ds c))))) =
    one_after (again (one_after (by (left (one_after (is e) (one_after p (one_after ex cl))))) (one_after dot block)) ds) c
others_sound t.OpenBrace l x y e (z, one_after blk (one_after oth close), one_after us (one_after dot (one_after block (one_after ds c)))) =
    one_after (again (one_after (by (right (one_after (by (one_after (is e) (one_after blk (one_after oth close)))) us))) (one_after dot block)) ds) c
others_sound _ l x y e f = absurd f

others_complete : (l : Lexeme) (x y : List Lexeme) → Derives others (l ∷ x) y → Follows (from_others l.terminal) x y
others_complete l x y (one_after end (is e)) = at_kind from_others l t.CloseBrace x x e refl
others_complete l x y (one_after (again (one_after (by (left (one_after (is e) (one_after p (one_after ex cl))))) (one_after dot block)) ds) c) =
    at_kind from_others l t.Filter x y e (one_after p (one_after (one_after ex cl) (one_after dot (one_after block (one_after ds c)))))
others_complete l x y (one_after (again (one_after (by (right (one_after (by (one_after (is e) (one_after blk (one_after oth close)))) us))) (one_after dot block)) ds) c) =
    at_kind from_others l t.OpenBrace x y e (_, one_after blk (one_after oth close), one_after us (one_after dot (one_after block (one_after ds c))))

others_in_body : (k : Terminal) (x y : List Lexeme) → Follows (from_others k) x y → Follows (from_body k) x y
others_in_body t.CloseBrace x y f = f
others_in_body t.Filter x y f = f
others_in_body t.OpenBrace x y f = f
others_in_body _ x y f = absurd f

-- a subject, and what follows it
subject_sound : (l : Lexeme) (x z y : List Lexeme) → Derives (name g.Value) (l ∷ x) z → Derives verb z y → Derives body (l ∷ x) y
subject_sound l x z y v (one_after vb (one_after val (one_after commas (one_after semis (one_after rest r))))) =
    one_after (with_it (by (one_after (by (one_after v (one_after vb (one_after (by (one_after val commas)) semis)))) rest))) r

body_sound : (k : Terminal) (l : Lexeme) (x y : List Lexeme) → l.terminal ≡ k → Follows (from_body k) x y → Derives body (l ∷ x) y
body_sound t.Var l x y e f = subject_sound l x x y (plain_value t.Var l x e refl) f
body_sound t.Iri l x y e f = subject_sound l x x y (plain_value t.Iri l x e refl) f
body_sound t.Namespace l x y e f = subject_sound l x x y (plain_value t.Namespace l x e refl) f
body_sound t.Name l x y e f = subject_sound l x x y (plain_value t.Name l x e refl) f
body_sound t.Integer l x y e f = subject_sound l x x y (plain_value t.Integer l x e refl) f
body_sound t.Text l x y e (one_after d r) = subject_sound l x _ y (text_value l x _ e d) r
body_sound t.CloseBrace l x y e f = one_after without (others_sound t.CloseBrace l x y e f)
body_sound t.Filter l x y e f = one_after without (others_sound t.Filter l x y e f)
body_sound t.OpenBrace l x y e f = one_after without (others_sound t.OpenBrace l x y e f)
body_sound _ l x y e f = absurd f

value_to_verb : (k : Terminal) → is_value k ≡ true → from_body k ≡ Some (m.To s.Verb)
value_to_verb t.Var v = refl
value_to_verb t.Iri v = refl
value_to_verb t.Namespace v = refl
value_to_verb t.Name v = refl
value_to_verb t.Integer v = refl
value_to_verb _ v = absurd cc

body_complete : (l : Lexeme) (x y : List Lexeme) → Derives body (l ∷ x) y → Follows (from_body l.terminal) x y
body_complete l x y (one_after without r) = others_in_body l.terminal x y (others_complete l x y r)
body_complete l x y (one_after (with_it (by (one_after (by (one_after v (one_after vb (one_after (by (one_after val commas)) semis)))) rest))) r) =
    value_moves from_body s.Verb s.TextVerb l x _ y value_to_verb refl (λ d. d) (value_start l x _ v) (one_after vb (one_after val (one_after commas (one_after semis (one_after rest r)))))

group_sound : (k : Terminal) (l : Lexeme) (x y : List Lexeme) → l.terminal ≡ k → Follows (from_brace (m.To s.Body) k) x y → Derives (name g.Group) (l ∷ x) y
group_sound t.OpenBrace l x y e (one_after blk (one_after oth close)) = by (one_after (is e) (one_after blk (one_after oth close)))
group_sound _ l x y e f = absurd f

group_complete : (l : Lexeme) (x y : List Lexeme) → Derives (name g.Group) (l ∷ x) y → Follows (from_brace (m.To s.Body) l.terminal) x y
group_complete l x y (by (one_after (is e) d)) = at_kind (from_brace (m.To s.Body)) l t.OpenBrace x y e d

union_sound : (k : Terminal) (l : Lexeme) (x y : List Lexeme) → l.terminal ≡ k → Follows (from_brace (m.Into s.Body s.AfterGroup) k) x y → Derives (name g.Group ▹ after_group) (l ∷ x) y
union_sound t.OpenBrace l x y e (z, one_after blk (one_after oth close), r) = one_after (by (one_after (is e) (one_after blk (one_after oth close)))) r
union_sound _ l x y e f = absurd f

union_complete : (l : Lexeme) (x y : List Lexeme) → Derives (name g.Group ▹ after_group) (l ∷ x) y → Follows (from_brace (m.Into s.Body s.AfterGroup) l.terminal) x y
union_complete l x y (one_after (by (one_after (is e) d)) r) = at_kind (from_brace (m.Into s.Body s.AfterGroup)) l t.OpenBrace x y e (_, d, r)

after_other_sound : (k : Terminal) (l : Lexeme) (x y : List Lexeme) → l.terminal ≡ k → Follows (from_after_other k) x y → Derives after_other (l ∷ x) y
after_other_sound t.Dot l x y e f = one_after (with_it (is e)) f
after_other_sound t.Var l x y e f = one_after without (body_sound t.Var l x y e f)
after_other_sound t.Iri l x y e f = one_after without (body_sound t.Iri l x y e f)
after_other_sound t.Namespace l x y e f = one_after without (body_sound t.Namespace l x y e f)
after_other_sound t.Name l x y e f = one_after without (body_sound t.Name l x y e f)
after_other_sound t.Integer l x y e f = one_after without (body_sound t.Integer l x y e f)
after_other_sound t.Text l x y e f = one_after without (body_sound t.Text l x y e f)
after_other_sound t.CloseBrace l x y e f = one_after without (body_sound t.CloseBrace l x y e f)
after_other_sound t.Filter l x y e f = one_after without (body_sound t.Filter l x y e f)
after_other_sound t.OpenBrace l x y e f = one_after without (body_sound t.OpenBrace l x y e f)
after_other_sound _ l x y e f = absurd f

body_in_other : (k : Terminal) (x y : List Lexeme) → Follows (from_body k) x y → Follows (from_after_other k) x y
body_in_other t.Dot x y f = absurd f
body_in_other t.Var x y f = f
body_in_other t.Iri x y f = f
body_in_other t.Namespace x y f = f
body_in_other t.Name x y f = f
body_in_other t.Integer x y f = f
body_in_other t.Text x y f = f
body_in_other t.CloseBrace x y f = f
body_in_other t.Filter x y f = f
body_in_other t.OpenBrace x y f = f
body_in_other _ x y f = absurd f

after_other_complete : (l : Lexeme) (x y : List Lexeme) → Derives after_other (l ∷ x) y → Follows (from_after_other l.terminal) x y
after_other_complete l x y (one_after without r) = body_in_other l.terminal x y (body_complete l x y r)
after_other_complete l x y (one_after (with_it (is e)) r) = at_kind from_after_other l t.Dot x y e r

after_group_sound : (k : Terminal) (l : Lexeme) (x y : List Lexeme) → l.terminal ≡ k → Follows (from_after_group k) x y → Derives after_group (l ∷ x) y
after_group_sound t.Union l x y e (one_after grp (one_after us r)) = one_after (again (one_after (is e) grp) us) r
after_group_sound t.Dot l x y e f = one_after end (after_other_sound t.Dot l x y e f)
after_group_sound t.Var l x y e f = one_after end (after_other_sound t.Var l x y e f)
after_group_sound t.Iri l x y e f = one_after end (after_other_sound t.Iri l x y e f)
after_group_sound t.Namespace l x y e f = one_after end (after_other_sound t.Namespace l x y e f)
after_group_sound t.Name l x y e f = one_after end (after_other_sound t.Name l x y e f)
after_group_sound t.Integer l x y e f = one_after end (after_other_sound t.Integer l x y e f)
after_group_sound t.Text l x y e f = one_after end (after_other_sound t.Text l x y e f)
after_group_sound t.CloseBrace l x y e f = one_after end (after_other_sound t.CloseBrace l x y e f)
after_group_sound t.Filter l x y e f = one_after end (after_other_sound t.Filter l x y e f)
after_group_sound t.OpenBrace l x y e f = one_after end (after_other_sound t.OpenBrace l x y e f)
after_group_sound _ l x y e f = absurd f

other_in_group : (k : Terminal) (x y : List Lexeme) → Follows (from_after_other k) x y → Follows (from_after_group k) x y
other_in_group t.Union x y f = absurd f
other_in_group t.Dot x y f = f
other_in_group t.Var x y f = f
other_in_group t.Iri x y f = f
other_in_group t.Namespace x y f = f
other_in_group t.Name x y f = f
other_in_group t.Integer x y f = f
other_in_group t.Text x y f = f
other_in_group t.CloseBrace x y f = f
other_in_group t.Filter x y f = f
other_in_group t.OpenBrace x y f = f
other_in_group _ x y f = absurd f

after_group_complete : (l : Lexeme) (x y : List Lexeme) → Derives after_group (l ∷ x) y → Follows (from_after_group l.terminal) x y
after_group_complete l x y (one_after end r) = other_in_group l.terminal x y (after_other_complete l x y r)
after_group_complete l x y (one_after (again (one_after (is e) grp) us) r) = at_kind from_after_group l t.Union x y e (one_after grp (one_after us r))

filter_sound : (k : Terminal) (l : Lexeme) (x y : List Lexeme) → l.terminal ≡ k → Follows (from_open (m.Into s.Condition s.AfterOther) k) x y → Derives (word t.OpenParen ▹ condition ▹ after_other) (l ∷ x) y
filter_sound t.OpenParen l x y e (z, c, r) = one_after (is e) (one_after c r)
filter_sound _ l x y e f = absurd f

filter_complete : (l : Lexeme) (x y : List Lexeme) → Derives (word t.OpenParen ▹ condition ▹ after_other) (l ∷ x) y → Follows (from_open (m.Into s.Condition s.AfterOther) l.terminal) x y
filter_complete l x y (one_after (is e) (one_after c r)) = at_kind (from_open (m.Into s.Condition s.AfterOther)) l t.OpenParen x y e (_, c, r)

-- ---- triples

object_sound : (k : Terminal) (l : Lexeme) (x y : List Lexeme) → l.terminal ≡ k → Follows (from_object k) x y → Derives object (l ∷ x) y
object_sound t.Var l x y e f = one_after (plain_value t.Var l x e refl) f
object_sound t.Iri l x y e f = one_after (plain_value t.Iri l x e refl) f
object_sound t.Namespace l x y e f = one_after (plain_value t.Namespace l x e refl) f
object_sound t.Name l x y e f = one_after (plain_value t.Name l x e refl) f
object_sound t.Integer l x y e f = one_after (plain_value t.Integer l x e refl) f
object_sound t.Text l x y e f = text_then l after_object x y e f
object_sound _ l x y e f = absurd f

value_to_object : (k : Terminal) → is_value k ≡ true → from_object k ≡ Some (m.To s.AfterObject)
value_to_object t.Var v = refl
value_to_object t.Iri v = refl
value_to_object t.Namespace v = refl
value_to_object t.Name v = refl
value_to_object t.Integer v = refl
value_to_object _ v = absurd cc

object_complete : (l : Lexeme) (x y : List Lexeme) → Derives object (l ∷ x) y → Follows (from_object l.terminal) x y
object_complete l x y (one_after v r) = value_moves from_object s.AfterObject s.TextObject l x _ y value_to_object refl (λ d. d) (value_start l x _ v) r

-- what may follow the objects of a predicate
abbrev from_objects : Terminal → Option Move
from_objects t.Semicolon = Some (m.To s.AfterSemicolon)
from_objects t.Dot = Some (m.To s.Body)
from_objects t.CloseBrace = Some m.Done
from_objects t.Filter = Some (m.To s.FilterOpen)
from_objects t.OpenBrace = Some (m.Into s.Body s.AfterGroup)
from_objects _ = None

objects_sound : (k : Terminal) (l : Lexeme) (x y : List Lexeme) → l.terminal ≡ k → Follows (from_objects k) x y → Derives after_objects (l ∷ x) y
objects_sound t.Semicolon l x y e (one_after mb (one_after ss r)) = one_after (again (one_after (is e) mb) ss) r
objects_sound t.Dot l x y e (one_after mb r) = one_after end (one_after (with_it (one_after (is e) mb)) r)
objects_sound t.CloseBrace l x y e f = one_after end (one_after without (others_sound t.CloseBrace l x y e f))
objects_sound t.Filter l x y e f = one_after end (one_after without (others_sound t.Filter l x y e f))
objects_sound t.OpenBrace l x y e f = one_after end (one_after without (others_sound t.OpenBrace l x y e f))
objects_sound _ l x y e f = absurd f

others_in_objects : (k : Terminal) (x y : List Lexeme) → Follows (from_others k) x y → Follows (from_objects k) x y
others_in_objects t.CloseBrace x y f = f
others_in_objects t.Filter x y f = f
others_in_objects t.OpenBrace x y f = f
others_in_objects _ x y f = absurd f

objects_complete : (l : Lexeme) (x y : List Lexeme) → Derives after_objects (l ∷ x) y → Follows (from_objects l.terminal) x y
objects_complete l x y (one_after (again (one_after (is e) mb) ss) r) = at_kind from_objects l t.Semicolon x y e (one_after mb (one_after ss r))
objects_complete l x y (one_after end (one_after (with_it (one_after (is e) mb)) r)) = at_kind from_objects l t.Dot x y e (one_after mb r)
objects_complete l x y (one_after end (one_after without r)) = others_in_objects l.terminal x y (others_complete l x y r)

after_object_sound : (k : Terminal) (l : Lexeme) (x y : List Lexeme) → l.terminal ≡ k → Follows (from_after_object k) x y → Derives after_object (l ∷ x) y
after_object_sound t.Comma l x y e (one_after v (one_after vs r)) = one_after (again (one_after (is e) v) vs) r
after_object_sound t.Semicolon l x y e f = one_after end (objects_sound t.Semicolon l x y e f)
after_object_sound t.Dot l x y e f = one_after end (objects_sound t.Dot l x y e f)
after_object_sound t.CloseBrace l x y e f = one_after end (objects_sound t.CloseBrace l x y e f)
after_object_sound t.Filter l x y e f = one_after end (objects_sound t.Filter l x y e f)
after_object_sound t.OpenBrace l x y e f = one_after end (objects_sound t.OpenBrace l x y e f)
after_object_sound _ l x y e f = absurd f

objects_in_object : (k : Terminal) (x y : List Lexeme) → Follows (from_objects k) x y → Follows (from_after_object k) x y
objects_in_object t.Comma x y f = absurd f
objects_in_object t.Semicolon x y f = f
objects_in_object t.Dot x y f = f
objects_in_object t.CloseBrace x y f = f
objects_in_object t.Filter x y f = f
objects_in_object t.OpenBrace x y f = f
objects_in_object _ x y f = absurd f

after_object_complete : (l : Lexeme) (x y : List Lexeme) → Derives after_object (l ∷ x) y → Follows (from_after_object l.terminal) x y
after_object_complete l x y (one_after (again (one_after (is e) v) vs) r) = at_kind from_after_object l t.Comma x y e (one_after v (one_after vs r))
after_object_complete l x y (one_after end r) = objects_in_object l.terminal x y (objects_complete l x y r)

verb_in_semicolon : (k : Terminal) (x y : List Lexeme) → Follows (from_verb k) x y → Follows (from_after_semicolon k) x y
verb_in_semicolon t.Var x y f = f
verb_in_semicolon t.Iri x y f = f
verb_in_semicolon t.Namespace x y f = f
verb_in_semicolon t.Name x y f = f
verb_in_semicolon t.A x y f = f
verb_in_semicolon _ x y f = absurd f

objects_in_semicolon : (k : Terminal) (x y : List Lexeme) → Follows (from_objects k) x y → Follows (from_after_semicolon k) x y
objects_in_semicolon t.Semicolon x y f = f
objects_in_semicolon t.Dot x y f = f
objects_in_semicolon t.CloseBrace x y f = f
objects_in_semicolon t.Filter x y f = f
objects_in_semicolon t.OpenBrace x y f = f
objects_in_semicolon _ x y f = absurd f

semicolon_verb : (l : Lexeme) (x y : List Lexeme) → Derives verb (l ∷ x) y → Derives (form_of s.AfterSemicolon) (l ∷ x) y
semicolon_verb l x y (one_after vb (one_after v (one_after cs r))) = one_after (with_it (one_after vb (by (one_after v cs)))) r

after_semicolon_sound : (k : Terminal) (l : Lexeme) (x y : List Lexeme) → l.terminal ≡ k → Follows (from_after_semicolon k) x y → Derives (form_of s.AfterSemicolon) (l ∷ x) y
after_semicolon_sound t.Var l x y e f = semicolon_verb l x y (verb_sound t.Var l x y e f)
after_semicolon_sound t.Iri l x y e f = semicolon_verb l x y (verb_sound t.Iri l x y e f)
after_semicolon_sound t.Namespace l x y e f = semicolon_verb l x y (verb_sound t.Namespace l x y e f)
after_semicolon_sound t.Name l x y e f = semicolon_verb l x y (verb_sound t.Name l x y e f)
after_semicolon_sound t.A l x y e f = semicolon_verb l x y (verb_sound t.A l x y e f)
after_semicolon_sound t.Semicolon l x y e f = one_after without (objects_sound t.Semicolon l x y e f)
after_semicolon_sound t.Dot l x y e f = one_after without (objects_sound t.Dot l x y e f)
after_semicolon_sound t.CloseBrace l x y e f = one_after without (objects_sound t.CloseBrace l x y e f)
after_semicolon_sound t.Filter l x y e f = one_after without (objects_sound t.Filter l x y e f)
after_semicolon_sound t.OpenBrace l x y e f = one_after without (objects_sound t.OpenBrace l x y e f)
after_semicolon_sound _ l x y e f = absurd f

after_semicolon_complete : (l : Lexeme) (x y : List Lexeme) → Derives (form_of s.AfterSemicolon) (l ∷ x) y → Follows (from_after_semicolon l.terminal) x y
after_semicolon_complete l x y (one_after without r) = objects_in_semicolon l.terminal x y (objects_complete l x y r)
after_semicolon_complete l x y (one_after (with_it (one_after vb (by (one_after v cs)))) r) = verb_in_semicolon l.terminal x y (verb_complete l x y (one_after vb (one_after v (one_after cs r))))

-- ---- strings

text_sound : (a : Symbol) (plain : Option Move) (k : Terminal) (l : Lexeme) (x y : List Lexeme) → l.terminal ≡ k → (Follows plain x y → Derives (form_of a) (l ∷ x) y) → Follows (from_text a plain k) x y → Derives (maybe suffix ▹ form_of a) (l ∷ x) y
text_sound a plain t.Tag l x y e whole f = one_after (with_it (left (is e))) f
text_sound a plain t.Datatype l x y e whole (z, i, r) = one_after (with_it (right (one_after (is e) i))) r
text_sound a plain _ l x y e whole f = one_after without (whole f)

plain_in_text : (a : Symbol) (from : Terminal → Option Move) (k : Terminal) (x y : List Lexeme) → from t.Tag ≡ None → from t.Datatype ≡ None → Follows (from k) x y → Follows (from_text a (from k) k) x y
plain_in_text a from t.Tag x y tag datatype f = absurd (subst (λ (o : Option Move). Follows o x y) tag f)
plain_in_text a from t.Datatype x y tag datatype f = absurd (subst (λ (o : Option Move). Follows o x y) datatype f)
plain_in_text a from _ x y tag datatype f = f

text_complete : (a : Symbol) (from : Terminal → Option Move) (l : Lexeme) (x y : List Lexeme) → from t.Tag ≡ None → from t.Datatype ≡ None → (Derives (form_of a) (l ∷ x) y → Follows (from l.terminal) x y) → Derives (maybe suffix ▹ form_of a) (l ∷ x) y → Follows (from_text a (from l.terminal) l.terminal) x y
text_complete a from l x y tag datatype whole (one_after without r) = plain_in_text a from l.terminal x y tag datatype (whole r)
text_complete a from l x y tag datatype whole (one_after (with_it (left (is e))) r) = at_kind (λ k. from_text a (from k) k) l t.Tag x y e r
text_complete a from l x y tag datatype whole (one_after (with_it (right (one_after (is e) i))) r) = at_kind (λ k. from_text a (from k) k) l t.Datatype x y e (_, i, r)

-- ---- conditions

condition_value : (l : Lexeme) (x z y : List Lexeme) → Derives (name g.Value) (l ∷ x) z → Derives operator z y → Derives condition (l ∷ x) y
condition_value l x z y v (one_after op (one_after v2 (one_after ands (one_after ors cl)))) =
    one_after (by (one_after (by (one_after (by (right (right (one_after v (one_after op v2))))) ands)) ors)) cl

condition_sound : (k : Terminal) (l : Lexeme) (x y : List Lexeme) → l.terminal ≡ k → Follows (from_condition k) x y → Derives condition (l ∷ x) y
condition_sound t.Not l x y e (one_after p (one_after (one_after e1 c1) (one_after ands (one_after ors cl)))) =
    one_after (by (one_after (by (one_after (by (left (one_after (is e) (one_after p (one_after e1 c1))))) ands)) ors)) cl
condition_sound t.OpenParen l x y e (z, one_after e1 c1, one_after ands (one_after ors cl)) =
    one_after (by (one_after (by (one_after (by (right (left (one_after (is e) (one_after e1 c1))))) ands)) ors)) cl
condition_sound t.Var l x y e f = condition_value l x x y (plain_value t.Var l x e refl) f
condition_sound t.Iri l x y e f = condition_value l x x y (plain_value t.Iri l x e refl) f
condition_sound t.Namespace l x y e f = condition_value l x x y (plain_value t.Namespace l x e refl) f
condition_sound t.Name l x y e f = condition_value l x x y (plain_value t.Name l x e refl) f
condition_sound t.Integer l x y e f = condition_value l x x y (plain_value t.Integer l x e refl) f
condition_sound t.Text l x y e (one_after d r) = condition_value l x _ y (text_value l x _ e d) r
condition_sound _ l x y e f = absurd f

value_to_operator : (k : Terminal) → is_value k ≡ true → from_condition k ≡ Some (m.To s.Operator)
value_to_operator t.Var v = refl
value_to_operator t.Iri v = refl
value_to_operator t.Namespace v = refl
value_to_operator t.Name v = refl
value_to_operator t.Integer v = refl
value_to_operator _ v = absurd cc

condition_complete : (l : Lexeme) (x y : List Lexeme) → Derives condition (l ∷ x) y → Follows (from_condition l.terminal) x y
condition_complete l x y (one_after (by (one_after (by (one_after (by (left (one_after (is e) (one_after p (one_after e1 c1))))) ands)) ors)) cl) =
    at_kind from_condition l t.Not x y e (one_after p (one_after (one_after e1 c1) (one_after ands (one_after ors cl))))
condition_complete l x y (one_after (by (one_after (by (one_after (by (right (left (one_after (is e) (one_after e1 c1))))) ands)) ors)) cl) =
    at_kind from_condition l t.OpenParen x y e (_, one_after e1 c1, one_after ands (one_after ors cl))
condition_complete l x y (one_after (by (one_after (by (one_after (by (right (right (one_after v (one_after op v2))))) ands)) ors)) cl) =
    value_moves from_condition s.Operator s.TextOperator l x _ y value_to_operator refl (λ d. d) (value_start l x _ v) (one_after op (one_after v2 (one_after ands (one_after ors cl))))

not_sound : (k : Terminal) (l : Lexeme) (x y : List Lexeme) → l.terminal ≡ k → Follows (from_open (m.Into s.Condition s.AfterTest) k) x y → Derives (word t.OpenParen ▹ condition ▹ after_test) (l ∷ x) y
not_sound t.OpenParen l x y e (z, c, r) = one_after (is e) (one_after c r)
not_sound _ l x y e f = absurd f

not_complete : (l : Lexeme) (x y : List Lexeme) → Derives (word t.OpenParen ▹ condition ▹ after_test) (l ∷ x) y → Follows (from_open (m.Into s.Condition s.AfterTest) l.terminal) x y
not_complete l x y (one_after (is e) (one_after c r)) = at_kind (from_open (m.Into s.Condition s.AfterTest)) l t.OpenParen x y e (_, c, r)

after_test_sound : (k : Terminal) (l : Lexeme) (x y : List Lexeme) → l.terminal ≡ k → Follows (from_after_test k) x y → Derives after_test (l ∷ x) y
after_test_sound t.CloseParen l x y e f = one_after end (one_after end (moved l t.CloseParen x y e f))
after_test_sound t.And l x y e (one_after (by (one_after (by (one_after o os)) ors)) cl) = one_after (again (one_after (is e) o) os) (one_after ors cl)
after_test_sound t.Or l x y e (one_after (by (one_after a rs)) cl) = one_after end (one_after (again (one_after (is e) a) rs) cl)
after_test_sound _ l x y e f = absurd f

after_test_complete : (l : Lexeme) (x y : List Lexeme) → Derives after_test (l ∷ x) y → Follows (from_after_test l.terminal) x y
after_test_complete l x y (one_after (again (one_after (is e) o) os) (one_after ors cl)) = at_kind from_after_test l t.And x y e (one_after (by (one_after (by (one_after o os)) ors)) cl)
after_test_complete l x y (one_after end (one_after (again (one_after (is e) a) rs) cl)) = at_kind from_after_test l t.Or x y e (one_after (by (one_after a rs)) cl)
after_test_complete l x y (one_after end (one_after end (is e))) = at_kind from_after_test l t.CloseParen x x e refl

operator_sound : (k : Terminal) (l : Lexeme) (x y : List Lexeme) → l.terminal ≡ k → Follows (from_operator k) x y → Derives operator (l ∷ x) y
operator_sound t.Equal l x y e f = one_after (by (left (is e))) f
operator_sound t.Unequal l x y e f = one_after (by (right (left (is e)))) f
operator_sound t.Less l x y e f = one_after (by (right (right (left (is e))))) f
operator_sound t.Greater l x y e f = one_after (by (right (right (right (left (is e)))))) f
operator_sound t.AtMost l x y e f = one_after (by (right (right (right (right (left (is e))))))) f
operator_sound t.AtLeast l x y e f = one_after (by (right (right (right (right (right (is e))))))) f
operator_sound _ l x y e f = absurd f

operator_complete : (l : Lexeme) (x y : List Lexeme) → Derives operator (l ∷ x) y → Follows (from_operator l.terminal) x y
operator_complete l x y (one_after (by (left (is e))) r) = at_kind from_operator l t.Equal x y e r
operator_complete l x y (one_after (by (right (left (is e)))) r) = at_kind from_operator l t.Unequal x y e r
operator_complete l x y (one_after (by (right (right (left (is e))))) r) = at_kind from_operator l t.Less x y e r
operator_complete l x y (one_after (by (right (right (right (left (is e)))))) r) = at_kind from_operator l t.Greater x y e r
operator_complete l x y (one_after (by (right (right (right (right (left (is e))))))) r) = at_kind from_operator l t.AtMost x y e r
operator_complete l x y (one_after (by (right (right (right (right (right (is e))))))) r) = at_kind from_operator l t.AtLeast x y e r

operand_sound : (k : Terminal) (l : Lexeme) (x y : List Lexeme) → l.terminal ≡ k → Follows (from_operand k) x y → Derives operand (l ∷ x) y
operand_sound t.Var l x y e f = one_after (plain_value t.Var l x e refl) f
operand_sound t.Iri l x y e f = one_after (plain_value t.Iri l x e refl) f
operand_sound t.Namespace l x y e f = one_after (plain_value t.Namespace l x e refl) f
operand_sound t.Name l x y e f = one_after (plain_value t.Name l x e refl) f
operand_sound t.Integer l x y e f = one_after (plain_value t.Integer l x e refl) f
operand_sound t.Text l x y e f = text_then l after_test x y e f
operand_sound _ l x y e f = absurd f

value_to_test : (k : Terminal) → is_value k ≡ true → from_operand k ≡ Some (m.To s.AfterTest)
value_to_test t.Var v = refl
value_to_test t.Iri v = refl
value_to_test t.Namespace v = refl
value_to_test t.Name v = refl
value_to_test t.Integer v = refl
value_to_test _ v = absurd cc

operand_complete : (l : Lexeme) (x y : List Lexeme) → Derives operand (l ∷ x) y → Follows (from_operand l.terminal) x y
operand_complete l x y (one_after v r) = value_moves from_operand s.AfterTest s.TextOperand l x _ y value_to_test refl (λ d. d) (value_start l x _ v) r

-- ---- items, declarations and keys

var_sound : (f : Form) (move : Move) (k : Terminal) (l : Lexeme) (x y : List Lexeme) → l.terminal ≡ k → (Follows (Some move) x y → Derives f x y) → Follows (from_var move k) x y → Derives (word t.Var ▹ f) (l ∷ x) y
var_sound f move t.Var l x y e rest g = one_after (is e) (rest g)
var_sound f move _ l x y e rest g = absurd g

open_sound : (f : Form) (move : Move) (k : Terminal) (l : Lexeme) (x y : List Lexeme) → l.terminal ≡ k → (Follows (Some move) x y → Derives f x y) → Follows (from_open move k) x y → Derives (word t.OpenParen ▹ f) (l ∷ x) y
open_sound f move t.OpenParen l x y e rest g = one_after (is e) (rest g)
open_sound f move _ l x y e rest g = absurd g

close_sound : (f : Form) (move : Move) (k : Terminal) (l : Lexeme) (x y : List Lexeme) → l.terminal ≡ k → (Follows (Some move) x y → Derives f x y) → Follows (from_close move k) x y → Derives (word t.CloseParen ▹ f) (l ∷ x) y
close_sound f move t.CloseParen l x y e rest g = one_after (is e) (rest g)
close_sound f move _ l x y e rest g = absurd g

namespace_sound : (k : Terminal) (l : Lexeme) (x y : List Lexeme) → l.terminal ≡ k → Follows (from_namespace k) x y → Derives (word t.Namespace ▹ word t.Iri) (l ∷ x) y
namespace_sound t.Namespace l x y e f = one_after (is e) f
namespace_sound _ l x y e f = absurd f

iri_sound : (k : Terminal) (l : Lexeme) (x y : List Lexeme) → l.terminal ≡ k → Follows (from_iri k) x y → Derives (word t.Iri) (l ∷ x) y
iri_sound t.Iri l x y e f = moved l t.Iri x y e f
iri_sound _ l x y e f = absurd f

by_sound : (k : Terminal) (l : Lexeme) (x y : List Lexeme) → l.terminal ≡ k → Follows (from_by k) x y → Derives (word t.By ▹ word t.Var) (l ∷ x) y
by_sound t.By l x y e f = one_after (is e) f
by_sound _ l x y e f = absurd f

as_sound : (k : Terminal) (l : Lexeme) (x y : List Lexeme) → l.terminal ≡ k → Follows (from_as k) x y → Derives (form_of s.As) (l ∷ x) y
as_sound t.As l x y e f = one_after (is e) f
as_sound _ l x y e f = absurd f

variable_sound : (k : Terminal) (l : Lexeme) (x y : List Lexeme) → l.terminal ≡ k → Follows (from_var m.Done k) x y → Derives (word t.Var) (l ∷ x) y
variable_sound t.Var l x y e f = moved l t.Var x y e f
variable_sound _ l x y e f = absurd f

close_item_sound : (k : Terminal) (l : Lexeme) (x y : List Lexeme) → l.terminal ≡ k → Follows (from_close m.Done k) x y → Derives (word t.CloseParen) (l ∷ x) y
close_item_sound t.CloseParen l x y e f = moved l t.CloseParen x y e f
close_item_sound _ l x y e f = absurd f

function_sound : (k : Terminal) (l : Lexeme) (x y : List Lexeme) → l.terminal ≡ k → Follows (from_function k) x y → Derives (form_of s.Function) (l ∷ x) y
function_sound t.Count l x y e f = one_after (by (left (is e))) f
function_sound t.Sum l x y e f = one_after (by (right (left (is e)))) f
function_sound t.Min l x y e f = one_after (by (right (right (left (is e))))) f
function_sound t.Max l x y e f = one_after (by (right (right (right (is e))))) f
function_sound _ l x y e f = absurd f

function_complete : (l : Lexeme) (x y : List Lexeme) → Derives (form_of s.Function) (l ∷ x) y → Follows (from_function l.terminal) x y
function_complete l x y (one_after (by (left (is e))) r) = at_kind from_function l t.Count x y e r
function_complete l x y (one_after (by (right (left (is e)))) r) = at_kind from_function l t.Sum x y e r
function_complete l x y (one_after (by (right (right (left (is e))))) r) = at_kind from_function l t.Min x y e r
function_complete l x y (one_after (by (right (right (right (is e))))) r) = at_kind from_function l t.Max x y e r

aggregated_sound : (k : Terminal) (l : Lexeme) (x y : List Lexeme) → l.terminal ≡ k → Follows (from_aggregated k) x y → Derives (form_of s.Aggregated) (l ∷ x) y
aggregated_sound t.Var l x y e f = one_after (left (is e)) f
aggregated_sound t.Star l x y e f = one_after (right (is e)) f
aggregated_sound _ l x y e f = absurd f

aggregated_complete : (l : Lexeme) (x y : List Lexeme) → Derives (form_of s.Aggregated) (l ∷ x) y → Follows (from_aggregated l.terminal) x y
aggregated_complete l x y (one_after (left (is e)) r) = at_kind from_aggregated l t.Var x y e r
aggregated_complete l x y (one_after (right (is e)) r) = at_kind from_aggregated l t.Star x y e r

argument_sound : (k : Terminal) (l : Lexeme) (x y : List Lexeme) → l.terminal ≡ k → Follows (from_argument k) x y → Derives (form_of s.Argument) (l ∷ x) y
argument_sound t.Distinct l x y e f = one_after (with_it (is e)) f
argument_sound t.Var l x y e f = one_after without (aggregated_sound t.Var l x y e f)
argument_sound t.Star l x y e f = one_after without (aggregated_sound t.Star l x y e f)
argument_sound _ l x y e f = absurd f

argument_complete : (l : Lexeme) (x y : List Lexeme) → Derives (form_of s.Argument) (l ∷ x) y → Follows (from_argument l.terminal) x y
argument_complete l x y (one_after (with_it (is e)) r) = at_kind from_argument l t.Distinct x y e r
argument_complete l x y (one_after without (one_after (left (is e)) r)) = at_kind from_argument l t.Var x y e r
argument_complete l x y (one_after without (one_after (right (is e)) r)) = at_kind from_argument l t.Star x y e r

-- ---- all symbols

pub step_sound : (a : Symbol) (l : Lexeme) (x y : List Lexeme) → Follows (next_of a l.terminal) x y → Derives (form_of a) (l ∷ x) y
step_sound s.Namespace l x y f = namespace_sound l.terminal l x y refl f
step_sound s.Iri l x y f = iri_sound l.terminal l x y refl f
step_sound s.By l x y f = by_sound l.terminal l x y refl f
step_sound s.Variable l x y f = variable_sound l.terminal l x y refl f
step_sound s.Function l x y f = function_sound l.terminal l x y refl f
step_sound s.OpenArgument l x y f = open_sound (form_of s.Argument) (m.To s.Argument) l.terminal l x y refl (λ d. d) f
step_sound s.Argument l x y f = argument_sound l.terminal l x y refl f
step_sound s.Aggregated l x y f = aggregated_sound l.terminal l x y refl f
step_sound s.CloseArgument l x y f = close_sound (form_of s.As) (m.To s.As) l.terminal l x y refl (λ d. d) f
step_sound s.As l x y f = as_sound l.terminal l x y refl f
step_sound s.Alias l x y f = var_sound (form_of s.CloseItem) (m.To s.CloseItem) l.terminal l x y refl (λ d. d) f
step_sound s.CloseItem l x y f = close_item_sound l.terminal l x y refl f
step_sound s.Group l x y f = group_sound l.terminal l x y refl f
step_sound s.UnionGroup l x y f = union_sound l.terminal l x y refl f
step_sound s.Body l x y f = body_sound l.terminal l x y refl f
step_sound s.FilterOpen l x y f = filter_sound l.terminal l x y refl f
step_sound s.AfterOther l x y f = after_other_sound l.terminal l x y refl f
step_sound s.AfterGroup l x y f = after_group_sound l.terminal l x y refl f
step_sound s.Verb l x y f = verb_sound l.terminal l x y refl f
step_sound s.Object l x y f = object_sound l.terminal l x y refl f
step_sound s.AfterObject l x y f = after_object_sound l.terminal l x y refl f
step_sound s.AfterSemicolon l x y f = after_semicolon_sound l.terminal l x y refl f
step_sound s.TextVerb l x y f = text_sound s.Verb (from_verb l.terminal) l.terminal l x y refl (λ d. verb_sound l.terminal l x y refl d) f
step_sound s.TextObject l x y f = text_sound s.AfterObject (from_after_object l.terminal) l.terminal l x y refl (λ d. after_object_sound l.terminal l x y refl d) f
step_sound s.IriName l x y f = iri_name_sound l.terminal l x y refl f
step_sound s.Condition l x y f = condition_sound l.terminal l x y refl f
step_sound s.NotOpen l x y f = not_sound l.terminal l x y refl f
step_sound s.AfterTest l x y f = after_test_sound l.terminal l x y refl f
step_sound s.Operator l x y f = operator_sound l.terminal l x y refl f
step_sound s.Operand l x y f = operand_sound l.terminal l x y refl f
step_sound s.TextOperator l x y f = text_sound s.Operator (from_operator l.terminal) l.terminal l x y refl (λ d. operator_sound l.terminal l x y refl d) f
step_sound s.TextOperand l x y f = text_sound s.AfterTest (from_after_test l.terminal) l.terminal l x y refl (λ d. after_test_sound l.terminal l x y refl d) f

pub step_complete : (a : Symbol) (l : Lexeme) (x y : List Lexeme) → Derives (form_of a) (l ∷ x) y → Follows (next_of a l.terminal) x y
step_complete s.Namespace l x y (one_after (is e) r) = at_kind from_namespace l t.Namespace x y e r
step_complete s.Iri l x y (is e) = at_kind from_iri l t.Iri x x e refl
step_complete s.By l x y (one_after (is e) r) = at_kind from_by l t.By x y e r
step_complete s.Variable l x y (is e) = at_kind (from_var m.Done) l t.Var x x e refl
step_complete s.Function l x y d = function_complete l x y d
step_complete s.OpenArgument l x y (one_after (is e) r) = at_kind (from_open (m.To s.Argument)) l t.OpenParen x y e r
step_complete s.Argument l x y d = argument_complete l x y d
step_complete s.Aggregated l x y d = aggregated_complete l x y d
step_complete s.CloseArgument l x y (one_after (is e) r) = at_kind (from_close (m.To s.As)) l t.CloseParen x y e r
step_complete s.As l x y (one_after (is e) r) = at_kind from_as l t.As x y e r
step_complete s.Alias l x y (one_after (is e) r) = at_kind (from_var (m.To s.CloseItem)) l t.Var x y e r
step_complete s.CloseItem l x y (is e) = at_kind (from_close m.Done) l t.CloseParen x x e refl
step_complete s.Group l x y d = group_complete l x y d
step_complete s.UnionGroup l x y d = union_complete l x y d
step_complete s.Body l x y d = body_complete l x y d
step_complete s.FilterOpen l x y d = filter_complete l x y d
step_complete s.AfterOther l x y d = after_other_complete l x y d
step_complete s.AfterGroup l x y d = after_group_complete l x y d
step_complete s.Verb l x y d = verb_complete l x y d
step_complete s.Object l x y d = object_complete l x y d
step_complete s.AfterObject l x y d = after_object_complete l x y d
step_complete s.AfterSemicolon l x y d = after_semicolon_complete l x y d
step_complete s.TextVerb l x y d = text_complete s.Verb from_verb l x y refl refl (verb_complete l x y) d
step_complete s.TextObject l x y d = text_complete s.AfterObject from_after_object l x y refl refl (after_object_complete l x y) d
step_complete s.IriName l x y d = iri_name_complete l x y d
step_complete s.Condition l x y d = condition_complete l x y d
step_complete s.NotOpen l x y d = not_complete l x y d
step_complete s.AfterTest l x y d = after_test_complete l x y d
step_complete s.Operator l x y d = operator_complete l x y d
step_complete s.Operand l x y d = operand_complete l x y d
step_complete s.TextOperator l x y d = text_complete s.Operator from_operator l x y refl refl (operator_complete l x y) d
step_complete s.TextOperand l x y d = text_complete s.AfterTest from_after_test l x y refl refl (after_test_complete l x y) d
