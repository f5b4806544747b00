-- The objects of a predicate, one after another.
use Rattle.std.proofs.Common.{◌≡◌, ◌≤◌, true, false, List, [], ◌∷◌, ◌++◌, length, refl, ap, sym, subst, ◌∙◌, append_assoc, append-nil, arith}
use Rattle.pcj_algebra.specs.declared.triple_pattern.Slot.{Slot}
use Rattle.pcj_algebra.specs.declared.triple_pattern.TriplePattern.{TriplePattern}
use Rattle.pcj_grammar.specs.declared.lexeme.Lexeme.{Lexeme}
use Rattle.pcj_grammar.specs.declared.terminal.Terminal.{Terminal}
use Rattle.pcj_grammar.specs.declared.terminal.Terminal.TheVariants as t
use Rattle.pcj_grammar.specs.Grammar.{Form, word, name, maybe, many, ◌▹◌, ◌or◌, Derives, is, by, one_after, left, right, without, with_it, end, again}
use Rattle.pcj_grammar.specs.Grammar as g
use Rattle.pcj_translate.specs.Term.{Scope}
use Rattle.pcj_translate.specs.Triples.{value_by, more_objects, objects_by, triples_of}
use Rattle.pcj_translate.specs.ValueReading.{datatype_at, suffix_by, suffix_at, value_by_kind, value_at}
use Rattle.pcj_translate.specs.Adding.{is_comma, begins_comma, ends_objects, IsPastObjects, AddsObject, AddsObjects, behind_one}
use Rattle.pcj_translate.proofs.ValuesRead.{ends_text, IsPastText, value_read}

abbrev More : Form
More = many (word t.Comma ▹ name g.Value)

-- ---- what may follow a value

past_text : (k : Terminal) → ends_objects k ≡ true → ends_text k ≡ true
past_text t.Tag e = absurd cc
past_text t.Datatype e = absurd cc
past_text t.Comma e = refl
past_text _ e = refl

past_more : (z y : List Lexeme) → Derives More z y → IsPastObjects y → IsPastText z
past_more [] y d past = tt
past_more (l ∷ z) y end past = past_text l.terminal past
past_more (l ∷ z) y (again (one_after (is e) v) vs) past = ap ends_text e

-- ---- fewer tokens

suffix_shorter : (scope : Scope) (x : List Lexeme) → length (suffix_at scope x).1 ≤ length x
suffix_shorter scope [] = omega arith
suffix_shorter scope (l ∷ x) = by_kind l.terminal
  where
    data_shorter : (x : List Lexeme) → length (datatype_at scope x).1 ≤ length x
    data_shorter [] = omega arith
    data_shorter (i ∷ x) = omega arith

    by_kind : (k : Terminal) → length (suffix_by scope l x k).1 ≤ length (l ∷ x)
    by_kind t.Tag = omega arith
    by_kind t.Datatype = omega (arith, data_shorter x)
    by_kind _ = omega arith

pub value_shorter : (scope : Scope) (x : List Lexeme) → length (value_at scope x).1 ≤ length x
value_shorter scope [] = omega arith
value_shorter scope (l ∷ x) = by_kind l.terminal
  where
    by_kind : (k : Terminal) → length (value_by_kind scope l x k).1 ≤ length (l ∷ x)
    by_kind t.Text = omega (arith, suffix_shorter scope x)
    by_kind t.A = omega arith
    by_kind t.Var = omega arith
    by_kind t.Integer = omega arith
    by_kind _ = omega arith

pub object_shorter : (scope : Scope) (s p : Slot) (x y : List Lexeme) (old new : List TriplePattern) → AddsObject scope s p x y old new → length y ≤ length x
object_shorter scope s p x y old new a = let size = ap (λ (q : Slot × List Lexeme). length q.1) a.1 in omega (arith, value_shorter scope x, size)

pub value_fewer : (scope : Scope) (x r : List Lexeme) (slot : Slot) → value_at scope x ≡ (slot, r) → length r ≤ length x
value_fewer scope x r slot e = let size = ap (λ (q : Slot × List Lexeme). length q.1) e in omega (arith, value_shorter scope x, size)

pub value_taken_one : (scope : Scope) (x r : List Lexeme) (slot : Slot) → value_at scope x ≡ (slot, r) → length r ≤ length (behind_one x)
value_taken_one scope x r slot e = let size = ap (λ (q : Slot × List Lexeme). length q.1) e in omega (arith, one_less x, size)
  where
    one_less : (x : List Lexeme) → length (value_at scope x).1 ≤ length (behind_one x)
    one_less [] = omega arith
    one_less (l ∷ x) = by_kind l.terminal
      where
        by_kind : (k : Terminal) → length (value_by_kind scope l x k).1 ≤ length x
        by_kind t.Text = omega (arith, suffix_shorter scope x)
        by_kind t.A = omega arith
        by_kind t.Var = omega arith
        by_kind t.Integer = omega arith
        by_kind _ = omega arith

-- ---- the loop

abbrev pub Keeps : Scope → Slot → Slot → List Lexeme → List Lexeme → List TriplePattern → List TriplePattern → Type 0
Keeps scope s p x r old now =
    (y : List Lexeme) (d : Derives (name g.Objects) x y) → IsPastObjects y →
    (e : Derives More r y) × (now ++ triples_of s p (more_objects scope e) ≡ old ++ triples_of s p (objects_by scope d))

-- a value that is read, where more may follow
value_taken : (scope : Scope) (s p : Slot) (x z y r : List Lexeme) (old now all : List TriplePattern) (v : Derives (name g.Value) x z) (vs : Derives More z y) → IsPastObjects y → AddsObject scope s p x r old now →
    old ++ record { subject = s; predicate = p; object = value_by scope v } ∷ triples_of s p (more_objects scope vs) ≡ all → (e : Derives More r y) × (now ++ triples_of s p (more_objects scope e) ≡ all)
value_taken scope s p x z y r old now all v vs past (object, taken, grown) whole =
    let read = value_read x z scope v (past_more z y vs past) in
    let same : (value_by scope v, z) ≡ (object, r) = sym read ∙ taken in
    subst (λ (q : Slot × List Lexeme). now ≡ old ++ record { subject = s; predicate = p; object = q.0 } ∷ [] → (e : Derives More q.1 y) × (now ++ triples_of s p (more_objects scope e) ≡ all)) same
    (λ here. (vs, ap (λ (l : List TriplePattern). l ++ triples_of s p (more_objects scope vs)) here ∙ append_assoc old (record { subject = s; predicate = p; object = value_by scope v } ∷ []) (triples_of s p (more_objects scope vs)) ∙ whole)) grown

pub first_object : (scope : Scope) (s p : Slot) (x r : List Lexeme) (old now : List TriplePattern) → AddsObject scope s p x r old now → Keeps scope s p x r old now
first_object scope s p x r old now a y (by (one_after {y = z} v vs)) past = value_taken scope s p x z y r old now (old ++ triples_of s p (objects_by scope (by (one_after v vs)))) v vs past a refl

comma_more : (scope : Scope) (s p : Slot) (c : Lexeme) (r r2 y : List Lexeme) (mid new all : List TriplePattern) (e : Derives More (c ∷ r) y) → c.terminal ≡ t.Comma → IsPastObjects y → AddsObject scope s p r r2 mid new →
    mid ++ triples_of s p (more_objects scope e) ≡ all → (f : Derives More r2 y) × (new ++ triples_of s p (more_objects scope f) ≡ all)
comma_more scope s p c r r2 y mid new all end comma past a whole = let no = ap ends_objects comma in absurd cc
comma_more scope s p c r r2 y mid new all (again {y = z} (one_after (is q) v) vs) comma past a whole = value_taken scope s p r z y r2 mid new all v vs past a whole

pub next_object : (scope : Scope) (s p : Slot) (x r r2 : List Lexeme) (c : Lexeme) (old mid new : List TriplePattern) → c.terminal ≡ t.Comma → Keeps scope s p x (c ∷ r) old mid → AddsObject scope s p r r2 mid new → Keeps scope s p x r2 old new
next_object scope s p x r r2 c old mid new comma k a y d past =
    let so_far = k y d past in
    comma_more scope s p c r r2 y mid new (old ++ triples_of s p (objects_by scope d)) so_far.0 comma past a so_far.1

no_comma : (scope : Scope) (s p : Slot) (r y : List Lexeme) (now all : List TriplePattern) (e : Derives More r y) → begins_comma r ≡ false → now ++ triples_of s p (more_objects scope e) ≡ all → (r ≡ y) × (now ≡ all)
no_comma scope s p r y now all end none whole = (refl, sym (append-nil now) ∙ whole)
no_comma scope s p r y now all (again (one_after (is q) v) vs) none whole = let yes_comma = ap is_comma q in absurd cc

pub last_object : (scope : Scope) (s p : Slot) (x r : List Lexeme) (old now : List TriplePattern) → Keeps scope s p x r old now → begins_comma r ≡ false → AddsObjects scope s p x r old now
last_object scope s p x r old now k none y d past =
    let so_far = k y d past in
    no_comma scope s p r y now (old ++ triples_of s p (objects_by scope d)) so_far.0 none so_far.1
