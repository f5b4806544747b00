-- The triple patterns of a block, subject after subject.
use Rattle.std.proofs.Common.{◌≡◌, Bool, true, false, List, [], ◌∷◌, ◌++◌, length, ◌≤◌, ◌<◌, arith, refl, ap, sym, subst, ◌∙◌, append_assoc, append-nil}
use Rattle.pcj_algebra.specs.declared.triple_pattern.TriplePattern.{TriplePattern}
use Rattle.pcj_grammar.specs.declared.lexeme.Lexeme.{Lexeme}
use Rattle.pcj_grammar.specs.declared.terminal.Terminal.{Terminal}
use Rattle.pcj_grammar.specs.declared.terminal.Terminal.TheVariants as t
use Rattle.pcj_grammar.specs.Grammar.{Form, word, name, maybe, many, ◌▹◌, ◌or◌, Derives, is, by, one_after, left, right, without, with_it, end, again}
use Rattle.pcj_grammar.specs.Grammar as g
use Rattle.pcj_translate.specs.Term.{Scope}
use Rattle.pcj_translate.specs.Triples.{same_triples, block_triples}
use Rattle.pcj_translate.specs.Adding.{ends_same, IsPastSame, AddsSame, is_value, begins_value, is_dot, behind_dot_by, behind_dot, ends_block, IsPastBlock, block_form, maybe_triples, AddsBlock, behind_one}

-- ---- what begins with what

ends_no_value : (k : Terminal) → ends_block k ≡ true → is_value k ≡ true → ⊥
ends_no_value t.Filter e f = absurd cc
ends_no_value t.OpenBrace e f = absurd cc
ends_no_value t.CloseBrace e f = absurd cc
ends_no_value _ e f = absurd cc

past_no_value : (y : List Lexeme) → IsPastBlock y → begins_value y ≡ true → ⊥
past_no_value [] past value = absurd cc
past_no_value (l ∷ y) past value = ends_no_value l.terminal past value

ends_all_same : (k : Terminal) → ends_block k ≡ true → ends_same k ≡ true
ends_all_same t.Filter e = refl
ends_all_same t.OpenBrace e = refl
ends_all_same t.CloseBrace e = refl
ends_all_same _ e = absurd cc

past_block_same : (y : List Lexeme) → IsPastBlock y → IsPastSame y
past_block_same [] past = tt
past_block_same (l ∷ y) past = ends_all_same l.terminal past

ends_no_dot : (k : Terminal) → ends_block k ≡ true → is_dot k ≡ false
ends_no_dot t.Filter e = refl
ends_no_dot t.OpenBrace e = refl
ends_no_dot t.CloseBrace e = refl
ends_no_dot _ e = absurd cc

past_no_dot : (y : List Lexeme) → IsPastBlock y → behind_dot y ≡ y
past_no_dot [] past = refl
past_no_dot (l ∷ y) past = ap (λ (b : Bool). behind_dot_by b l y) (ends_no_dot l.terminal past)

pub value_begins : (x y : List Lexeme) → Derives (name g.Value) x y → begins_value x ≡ true
value_begins x y (by (left (is e))) = ap is_value e
value_begins x y (by (right (left (by (left (is e)))))) = ap is_value e
value_begins x y (by (right (left (by (right (left (is e))))))) = ap is_value e
value_begins x y (by (right (left (by (right (right (is e))))))) = ap is_value e
value_begins x y (by (right (right (by (left (is e)))))) = ap is_value e
value_begins x y (by (right (right (by (right (one_after (is e) s)))))) = ap is_value e

pub block_begins : (x y : List Lexeme) → Derives (name g.Block) x y → begins_value x ≡ true
block_begins x y (by (one_after (by (one_after {y = w} v more)) dot)) = value_begins x w v

-- ---- fewer tokens

pub behind_dot_fewer : (x : List Lexeme) → length (behind_dot x) ≤ length x
behind_dot_fewer [] = omega arith
behind_dot_fewer (l ∷ x) = by_case (is_dot l.terminal)
  where
    by_case : (b : Bool) → length (behind_dot_by b l x) ≤ length (l ∷ x)
    by_case true = omega arith
    by_case false = omega arith

pub value_not_none : (x : List Lexeme) → begins_value x ≡ true → length (behind_one x) < length x
value_not_none [] e = absurd cc
value_not_none (l ∷ x) e = omega arith

-- ---- the loop

abbrev pub Stands : Scope → List Lexeme → List Lexeme → List TriplePattern → List TriplePattern → Type 0
Stands scope x r old now =
    (y : List Lexeme) (d : Derives block_form x y) → IsPastBlock y → (e : Derives block_form r y) × (now ++ maybe_triples scope e ≡ old ++ maybe_triples scope d)

pub first_same : (scope : Scope) (x : List Lexeme) (old : List TriplePattern) → Stands scope x x old old
first_same scope x old y d past = (d, refl)

dotted : (scope : Scope) (x z w y : List Lexeme) (s : Derives (name g.Same) x z) (p : Derives (word t.Dot) z w) (b : Derives block_form w y) →
    block_triples scope (by (one_after s (with_it (one_after p b)))) ≡ same_triples scope s ++ maybe_triples scope b
dotted scope x z w y s p without = sym (append-nil (same_triples scope s))
dotted scope x z w y s p (with_it b) = refl

step_by : (scope : Scope) (r z y : List Lexeme) (mid new all : List TriplePattern) (e : Derives block_form r y) → begins_value r ≡ true → IsPastBlock y → AddsSame scope r z mid new → mid ++ maybe_triples scope e ≡ all →
    (f : Derives block_form (behind_dot z) y) × (new ++ maybe_triples scope f ≡ all)
step_by scope r z y mid new all without value past added whole = absurd (past_no_value r past value)
step_by scope r z y mid new all (with_it (by (one_after s without))) value past added whole =
    let done = added y s (past_block_same y past) in
    subst (λ (w : List Lexeme). (f : Derives block_form w y) × (new ++ maybe_triples scope f ≡ all)) (sym (ap behind_dot done.0 ∙ past_no_dot y past))
    (without, append-nil new ∙ done.1 ∙ whole)
step_by scope r z y mid new all (with_it (by (one_after s (with_it (one_after (is {l = l} {x = w} q) b))))) value past added whole =
    let done = added (l ∷ w) s (ap ends_same q) in
    let here = ap (λ (k : Terminal). behind_dot_by (is_dot k) l w) q in
    subst (λ (v : List Lexeme). (f : Derives block_form v y) × (new ++ maybe_triples scope f ≡ all)) (sym (ap behind_dot done.0 ∙ here)) (
      b,
      ap (λ (ts : List TriplePattern). ts ++ maybe_triples scope b) done.1 ∙ append_assoc mid (same_triples scope s) (maybe_triples scope b)
          ∙ ap (λ (ts : List TriplePattern). mid ++ ts) (sym (dotted scope r (l ∷ w) w y s (is q) b)) ∙ whole,
    )

pub next_same : (scope : Scope) (x r z : List Lexeme) (old mid new : List TriplePattern) → begins_value r ≡ true → Stands scope x r old mid → AddsSame scope r z mid new → Stands scope x (behind_dot z) old new
next_same scope x r z old mid new value stands added y d past =
    let so_far = stands y d past in
    step_by scope r z y mid new (old ++ maybe_triples scope d) so_far.0 value past added so_far.1

last_by : (scope : Scope) (r y : List Lexeme) (now all : List TriplePattern) (e : Derives block_form r y) → begins_value r ≡ false → now ++ maybe_triples scope e ≡ all → (r ≡ y) × (now ≡ all)
last_by scope r y now all without none whole = (refl, sym (append-nil now) ∙ whole)
last_by scope r y now all (with_it b) none whole = let value = block_begins r y b in absurd cc

pub last_same : (scope : Scope) (x r : List Lexeme) (old now : List TriplePattern) → Stands scope x r old now → begins_value r ≡ false → AddsBlock scope x r old now
last_same scope x r old now stands none y d past =
    let so_far = stands y d past in
    last_by scope r y now (old ++ maybe_triples scope d) so_far.0 none so_far.1
