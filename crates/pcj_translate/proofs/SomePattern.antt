-- A group in which no group is bare has a pattern.
use Rattle.std.proofs.Common.{◌≡◌, ℕ, if◌then◌else◌, Bool, true, false, ◌&&◌, List, [], ◌∷◌, ◌++◌, Option, Some, None, refl, ap, sym, subst, inl, inr, ◌⊎◌, ⊎_elim}
use Rattle.std.proofs.lemmas.Bool.{and_cases}
use Rattle.pcj_algebra.specs.declared.triple_pattern.Slot.{Slot}
use Rattle.pcj_algebra.specs.declared.triple_pattern.TriplePattern.{TriplePattern}
use Rattle.pcj_algebra.specs.declared.pattern.Pattern.{Pattern}
use Rattle.pcj_algebra.specs.declared.pattern.Pattern.TheVariants.{Triple, Join, Filter, Union}
use Rattle.pcj_expr.specs.declared.expr.Expr.{Expr}
use Rattle.pcj_grammar.specs.declared.lexeme.Lexeme.{Lexeme}
use Rattle.pcj_grammar.specs.Grammar.{Form, word, name, maybe, many, ◌▹◌, ◌or◌, Derives, is, by, one_after, left, right, without, with_it, end, again}
use Rattle.pcj_grammar.specs.Grammar as g
use Rattle.pcj_translate.specs.Term.{Scope}
use Rattle.pcj_translate.specs.Triples.{token_of, value_by, verb_by, objects_by, more_triples, same_triples, block_triples, triples_of}
use Rattle.pcj_translate.specs.declared.content.Content.{Content}
use Rattle.pcj_translate.specs.Group.{joined, joined_group, joined_triples, united, filtered, with_group, with_block, others_form, unions_form, group_by, others_by, other_by, unions_by}
use Rattle.pcj_translate.specs.Uses.{is_bare_block, are_bare, bare_groups, bare_others, bare_unions, place_of}

abbrev pub HasPattern : Option Pattern → Type 0
HasPattern o = (p : Pattern) × (o ≡ Some p)

abbrev pub HasSome : List TriplePattern → Type 0
HasSome ts = (first : TriplePattern) × (more : List TriplePattern) × (ts ≡ first ∷ more)

no_parts : {A : Type 0} (xs ys : List A) → xs ++ ys ≡ [] → (xs ≡ []) × (ys ≡ [])
no_parts [] ys e = (refl, e)
no_parts (x ∷ xs) ys e = absurd cc

-- ---- triples

objects_some : {x y : List Lexeme} (scope : Scope) (subject predicate : Slot) (d : Derives (name g.Objects) x y) (more : List TriplePattern) → HasSome (triples_of subject predicate (objects_by scope d) ++ more)
objects_some scope subject predicate (by (one_after v vs)) more = (_, _, refl)

same_some : {x y : List Lexeme} (scope : Scope) (d : Derives (name g.Same) x y) → HasSome (same_triples scope d)
same_some scope (by (one_after s (one_after v (one_after os more)))) = objects_some scope (value_by scope s) (verb_by scope v) os (more_triples scope (value_by scope s) more)

some_first : (ts more : List TriplePattern) → HasSome ts → HasSome (ts ++ more)
some_first ts more h = (h.0, h.1 ++ more, ap (λ (l : List TriplePattern). l ++ more) h.2)

pub block_some : {x y : List Lexeme} (scope : Scope) (d : Derives (name g.Block) x y) → HasSome (block_triples scope d)
block_some scope (by (one_after s without)) = same_some scope s
block_some scope (by (one_after s (with_it (one_after d without)))) = same_some scope s
block_some scope (by (one_after s (with_it (one_after d (with_it b))))) = some_first (same_triples scope s) (block_triples scope b) (same_some scope s)

keeps_triples : (p : Pattern) (ts : List TriplePattern) → HasPattern (joined_triples (Some p) ts)
keeps_triples p [] = (p, refl)
keeps_triples p (triple ∷ ts) = keeps_triples (Join p (Triple triple)) ts

joins_some : (o : Option Pattern) (p : Pattern) → HasPattern (joined o p)
joins_some None p = (p, refl)
joins_some (Some first) p = (Join first p, refl)

makes_triples : (o : Option Pattern) (first : TriplePattern) (more : List TriplePattern) → HasPattern (joined_triples o (first ∷ more))
makes_triples o first more = let h = joins_some o (Triple first) in subst (λ (q : Option Pattern). HasPattern (joined_triples q more)) (sym h.1) (keeps_triples h.0 more)

with_some : (o : Option Pattern) (ts : List TriplePattern) → HasSome ts → HasPattern (joined_triples o ts)
with_some o ts h = subst (λ (l : List TriplePattern). HasPattern (joined_triples o l)) (sym h.2) (makes_triples o h.0 h.1)

keeps_all : (o : Option Pattern) (ts : List TriplePattern) → HasPattern o → HasPattern (joined_triples o ts)
keeps_all o ts h = subst (λ (q : Option Pattern). HasPattern (joined_triples q ts)) (sym h.1) (keeps_triples h.0 ts)

-- ---- what is added keeps a pattern

block_keeps : {x y : List Lexeme} (scope : Scope) (content : Content) (b : Derives (maybe (name g.Block)) x y) → HasPattern content.pattern → HasPattern (with_block scope content b).pattern
block_keeps scope content without h = h
block_keeps scope content (with_it b) h = keeps_all content.pattern (block_triples scope b) h

block_makes : {x y : List Lexeme} (scope : Scope) (content : Content) (b : Derives (maybe (name g.Block)) x y) → is_bare_block b ≡ false → HasPattern (with_block scope content b).pattern
block_makes scope content without e = absurd cc
block_makes scope content (with_it b) e = with_some content.pattern (block_triples scope b) (block_some scope b)

group_keeps : (o group : Option Pattern) → HasPattern o → HasPattern (joined_group o group)
group_keeps o None h = h
group_keeps o (Some p) h = joins_some o p

group_makes : (o group : Option Pattern) → HasPattern group → HasPattern (joined_group o group)
group_makes o group h = subst (λ (q : Option Pattern). HasPattern (joined_group o q)) (sym h.1) (joins_some o h.0)

other_keeps : {x y : List Lexeme} (scope : Scope) (content : Content) (o : Derives (name g.Other) x y) → HasPattern content.pattern → HasPattern (other_by scope content o).pattern
other_keeps scope content (by (left (one_after f (one_after p (one_after e c))))) h = h
other_keeps scope content (by (right (one_after group unions))) h = group_keeps content.pattern (unions_by scope (group_by scope group) unions) h

others_keep : {x y : List Lexeme} (scope : Scope) (content : Content) (d : Derives others_form x y) → HasPattern content.pattern → HasPattern (others_by scope content d).pattern
others_keep scope content end h = h
others_keep scope content (again (one_after o (one_after d b)) more) h =
    others_keep scope (with_block scope (other_by scope content o) b) more (block_keeps scope (other_by scope content o) b (other_keeps scope content o h))

united_keeps : (p : Pattern) (o : Option Pattern) → HasPattern (united (Some p) o)
united_keeps p None = (p, refl)
united_keeps p (Some q) = (Union p q, refl)

unions_keep : {x y : List Lexeme} (scope : Scope) (o : Option Pattern) (d : Derives unions_form x y) → HasPattern o → HasPattern (unions_by scope o d)
unions_keep scope o end h = h
unions_keep scope o (again (one_after u group) more) h =
    unions_keep scope (united o (group_by scope group)) more (subst (λ (q : Option Pattern). HasPattern (united q (group_by scope group))) (sym h.1) (united_keeps h.0 (group_by scope group)))

closes : (condition : Option Expr) (o : Option Pattern) → HasPattern o → HasPattern (filtered condition o)
closes None o h = h
closes (Some condition) o h = (Filter condition h.0, ap (filtered (Some condition)) h.1)

-- ---- groups

own_bare : (bare : Bool) (place : ℕ) (rest : List ℕ) → (if bare then place ∷ [] else []) ++ rest ≡ [] → (bare ≡ false) × (rest ≡ [])
own_bare true place rest e = absurd cc
own_bare false place rest e = (refl, e)

mutual
  pub group_some : {x y : List Lexeme} (scope : Scope) (d : Derives (name g.Group) x y) → bare_groups d ≡ [] → HasPattern (group_by scope d)
  group_some scope (by (one_after o (one_after b (one_after others c)))) none =
      let parts = own_bare (is_bare_block b && are_bare others) (place_of (token_of o)) (bare_others others) none in
      let first : Content = with_block scope (record { pattern = None; condition = None }) b in
      closes (others_by scope first others).condition (others_by scope first others).pattern
      (either_some scope first others (⊎_elim (λ e. inl (block_makes scope (record { pattern = None; condition = None }) b e)) (λ e. inr e) (and_cases (is_bare_block b) (are_bare others) parts.0)) parts.1)

  either_some : {x y : List Lexeme} (scope : Scope) (content : Content) (d : Derives others_form x y) → HasPattern content.pattern ⊎ (are_bare d ≡ false) → bare_others d ≡ [] → HasPattern (others_by scope content d).pattern
  either_some scope content end (inl h) none = h
  either_some scope content end (inr e) none = absurd cc
  either_some scope content (again (one_after o (one_after d b)) more) (inl h) none =
      others_keep scope (with_block scope (other_by scope content o) b) more (block_keeps scope (other_by scope content o) b (other_keeps scope content o h))
  either_some scope content (again (one_after (by (left (one_after f (one_after p (one_after e c))))) (one_after d b)) more) (inr bare) none =
      let after : Content = other_by scope content (by (left (one_after f (one_after p (one_after e c))))) in
      either_some scope (with_block scope after b) more (⊎_elim (λ own. inl (block_makes scope after b own)) (λ later. inr later) (and_cases (is_bare_block b) (are_bare more) bare)) none
  either_some scope content (again (one_after (by (right (one_after group unions))) (one_after d b)) more) (inr bare) none =
      let parts = no_parts (bare_groups group ++ bare_unions unions) (bare_others more) none in
      let own = no_parts (bare_groups group) (bare_unions unions) parts.0 in
      let inner = unions_keep scope (group_by scope group) unions (group_some scope group own.0) in
      let after : Content = with_group content (unions_by scope (group_by scope group) unions) in
      others_keep scope (with_block scope after b) more (block_keeps scope after b (group_makes content.pattern (unions_by scope (group_by scope group) unions) inner))
