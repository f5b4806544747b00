-- The pattern of a derivation: its triple patterns and its conditions have valid terms, and no condition is too deep.
use Rattle.std.proofs.Common.{ℕ, ◌+◌, ◌≤◌, List, [], ◌∷◌, ◌++◌, length, Option, Some, None, ap, sym, subst, ◌∙◌, arith}
use Rattle.std.specs.List.{All, AllByRecursion}
use Rattle.std.proofs.lemmas.List.Elements.{All-nil, All-cons, All-append}
use Rattle.pcj_expr.specs.declared.expr.Expr.{Expr}
use Rattle.pcj_algebra.specs.declared.triple_pattern.Slot.{Slot}
use Rattle.pcj_algebra.specs.declared.triple_pattern.TriplePattern.{TriplePattern}
use Rattle.pcj_algebra.specs.declared.pattern.Pattern.{Pattern}
use Rattle.pcj_algebra.specs.declared.pattern.Pattern.TheOpen as open_pattern
use Rattle.pcj_algebra.specs.declared.pattern.Pattern.TheVariants.{Triple, Join, Filter, Union, rolls-Triple, rolls-Join, rolls-Filter, rolls-Union}
use Rattle.pcj_algebra.specs.declared.pattern.Pattern.TheFolds.{fold-roll-Pattern}
use Rattle.pcj_solutions.specs.Solutions.{patterns_step, triple_patterns}
use Rattle.pcj_grammar.specs.declared.lexeme.Lexeme.{Lexeme}
use Rattle.pcj_grammar.specs.declared.terminal.Terminal.TheVariants as t
use Rattle.pcj_grammar.specs.Grammar.{Form, word, name, maybe, many, ◌▹◌, ◌or◌, Derives, is, by, one_after, left, right, without, with_it, end, again}
use Rattle.pcj_grammar.specs.Grammar as g
use Rattle.pcj_translate.specs.Term.{Scope}
use Rattle.pcj_translate.specs.Triples.{value_by, verb_by, more_objects, objects_by, triples_of, more_triples, same_triples, block_triples}
use Rattle.pcj_translate.specs.Filter.{expr_by}
use Rattle.pcj_translate.specs.Group.{joined, joined_group, joined_triples, united, both_conditions, filtered, with_block, others_form, unions_form, group_by, others_by, other_by, unions_by}
use Rattle.pcj_tree.specs.Read.{IsSlot, IsExpr}
use Rattle.pcj_tree.specs.Laws.{IsTriplePattern, conditions_step, conditions_of}
use Rattle.pcj_stored.proofs.TermLemmas.{IsGood, behind, value_valid, verb_valid}
use Rattle.pcj_stored.proofs.ExprLemmas.{Fits, fits_less, and_fits, word_takes, fewer, expr_fits}

-- ---- triple patterns

both_all : {X : Type 0} (P : X → Type 0) (xs ys : List X) → AllByRecursion P xs → AllByRecursion P ys → AllByRecursion P (xs ++ ys)
both_all P [] ys first second = second
both_all P (x ∷ xs) ys first second = (first.0, both_all P xs ys first.1 second)

more_valid : {x y : List Lexeme} (scope : Scope) (d : Derives (many (word t.Comma ▹ name g.Value)) x y) → AllByRecursion (IsGood scope) x → AllByRecursion IsSlot (more_objects scope d)
more_valid scope end all = tt
more_valid scope (again (one_after c v) vs) all =
    let past = behind (IsGood scope) c all in
    (value_valid scope v past, more_valid scope vs (behind (IsGood scope) v past))

objects_valid : {x y : List Lexeme} (scope : Scope) (d : Derives (name g.Objects) x y) → AllByRecursion (IsGood scope) x → AllByRecursion IsSlot (objects_by scope d)
objects_valid scope (by (one_after v vs)) all = (value_valid scope v all, more_valid scope vs (behind (IsGood scope) v all))

triples_valid : (subject predicate : Slot) (objects : List Slot) → IsSlot subject → IsSlot predicate → AllByRecursion IsSlot objects → AllByRecursion IsTriplePattern (triples_of subject predicate objects)
triples_valid subject predicate [] s p os = tt
triples_valid subject predicate (object ∷ objects) s p os = ((s, p, os.0), triples_valid subject predicate objects s p os.1)

rest_valid : {x y : List Lexeme} (scope : Scope) (subject : Slot) (d : Derives (many (word t.Semicolon ▹ maybe (name g.Verb ▹ name g.Objects))) x y) → IsSlot subject → AllByRecursion (IsGood scope) x → AllByRecursion IsTriplePattern (more_triples scope subject d)
rest_valid scope subject end s all = tt
rest_valid scope subject (again (one_after c without) more) s all = rest_valid scope subject more s (behind (IsGood scope) c all)
rest_valid scope subject (again (one_after c (with_it (one_after v os))) more) s all =
    let past = behind (IsGood scope) c all in
    let later = behind (IsGood scope) v past in
    both_all IsTriplePattern (triples_of subject (verb_by scope v) (objects_by scope os)) (more_triples scope subject more)
    (triples_valid subject (verb_by scope v) (objects_by scope os) s (verb_valid scope v past) (objects_valid scope os later))
    (rest_valid scope subject more s (behind (IsGood scope) os later))

same_valid : {x y : List Lexeme} (scope : Scope) (d : Derives (name g.Same) x y) → AllByRecursion (IsGood scope) x → AllByRecursion IsTriplePattern (same_triples scope d)
same_valid scope (by (one_after s (one_after v (one_after os more)))) all =
    let subject = value_valid scope s all in
    let past = behind (IsGood scope) s all in
    let later = behind (IsGood scope) v past in
    both_all IsTriplePattern (triples_of (value_by scope s) (verb_by scope v) (objects_by scope os)) (more_triples scope (value_by scope s) more)
    (triples_valid (value_by scope s) (verb_by scope v) (objects_by scope os) subject (verb_valid scope v past) (objects_valid scope os later))
    (rest_valid scope (value_by scope s) more subject (behind (IsGood scope) os later))

pub block_valid : {x y : List Lexeme} (scope : Scope) (d : Derives (name g.Block) x y) → AllByRecursion (IsGood scope) x → AllByRecursion IsTriplePattern (block_triples scope d)
block_valid scope (by (one_after s without)) all = same_valid scope s all
block_valid scope (by (one_after s (with_it (one_after d without)))) all = same_valid scope s all
block_valid scope (by (one_after s (with_it (one_after d (with_it b))))) all =
    both_all IsTriplePattern (same_triples scope s) (block_triples scope b) (same_valid scope s all) (block_valid scope b (behind (IsGood scope) d (behind (IsGood scope) s all)))

-- ---- patterns

-- A pattern of valid terms, whose conditions are so deep at most.
pub record IsFine (n : ℕ) (p : Pattern) : Type 0 where
  pub triples : All IsTriplePattern (triple_patterns p)
  pub conditions : All (IsExpr n) (conditions_of p)

abbrev pub HasFine : ℕ → Option Pattern → Type 0
HasFine n None = Unit {0}
HasFine n (Some p) = IsFine n p

triple_fine : (n : ℕ) (of : TriplePattern) → IsTriplePattern of → IsFine n (Triple of)
triple_fine n of valid = record {
  triples = subst (All IsTriplePattern) (sym (ap triple_patterns (sym (rolls-Triple of)) ∙ fold-roll-Pattern (List TriplePattern) patterns_step (open_pattern.Triple of))) (All-cons IsTriplePattern of [] valid (All-nil IsTriplePattern));
  conditions = subst (All (IsExpr n)) (sym (ap conditions_of (sym (rolls-Triple of)) ∙ fold-roll-Pattern (List Expr) conditions_step (open_pattern.Triple of))) (All-nil (IsExpr n));
}

join_fine : (n : ℕ) (a b : Pattern) → IsFine n a → IsFine n b → IsFine n (Join a b)
join_fine n a b first second = record {
  triples = subst (All IsTriplePattern) (sym (ap triple_patterns (sym (rolls-Join a b)) ∙ fold-roll-Pattern (List TriplePattern) patterns_step (open_pattern.Join a b))) (All-append IsTriplePattern (triple_patterns a) (triple_patterns b) first.triples second.triples);
  conditions = subst (All (IsExpr n)) (sym (ap conditions_of (sym (rolls-Join a b)) ∙ fold-roll-Pattern (List Expr) conditions_step (open_pattern.Join a b))) (All-append (IsExpr n) (conditions_of a) (conditions_of b) first.conditions second.conditions);
}

union_fine : (n : ℕ) (a b : Pattern) → IsFine n a → IsFine n b → IsFine n (Union a b)
union_fine n a b first second = record {
  triples = subst (All IsTriplePattern) (sym (ap triple_patterns (sym (rolls-Union a b)) ∙ fold-roll-Pattern (List TriplePattern) patterns_step (open_pattern.Union a b))) (All-append IsTriplePattern (triple_patterns a) (triple_patterns b) first.triples second.triples);
  conditions = subst (All (IsExpr n)) (sym (ap conditions_of (sym (rolls-Union a b)) ∙ fold-roll-Pattern (List Expr) conditions_step (open_pattern.Union a b))) (All-append (IsExpr n) (conditions_of a) (conditions_of b) first.conditions second.conditions);
}

filter_fine : (n : ℕ) (c : Expr) (p : Pattern) → IsExpr n c → IsFine n p → IsFine n (Filter c p)
filter_fine n c p valid inner = record {
  triples = subst (All IsTriplePattern) (sym (ap triple_patterns (sym (rolls-Filter c p)) ∙ fold-roll-Pattern (List TriplePattern) patterns_step (open_pattern.Filter c p))) inner.triples;
  conditions = subst (All (IsExpr n)) (sym (ap conditions_of (sym (rolls-Filter c p)) ∙ fold-roll-Pattern (List Expr) conditions_step (open_pattern.Filter c p)))
      (All-append (IsExpr n) (conditions_of p) (c ∷ []) inner.conditions (All-cons (IsExpr n) c [] valid (All-nil (IsExpr n))));
}

joined_fine : (n : ℕ) (o : Option Pattern) (p : Pattern) → HasFine n o → IsFine n p → HasFine n (joined o p)
joined_fine n None p first second = second
joined_fine n (Some first_one) p first second = join_fine n first_one p first second

triples_joined : (n : ℕ) (o : Option Pattern) (ts : List TriplePattern) → HasFine n o → AllByRecursion IsTriplePattern ts → HasFine n (joined_triples o ts)
triples_joined n o [] first all = first
triples_joined n o (triple ∷ ts) first all = triples_joined n (joined o (Triple triple)) ts (joined_fine n o (Triple triple) first (triple_fine n triple all.0)) all.1

group_joined : (n : ℕ) (o group : Option Pattern) → HasFine n o → HasFine n group → HasFine n (joined_group o group)
group_joined n o None first second = first
group_joined n o (Some p) first second = joined_fine n o p first second

united_fine : (n : ℕ) (o next : Option Pattern) → HasFine n o → HasFine n next → HasFine n (united o next)
united_fine n None next first second = second
united_fine n (Some a) None first second = first
united_fine n (Some a) (Some b) first second = union_fine n a b first second

-- ---- conditions of a group

abbrev HasFits : ℕ → ℕ → Option Expr → Type 0
HasFits n rest None = Unit {0}
HasFits n rest (Some e) = Fits n rest e

has_less : (n k j : ℕ) (o : Option Expr) → j ≤ k → HasFits n k o → HasFits n j o
has_less n k j None less f = tt
has_less n k j (Some e) less f = fits_less n k j e less f

both_fit : (n x v u : ℕ) (o : Option Expr) (e : Expr) → HasFits n x o → Fits v u e → v + 1 ≤ x → x ≤ n → HasFits n u (both_conditions o e)
both_fit n x v u None e first second less within = record { depth = omega (arith, second.depth, less, within); operands = second.operands }
both_fit n x v u (Some first_one) e first second less within = and_fits n x v u first_one e first second less

filtered_fine : (n rest : ℕ) (o : Option Expr) (p : Option Pattern) → HasFits n rest o → HasFine n p → HasFine n (filtered o p)
filtered_fine n rest None p f h = h
filtered_fine n rest (Some c) None f h = tt
filtered_fine n rest (Some c) (Some p) f h = filter_fine n c p (omega (arith, f.depth), f.operands) h

-- ---- groups

-- what is found of a group so far, with so many tokens still to come
record IsContent (n rest : ℕ) (found : Option Pattern) (told : Option Expr) : Type 0 where
  pattern : HasFine n found
  condition : HasFits n rest told

block_content : {x y : List Lexeme} (n : ℕ) (scope : Scope) (p : Option Pattern) (c : Option Expr) (b : Derives (maybe (name g.Block)) x y) → AllByRecursion (IsGood scope) x → IsContent n (length x) p c →
    IsContent n (length y) (with_block scope (record { pattern = p; condition = c }) b).pattern (with_block scope (record { pattern = p; condition = c }) b).condition
block_content n scope p c without all h = h
block_content {x = x} {y = y} n scope p c (with_it b) all h = record {
  pattern = triples_joined n p (block_triples scope b) h.pattern (block_valid scope b all);
  condition = has_less n (length x) (length y) c (fewer b) h.condition;
}

mutual
  pub group_fine : {x y : List Lexeme} (n : ℕ) (scope : Scope) (d : Derives (name g.Group) x y) → AllByRecursion (IsGood scope) x → length x ≤ n → HasFine n (group_by scope d)
  group_fine n scope (by (one_after {y = u} o (one_after {y = v} b (one_after {y = w} others c)))) all within =
      let past = behind (IsGood scope) o all in
      let first = block_content n scope None None b past (record { pattern = tt; condition = tt }) in
      let content = with_block scope (record { pattern = None; condition = None }) b in
      let found = others_fine n scope content.pattern content.condition others (behind (IsGood scope) b past) (omega (arith, fewer o, fewer b, within)) first in
      filtered_fine n (length w) (others_by scope content others).condition (others_by scope content others).pattern found.condition found.pattern

  others_fine : {x y : List Lexeme} (n : ℕ) (scope : Scope) (p : Option Pattern) (c : Option Expr) (d : Derives others_form x y) → AllByRecursion (IsGood scope) x → length x ≤ n → IsContent n (length x) p c →
      IsContent n (length y) (others_by scope (record { pattern = p; condition = c }) d).pattern (others_by scope (record { pattern = p; condition = c }) d).condition
  others_fine n scope p c end all within h = h
  others_fine n scope p c (again {y = u} (one_after {y = v} o (one_after {y = w} d b)) more) all within h =
      let first = other_fine n scope p c o all within h in
      let past = behind (IsGood scope) d (behind (IsGood scope) o all) in
      let other = other_by scope (record { pattern = p; condition = c }) o in
      let dotted : IsContent n (length w) other.pattern other.condition = record { pattern = first.pattern; condition = has_less n (length v) (length w) other.condition (fewer d) first.condition } in
      let second = block_content n scope other.pattern other.condition b past dotted in
      let content = with_block scope other b in
      others_fine n scope content.pattern content.condition more (behind (IsGood scope) b past) (omega (arith, fewer o, fewer d, fewer b, within)) second

  other_fine : {x y : List Lexeme} (n : ℕ) (scope : Scope) (p : Option Pattern) (c : Option Expr) (d : Derives (name g.Other) x y) → AllByRecursion (IsGood scope) x → length x ≤ n → IsContent n (length x) p c →
      IsContent n (length y) (other_by scope (record { pattern = p; condition = c }) d).pattern (other_by scope (record { pattern = p; condition = c }) d).condition
  other_fine {x = x} {y = y} n scope p c (by (left (one_after {y = a} f (one_after {y = b} o (one_after {y = v} e k))))) all within h =
      let past = behind (IsGood scope) o (behind (IsGood scope) f all) in
      let found = both_fit n (length x) (length b) (length v) c (expr_by scope e) h.condition (expr_fits scope e past) (omega (arith, word_takes f, word_takes o)) within in
      record { pattern = h.pattern; condition = has_less n (length v) (length y) (both_conditions c (expr_by scope e)) (fewer k) found }
  other_fine {x = x} {y = y} n scope p c (by (right (one_after {y = u} group unions))) all within h =
      let first = group_fine n scope group all within in
      let whole = unions_fine n scope (group_by scope group) unions (behind (IsGood scope) group all) (omega (arith, fewer group, within)) first in
      record {
        pattern = group_joined n p (unions_by scope (group_by scope group) unions) h.pattern whole;
        condition = has_less n (length x) (length y) c (omega (arith, fewer group, fewer unions)) h.condition;
      }

  unions_fine : {x y : List Lexeme} (n : ℕ) (scope : Scope) (first : Option Pattern) (d : Derives unions_form x y) → AllByRecursion (IsGood scope) x → length x ≤ n → HasFine n first → HasFine n (unions_by scope first d)
  unions_fine n scope first end all within h = h
  unions_fine n scope first (again {y = u} (one_after {y = v} w group) more) all within h =
      let past = behind (IsGood scope) w all in
      let next = group_fine n scope group past (omega (arith, fewer w, within)) in
      unions_fine n scope (united first (group_by scope group)) more (behind (IsGood scope) group past) (omega (arith, fewer w, fewer group, within)) (united_fine n first (group_by scope group) h next)
