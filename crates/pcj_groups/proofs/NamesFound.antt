-- The names that a walk over a group finds are the variables of its pattern.
use Rattle.std.proofs.Common.{◌≡◌, ℕ, Bool, true, false, ◌&&◌, ◌||◌, List, [], ◌∷◌, ◌++◌, Option, Some, None, refl, ap, sym, subst, ◌∙◌, append_assoc, append-nil}
use Rattle.std.specs.List.{list_all}
use Rattle.std.proofs.lemmas.List.Folds.{list_any-append}
use Rattle.std.proofs.lemmas.Bool.{and_parts}
use Rattle.std.proofs.Math.Bool.{or_comm}
use Rattle.pcj_term.specs.Order.{same_bytes}
use Rattle.pcj_term.proofs.ByteLemmas.{same_bytes_are, same_bytes_itself}
use Rattle.pcj_algebra.specs.declared.triple_pattern.TriplePattern.{TriplePattern}
use Rattle.pcj_algebra.specs.declared.pattern.Pattern.{Pattern}
use Rattle.pcj_algebra.specs.declared.pattern.Pattern.TheVariants.{Triple, Join, Filter, Union, rolls-Triple, rolls-Join, rolls-Filter, rolls-Union}
use Rattle.pcj_algebra.specs.declared.pattern.Pattern.TheFolds.{fold-roll-Pattern}
use Rattle.pcj_algebra.specs.declared.pattern.Pattern.TheOpen as open_pattern
use Rattle.pcj_expr.specs.declared.expr.Expr.{Expr}
use Rattle.pcj_grammar.specs.declared.lexeme.Lexeme.{Lexeme}
use Rattle.pcj_grammar.specs.Grammar.{Form, word, name, maybe, many, ◌▹◌, ◌or◌, Derives, is, by, one_after, left, right, without, with_it, end, again}
use Rattle.pcj_grammar.specs.Grammar as g
use Rattle.pcj_translate.specs.Term.{Scope}
use Rattle.pcj_translate.specs.Triples.{token_of, block_triples}
use Rattle.pcj_translate.specs.Adding.{block_form}
use Rattle.pcj_translate.specs.Group.{joined, joined_group, joined_triples, united, filtered, with_block, others_form, unions_form, group_by, others_by, other_by, unions_by}
use Rattle.pcj_translate.specs.Grouping.{GroupContent, nothing as empty}
use Rattle.pcj_translate.specs.Names.{with_name, with_names}
use Rattle.pcj_translate.specs.Uses.{place_of}
use Rattle.pcj_translate.specs.Variables.{triple_variables, variables_step, variables_of, variables_in, has_variable, same_variables}
use Rattle.pcj_translate.proofs.SetsOfNames.{with_has}
use Rattle.pcj_groups.specs.declared.findings.Findings.{Findings}
use Rattle.pcj_groups.specs.Finding.{nothing, triples_variables, with_group, with_union, group_found, others_found, other_found, unions_found}
use Rattle.pcj_groups.specs.Finding as finding

-- ---- lists with the same names

abbrev pub SameNames : List (List ℕ) → List (List ℕ) → Type 0
SameNames names others = (v : List ℕ) → has_variable names v ≡ has_variable others v

or_moved : (a b c : Bool) → ((b || c) || a) ≡ (c || (b || a))
or_moved a true true = refl
or_moved a true false = refl
or_moved a false true = refl
or_moved a false false = refl

with_names_has : (set names : List (List ℕ)) (v : List ℕ) → has_variable (with_names set names) v ≡ (has_variable names v || has_variable set v)
with_names_has set [] v = refl
with_names_has set (n ∷ names) v =
    with_names_has (with_name set n) names v ∙ ap (λ (b : Bool). has_variable names v || b) (with_has set n v)
    ∙ sym (or_moved (has_variable set v) (same_bytes n v) (has_variable names v))

pub both_names : (a ax b bx : List (List ℕ)) → SameNames a ax → SameNames b bx → SameNames (with_names a b) (ax ++ bx)
both_names a ax b bx first next v =
    with_names_has a b v ∙ ap (λ (k : Bool). k || has_variable a v) (next v) ∙ ap (λ (k : Bool). has_variable bx v || k) (first v)
    ∙ or_comm (has_variable bx v) (has_variable ax v) ∙ sym (list_any-append (λ (k : List ℕ). same_bytes k v) ax bx)

same_as : (names a b : List (List ℕ)) → a ≡ b → SameNames names a → SameNames names b
same_as names a b e h = subst (λ (k : List (List ℕ)). SameNames names k) e h

-- ---- one list has another's names

first_or_later : (n v : List ℕ) (names others : List (List ℕ)) (b : Bool) → same_bytes n v ≡ b → has_variable others n ≡ true → (has_variable names v ≡ true → has_variable others v ≡ true) → (b || has_variable names v) ≡ true → has_variable others v ≡ true
first_or_later n v names others true e first later here = subst (λ (k : List ℕ). has_variable others k ≡ true) (same_bytes_are n v e) first
first_or_later n v names others false e first later here = later here

all_has : (names others : List (List ℕ)) → list_all (has_variable others) names ≡ true → (v : List ℕ) → has_variable names v ≡ true → has_variable others v ≡ true
all_has [] others all v here = absurd cc
all_has (n ∷ names) others all v here =
    let parts = and_parts (has_variable others n) (list_all (has_variable others) names) all in
    first_or_later n v names others (same_bytes n v) refl parts.0 (λ later. all_has names others parts.1 v later) here

has_all : (names others : List (List ℕ)) → ((v : List ℕ) → has_variable names v ≡ true → has_variable others v ≡ true) → list_all (has_variable others) names ≡ true
has_all [] others each = refl
has_all (n ∷ names) others each =
    ap (λ (b : Bool). b && list_all (has_variable others) names) (each n (ap (λ (b : Bool). b || has_variable names n) (same_bytes_itself n)))
    ∙ has_all names others (λ v here. each v (later (same_bytes n v) (has_variable names v) here))
  where
    later : (a b : Bool) → b ≡ true → (a || b) ≡ true
    later true b e = refl
    later false b e = e

equal_truth : (a b : Bool) → (a ≡ true → b ≡ true) → (b ≡ true → a ≡ true) → a ≡ b
equal_truth true b to back = sym (to refl)
equal_truth false true to back = back refl
equal_truth false false to back = refl

all_moved : (a ax b bx : List (List ℕ)) → SameNames a ax → SameNames b bx → list_all (has_variable b) a ≡ true → list_all (has_variable bx) ax ≡ true
all_moved a ax b bx first next all = has_all ax bx (λ v here. sym (next v) ∙ all_has a b all v (first v ∙ here))

all_same : (a ax b bx : List (List ℕ)) → SameNames a ax → SameNames b bx → list_all (has_variable b) a ≡ list_all (has_variable bx) ax
all_same a ax b bx first next =
    equal_truth (list_all (has_variable b) a) (list_all (has_variable bx) ax) (all_moved a ax b bx first next) (all_moved ax a bx b (λ v. sym (first v)) (λ v. sym (next v)))

pub same_same : (a ax b bx : List (List ℕ)) → SameNames a ax → SameNames b bx → same_variables a b ≡ same_variables ax bx
same_same a ax b bx first next =
    ap (λ (k : Bool). k && list_all (has_variable a) b) (all_same a ax b bx first next) ∙ ap (λ (k : Bool). list_all (has_variable bx) ax && k) (all_same b bx a ax next first)

-- ---- variables of patterns

triple_names : (triple : TriplePattern) → variables_of (Triple triple) ≡ triple_variables triple
triple_names triple = ap variables_of (sym (rolls-Triple triple)) ∙ fold-roll-Pattern (List (List ℕ)) variables_step (open_pattern.Triple triple)

join_names : (first next : Pattern) → variables_of (Join first next) ≡ variables_of first ++ variables_of next
join_names first next = ap variables_of (sym (rolls-Join first next)) ∙ fold-roll-Pattern (List (List ℕ)) variables_step (open_pattern.Join first next)

union_names : (first next : Pattern) → variables_of (Union first next) ≡ variables_of first ++ variables_of next
union_names first next = ap variables_of (sym (rolls-Union first next)) ∙ fold-roll-Pattern (List (List ℕ)) variables_step (open_pattern.Union first next)

filter_names : (condition : Expr) (inner : Pattern) → variables_of (Filter condition inner) ≡ variables_of inner
filter_names condition inner = ap variables_of (sym (rolls-Filter condition inner)) ∙ fold-roll-Pattern (List (List ℕ)) variables_step (open_pattern.Filter condition inner)

joined_variables : (first : Option Pattern) (p : Pattern) → variables_in (joined first p) ≡ variables_in first ++ variables_of p
joined_variables None p = refl
joined_variables (Some first) p = join_names first p

group_variables : (first group : Option Pattern) → variables_in (joined_group first group) ≡ variables_in first ++ variables_in group
group_variables first None = sym (append-nil (variables_in first))
group_variables first (Some p) = joined_variables first p

united_variables : (first next : Option Pattern) → variables_in (united first next) ≡ variables_in first ++ variables_in next
united_variables None next = refl
united_variables (Some first) None = sym (append-nil (variables_of first))
united_variables (Some first) (Some next) = union_names first next

joined_triples_variables : (first : Option Pattern) (ts : List TriplePattern) → variables_in (joined_triples first ts) ≡ variables_in first ++ triples_variables ts
joined_triples_variables first [] = sym (append-nil (variables_in first))
joined_triples_variables first (triple ∷ ts) =
    joined_triples_variables (joined first (Triple triple)) ts ∙ ap (λ (k : List (List ℕ)). k ++ triples_variables ts) (joined_variables first (Triple triple) ∙ ap (λ (k : List (List ℕ)). variables_in first ++ k) (triple_names triple))
    ∙ append_assoc (variables_in first) (triple_variables triple) (triples_variables ts)

closed_variables : (condition : Option Expr) (pattern : Option Pattern) → variables_in (filtered condition pattern) ≡ variables_in pattern
closed_variables None pattern = refl
closed_variables (Some condition) None = refl
closed_variables (Some condition) (Some pattern) = filter_names condition pattern

-- ---- what a walk finds

block_names : {x y : List Lexeme} (scope : Scope) (found : Findings) (content : GroupContent) (d : Derives block_form x y) → SameNames found.names (variables_in content.pattern) → SameNames (finding.with_block scope found d).names (variables_in (with_block scope content d).pattern)
block_names scope found content without h = h
block_names scope found content (with_it b) h =
    same_as _ _ _ (sym (joined_triples_variables content.pattern (block_triples scope b)))
    (both_names found.names (variables_in content.pattern) (triples_variables (block_triples scope b)) (triples_variables (block_triples scope b)) h (λ v. refl))

mutual
  pub group_names : {x y : List Lexeme} (scope : Scope) (d : Derives (name g.Group) x y) → SameNames (group_found scope d).names (variables_in (group_by scope d))
  group_names scope (by (one_after o (one_after b (one_after others c)))) =
      let start : GroupContent = with_block scope empty b in
      same_as _ _ _ (sym (closed_variables (others_by scope start others).condition (others_by scope start others).pattern))
      (others_names scope (finding.with_block scope nothing b) start others (block_names scope nothing empty b (λ v. refl)))

  others_names : {x y : List Lexeme} (scope : Scope) (found : Findings) (content : GroupContent) (d : Derives others_form x y) → SameNames found.names (variables_in content.pattern) → SameNames (others_found scope found d).names (variables_in (others_by scope content d).pattern)
  others_names scope found content end h = h
  others_names scope found content (again (one_after o (one_after d b)) more) h =
      others_names scope (finding.with_block scope (other_found scope found o) b) (with_block scope (other_by scope content o) b) more
      (block_names scope (other_found scope found o) (other_by scope content o) b (other_names scope found content o h))

  other_names : {x y : List Lexeme} (scope : Scope) (found : Findings) (content : GroupContent) (d : Derives (name g.Other) x y) → SameNames found.names (variables_in content.pattern) → SameNames (other_found scope found d).names (variables_in (other_by scope content d).pattern)
  other_names scope found content (by (left (one_after f (one_after p (one_after e c))))) h = h
  other_names scope found content (by (right (one_after group unions))) h =
      same_as _ _ _ (sym (group_variables content.pattern (unions_by scope (group_by scope group) unions)))
      (unions_names scope (group_found scope group).names (variables_in content.pattern) (with_group found (group_found scope group)) (group_by scope group) unions
      (both_names found.names (variables_in content.pattern) (group_found scope group).names (variables_in (group_by scope group)) h (group_names scope group)))

  unions_names : {x y : List Lexeme} (scope : Scope) (first before : List (List ℕ)) (found : Findings) (o : Option Pattern) (d : Derives unions_form x y) → SameNames found.names (before ++ variables_in o) → SameNames (unions_found scope first found d).names (before ++ variables_in (unions_by scope o d))
  unions_names scope first before found o end h = h
  unions_names scope first before found o (again (one_after u group) more) h =
      unions_names scope first before (with_union found first (place_of (token_of u)) (group_found scope group)) (united o (group_by scope group)) more
      (same_as _ _ _ (append_assoc before (variables_in o) (variables_in (group_by scope group)) ∙ ap (λ (k : List (List ℕ)). before ++ k) (sym (united_variables o (group_by scope group))))
      (both_names found.names (before ++ variables_in o) (group_found scope group).names (variables_in (group_by scope group)) h (group_names scope group)))
