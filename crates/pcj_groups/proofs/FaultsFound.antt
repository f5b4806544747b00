-- The places that a walk over a group finds are the lowest of those where something is wrong.
use Rattle.std.proofs.Common.{◌≡◌, ℕ, Bool, true, false, not, if◌then◌else◌, ◌&&◌, List, [], ◌∷◌, ◌++◌, map, filter, Option, Some, None, refl, ap, sym, ◌∙◌, arith}
use Rattle.std.proofs.lemmas.List.Elements.{filter-append}
use Rattle.pcj_algebra.specs.declared.triple_pattern.TriplePattern.{TriplePattern}
use Rattle.pcj_grammar.specs.declared.lexeme.Lexeme.{Lexeme}
use Rattle.pcj_grammar.specs.Grammar.{Form, word, name, maybe, many, ◌▹◌, ◌or◌, Derives, is, by, one_after, left, right, without, with_it, end, again}
use Rattle.pcj_grammar.specs.Grammar as g
use Rattle.pcj_translate.specs.Term.{Scope, variable_of}
use Rattle.pcj_translate.specs.Triples.{token_of, block_triples}
use Rattle.pcj_translate.specs.Adding.{block_form, maybe_triples}
use Rattle.pcj_translate.specs.Group.{others_form, unions_form, group_by}
use Rattle.pcj_translate.specs.Places.{lower, lowest_of, lower_of}
use Rattle.pcj_translate.specs.Uses.{place_of, expr_uses, unknown_among, is_bare_block, are_bare, bare_groups, bare_others, bare_other, bare_unions, unknown_in_group, unknown_in_others, unknown_in_other, unknown_in_unions, uneven_at, uneven_in_group, uneven_in_others, uneven_in_other, uneven_in_unions}
use Rattle.pcj_translate.specs.Variables.{variables_in, has_variable, same_variables}
use Rattle.pcj_translate.proofs.Lowest.{exchanged, lower_both, nothing_later, lowest_of_both}
use Rattle.pcj_translate.proofs.SomePattern.{HasSome, block_some}
use Rattle.pcj_groups.specs.declared.findings.Findings.{Findings}
use Rattle.pcj_groups.specs.Finding.{nothing, is_none, uneven_by, bare_by, with_uses, with_group, with_union, with_block, group_found, others_found, other_found, unions_found}
use Rattle.pcj_groups.proofs.NamesFound.{SameNames, same_same, group_names}

-- ---- lowest places

of_three : (a b c : Option ℕ) → lower_of (lower_of a b) c ≡ lower_of a (lower_of b c)
of_three None b c = refl
of_three (Some place) b c = sym (lower_both place b c)

other_first : (a b : Option ℕ) → lower_of a b ≡ lower_of b a
other_first None b = sym (nothing_later b)
other_first (Some place) None = refl
other_first (Some place) (Some other) = ap (λ (n : ℕ). Some n) (omega arith)

-- what is found by a part and then by what follows it
followed : (before now after : Option ℕ) (places others : List ℕ) → now ≡ lower_of before (lowest_of places) → after ≡ lower_of now (lowest_of others) → after ≡ lower_of before (lowest_of (places ++ others))
followed before now after places others first next =
    next ∙ ap (λ (o : Option ℕ). lower_of o (lowest_of others)) first ∙ of_three before (lowest_of places) (lowest_of others) ∙ ap (lower_of before) (sym (lowest_of_both places others))

-- ---- groups that are bare

none_of : (ts : List TriplePattern) → HasSome ts → is_none ts ≡ false
none_of ts h = ap is_none h.2

none_bare : {x y : List Lexeme} (scope : Scope) (d : Derives block_form x y) → is_none (maybe_triples scope d) ≡ is_bare_block d
none_bare scope without = refl
none_bare scope (with_it b) = none_of (block_triples scope b) (block_some scope b)

and_true : (a : Bool) → (a && true) ≡ a
and_true true = refl
and_true false = refl

and_false : (a : Bool) → (a && false) ≡ false
and_false true = refl
and_false false = refl

and_moved : (a b c : Bool) → ((a && b) && c) ≡ (b && (a && c))
and_moved true true c = refl
and_moved true false c = refl
and_moved false true c = refl
and_moved false false c = refl

unions_bare : {x y : List Lexeme} (scope : Scope) (first : List (List ℕ)) (found : Findings) (d : Derives unions_form x y) → found.is_bare ≡ false → (unions_found scope first found d).is_bare ≡ false
unions_bare scope first found end h = h
unions_bare scope first found (again (one_after u group) more) h = unions_bare scope first (with_union found first (place_of (token_of u)) (group_found scope group)) more refl

others_bare : {x y : List Lexeme} (scope : Scope) (found : Findings) (d : Derives others_form x y) → (others_found scope found d).is_bare ≡ (found.is_bare && are_bare d)
others_bare scope found end = sym (and_true found.is_bare)
others_bare scope found (again (one_after (by (left (one_after f (one_after p (one_after e c))))) (one_after d b)) more) =
    others_bare scope (with_block scope (with_uses found (expr_uses e)) b) more ∙ ap (λ (k : Bool). (k && found.is_bare) && are_bare more) (none_bare scope b)
    ∙ and_moved (is_bare_block b) found.is_bare (are_bare more)
others_bare scope found (again (one_after (by (right (one_after group unions))) (one_after d b)) more) =
    let inner = unions_bare scope (group_found scope group).names (with_group found (group_found scope group)) unions refl in
    others_bare scope (with_block scope (other_found scope found (by (right (one_after group unions)))) b) more
    ∙ ap (λ (k : Bool). (is_none (maybe_triples scope b) && k) && are_bare more) inner ∙ ap (λ (k : Bool). k && are_bare more) (and_false (is_none (maybe_triples scope b)))
    ∙ sym (and_false found.is_bare)

own_bare : (bare : Bool) (place : ℕ) (found : Option ℕ) (places : List ℕ) → found ≡ lowest_of places → bare_by bare place found ≡ lowest_of ((if bare then place ∷ [] else []) ++ places)
own_bare true place found places e = ap (lower place) e
own_bare false place found places e = e

mutual
  pub group_bare : {x y : List Lexeme} (scope : Scope) (d : Derives (name g.Group) x y) → (group_found scope d).faults.bare ≡ lowest_of (bare_groups d)
  group_bare scope (by (one_after o (one_after b (one_after others c)))) =
      let start : Findings = with_block scope nothing b in
      let is_bare = others_bare scope start others ∙ ap (λ (k : Bool). k && are_bare others) (and_true (is_none (maybe_triples scope b)) ∙ none_bare scope b) in
      ap (λ (k : Bool). bare_by k (place_of (token_of o)) (others_found scope start others).faults.bare) is_bare
      ∙ own_bare (is_bare_block b && are_bare others) (place_of (token_of o)) (others_found scope start others).faults.bare (bare_others others) (others_lowest scope start others)

  others_lowest : {x y : List Lexeme} (scope : Scope) (found : Findings) (d : Derives others_form x y) → (others_found scope found d).faults.bare ≡ lower_of found.faults.bare (lowest_of (bare_others d))
  others_lowest scope found end = sym (nothing_later found.faults.bare)
  others_lowest scope found (again (one_after o (one_after d b)) more) =
      followed found.faults.bare (other_found scope found o).faults.bare _ (bare_other o) (bare_others more) (other_lowest scope found o) (others_lowest scope (with_block scope (other_found scope found o) b) more)

  other_lowest : {x y : List Lexeme} (scope : Scope) (found : Findings) (d : Derives (name g.Other) x y) → (other_found scope found d).faults.bare ≡ lower_of found.faults.bare (lowest_of (bare_other d))
  other_lowest scope found (by (left (one_after f (one_after p (one_after e c))))) = sym (nothing_later found.faults.bare)
  other_lowest scope found (by (right (one_after group unions))) =
      followed found.faults.bare (with_group found (group_found scope group)).faults.bare _ (bare_groups group) (bare_unions unions) (ap (lower_of found.faults.bare) (group_bare scope group))
      (unions_lowest scope (group_found scope group).names (with_group found (group_found scope group)) unions)

  unions_lowest : {x y : List Lexeme} (scope : Scope) (first : List (List ℕ)) (found : Findings) (d : Derives unions_form x y) → (unions_found scope first found d).faults.bare ≡ lower_of found.faults.bare (lowest_of (bare_unions d))
  unions_lowest scope first found end = sym (nothing_later found.faults.bare)
  unions_lowest scope first found (again (one_after u group) more) =
      followed found.faults.bare (with_group found (group_found scope group)).faults.bare _ (bare_groups group) (bare_unions more) (ap (lower_of found.faults.bare) (group_bare scope group))
      (unions_lowest scope first (with_union found first (place_of (token_of u)) (group_found scope group)) more)

-- ---- variables of filters that their group doesn't have

same_unknown : (scope : Scope) (names variables : List (List ℕ)) (uses : List Lexeme) → SameNames names variables → unknown_among scope names uses ≡ unknown_among scope variables uses
same_unknown scope names variables uses same = λ i. map place_of (filter (λ l. not (same (variable_of scope l) i)) uses)

map_places : (xs ys : List Lexeme) → map place_of (xs ++ ys) ≡ map place_of xs ++ map place_of ys
map_places [] ys = refl
map_places (x ∷ xs) ys = ap (λ (ns : List ℕ). x.at ∷ ns) (map_places xs ys)

more_unknown : (scope : Scope) (variables : List (List ℕ)) (xs ys : List Lexeme) → unknown_among scope variables (xs ++ ys) ≡ unknown_among scope variables xs ++ unknown_among scope variables ys
more_unknown scope variables xs ys =
    let test : Lexeme → Bool = λ l. not (has_variable variables (variable_of scope l)) in
    ap (map place_of) (filter-append test xs ys) ∙ map_places (filter test xs) (filter test ys)

-- those that are found, and those of the uses so far
abbrev pending : Scope → List (List ℕ) → Findings → Option ℕ
pending scope variables found = lower_of found.faults.unknown (lowest_of (unknown_among scope variables found.uses))

later : (a places b : Option ℕ) → lower_of (lower_of a b) places ≡ lower_of (lower_of a places) b
later a places b = of_three a b places ∙ ap (lower_of a) (other_first b places) ∙ sym (of_three a places b)

unions_uses : {x y : List Lexeme} (scope : Scope) (first : List (List ℕ)) (found : Findings) (d : Derives unions_form x y) → (unions_found scope first found d).uses ≡ found.uses
unions_uses scope first found end = refl
unions_uses scope first found (again (one_after u group) more) = unions_uses scope first (with_union found first (place_of (token_of u)) (group_found scope group)) more

mutual
  pub group_unknown : {x y : List Lexeme} (scope : Scope) (d : Derives (name g.Group) x y) → (group_found scope d).faults.unknown ≡ lowest_of (unknown_in_group scope d)
  group_unknown scope (by (one_after o (one_after b (one_after others c)))) =
      let start : Findings = with_block scope nothing b in
      let variables = variables_in (group_by scope (by (one_after o (one_after b (one_after others c))))) in
      ap (λ (ns : List ℕ). lower_of (others_found scope start others).faults.unknown (lowest_of ns)) (same_unknown scope (others_found scope start others).names variables (others_found scope start others).uses (group_names scope (by (one_after o (one_after b (one_after others c))))))
      ∙ others_pending scope variables start others

  others_pending : {x y : List Lexeme} (scope : Scope) (variables : List (List ℕ)) (found : Findings) (d : Derives others_form x y) → pending scope variables (others_found scope found d) ≡ lower_of (pending scope variables found) (lowest_of (unknown_in_others scope variables d))
  others_pending scope variables found end = sym (nothing_later (pending scope variables found))
  others_pending scope variables found (again (one_after o (one_after d b)) more) =
      followed (pending scope variables found) (pending scope variables (other_found scope found o)) _ (unknown_in_other scope variables o) (unknown_in_others scope variables more) (other_pending scope variables found o)
      (others_pending scope variables (with_block scope (other_found scope found o) b) more)

  other_pending : {x y : List Lexeme} (scope : Scope) (variables : List (List ℕ)) (found : Findings) (d : Derives (name g.Other) x y) → pending scope variables (other_found scope found d) ≡ lower_of (pending scope variables found) (lowest_of (unknown_in_other scope variables d))
  other_pending scope variables found (by (left (one_after f (one_after p (one_after e c))))) =
      let own = unknown_among scope variables found.uses in
      let new = unknown_among scope variables (expr_uses e) in
      ap (λ (ns : List ℕ). lower_of found.faults.unknown (lowest_of ns)) (more_unknown scope variables found.uses (expr_uses e)) ∙ ap (lower_of found.faults.unknown) (lowest_of_both own new) ∙ sym (of_three found.faults.unknown (lowest_of own) (lowest_of new))
  other_pending scope variables found (by (right (one_after group unions))) =
      let places = unknown_in_group scope group ++ unknown_in_unions scope unions in
      let own = lowest_of (unknown_among scope variables found.uses) in
      let start : Findings = with_group found (group_found scope group) in
      let whole = unions_found scope (group_found scope group).names start unions in
      let found_there = followed found.faults.unknown start.faults.unknown whole.faults.unknown (unknown_in_group scope group) (unknown_in_unions scope unions) (ap (lower_of found.faults.unknown) (group_unknown scope group)) (unions_unknown scope (group_found scope group).names start unions) in
      ap (λ (uses : List Lexeme). lower_of whole.faults.unknown (lowest_of (unknown_among scope variables uses))) (unions_uses scope (group_found scope group).names start unions)
      ∙ ap (λ (n : Option ℕ). lower_of n own) found_there ∙ later found.faults.unknown own (lowest_of places)

  unions_unknown : {x y : List Lexeme} (scope : Scope) (first : List (List ℕ)) (found : Findings) (d : Derives unions_form x y) → (unions_found scope first found d).faults.unknown ≡ lower_of found.faults.unknown (lowest_of (unknown_in_unions scope d))
  unions_unknown scope first found end = sym (nothing_later found.faults.unknown)
  unions_unknown scope first found (again (one_after u group) more) =
      followed found.faults.unknown (with_group found (group_found scope group)).faults.unknown _ (unknown_in_group scope group) (unknown_in_unions scope more) (ap (lower_of found.faults.unknown) (group_unknown scope group))
      (unions_unknown scope first (with_union found first (place_of (token_of u)) (group_found scope group)) more)

-- ---- UNION of groups with different variables

uneven_found : (same : Bool) (l : Lexeme) (found rest : Option ℕ) → lower_of (uneven_by same l.at found) rest ≡ lower_of found (lower_of (lowest_of (uneven_at same l)) rest)
uneven_found true l found rest = refl
uneven_found false l found rest = exchanged l.at found rest

exchanged_lists : (found : Option ℕ) (own inner rest : List ℕ) → lower_of (lower_of found (lowest_of inner)) (lower_of (lowest_of own) (lowest_of rest)) ≡ lower_of found (lowest_of (own ++ (inner ++ rest)))
exchanged_lists found own inner rest =
    of_three found (lowest_of inner) (lower_of (lowest_of own) (lowest_of rest))
    ∙ ap (lower_of found) (sym (of_three (lowest_of inner) (lowest_of own) (lowest_of rest)) ∙ ap (λ (o : Option ℕ). lower_of o (lowest_of rest)) (other_first (lowest_of inner) (lowest_of own)) ∙ of_three (lowest_of own) (lowest_of inner) (lowest_of rest)
    ∙ ap (lower_of (lowest_of own)) (sym (lowest_of_both inner rest)) ∙ sym (lowest_of_both own (inner ++ rest)))

mutual
  pub group_uneven : {x y : List Lexeme} (scope : Scope) (d : Derives (name g.Group) x y) → (group_found scope d).faults.uneven ≡ lowest_of (uneven_in_group scope d)
  group_uneven scope (by (one_after o (one_after b (one_after others c)))) = others_uneven scope (with_block scope nothing b) others

  others_uneven : {x y : List Lexeme} (scope : Scope) (found : Findings) (d : Derives others_form x y) → (others_found scope found d).faults.uneven ≡ lower_of found.faults.uneven (lowest_of (uneven_in_others scope d))
  others_uneven scope found end = sym (nothing_later found.faults.uneven)
  others_uneven scope found (again (one_after o (one_after d b)) more) =
      followed found.faults.uneven (other_found scope found o).faults.uneven _ (uneven_in_other scope o) (uneven_in_others scope more) (other_uneven scope found o) (others_uneven scope (with_block scope (other_found scope found o) b) more)

  other_uneven : {x y : List Lexeme} (scope : Scope) (found : Findings) (d : Derives (name g.Other) x y) → (other_found scope found d).faults.uneven ≡ lower_of found.faults.uneven (lowest_of (uneven_in_other scope d))
  other_uneven scope found (by (left (one_after f (one_after p (one_after e c))))) = sym (nothing_later found.faults.uneven)
  other_uneven scope found (by (right (one_after group unions))) =
      followed found.faults.uneven (with_group found (group_found scope group)).faults.uneven _ (uneven_in_group scope group) (uneven_in_unions scope (variables_in (group_by scope group)) unions) (ap (lower_of found.faults.uneven) (group_uneven scope group))
      (unions_uneven scope (group_found scope group).names (variables_in (group_by scope group)) (with_group found (group_found scope group)) unions (group_names scope group))

  unions_uneven : {x y : List Lexeme} (scope : Scope) (first variables : List (List ℕ)) (found : Findings) (d : Derives unions_form x y) → SameNames first variables → (unions_found scope first found d).faults.uneven ≡ lower_of found.faults.uneven (lowest_of (uneven_in_unions scope variables d))
  unions_uneven scope first variables found end same = sym (nothing_later found.faults.uneven)
  unions_uneven scope first variables found (again (one_after u group) more) same =
      let even = same_variables variables (variables_in (group_by scope group)) in
      let inner = uneven_in_group scope group in
      let rest = uneven_in_unions scope variables more in
      let now = lower_of found.faults.uneven (group_found scope group).faults.uneven in
      unions_uneven scope first variables (with_union found first (place_of (token_of u)) (group_found scope group)) more same
      ∙ ap (λ (k : Bool). lower_of (uneven_by k (token_of u).at now) (lowest_of rest)) (same_same first variables (group_found scope group).names (variables_in (group_by scope group)) same (group_names scope group))
      ∙ uneven_found even (token_of u) now (lowest_of rest)
      ∙ ap (λ (o : Option ℕ). lower_of (lower_of found.faults.uneven o) (lower_of (lowest_of (uneven_at even (token_of u))) (lowest_of rest))) (group_uneven scope group)
      ∙ exchanged_lists found.faults.uneven (uneven_at even (token_of u)) inner rest
