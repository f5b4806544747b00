-- The query of a text: its tree can be stored, and has few nodes.
use Rattle.std.proofs.Common.{◌≡◌, ℕ, ◌+◌, ◌≤◌, Bool, true, false, ◌&&◌, ◌||◌, nat_lt, cond, if◌then◌else◌, List, [], ◌∷◌, ◌++◌, length, map, filter, Option, Some, None, refl, ap, sym, subst, ◌∙◌, arith}
use Rattle.std.specs.List.{AllByRecursion}
use Rattle.std.proofs.lemmas.Bool.{ltb-false}
use Rattle.std.proofs.lemmas.Str.{IsUtf8-from_is_utf8}
use Rattle.pcj_algebra.specs.declared.pattern.Pattern.{Pattern, Pattern-F, fold-Pattern}
use Rattle.pcj_algebra.specs.declared.pattern.Pattern.TheOpen as open_pattern
use Rattle.pcj_grammar.specs.declared.lexeme.Lexeme.{Lexeme}
use Rattle.pcj_grammar.specs.declared.terminal.Terminal.{Terminal}
use Rattle.pcj_grammar.specs.Grammar.{Form, name, Derives, is, by, one_after, left, right, without, with_it, end, again}
use Rattle.pcj_grammar.specs.Grammar as g
use Rattle.pcj_translate.specs.Term.{Declaration, source_of, iri_of}
use Rattle.pcj_translate.specs.Triples.{token_of}
use Rattle.pcj_translate.specs.Variables.{nodes_step, node_count, triple_count, variables_of, distinct_variables}
use Rattle.pcj_translate.specs.Uses.{place_of}
use Rattle.pcj_sparql.specs.declared.error.QueryError.{QueryError}
use Rattle.pcj_sparql.specs.declared.kind.QueryKind.{QueryKind}
use Rattle.pcj_sparql.specs.declared.kind.QueryKind.TheVariants as query_kinds
use Rattle.pcj_sparql.specs.Query.{Parts, declarations_form, declared_by, declaration_of, scope_of, parts_of, failing, fault_of, undeclared, relative, misshapen, unknown, too_large, is_name_token, is_iri_token, is_none, is_relative, is_large, is_large_pattern}
use Rattle.pcj_tree.specs.Tree.{size_step, size_of}
use Rattle.pcj_stored.specs.Laws.{QueriesCanBeStored, QueriesHaveFewNodes}
use Rattle.pcj_stored.proofs.CharacterLemmas.{IsIriPart}
use Rattle.pcj_stored.proofs.TokenLemmas.{are_written}
use Rattle.pcj_stored.proofs.TermLemmas.{Says, IsSaid, all_said, HasIris, namespace_iris, IsGood, all_good, behind, token_there}
use Rattle.pcj_stored.proofs.ExprLemmas.{fewer}
use Rattle.pcj_stored.proofs.GroupLemmas.{IsFine, HasFine, group_fine}

-- ---- declarations

declared_iris : {x y : List Lexeme} (text : List ℕ) (d : Derives declarations_form x y) → AllByRecursion (IsSaid text) x → AllByRecursion (λ (e : Declaration). IsIriPart e.iri) (map (declaration_of text) (declared_by d))
declared_iris text end all = tt
declared_iris text (again (one_after p (one_after n i)) more) all =
    let past = behind (IsSaid text) n (behind (IsSaid text) p all) in
    let there = token_there (IsSaid text) i past in
    (subst (λ (k : Terminal). Says k (source_of text (token_of i))) there.1 there.0, declared_iris text more (behind (IsSaid text) i past))

-- ---- checks that don't fail

failing_none : (kind : QueryKind) (places : List ℕ) (later : Option QueryError) → failing kind places later ≡ None → (places ≡ []) × (later ≡ None)
failing_none kind [] later e = (refl, e)
failing_none kind (place ∷ places) later e = absurd cc

-- what the checks of a query say
record IsChecked (p : Parts) : Type 0 where
  undeclared_none : undeclared p ≡ []
  relative_none : relative p ≡ []
  large_none : too_large p ≡ []

checked : (p : Parts) → fault_of p ≡ None → IsChecked p
checked p e =
    let first = failing_none query_kinds.UnknownPrefix (undeclared p) _ e in
    let second = failing_none query_kinds.OutOfProfile (relative p) _ first.1 in
    let third = failing_none query_kinds.OutOfProfile (misshapen p) _ second.1 in
    let fourth = failing_none query_kinds.OutOfProfile p.bare _ third.1 in
    let fifth = failing_none query_kinds.UnknownVariable (unknown p) _ fourth.1 in
    let sixth = failing_none query_kinds.UnionVariables p.uneven _ fifth.1 in
    let last = failing_none query_kinds.TooLarge (too_large p) None sixth.1 in
    record { undeclared_none = first.0; relative_none = second.0; large_none = last.0 }

last_empty : {X : Type 0} (xs ys : List X) → xs ++ ys ≡ [] → ys ≡ []
last_empty [] ys e = e
last_empty (x ∷ xs) ys e = absurd cc

none_kept : (test : Lexeme → Bool) (ls : List Lexeme) → map place_of (filter test ls) ≡ [] → AllByRecursion (λ (l : Lexeme). test l ≡ false) ls
none_kept test [] e = tt
none_kept test (l ∷ ls) e = by (test l) refl e (λ f. none_kept test ls f)
  where
    by : (v : Bool) → test l ≡ v → map place_of (cond v (l ∷ filter test ls) (filter test ls)) ≡ [] → (map place_of (filter test ls) ≡ [] → AllByRecursion (λ (k : Lexeme). test k ≡ false) ls) → AllByRecursion (λ (k : Lexeme). test k ≡ false) (l ∷ ls)
    by true p e later = absurd cc
    by false p e later = (p, later e)

-- ---- sizes

step_same : (x : Pattern-F ℕ) → nodes_step x ≡ size_step x
step_same (open_pattern.Triple of) = refl
step_same (open_pattern.Join a b) = refl
step_same (open_pattern.Filter condition inner) = refl
step_same (open_pattern.Union a b) = refl

steps_same : ◌≡◌ {A = Pattern-F ℕ → ℕ} nodes_step size_step
steps_same = λ i. λ x. step_same x i

sizes_same : (p : Pattern) → node_count p ≡ size_of p + 1
sizes_same p = ap (λ (s : Pattern-F ℕ → ℕ). fold-Pattern ℕ s p + 1) steps_same

or_last : (a b : Bool) → a || b ≡ false → b ≡ false
or_last true b e = absurd cc
or_last false b e = e

not_large : (p : Pattern) → is_large p ≡ false → size_of p + 1 ≤ 128
not_large p e =
    let last = or_last (nat_lt 16 (triple_count p) || nat_lt 32 (length (distinct_variables (variables_of p)))) (nat_lt 128 (node_count p)) e in
    omega (arith, ltb-false 128 (node_count p) last, sizes_same p)

no_place : (v : Bool) (place : ℕ) → (if v then place ∷ [] else []) ≡ [] → v ≡ false
no_place true place e = absurd cc
no_place false place e = refl

few_nodes : (parts : Parts) (p : Pattern) → too_large parts ≡ [] → parts.pattern ≡ Some p → size_of p + 1 ≤ 128
few_nodes parts p none some =
    let large : is_large_pattern parts.pattern ≡ false = no_place (is_large_pattern parts.pattern) (place_of parts.select) none in
    not_large p (ap is_large_pattern (sym some) ∙ large)

-- ---- the query of a derivation

fine_of : (text : List ℕ) (lexemes : List Lexeme) (d : Derives (name g.Query) lexemes []) (n : ℕ) → length lexemes ≤ n → AllByRecursion (IsSaid text) lexemes → IsChecked (parts_of text d) → HasFine n (parts_of text d).pattern
fine_of text lexemes (by (one_after {y = body} decls (one_after sel (one_after dis (one_after (one_after i more) (one_after wh (one_after group tail))))))) n few said c =
    let scope = scope_of text (declared_by decls) in
    let iris : HasIris scope = namespace_iris (map (declaration_of text) (declared_by decls)) (declared_iris text decls said) in
    let named = none_kept (λ (l : Lexeme). is_name_token l.terminal && is_none (iri_of scope l)) body c.undeclared_none in
    let absolute = none_kept (λ (l : Lexeme). is_iri_token l.terminal && is_relative (iri_of scope l)) body (last_empty (map place_of (filter (λ (l : Lexeme). is_relative (iri_of scope l)) (map (λ d. d.iri) (declared_by decls)))) (map place_of (filter (λ (l : Lexeme). is_iri_token l.terminal && is_relative (iri_of scope l)) body)) c.relative_none) in
    let good = all_good scope body iris (behind (IsSaid text) decls said) named absolute in
    let past = behind (IsGood scope) wh (behind (IsGood scope) more (behind (IsGood scope) i (behind (IsGood scope) dis (behind (IsGood scope) sel good)))) in
    group_fine n scope group past (omega (arith, fewer decls, fewer sel, fewer dis, fewer i, fewer more, fewer wh, few))

-- ---- laws

pub have_few_nodes : QueriesHaveFewNodes
have_few_nodes text query read =
    let facts = read.query_is in
    few_nodes (parts_of text read.derivation) query.pattern (checked (parts_of text read.derivation) facts.0).large_none facts.2

pub can_be_stored : QueriesCanBeStored
can_be_stored text query read =
    let facts = read.query_is in
    let reads = read.reads in
    let written = are_written text 0 reads.to read.lexemes (omega arith) (IsUtf8-from_is_utf8 text read.utf8) reads.tokens in
    let c = checked (parts_of text read.derivation) facts.0 in
    let few : length read.lexemes ≤ 65536 = omega (arith, written.1, read.short) in
    let found = fine_of text read.lexemes read.derivation 65536 few (all_said text read.lexemes written.0) c in
    let fine : IsFine 65536 query.pattern = subst (HasFine 65536) facts.2 found in
    let nodes = have_few_nodes text query read in
    record { numbers = omega (arith, nodes); triple_patterns = fine.triples; conditions = fine.conditions }
