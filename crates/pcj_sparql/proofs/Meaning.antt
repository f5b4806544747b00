-- What the clauses of a query say of its derivation.
use Rattle.std.proofs.Common.{◌≡◌, ℕ, true, List, [], Option, Some, None, refl, ap, sym, subst, ◌∙◌}
use Rattle.std.proofs.Common.{is_some}
use Rattle.pcj_algebra.specs.declared.pattern.Pattern.{Pattern}
use Rattle.pcj_algebra.specs.declared.query.Query.{Query}
use Rattle.pcj_grammar.specs.declared.lexeme.Lexeme.{Lexeme}
use Rattle.pcj_grammar.specs.Grammar.{name, Derives, by, one_after}
use Rattle.pcj_grammar.specs.Grammar as g
use Rattle.pcj_grammar.specs.Text.{stays_within}
use Rattle.pcj_translate.specs.Term.{Scope}
use Rattle.pcj_translate.specs.Group.{group_by}
use Rattle.pcj_translate.specs.Grouping.{IsWithinGroup}
use Rattle.pcj_translate.specs.Reading.{scope_by}
use Rattle.pcj_translate.specs.Uses.{bare_groups, unknown_in_group, uneven_in_group}
use Rattle.pcj_translate.proofs.Levels.{IsWithinQuery, query_within}
use Rattle.pcj_translate.proofs.SomePattern.{HasPattern}
use Rattle.pcj_translate.specs.declared.scope.Prefixes.{Prefixes}
use Rattle.pcj_sparql.specs.declared.head.Head.{Head}
use Rattle.pcj_sparql.specs.declared.error.QueryRefusal.{QueryRefusal}
use Rattle.pcj_sparql.specs.declared.error.QueryRefusal.TheVariants.{Refused, Memory}
use Rattle.pcj_sparql.specs.declared.clauses.Clauses.{Clauses}
use Rattle.pcj_sparql.specs.declared.error.QueryError.{QueryError}
use Rattle.pcj_sparql.specs.Clauses.{IsHeadOf, ReadsRest, HasFault, IsFaultOf, Fails, parts_with, parts_in}
use Rattle.pcj_sparql.specs.Query.{Parts, parts_of, fault_of, shape_of, scope_of, declared_by, IsQueryOf}
use Rattle.pcj_sparql.proofs.OneQuery.{no_bare, parts_some}

-- the group stands where the head ends, and with it the clauses are those of the derivation
abbrev pub HasGroup : List ℕ → Parts → Clauses → Type 0
HasGroup text p c =
    (y : List Lexeme) × (e : Derives (name g.Group) c.head.now.group.now y) × IsWithinGroup 64 e
    × (p ≡ parts_with c (bare_groups e) (unknown_in_group (scope_by c.text.now c.prefixes.now) e) (uneven_in_group (scope_by c.text.now c.prefixes.now) e))

pub clauses_mean : (text : List ℕ) (ls : List Lexeme) (c : Clauses) (d : Derives (name g.Query) ls []) → stays_within 0 ls ≡ true → IsHeadOf d c.head.now
    → scope_by c.text.now c.prefixes.now ≡ scope_of text c.head.now.declared → ReadsRest (scope_by c.text.now c.prefixes.now) c.head.now.group.now c.pattern c.keys → HasGroup text (parts_of text d) c
clauses_mean text ls c d within = by_parts d (query_within ls [] d within)
  where
    by_parts : (d : Derives (name g.Query) ls []) → IsWithinQuery 64 d → IsHeadOf d c.head.now
        → scope_by c.text.now c.prefixes.now ≡ scope_of text c.head.now.declared → ReadsRest (scope_by c.text.now c.prefixes.now) c.head.now.group.now c.pattern c.keys → HasGroup text (parts_of text d) c
    by_parts (by (one_after {y = body} decls (one_after sel (one_after dis (one_after (one_after i more) (one_after {y = start} wh (one_after {y = rest} group tail))))))) inside head scope reads =
        let here : Scope = scope_by c.text.now c.prefixes.now in
        let read = subst (λ (k : List Lexeme). ReadsRest here k c.pattern c.keys) head.5 reads rest group tail inside in
        let same : here ≡ scope_of text (declared_by decls) = scope ∙ ap (scope_of text) head.0 in
        let pattern : group_by (scope_of text (declared_by decls)) group ≡ c.pattern = ap (λ (s : Scope). group_by s group) (sym same) ∙ sym read.0 in
        subst (λ (k : List Lexeme). (y : List Lexeme) × (e : Derives (name g.Group) k y) × IsWithinGroup 64 e
        × (parts_of text (by (one_after decls (one_after sel (one_after dis (one_after (one_after i more) (one_after wh (one_after group tail))))))) ≡ parts_with c (bare_groups e) (unknown_in_group here e) (uneven_in_group here e))) (sym head.5) (
          rest,
          group,
          inside,
          λ j. record {
            scope = sym same j;
            declared = sym head.0 j;
            body = sym head.1 j;
            select = sym head.2 j;
            distinct = sym head.3 j;
            items = sym head.4 j;
            keys = sym read.1 j;
            pattern = pattern j;
            bare = bare_groups group;
            unknown = unknown_in_group (sym same j) group;
            uneven = uneven_in_group (sym same j) group;
          },
        )

pub fault_met : (text : List ℕ) (p : Parts) (c : Clauses) (fault : Option QueryError) → HasGroup text p c → HasFault c fault → fault_of p ≡ fault
fault_met text p c fault h faulty = ap fault_of h.3 ∙ sym (faulty h.0 h.1 h.2)

-- a query of the shape and the pattern of clauses without a fault
pub query_met : (text : List ℕ) (p : Parts) (c : Clauses) (q : Query) → HasGroup text p c → HasFault c None → q.shape ≡ shape_of (parts_in c) → c.pattern ≡ Some q.pattern → IsQueryOf p q
query_met text p c q h faulty shape pattern =
    (fault_met text p c None h faulty, shape ∙ sym (ap shape_of h.3), ap (λ (r : Parts). r.pattern) h.3 ∙ pattern)

has_some : (o : Option Pattern) → HasPattern o → is_some o ≡ true
has_some None h = absurd cc
has_some (Some p) h = refl

pub pattern_met : (text : List ℕ) (ls : List Lexeme) (d : Derives (name g.Query) ls []) (c : Clauses) → HasGroup text (parts_of text d) c → HasFault c None → is_some c.pattern ≡ true
pattern_met text ls d c h faulty =
    let some = parts_some text d (no_bare (parts_of text d) (fault_met text (parts_of text d) c None h faulty)) in
    has_some c.pattern (some.0, sym (ap (λ (r : Parts). r.pattern) h.3) ∙ some.1)

-- the same, where the clauses are said of other values
pub clauses_met : (text : List ℕ) (ls : List Lexeme) (c : Clauses) (head : Head) (prefixes : Prefixes) → stays_within 0 ls ≡ true → ((d : Derives (name g.Query) ls []) → IsHeadOf d head)
    → c.text.now ≡ text → c.prefixes.now ≡ prefixes → c.head.now ≡ head → scope_by text prefixes ≡ scope_of text head.declared → ReadsRest (scope_by text prefixes) head.group.now c.pattern c.keys
    → (d : Derives (name g.Query) ls []) → HasGroup text (parts_of text d) c
clauses_met text ls c head prefixes within is_head texts spaces heads scope reads d =
    let here : scope_by c.text.now c.prefixes.now ≡ scope_by text prefixes = λ i. scope_by (texts i) (spaces i) in
    clauses_mean text ls c d within (subst (λ (h : Head). IsHeadOf d h) (sym heads) (is_head d)) (here ∙ scope ∙ ap (λ (h : Head). scope_of text h.declared) (sym heads))
    (subst (λ (s : Scope). ReadsRest s c.head.now.group.now c.pattern c.keys) (sym here) (subst (λ (h : Head). ReadsRest (scope_by text prefixes) h.group.now c.pattern c.keys) (sym heads) reads))

pub fails_met : (text : List ℕ) (ls : List Lexeme) (c : Clauses) (refusal : QueryRefusal) → ((d : Derives (name g.Query) ls []) → HasGroup text (parts_of text d) c) → IsFaultOf c refusal → Fails text ls refusal
fails_met text ls c (Refused e) h faulty = λ d. fault_met text (parts_of text d) c (Some e) (h d) faulty
fails_met text ls c Memory h faulty = tt
