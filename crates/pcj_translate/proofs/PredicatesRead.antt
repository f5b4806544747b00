-- What is said of a subject, predicate after predicate.
use Rattle.std.proofs.Common.{◌≡◌, true, false, List, [], ◌∷◌, ◌++◌, refl, ap, sym, subst, ◌∙◌, append_assoc, append-nil}
use Rattle.pcj_algebra.specs.declared.triple_pattern.Slot.{Slot}
use Rattle.pcj_algebra.specs.declared.triple_pattern.TriplePattern.{TriplePattern}
use Rattle.pcj_grammar.specs.declared.lexeme.Lexeme.{Lexeme}
use Rattle.pcj_grammar.specs.declared.terminal.Terminal.{Terminal}
use Rattle.pcj_grammar.specs.declared.terminal.Terminal.TheVariants as t
use Rattle.pcj_grammar.specs.Grammar.{Form, word, name, maybe, many, ◌▹◌, ◌or◌, Derives, is, by, one_after, left, right, without, with_it, end, again}
use Rattle.pcj_grammar.specs.Grammar as g
use Rattle.pcj_translate.specs.Term.{Scope}
use Rattle.pcj_translate.specs.Triples.{value_by, verb_by, more_triples}
use Rattle.pcj_translate.specs.ValueReading.{value_at}
use Rattle.pcj_translate.specs.Adding.{ends_objects, IsPastObjects, AddsObjects, ends_same, IsPastSame, is_semicolon, begins_semicolon, is_verb, begins_verb, predicate_triples, AddsPredicate, semis_form, predicates_form, predicates_triples, AddsPredicates, AddsSame}
use Rattle.pcj_translate.proofs.ValuesRead.{ends_text, IsPastText, value_read, verb_read}

pub predicate_done : (scope : Scope) (subject verb : Slot) (x r z : List Lexeme) (old new : List TriplePattern) → value_at scope x ≡ (verb, r) → AddsObjects scope subject verb r z old new → AddsPredicate scope subject x z old new
predicate_done scope subject verb x r z old new taken added y (one_after {y = w} v os) past =
    let same : (verb, r) ≡ (verb_by scope v, w) = sym taken ∙ verb_read x w scope v in
    subst (λ (q : Slot × List Lexeme). AddsObjects scope subject q.0 q.1 z old new) same added y os past

-- ---- what begins with what

past_objects : (k : Terminal) → ends_same k ≡ true → ends_objects k ≡ true
past_objects t.Dot e = refl
past_objects t.Filter e = refl
past_objects t.OpenBrace e = refl
past_objects t.CloseBrace e = refl
past_objects _ e = absurd cc

past_semis : (z y : List Lexeme) → Derives semis_form z y → IsPastSame y → IsPastObjects z
past_semis [] y d past = tt
past_semis (l ∷ z) y end past = past_objects l.terminal past
past_semis (l ∷ z) y (again (one_after (is e) v) vs) past = ap ends_objects e

verb_begins : (x y : List Lexeme) → Derives (name g.Verb) x y → begins_verb x ≡ true
verb_begins x y (by (left (is e))) = ap is_verb e
verb_begins x y (by (right (left (by (left (is e)))))) = ap is_verb e
verb_begins x y (by (right (left (by (right (left (is e))))))) = ap is_verb e
verb_begins x y (by (right (left (by (right (right (is e))))))) = ap is_verb e
verb_begins x y (by (right (right (is e)))) = ap is_verb e

verb_ends_text : (k : Terminal) → is_verb k ≡ true → ends_text k ≡ true
verb_ends_text t.Var e = refl
verb_ends_text t.Iri e = refl
verb_ends_text t.Namespace e = refl
verb_ends_text t.Name e = refl
verb_ends_text t.A e = refl
verb_ends_text _ e = absurd cc

verb_past_text : (x : List Lexeme) → begins_verb x ≡ true → IsPastText x
verb_past_text [] e = tt
verb_past_text (l ∷ x) e = verb_ends_text l.terminal e

no_verb_ends : (k : Terminal) → ends_same k ≡ true → is_verb k ≡ true → ⊥
no_verb_ends t.Dot e f = absurd cc
no_verb_ends t.Filter e f = absurd cc
no_verb_ends t.OpenBrace e f = absurd cc
no_verb_ends t.CloseBrace e f = absurd cc
no_verb_ends _ e f = absurd cc

no_verb_semis : (r y : List Lexeme) → Derives semis_form r y → IsPastSame y → begins_verb r ≡ true → ⊥
no_verb_semis [] y d past verb = absurd cc
no_verb_semis (l ∷ r) y end past verb = no_verb_ends l.terminal past verb
no_verb_semis (l ∷ r) y (again (one_after (is e) v) vs) past verb = let no_verb = ap is_verb e in absurd cc

-- ---- the loop

abbrev pub Says : Scope → Slot → List Lexeme → List Lexeme → List TriplePattern → List TriplePattern → Type 0
Says scope subject x r old now =
    (y : List Lexeme) (d : Derives predicates_form x y) → IsPastSame y →
    (e : Derives semis_form r y) × (now ++ more_triples scope subject e ≡ old ++ predicates_triples scope subject d)

-- a predicate that is added, where more may follow
added_more : (scope : Scope) (subject : Slot) (x r z y : List Lexeme) (old now all : List TriplePattern) (d : Derives (name g.Verb ▹ name g.Objects) x z) (more : Derives semis_form z y) → IsPastSame y → AddsPredicate scope subject x r old now →
    old ++ (predicate_triples scope subject d ++ more_triples scope subject more) ≡ all → (e : Derives semis_form r y) × (now ++ more_triples scope subject e ≡ all)
added_more scope subject x r z y old now all d more past added whole =
    let done = added z d (past_semis z y more past) in
    subst (λ (w : List Lexeme). (e : Derives semis_form w y) × (now ++ more_triples scope subject e ≡ all)) (sym done.0)
    (more, ap (λ (l : List TriplePattern). l ++ more_triples scope subject more) done.1 ∙ append_assoc old (predicate_triples scope subject d) (more_triples scope subject more) ∙ whole)

pub first_predicate : (scope : Scope) (subject : Slot) (x r : List Lexeme) (old now : List TriplePattern) → AddsPredicate scope subject x r old now → Says scope subject x r old now
first_predicate scope subject x r old now added y (one_after v (one_after {y = z} os more)) past =
    added_more scope subject x r z y old now (old ++ predicates_triples scope subject (one_after v (one_after os more))) (one_after v os) more past added refl

skip_by : (scope : Scope) (subject : Slot) (c : Lexeme) (r y : List Lexeme) (now all : List TriplePattern) (e : Derives semis_form (c ∷ r) y) → c.terminal ≡ t.Semicolon → begins_verb r ≡ false → IsPastSame y → now ++ more_triples scope subject e ≡ all →
    (f : Derives semis_form r y) × (now ++ more_triples scope subject f ≡ all)
skip_by scope subject c r y now all end semi none past whole = let odd = ap ends_same semi in absurd cc
skip_by scope subject c r y now all (again (one_after (is q) without) more) semi none past whole = (more, whole)
skip_by scope subject c r y now all (again (one_after (is q) (with_it (one_after {y = w} v os))) more) semi none past whole = let verb = verb_begins r w v in absurd cc

pub skip_semicolon : (scope : Scope) (subject : Slot) (x r : List Lexeme) (c : Lexeme) (old now : List TriplePattern) → c.terminal ≡ t.Semicolon → begins_verb r ≡ false → Says scope subject x (c ∷ r) old now → Says scope subject x r old now
skip_semicolon scope subject x r c old now semi none says y d past =
    let so_far = says y d past in
    skip_by scope subject c r y now (old ++ predicates_triples scope subject d) so_far.0 semi none past so_far.1

next_by : (scope : Scope) (subject : Slot) (c : Lexeme) (r r2 y : List Lexeme) (mid new all : List TriplePattern) (e : Derives semis_form (c ∷ r) y) → c.terminal ≡ t.Semicolon → begins_verb r ≡ true → IsPastSame y → AddsPredicate scope subject r r2 mid new → mid ++ more_triples scope subject e ≡ all →
    (f : Derives semis_form r2 y) × (new ++ more_triples scope subject f ≡ all)
next_by scope subject c r r2 y mid new all end semi verb past added whole = let odd = ap ends_same semi in absurd cc
next_by scope subject c r r2 y mid new all (again (one_after (is q) without) more) semi verb past added whole = absurd (no_verb_semis r y more past verb)
next_by scope subject c r r2 y mid new all (again {y = z} (one_after (is q) (with_it (one_after v os))) more) semi verb past added whole =
    added_more scope subject r r2 z y mid new all (one_after v os) more past added whole

pub next_predicate : (scope : Scope) (subject : Slot) (x r r2 : List Lexeme) (c : Lexeme) (old mid new : List TriplePattern) → c.terminal ≡ t.Semicolon → begins_verb r ≡ true → Says scope subject x (c ∷ r) old mid → AddsPredicate scope subject r r2 mid new → Says scope subject x r2 old new
next_predicate scope subject x r r2 c old mid new semi verb says added y d past =
    let so_far = says y d past in
    next_by scope subject c r r2 y mid new (old ++ predicates_triples scope subject d) so_far.0 semi verb past added so_far.1

last_by : (scope : Scope) (subject : Slot) (r y : List Lexeme) (now all : List TriplePattern) (e : Derives semis_form r y) → begins_semicolon r ≡ false → now ++ more_triples scope subject e ≡ all → (r ≡ y) × (now ≡ all)
last_by scope subject r y now all end none whole = (refl, sym (append-nil now) ∙ whole)
last_by scope subject r y now all (again (one_after (is q) v) more) none whole = let semi = ap is_semicolon q in absurd cc

pub last_predicate : (scope : Scope) (subject : Slot) (x r : List Lexeme) (old now : List TriplePattern) → Says scope subject x r old now → begins_semicolon r ≡ false → AddsPredicates scope subject x r old now
last_predicate scope subject x r old now says none y d past =
    let so_far = says y d past in
    last_by scope subject r y now (old ++ predicates_triples scope subject d) so_far.0 none so_far.1

pub same_done : (scope : Scope) (subject : Slot) (x r z : List Lexeme) (old new : List TriplePattern) → value_at scope x ≡ (subject, r) → AddsPredicates scope subject r z old new → AddsSame scope x z old new
same_done scope subject x r z old new taken added y (by (one_after {y = w} s (one_after {y = u} v (one_after os more)))) past =
    let same : (subject, r) ≡ (value_by scope s, w) = sym taken ∙ value_read x w scope s (verb_past_text w (verb_begins w u v)) in
    subst (λ (q : Slot × List Lexeme). AddsPredicates scope q.0 q.1 z old new) same added y (one_after v (one_after os more)) past
