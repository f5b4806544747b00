-- Each text is that of one query, or has one fault.
use Rattle.std.proofs.Common.{◌≡◌, ℕ, ◌<◌, ◌≤◌, Bool, true, false, List, [], ◌∷◌, length, Option, Some, None, refl, ap, sym, subst, ◌∙◌, inl, inr, ◌⊎◌, ⊎_elim, arith}
use Rattle.std.specs.Str.{is_utf8}
use Rattle.std.specs.Str.Lossy.{utf8_valid_len}
use Rattle.std.proofs.lemmas.Bool.{both_ways, cases_lt}
use Rattle.std.proofs.lemmas.Option.{same_Some}
use Rattle.std.proofs.lemmas.Str.{IsUtf8-from_is_utf8}
use Rattle.pcj_algebra.specs.declared.pattern.Pattern.{Pattern}
use Rattle.pcj_algebra.specs.declared.query.Query.{Query}
use Rattle.pcj_algebra.specs.declared.query.Shape.{Shape}
use Rattle.pcj_grammar.specs.declared.fault.Fault.{Fault}
use Rattle.pcj_grammar.specs.declared.lexeme.Lexeme.{Lexeme}
use Rattle.pcj_grammar.specs.Grammar.{name, Derives, by, one_after}
use Rattle.pcj_grammar.specs.Grammar as g
use Rattle.pcj_grammar.specs.Text.{Reads, IsOfGrammar}
use Rattle.pcj_grammar.proofs.Readings.{reads_same, is_read}
use Rattle.pcj_grammar.proofs.Unambiguous.{one_derivation}
use Rattle.pcj_sparql.specs.declared.error.QueryError.{QueryError}
use Rattle.pcj_sparql.specs.declared.kind.QueryKind.{QueryKind}
use Rattle.pcj_sparql.specs.declared.kind.QueryKind.TheVariants as kinds
use Rattle.pcj_translate.proofs.SomePattern.{HasPattern, group_some}
use Rattle.pcj_sparql.specs.Query.{Parts, parts_of, fault_of, failing, undeclared, relative, misshapen, scope_of, declared_by, shape_of, IsQueryOf, QueryText, QueryFault, kind_of_fault, SaysOneQuery, HasOneFault, IsNotBoth, IsEither}

none_some : {A : Type 0} (o : Option A) (x : A) → o ≡ None → o ≡ Some x → ⊥
none_some None x e f = absurd cc
none_some (Some y) x e f = absurd cc

-- what two derivations of one text's tokens say is one
parts_same : (text : List ℕ) (ls ms : List Lexeme) (d : Derives (name g.Query) ls []) (e : Derives (name g.Query) ms []) → ls ≡ ms → parts_of text d ≡ parts_of text e
parts_same text ls ms d e same =
    subst (λ (x : List Lexeme). (h : Derives (name g.Query) x []) → parts_of text d ≡ parts_of text h) same (λ h. ap (λ (k : Derives (name g.Query) ls []). parts_of text k) (one_derivation ls d h)) e

lexemes_same : (text : List ℕ) (ls ms : List Lexeme) → IsOfGrammar text ls → IsOfGrammar text ms → ls ≡ ms
lexemes_same text ls ms r q = (reads_same text ls ms None None r q).0

grammar_apart : (text : List ℕ) (ls ms : List Lexeme) (f : Fault) → IsOfGrammar text ls → Reads text ms (Some f) → ⊥
grammar_apart text ls ms f r q = none_some None f refl (reads_same text ls ms None (Some f) r q).1

query_same : (p r : Parts) (q s : Query) → p ≡ r → IsQueryOf p q → IsQueryOf r s → q ≡ s
query_same p r q s same a b =
    let shapes : q.shape ≡ s.shape = a.1 ∙ ap shape_of same ∙ sym b.1 in
    let patterns : q.pattern ≡ s.pattern = same_Some q.pattern s.pattern (sym a.2 ∙ ap (λ (x : Parts). x.pattern) same ∙ b.2) in
    ap (λ (x : Shape). record { shape = x; pattern = q.pattern }) shapes ∙ ap (λ (x : Pattern). record { shape = s.shape; pattern = x }) patterns

pub says_one : SaysOneQuery
says_one text q r a b = query_same (parts_of text a.derivation) (parts_of text b.derivation) q r (parts_same text a.lexemes b.lexemes a.derivation b.derivation (lexemes_same text a.lexemes b.lexemes a.reads b.reads)) a.query_is b.query_is

long_short : (n : ℕ) → 65536 < n → n ≤ 65536 → ⊥
long_short n a b = omega (arith, a, b)

pub not_both : IsNotBoth
not_both text q e t (inl long) = long_short (length text) long.0 t.short
not_both text q e t (inr (inl odd)) = both_ways (is_utf8 text) odd.1 t.utf8
not_both text q e t (inr (inr (inl wrong))) = grammar_apart text t.lexemes wrong.has.0 wrong.fault t.reads wrong.has.1
not_both text q e t (inr (inr (inr fails))) =
    let same = parts_same text t.lexemes fails.lexemes t.derivation fails.derivation (lexemes_same text t.lexemes fails.lexemes t.reads fails.reads) in
    none_some (fault_of (parts_of text fails.derivation)) e (ap fault_of (sym same) ∙ (t.query_is).0) fails.fails

pub one_fault : HasOneFault
one_fault text e f (inl a) (inl b) = a.1 ∙ sym b.1
one_fault text e f (inl a) (inr (inl b)) = absurd (long_short (length text) a.0 b.0)
one_fault text e f (inl a) (inr (inr (inl b))) = absurd (long_short (length text) a.0 b.short)
one_fault text e f (inl a) (inr (inr (inr b))) = absurd (long_short (length text) a.0 b.short)
one_fault text e f (inr (inl a)) (inl b) = absurd (long_short (length text) b.0 a.0)
one_fault text e f (inr (inl a)) (inr (inl b)) = a.2 ∙ sym b.2
one_fault text e f (inr (inl a)) (inr (inr (inl b))) = absurd (both_ways (is_utf8 text) a.1 b.utf8)
one_fault text e f (inr (inl a)) (inr (inr (inr b))) = absurd (both_ways (is_utf8 text) a.1 b.utf8)
one_fault text e f (inr (inr (inl a))) (inl b) = absurd (long_short (length text) b.0 a.short)
one_fault text e f (inr (inr (inl a))) (inr (inl b)) = absurd (both_ways (is_utf8 text) b.1 a.utf8)
one_fault text e f (inr (inr (inl a))) (inr (inr (inl b))) =
    a.is_fault ∙ ap (λ (h : Fault). record { at = h.at; kind = kind_of_fault h.kind }) (same_Some a.fault b.fault (reads_same text a.has.0 b.has.0 (Some a.fault) (Some b.fault) a.has.1 b.has.1).1) ∙ sym b.is_fault
one_fault text e f (inr (inr (inl a))) (inr (inr (inr b))) = absurd (grammar_apart text b.lexemes a.has.0 a.fault b.reads a.has.1)
one_fault text e f (inr (inr (inr a))) (inl b) = absurd (long_short (length text) b.0 a.short)
one_fault text e f (inr (inr (inr a))) (inr (inl b)) = absurd (both_ways (is_utf8 text) b.1 a.utf8)
one_fault text e f (inr (inr (inr a))) (inr (inr (inl b))) = absurd (grammar_apart text a.lexemes b.has.0 b.fault a.reads b.has.1)
one_fault text e f (inr (inr (inr a))) (inr (inr (inr b))) =
    let same = parts_same text a.lexemes b.lexemes a.derivation b.derivation (lexemes_same text a.lexemes b.lexemes a.reads b.reads) in
    same_Some e f (sym a.fails ∙ ap fault_of same ∙ b.fails)

-- ---- each text has one of the two

pub derived : (text : List ℕ) (ls : List Lexeme) → IsOfGrammar text ls → Derives (name g.Query) ls []
derived text ls r = r.ends.1

not_failing : (kind : QueryKind) (places : List ℕ) (later : Option QueryError) → failing kind places later ≡ None → (places ≡ []) × (later ≡ None)
not_failing kind [] later e = (refl, e)
not_failing kind (place ∷ places) later e = absurd cc

pub no_bare : (p : Parts) → fault_of p ≡ None → p.bare ≡ []
no_bare p e =
    let one = not_failing kinds.UnknownPrefix (undeclared p) _ e in
    let two = not_failing kinds.OutOfProfile (relative p) _ one.1 in
    let three = not_failing kinds.OutOfProfile (misshapen p) _ two.1 in
    (not_failing kinds.OutOfProfile p.bare _ three.1).0

pub parts_some : {x y : List Lexeme} (text : List ℕ) (d : Derives (name g.Query) x y) → (parts_of text d).bare ≡ [] → HasPattern (parts_of text d).pattern
parts_some text (by (one_after decls (one_after sel (one_after dis (one_after (one_after i more) (one_after wh (one_after group tail))))))) none =
    group_some (scope_of text (declared_by decls)) group none

abbrev HasOutcome : List ℕ → Type 0
HasOutcome text = ((q : Query) × QueryText text q) ⊎ ((e : QueryError) × QueryFault text e)

grammatical : (text : List ℕ) (ls : List Lexeme) → length text ≤ 65536 → is_utf8 text ≡ true → IsOfGrammar text ls → HasOutcome text
grammatical text ls short utf8 r = by_fault (fault_of (parts_of text (derived text ls r))) refl
  where
    by_fault : (o : Option QueryError) → fault_of (parts_of text (derived text ls r)) ≡ o → HasOutcome text
    by_fault (Some e) fails = inr (e, inr (inr (inr (record { short = short; utf8 = utf8; lexemes = ls; reads = r; derivation = derived text ls r; fails = fails }))))
    by_fault None good =
        let some = parts_some text (derived text ls r) (no_bare (parts_of text (derived text ls r)) good) in
        inl (
          record { shape = shape_of (parts_of text (derived text ls r)); pattern = some.0 },
          record { short = short; utf8 = utf8; lexemes = ls; reads = r; derivation = derived text ls r; query_is = (good, refl, some.1) },
        )

by_reading : (text : List ℕ) (ls : List Lexeme) (o : Option Fault) → length text ≤ 65536 → is_utf8 text ≡ true → Reads text ls o → HasOutcome text
by_reading text ls None short utf8 r = grammatical text ls short utf8 r
by_reading text ls (Some fault) short utf8 r =
    inr (record { at = fault.at; kind = kind_of_fault fault.kind }, inr (inr (inl (record { short = short; utf8 = utf8; fault = fault; has = (ls, r); is_fault = refl }))))

by_utf8 : (text : List ℕ) (v : Bool) → is_utf8 text ≡ v → length text ≤ 65536 → HasOutcome text
by_utf8 text true utf8 short = let reading = is_read text (IsUtf8-from_is_utf8 text utf8) in by_reading text reading.0 reading.1 short utf8 reading.2
by_utf8 text false odd short = inr (record { at = utf8_valid_len text; kind = kinds.Syntax }, inr (inl (short, odd, refl)))

pub either : IsEither
either text = ⊎_elim (λ long. inr (record { at = 65536; kind = kinds.TooLarge }, inl (long, refl))) (λ short. by_utf8 text (is_utf8 text) refl short) (cases_lt 65536 (length text))
