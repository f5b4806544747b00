-- What reading a text comes to.
use Rattle.std.proofs.Common.{◌≡◌, ℕ, ◌≤◌, Bool, true, false, List, length, refl, ap, sym, subst, inl, inr}
use Rattle.std.specs.Str.{IsUtf8, is_utf8}
use Rattle.std.specs.Str.Lossy.{utf8_valid_len}
use Rattle.std.proofs.lemmas.Str.{IsUtf8-from_is_utf8, is_utf8-from_IsUtf8}
use Rattle.pcj_algebra.specs.declared.query.Query.{Query}
use Rattle.pcj_grammar.specs.declared.fault.Refusal.{Refusal}
use Rattle.pcj_grammar.specs.declared.fault.Refusal.TheVariants as grammar
use Rattle.pcj_grammar.specs.declared.lexeme.Lexeme.{Lexeme}
use Rattle.pcj_grammar.specs.Text.{IsOfGrammar, Refuses as RefusesGrammar}
use Rattle.pcj_sparql.specs.declared.error.QueryRefusal.{QueryRefusal}
use Rattle.pcj_sparql.specs.declared.error.QueryRefusal.TheVariants.{Refused, Memory}
use Rattle.pcj_sparql.specs.declared.kind.QueryKind.TheVariants as kinds
use Rattle.pcj_sparql.specs.Clauses.{Means, Fails, by_grammar}
use Rattle.pcj_sparql.specs.Query.{QueryText, Refuses}
use Rattle.pcj_sparql.proofs.OneQuery.{derived}

by_test : (text : List ℕ) (v : Bool) → is_utf8 text ≡ v → (IsUtf8 text → ⊥) → is_utf8 text ≡ false
by_test text true e odd = absurd (odd (IsUtf8-from_is_utf8 text e))
by_test text false e odd = e

pub ill_formed : (text : List ℕ) (at : ℕ) (refusal : QueryRefusal) → length text ≤ 65536 → (IsUtf8 text → ⊥) → at ≡ utf8_valid_len text → refusal ≡ Refused (record { at = at; kind = kinds.Syntax }) → Refuses text refusal
ill_formed text at refusal short odd place is =
    subst (Refuses text) (sym is) (inr (inl (short, by_test text (is_utf8 text) refl odd, ap (λ (n : ℕ). record { at = n; kind = kinds.Syntax }) place)))

told : (text : List ℕ) (refusal : Refusal) → length text ≤ 65536 → IsUtf8 text → RefusesGrammar text refusal → Refuses text (by_grammar refusal)
told text (grammar.Refused fault) short utf8 has = inr (inr (inl (record { short = short; utf8 = is_utf8-from_IsUtf8 text utf8; fault = fault; has = has; is_fault = refl })))
told text grammar.Memory short utf8 has = tt

pub ungrammatical : (text : List ℕ) (refusal : Refusal) (told_is : QueryRefusal) → length text ≤ 65536 → IsUtf8 text → RefusesGrammar text refusal → told_is ≡ by_grammar refusal → Refuses text told_is
ungrammatical text refusal told_is short utf8 has is = subst (Refuses text) (sym is) (told text refusal short utf8 has)

pub query_text : (text : List ℕ) (ls : List Lexeme) (query : Query) → length text ≤ 65536 → IsUtf8 text → IsOfGrammar text ls → Means text ls query → QueryText text query
query_text text ls query short utf8 reads means = record { short = short; utf8 = is_utf8-from_IsUtf8 text utf8; lexemes = ls; reads = reads; derivation = derived text ls reads; query_is = means (derived text ls reads) }

pub failed_text : (text : List ℕ) (ls : List Lexeme) (refusal : QueryRefusal) → length text ≤ 65536 → IsUtf8 text → IsOfGrammar text ls → Fails text ls refusal → Refuses text refusal
failed_text text ls (Refused e) short utf8 reads fails = inr (inr (inr (record { short = short; utf8 = is_utf8-from_IsUtf8 text utf8; lexemes = ls; reads = reads; derivation = derived text ls reads; fails = fails (derived text ls reads) })))
failed_text text ls Memory short utf8 reads fails = tt
