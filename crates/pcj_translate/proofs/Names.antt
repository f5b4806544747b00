-- Prefixed names and the IRIs that they write.
use Rattle.std.proofs.Common.{◌≡◌, ◌∙◌, sym, ap, subst, inl, inr, ◌⊎◌, IfOk, List, ℕ, Option, Result}
use Rattle.pcj_grammar.specs.declared.lexeme.Lexeme.{Lexeme}
use Rattle.pcj_grammar.specs.declared.terminal.Terminal.{Terminal}
use Rattle.pcj_grammar.specs.declared.terminal.Terminal.TheVariants as t
use Rattle.pcj_translate.specs.Term.{Scope, iri_of, iri_by, expanded, source_of}

named : (scope : Scope) (l : Lexeme) → (l.terminal ≡ t.Namespace) ⊎ (l.terminal ≡ t.Name) → expanded scope (source_of scope.text l) ≡ iri_of scope l
named scope l (inl e) = ap (λ (k : Terminal). iri_by scope k (source_of scope.text l)) (sym e)
named scope l (inr e) = ap (λ (k : Terminal). iri_by scope k (source_of scope.text l)) (sym e)

pub named_iri : {E : Type 0} (scope : Scope) (l : Lexeme) (source : List ℕ) (r : Result (Option (List ℕ)) E) → (l.terminal ≡ t.Namespace) ⊎ (l.terminal ≡ t.Name) → source ≡ source_of scope.text l → IfOk r (λ iri. iri ≡ expanded scope source) → IfOk r (λ iri. iri ≡ iri_of scope l)
named_iri scope l source r is_name same h =
    subst (λ (o : Option (List ℕ)). IfOk r (λ iri. iri ≡ o)) (ap (expanded scope) same ∙ named scope l is_name) h
