-- What prefixes stand for, a declaration at a time.
use Rattle.std.proofs.Common.{◌≡◌, ℕ, ◌+◌, ◌<◌, Bool, true, false, if◌then◌else◌, List, [], ◌∷◌, ◌++◌, map, take, get_or, length, Option, Some, None, refl, ap, ◌∙◌}
use Rattle.std.proofs.lemmas.List.{take_more, map-append}
use Rattle.pcj_term.specs.Order.{same_bytes}
use Rattle.pcj_sparql.specs.declared.declared.Declared.{Declared}
use Rattle.pcj_sparql.specs.Query.{declaration_of}
use Rattle.pcj_translate.specs.Term.{Declaration, Scope, or_else, namespace_of}

else_by : (v : Bool) (iri : List ℕ) (before : Option (List ℕ)) (first : Option (List ℕ)) → or_else (if v then Some iri else before) first ≡ (if v then Some iri else or_else before first)
else_by true iri before first = refl
else_by false iri before first = refl

pub declared_last : (ds : List Declaration) (d : Declaration) (prefix : List ℕ) → namespace_of (ds ++ d ∷ []) prefix ≡ (if same_bytes d.prefix prefix then Some d.iri else namespace_of ds prefix)
declared_last [] d prefix = refl
declared_last (e ∷ ds) d prefix =
    ap (λ (o : Option (List ℕ)). or_else o (if same_bytes e.prefix prefix then Some e.iri else None)) (declared_last ds d prefix)
    ∙ else_by (same_bytes d.prefix prefix) d.iri (namespace_of ds prefix) (if same_bytes e.prefix prefix then Some e.iri else None)

-- two scopes of one text in which each prefix stands for the same are one
pub same_scope : (s r : Scope) → s.text ≡ r.text → ((prefix : List ℕ) → s.namespace prefix ≡ r.namespace prefix) → s ≡ r
same_scope s r texts spaces = λ i. record { text = texts i; namespace = λ prefix. spaces prefix i }

-- ---- a list of declarations, as far as it has been read

pub one_more : (text : List ℕ) (ds : List Declared) (i : ℕ) (d : Declared) (other : List ℕ) → i < length ds → namespace_of (map (declaration_of text) (take (i + 1) ds)) other
    ≡ (if same_bytes (declaration_of text (get_or ds i d)).prefix other then Some (declaration_of text (get_or ds i d)).iri else namespace_of (map (declaration_of text) (take i ds)) other)
one_more text ds i d other within =
    ap (λ (l : List Declared). namespace_of (map (declaration_of text) l) other) (take_more ds i d within)
    ∙ ap (λ (l : List Declaration). namespace_of l other) (map-append (declaration_of text) (take i ds) (get_or ds i d ∷ []))
    ∙ declared_last (map (declaration_of text) (take i ds)) (declaration_of text (get_or ds i d)) other

pub choice_same : (v : Bool) (iri : List ℕ) (o p : Option (List ℕ)) → o ≡ p → (if v then Some iri else o) ≡ (if v then Some iri else p)
choice_same v iri o p e = ap (λ (q : Option (List ℕ)). if v then Some iri else q) e
