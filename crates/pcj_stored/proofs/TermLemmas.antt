-- The terms of a derivation are valid, where its tokens are good.
use Rattle.std.proofs.Common.{◌≡◌, ℕ, Bool, true, false, not, ◌&&◌, cond, List, [], ◌∷◌, ◌++◌, Option, Some, None, refl, sym, subst, ◌∙◌, inl, inr, ◌⊎◌, encode_utf8_all, codes}
use Rattle.std.specs.List.{AllByRecursion}
use Rattle.std.specs.Option.{unwrap_or}
use Rattle.std.specs.Str.{all_scalars, is_utf8}
use Rattle.std.proofs.lemmas.Bool.{and_from, both_ways}
use Rattle.std.proofs.lemmas.List.Folds.{list_all-append}
use Rattle.std.proofs.lemmas.Option.{same_Some}
use Rattle.std.proofs.lemmas.Str.{IsUtf8-append, IsUtf8-from_is_utf8, is_utf8-from_IsUtf8}
use Rattle.pcj_term.specs.declared.kind.Kind.TheVariants.{Plain, Typed}
use Rattle.pcj_term.specs.Integer.{xsd_integer}
use Rattle.pcj_term.specs.Iri.{is_absolute, is_absolute_iri, is_iri_character}
use Rattle.pcj_term.specs.Order.{same_bytes}
use Rattle.pcj_term.specs.Tag.{is_language_tag, is_lower_case}
use Rattle.pcj_term.specs.Valid.{xsd_string, IsValidKind, IsValid}
use Rattle.pcj_term.proofs.ByteLemmas.{same_bytes_itself}
use Rattle.pcj_term.proofs.Iris.{absolute_text}
use Rattle.pcj_term.proofs.OptionLemmas.{map_some}
use Rattle.pcj_ntriples.proofs.Names.{utf8_encoded}
use Rattle.pcj_lex.specs.declared.token.TokenKind.{TokenKind}
use Rattle.pcj_lex.specs.declared.token.TokenKind.TheVariants as kinds
use Rattle.pcj_grammar.specs.declared.lexeme.Lexeme.{Lexeme}
use Rattle.pcj_grammar.specs.declared.terminal.Terminal.{Terminal}
use Rattle.pcj_grammar.specs.declared.terminal.Terminal.TheVariants as t
use Rattle.pcj_grammar.specs.Grammar.{Form, word, name, maybe, many, ◌▹◌, ◌or◌, Derives, is, by, one_after, left, right, without, with_it, end, again}
use Rattle.pcj_grammar.specs.Grammar as g
use Rattle.pcj_grammar.specs.Terminal.{is_keyword, terminal_of, function_of, word_of, is_namespace, name_of, mark_of, outside_of}
use Rattle.pcj_translate.specs.Term.{Scope, Declaration, source_of, prefix_of, local_of, inside_of, text_of, tag_of, or_else, namespace_of, expanded, iri_by, iri_of, iri_or_none, kind_of_datatype}
use Rattle.pcj_translate.specs.Triples.{rdf_type, token_of, iri_token, kind_by, literal_by, value_by, verb_by}
use Rattle.pcj_translate.specs.Filter.{operand_of}
use Rattle.pcj_algebra.specs.declared.triple_pattern.Slot.{Slot}
use Rattle.pcj_algebra.specs.declared.triple_pattern.Slot.TheVariants as slots
use Rattle.pcj_sparql.specs.Query.{is_iri_token, is_name_token, is_none, is_relative}
use Rattle.pcj_tree.specs.Read.{IsSlot, IsOperand}
use Rattle.pcj_stored.proofs.CharacterLemmas.{IsIriPart, iri_inside, name_local, tag_lowered}
use Rattle.pcj_stored.proofs.StringLemmas.{string_text}
use Rattle.pcj_stored.proofs.TokenLemmas.{FormOf, IsWritten}

-- ---- what the bytes of a token are, by its terminal

abbrev pub Says : Terminal → List ℕ → Type 0
Says t.Iri source = IsIriPart (inside_of source)
Says t.Namespace source = IsIriPart (local_of source)
Says t.Name source = IsIriPart (local_of source)
Says t.Integer source = is_utf8 source ≡ true
Says t.Text source = is_utf8 (text_of source) ≡ true
Says t.Tag source = (is_language_tag (tag_of source) ≡ true) × (is_lower_case (tag_of source) ≡ true)
Says _ source = Unit {0}

-- the same of a terminal that isn't known
record SaysAt (k : Terminal) (source : List ℕ) : Type 0 where
  says : Says k source

either_at : (v : Bool) (a b : Terminal) (source : List ℕ) → Says a source → SaysAt b source → SaysAt (cond v a b) source
either_at true a b source first second = record { says = first }
either_at false a b source first second = second

function_at : (w source : List ℕ) → SaysAt (function_of w) source
function_at w source =
    either_at (is_keyword w (codes "count")) t.Count _ source tt
    (either_at (is_keyword w (codes "sum")) t.Sum _ source tt
    (either_at (is_keyword w (codes "min")) t.Min _ source tt
    (either_at (is_keyword w (codes "max")) t.Max _ source tt
    (record { says = tt }))))

word_at : (w source : List ℕ) → SaysAt (word_of w) source
word_at w source =
    either_at (is_keyword w (codes "prefix")) t.Prefix _ source tt
    (either_at (is_keyword w (codes "select")) t.Select _ source tt
    (either_at (is_keyword w (codes "distinct")) t.Distinct _ source tt
    (either_at (is_keyword w (codes "where")) t.Where _ source tt
    (either_at (is_keyword w (codes "group")) t.Group _ source tt
    (either_at (is_keyword w (codes "by")) t.By _ source tt
    (either_at (is_keyword w (codes "as")) t.As _ source tt
    (either_at (is_keyword w (codes "filter")) t.Filter _ source tt
    (either_at (is_keyword w (codes "union")) t.Union _ source tt
    (either_at (same_bytes w (codes "a")) t.A _ source tt
    (function_at w source))))))))))

mark_at : (w source : List ℕ) → SaysAt (mark_of w) source
mark_at w source =
    either_at (same_bytes w (codes "{")) t.OpenBrace _ source tt
    (either_at (same_bytes w (codes "}")) t.CloseBrace _ source tt
    (either_at (same_bytes w (codes "(")) t.OpenParen _ source tt
    (either_at (same_bytes w (codes ")")) t.CloseParen _ source tt
    (either_at (same_bytes w (codes ".")) t.Dot _ source tt
    (either_at (same_bytes w (codes ";")) t.Semicolon _ source tt
    (either_at (same_bytes w (codes ",")) t.Comma _ source tt
    (either_at (same_bytes w (codes "=")) t.Equal _ source tt
    (either_at (same_bytes w (codes "!=")) t.Unequal _ source tt
    (either_at (same_bytes w (codes "<")) t.Less _ source tt
    (either_at (same_bytes w (codes ">")) t.Greater _ source tt
    (either_at (same_bytes w (codes "<=")) t.AtMost _ source tt
    (either_at (same_bytes w (codes ">=")) t.AtLeast _ source tt
    (either_at (same_bytes w (codes "&&")) t.And _ source tt
    (either_at (same_bytes w (codes "||")) t.Or _ source tt
    (either_at (same_bytes w (codes "!")) t.Not _ source tt
    (record { says = tt }))))))))))))))))

outside_at : (w source : List ℕ) → SaysAt (outside_of w) source
outside_at w source = either_at (same_bytes w (codes "*")) t.Star t.Outside source tt (record { says = tt })

name_at : (w source : List ℕ) → IsIriPart (local_of source) → SaysAt (name_of w) source
name_at w source local = either_at (is_namespace w) t.Namespace t.Name source local (record { says = local })

kind_says : (kind : TokenKind) (w : List ℕ) → FormOf kind w → all_scalars w ≡ true → Says (terminal_of kind (encode_utf8_all w)) (encode_utf8_all w)
kind_says kinds.Word w form are = let at = word_at (encode_utf8_all w) (encode_utf8_all w) in at.says
kind_says kinds.Var w form are = tt
kind_says kinds.Iri w form are = iri_inside w form are
kind_says kinds.Pname w form are = let at = name_at (encode_utf8_all w) (encode_utf8_all w) (name_local w form are) in at.says
kind_says kinds.Text w form are = string_text w form are
kind_says kinds.Tag w form are = tag_lowered w form
kind_says kinds.Integer w form are = utf8_encoded w are
kind_says kinds.Mark w form are = let at = mark_at (encode_utf8_all w) (encode_utf8_all w) in at.says
kind_says kinds.Outside w form are = let at = outside_at (encode_utf8_all w) (encode_utf8_all w) in at.says

abbrev pub IsSaid : List ℕ → Lexeme → Type 0
IsSaid text l = Says l.terminal (source_of text l)

written_said : (text : List ℕ) (l : Lexeme) → IsWritten text l → IsSaid text l
written_said text l w =
    subst (λ (k : Terminal). Says k (source_of text l)) (sym w.terminal)
    (subst (Says (terminal_of w.kind (encode_utf8_all w.written))) (sym w.source) (kind_says w.kind w.written w.form w.scalars))

pub all_said : (text : List ℕ) (ls : List Lexeme) → AllByRecursion (IsWritten text) ls → AllByRecursion (IsSaid text) ls
all_said text [] all = tt
all_said text (l ∷ ls) all = (written_said text l all.0, all_said text ls all.1)

-- ---- IRIs of a scope

abbrev pub HasIris : Scope → Type 0
HasIris scope = (prefix iri : List ℕ) → scope.namespace prefix ≡ Some iri → IsIriPart iri

pub namespace_iris : (ds : List Declaration) → AllByRecursion (λ (d : Declaration). IsIriPart d.iri) ds → (prefix iri : List ℕ) → namespace_of ds prefix ≡ Some iri → IsIriPart iri
namespace_iris [] all prefix iri e = absurd cc
namespace_iris (d ∷ ds) all prefix iri e = by (namespace_of ds prefix) (same_bytes d.prefix prefix) (λ f. namespace_iris ds all.1 prefix iri f) e
  where
    by : (o : Option (List ℕ)) (v : Bool) → (o ≡ Some iri → IsIriPart iri) → or_else o (cond v (Some d.iri) None) ≡ Some iri → IsIriPart iri
    by (Some found) v later e = later e
    by None true later e = subst IsIriPart (same_Some d.iri iri e) all.0
    by None false later e = absurd cc

parts_joined : (a b : List ℕ) → IsIriPart a → IsIriPart b → IsIriPart (a ++ b)
parts_joined a b first second = (
  is_utf8-from_IsUtf8 (a ++ b) (IsUtf8-append a b (IsUtf8-from_is_utf8 a first.0) (IsUtf8-from_is_utf8 b second.0)),
  list_all-append is_iri_character a b ∙ and_from _ _ first.1 second.1,
)

not_false : (v : Bool) → not v ≡ false → v ≡ true
not_false true e = refl
not_false false e = absurd cc

absolute_part : (iri : List ℕ) → IsIriPart iri → not (is_absolute iri) ≡ false → is_absolute_iri iri ≡ true
absolute_part iri part absolute = and_from _ _ (and_from _ _ part.0 part.1) (not_false (is_absolute iri) absolute)

name_valid : (scope : Scope) (source : List ℕ) → HasIris scope → IsIriPart (local_of source) → (o : Option (List ℕ)) → expanded scope source ≡ o → is_none o ≡ false → is_relative o ≡ false → is_absolute_iri (unwrap_or o []) ≡ true
name_valid scope source iris local None e named absolute = absurd cc
name_valid scope source iris local (Some iri) e named absolute =
    let found = map_some (λ (namespace : List ℕ). namespace ++ local_of source) (scope.namespace (prefix_of source)) iri e in
    let part = subst IsIriPart found.2 (parts_joined found.0 (local_of source) (iris (prefix_of source) found.0 found.1) local) in
    absolute_part iri part absolute

abbrev pub IsIriWord : Terminal → Type 0
IsIriWord k = (k ≡ t.Iri) ⊎ ((k ≡ t.Namespace) ⊎ (k ≡ t.Name))

abbrev IsValidAt : Scope → List ℕ → Terminal → Type 0
IsValidAt scope source k =
    Says k source → is_name_token k && is_none (iri_by scope k source) ≡ false → is_iri_token k && is_relative (iri_by scope k source) ≡ false
    → is_absolute_iri (unwrap_or (iri_by scope k source) []) ≡ true

iri_valid : (scope : Scope) (source : List ℕ) (k : Terminal) → HasIris scope → IsIriWord k → IsValidAt scope source k
iri_valid scope source k iris (inl e) =
    subst (IsValidAt scope source) (sym e) (λ says named absolute. absolute_part (inside_of source) says absolute)
iri_valid scope source k iris (inr (inl e)) =
    subst (IsValidAt scope source) (sym e) (λ says named absolute. name_valid scope source iris says (expanded scope source) refl named absolute)
iri_valid scope source k iris (inr (inr e)) =
    subst (IsValidAt scope source) (sym e) (λ says named absolute. name_valid scope source iris says (expanded scope source) refl named absolute)

-- ---- good tokens

-- A token that says what it should, and whose IRI is absolute, if it writes one.
pub record IsGood (scope : Scope) (l : Lexeme) : Type 0 where
  pub says : Says l.terminal (source_of scope.text l)
  pub iri : IsIriWord l.terminal → is_absolute_iri (iri_or_none scope l) ≡ true

pub all_good : (scope : Scope) (ls : List Lexeme) → HasIris scope → AllByRecursion (IsSaid scope.text) ls → AllByRecursion (λ (l : Lexeme). is_name_token l.terminal && is_none (iri_of scope l) ≡ false) ls →
    AllByRecursion (λ (l : Lexeme). is_iri_token l.terminal && is_relative (iri_of scope l) ≡ false) ls → AllByRecursion (IsGood scope) ls
all_good scope [] iris said named absolute = tt
all_good scope (l ∷ ls) iris said named absolute = (
  record { says = said.0; iri = λ w. iri_valid scope (source_of scope.text l) l.terminal iris w said.0 named.0 absolute.0 },
  all_good scope ls iris said.1 named.1 absolute.1,
)

-- ---- tokens of derivations

pub behind : (P : Lexeme → Type 0) {f : Form} {x y : List Lexeme} → Derives f x y → AllByRecursion P x → AllByRecursion P y
behind P (is e) all = all.1
behind P (by d) all = behind P d all
behind P (one_after d e) all = behind P e (behind P d all)
behind P (left d) all = behind P d all
behind P (right d) all = behind P d all
behind P without all = all
behind P (with_it d) all = behind P d all
behind P end all = all
behind P (again d more) all = behind P more (behind P d all)

pub token_there : (P : Lexeme → Type 0) {k : Terminal} {x y : List Lexeme} (d : Derives (word k) x y) → AllByRecursion P x → P (token_of d) × ((token_of d).terminal ≡ k)
token_there P (is e) all = (all.0, e)

iri_there : {x y : List Lexeme} (scope : Scope) (d : Derives (name g.IriName) x y) → AllByRecursion (IsGood scope) x → is_absolute_iri (iri_or_none scope (iri_token d)) ≡ true
iri_there scope (by (left d)) all = let there = token_there (IsGood scope) d all in let good = there.0 in good.iri (inl there.1)
iri_there scope (by (right (left d))) all = let there = token_there (IsGood scope) d all in let good = there.0 in good.iri (inr (inl there.1))
iri_there scope (by (right (right d))) all = let there = token_there (IsGood scope) d all in let good = there.0 in good.iri (inr (inr there.1))

said_there : {k : Terminal} {x y : List Lexeme} (scope : Scope) (d : Derives (word k) x y) → AllByRecursion (IsGood scope) x → Says k (source_of scope.text (token_of d))
said_there scope d all =
    let there = token_there (IsGood scope) d all in
    let good = there.0 in
    subst (λ (j : Terminal). Says j (source_of scope.text (token_of d))) there.1 good.says

-- ---- terms

datatype_valid : (iri : List ℕ) → is_absolute_iri iri ≡ true → IsValidKind (kind_of_datatype iri)
datatype_valid iri absolute = by (same_bytes iri xsd_string) refl
  where
    by : (v : Bool) → same_bytes iri xsd_string ≡ v → IsValidKind (cond v Plain (Typed iri))
    by true p = tt
    by false p = (absolute, λ e. let yes : same_bytes iri xsd_string ≡ true = subst (λ (z : List ℕ). same_bytes iri z ≡ true) e (same_bytes_itself iri) in absurd cc)

kind_valid : {x y : List Lexeme} (scope : Scope) (d : Derives (maybe (word t.Tag or word t.Datatype ▹ name g.IriName)) x y) → AllByRecursion (IsGood scope) x → IsValidKind (kind_by scope d)
kind_valid scope without all = tt
kind_valid scope (with_it (left d)) all = said_there scope d all
kind_valid scope (with_it (right (one_after d i))) all = datatype_valid (iri_or_none scope (iri_token i)) (iri_there scope i (behind (IsGood scope) d all))

integer_valid : IsValidKind (Typed xsd_integer)
integer_valid = (absolute_text xsd_integer refl, λ e. both_ways (same_bytes xsd_integer xsd_string) refl (subst (λ (z : List ℕ). same_bytes xsd_integer z ≡ true) e (same_bytes_itself xsd_integer)))

literal_valid : {x y : List Lexeme} (scope : Scope) (d : Derives (name g.Literal) x y) → AllByRecursion (IsGood scope) x → IsValid (literal_by scope d)
literal_valid scope (by (left d)) all = (said_there scope d all, integer_valid)
literal_valid scope (by (right (one_after d suffix))) all = (said_there scope d all, kind_valid scope suffix (behind (IsGood scope) d all))

pub value_valid : {x y : List Lexeme} (scope : Scope) (d : Derives (name g.Value) x y) → AllByRecursion (IsGood scope) x → IsSlot (value_by scope d)
value_valid scope (by (left d)) all = tt
value_valid scope (by (right (left i))) all = iri_there scope i all
value_valid scope (by (right (right l))) all = literal_valid scope l all

pub verb_valid : {x y : List Lexeme} (scope : Scope) (d : Derives (name g.Verb) x y) → AllByRecursion (IsGood scope) x → IsSlot (verb_by scope d)
verb_valid scope (by (left d)) all = tt
verb_valid scope (by (right (left i))) all = iri_there scope i all
verb_valid scope (by (right (right d))) all = absolute_text rdf_type refl

pub slot_operand : (slot : Slot) → IsSlot slot → IsOperand (operand_of slot)
slot_operand (slots.Var variable) valid = tt
slot_operand (slots.Value term) valid = valid
