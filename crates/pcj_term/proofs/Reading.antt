-- What is read from bytes is a valid term that prints them, and what a valid term prints is read again.
use Rattle.std.proofs.Common.{◌≡◌, ◌≢◌, ℕ, ◌<◌, ◌^◌, Bool, true, false, ◌&&◌, cond, nat_eq, List, [], ◌∷◌, ◌++◌, Option, Some, None, refl, ap, sym, subst, ◌∙◌, append_assoc, arith, option_map, decimal}
use Rattle.std.specs.Str.{is_utf8}
use Rattle.std.proofs.lemmas.Bool.{and_parts, eqb-true, false_from_ne_true}
use Rattle.std.proofs.lemmas.Option.{cond_some, same_Some}
use Rattle.pcj_term.specs.declared.kind.Kind.{Kind}
use Rattle.pcj_term.specs.declared.kind.Kind.TheVariants.{Plain, Lang, Typed}
use Rattle.pcj_term.specs.declared.term.Term.{Term}
use Rattle.pcj_term.specs.declared.term.Term.TheVariants.{Iri, Blank, Literal}
use Rattle.pcj_term.specs.Iri.{is_absolute_iri}
use Rattle.pcj_term.specs.Label.{is_label}
use Rattle.pcj_term.specs.Tag.{is_language_tag, is_lower_case}
use Rattle.pcj_term.specs.Term.{printed, bracketed, node_name, quoted, escaped, suffix_of}
use Rattle.pcj_term.specs.Valid.{IsValid, IsValidKind, xsd_string}
use Rattle.pcj_term.specs.Read.{Reads}
use Rattle.pcj_term.specs.Reading.{begins_with, after, before, cut, iri_of, number_of_digits, node_of, text_at, kind_of_suffix, lang_of, typed_of, literal_of, term_of}
use Rattle.pcj_term.specs.Order.{same_bytes}
use Rattle.pcj_term.proofs.Parts.{after_takes, before_takes, before_again, cut_takes, cut_digits, number_takes, number_again, decimal_digits}
use Rattle.pcj_term.proofs.Escapes.{text_takes, text_again}
use Rattle.pcj_term.proofs.ByteLemmas.{same_bytes-Decides}
use Rattle.pcj_term.proofs.OptionLemmas.{map_some, bind_some}

-- ---- an IRI

iri_takes : (bytes iri : List ℕ) → iri_of bytes ≡ Some iri → (is_absolute_iri iri ≡ true) × (bracketed iri ≡ bytes)
unfolding iri_of
iri_takes bytes iri e =
    let opened = bind_some (after 60 bytes) _ iri e in
    let closed = bind_some (before 62 opened.0) _ iri opened.2 in
    let tested = cond_some (is_absolute_iri closed.0) closed.0 iri closed.2 in
    let inner : opened.0 ≡ iri ++ 62 ∷ [] = before_takes 62 opened.0 iri (closed.1 ∙ ap Some tested.1) in
    (subst (λ (i : List ℕ). is_absolute_iri i ≡ true) tested.1 tested.0, sym (after_takes 60 bytes opened.0 opened.1 ∙ ap (λ (t : List ℕ). 60 ∷ t) inner))

iri_again : (iri : List ℕ) → is_absolute_iri iri ≡ true → iri_of (bracketed iri) ≡ Some iri
unfolding iri_of
iri_again iri h = rw (before_again 62 iri, h) refl

-- ---- a blank node

regroup : (load : ℕ) (label : List ℕ) → node_name load label ≡ 95 ∷ 58 ∷ 116 ∷ (decimal load ++ 120 ∷ label)
regroup load label = ap (λ (t : List ℕ). 95 ∷ 58 ∷ 116 ∷ t) (append_assoc (decimal load) (120 ∷ []) label)

node_takes : (bytes : List ℕ) (node : ℕ × List ℕ) → node_of bytes ≡ Some node → IsValid (Blank node.0 node.1) × (node_name node.0 node.1 ≡ bytes)
unfolding node_of
node_takes bytes node e =
    let colon = bind_some (after 95 bytes) _ node e in
    let t = bind_some (after 58 colon.0) _ node colon.2 in
    let name = bind_some (after 116 t.0) _ node t.2 in
    let parts = bind_some (cut 120 name.0) _ node name.2 in
    let load = bind_some (number_of_digits parts.0.0) _ node parts.2 in
    let label = cond_some (is_label parts.0.1) (load.0, parts.0.1) node load.2 in
    let number = number_takes parts.0.0 load.0 load.1 in
    let rest : name.0 ≡ decimal load.0 ++ 120 ∷ parts.0.1 = cut_takes 120 name.0 parts.0 parts.1 ∙ ap (λ (d : List ℕ). d ++ 120 ∷ parts.0.1) number.1 in
    let whole : bytes ≡ 95 ∷ 58 ∷ 116 ∷ (decimal load.0 ++ 120 ∷ parts.0.1) =
    after_takes 95 bytes colon.0 colon.1 ∙ ap (λ (r : List ℕ). 95 ∷ r) (after_takes 58 colon.0 t.0 t.1 ∙ ap (λ (r : List ℕ). 58 ∷ r) (after_takes 116 t.0 name.0 name.1 ∙ ap (λ (r : List ℕ). 116 ∷ r) rest)) in
    subst (λ (n : ℕ × List ℕ). IsValid (Blank n.0 n.1) × (node_name n.0 n.1 ≡ bytes)) label.1 ((number.0, label.0), regroup load.0 parts.0.1 ∙ sym whole)

node_again : (load : ℕ) (label : List ℕ) → load < 2 ^ 64 → is_label label ≡ true → node_of (node_name load label) ≡ Some (load, label)
unfolding node_of
node_again load label small h =
    ap node_of (regroup load label)
    ∙ rw (cut_digits 120 (decimal load) label (omega arith) (decimal_digits load small), number_again load small, h) refl

-- ---- a literal

lang_takes : (tag : List ℕ) (kind : Kind) → lang_of tag ≡ Some kind → IsValidKind kind × (suffix_of kind ≡ 64 ∷ tag)
lang_takes tag kind e =
    let found = cond_some (is_language_tag tag && is_lower_case tag) (Lang tag) kind e in
    subst (λ (k : Kind). IsValidKind k × (suffix_of k ≡ 64 ∷ tag)) found.1 (and_parts _ _ found.0, refl)

typed_takes : (brackets : List ℕ) (kind : Kind) → typed_of brackets ≡ Some kind → IsValidKind kind × (suffix_of kind ≡ 94 ∷ 94 ∷ brackets)
typed_takes brackets kind e =
    let found = bind_some (iri_of brackets) _ kind e in
    by found.0 (same_bytes found.0 xsd_string) refl (iri_takes brackets found.0 found.1) found.2
  where
    by : (datatype : List ℕ) (v : Bool) → same_bytes datatype xsd_string ≡ v → (is_absolute_iri datatype ≡ true) × (bracketed datatype ≡ brackets) → cond (same_bytes datatype xsd_string) None (Some (Typed datatype)) ≡ Some kind → IsValidKind kind × (suffix_of kind ≡ 94 ∷ 94 ∷ brackets)
    by datatype true is iri there = let none = rw is at there in absurd cc
    by datatype false is iri there =
        let some = rw is at there in
        let other : datatype ≢ xsd_string = λ same. let yes = (same_bytes-Decides datatype xsd_string).1 same in absurd cc in
        subst (λ (k : Kind). IsValidKind k × (suffix_of k ≡ 94 ∷ 94 ∷ brackets)) (same_Some (Typed datatype) kind some) ((iri.0, other), ap (λ (t : List ℕ). 94 ∷ 94 ∷ t) iri.1)

kind_takes : (suffix : List ℕ) (kind : Kind) → kind_of_suffix suffix ≡ Some kind → IsValidKind kind × (suffix_of kind ≡ suffix)
unfolding kind_of_suffix
kind_takes [] kind e = subst (λ (k : Kind). IsValidKind k × (suffix_of k ≡ [])) (same_Some Plain kind e) (tt, refl)
kind_takes (byte ∷ bytes) kind e = by (nat_eq byte 64) (nat_eq byte 94) refl refl
  where
    by : (at caret : Bool) → nat_eq byte 64 ≡ at → nat_eq byte 94 ≡ caret → IsValidKind kind × (suffix_of kind ≡ byte ∷ bytes)
    by true caret p q =
        let here = rw p at e in
        let taken = lang_takes bytes kind here in
        (taken.0, taken.1 ∙ ap (λ (b : ℕ). b ∷ bytes) (sym (eqb-true byte 64 p)))
    by false true p q =
        let here = rw (p, q) at e in
        let second = bind_some (after 94 bytes) typed_of kind here in
        let taken = typed_takes second.0 kind second.2 in
        (taken.0, taken.1 ∙ ap (λ (t : List ℕ). 94 ∷ t) (sym (after_takes 94 bytes second.0 second.1)) ∙ ap (λ (b : ℕ). b ∷ bytes) (sym (eqb-true byte 94 q)))
    by false false p q = let none = rw (p, q) at e in absurd cc

kind_again : (kind : Kind) → IsValidKind kind → kind_of_suffix (suffix_of kind) ≡ Some kind
unfolding kind_of_suffix
kind_again Plain h = refl
kind_again (Lang tag) h = rw (h.0, h.1) refl
kind_again (Typed datatype) h =
    let other = false_from_ne_true _ (λ e. h.1 ((same_bytes-Decides datatype xsd_string).0 e)) in
    rw (iri_again datatype h.0, other) refl

literal_takes : (bytes : List ℕ) (term : Term) → literal_of bytes ≡ Some term → IsValid term × (printed term ≡ bytes)
unfolding literal_of
literal_takes bytes term e =
    let opened = bind_some (after 34 bytes) _ term e in
    let parts = bind_some (text_at opened.0) _ term opened.2 in
    by parts.0 (is_utf8 parts.0.0) refl (after_takes 34 bytes opened.0 opened.1 ∙ ap (λ (t : List ℕ). 34 ∷ t) (text_takes opened.0 parts.0 parts.1)) parts.2
  where
    by : (parts : List ℕ × List ℕ) (v : Bool) → is_utf8 parts.0 ≡ v → bytes ≡ 34 ∷ (escaped parts.0 ++ 34 ∷ parts.1) → cond (is_utf8 parts.0) (option_map (Literal parts.0) (kind_of_suffix parts.1)) None ≡ Some term → IsValid term × (printed term ≡ bytes)
    by parts false is whole there = let none = rw is at there in absurd cc
    by parts true is whole there =
        let some = rw is at there in
        let kind = map_some (Literal parts.0) (kind_of_suffix parts.1) term some in
        let taken = kind_takes parts.1 kind.0 kind.1 in
        let text : quoted parts.0 ++ suffix_of kind.0 ≡ bytes =
        ap (λ (t : List ℕ). 34 ∷ t) (append_assoc (escaped parts.0) (34 ∷ []) (suffix_of kind.0) ∙ ap (λ (t : List ℕ). escaped parts.0 ++ 34 ∷ t) taken.1) ∙ sym whole in
        subst (λ (t : Term). IsValid t × (printed t ≡ bytes)) kind.2 ((is, taken.0), text)

literal_again : (text : List ℕ) (kind : Kind) → is_utf8 text ≡ true → IsValidKind kind → literal_of (quoted text ++ suffix_of kind) ≡ Some (Literal text kind)
unfolding literal_of
literal_again text kind utf8 h =
    ap literal_of (ap (λ (t : List ℕ). 34 ∷ t) (append_assoc (escaped text) (34 ∷ []) (suffix_of kind)))
    ∙ rw (text_again text (suffix_of kind), utf8, kind_again kind h) refl

-- ---- a term

abbrev Prints : List ℕ → Term → Type 0
Prints bytes term = IsValid term × (printed term ≡ bytes)

term_takes : (bytes : List ℕ) (term : Term) → term_of bytes ≡ Some term → Prints bytes term
unfolding term_of
term_takes bytes term e = by (begins_with 60 bytes) (begins_with 95 bytes) (begins_with 34 bytes) refl refl refl
  where
    by : (iri blank literal : Bool) → begins_with 60 bytes ≡ iri → begins_with 95 bytes ≡ blank → begins_with 34 bytes ≡ literal → Prints bytes term
    by true blank literal p q r =
        let here = rw p at e in
        let iri = map_some Iri (iri_of bytes) term here in
        subst (Prints bytes) iri.2 (iri_takes bytes iri.0 iri.1)
    by false true literal p q r =
        let here = rw (p, q) at e in
        let node = map_some (λ (node : ℕ × List ℕ). Blank node.0 node.1) (node_of bytes) term here in
        subst (Prints bytes) node.2 (node_takes bytes node.0 node.1)
    by false false true p q r = let here = rw (p, q, r) at e in literal_takes bytes term here
    by false false false p q r = let none = rw (p, q, r) at e in absurd cc

pub term_again : (term : Term) → IsValid term → term_of (printed term) ≡ Some term
unfolding term_of
term_again (Iri iri) h = rw (iri_again iri h) refl
term_again (Blank load label) h = rw (node_again load label h.0 h.1) refl
term_again (Literal text kind) h = literal_again text kind h.0 h.1

pub reads : (bytes : List ℕ) (found : Option Term) → found ≡ term_of bytes → Reads bytes found
reads bytes (Some term) e = term_takes bytes term (sym e)
reads bytes None e = λ term valid prints.
    let again : term_of bytes ≡ Some term = subst (λ (b : List ℕ). term_of b ≡ Some term) prints (term_again term valid) in
    absurd cc
