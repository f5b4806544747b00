-- A term that is read is what is written there, and what is written there is read.
use Rattle.std.proofs.Common.{◌≡◌, ℕ, length, drop, Bool, true, false, ◌&&◌, ◌||◌, cond, nat_eq, nat_lt, List, [], ◌∷◌, ◌++◌, Option, Some, None, Result, Ok, Err, refl, ap, sym, subst, ◌∙◌, append_assoc, arith, inl, inr, ◌⊎◌, encode_utf8_all}
use Rattle.std.specs.List.{list_all}
use Rattle.std.specs.Str.{all_scalars}
use Rattle.std.proofs.lemmas.Bool.{and_parts, or_parts, eqb-true, ltb-true, ltb-false, lt-ltb, le-ltb, false_from_ne_true, and_from}
use Rattle.std.proofs.lemmas.List.{length-append}
use Rattle.std.proofs.lemmas.Str.{encodes-append}
use Rattle.std.proofs.Math.Bool.{and-false}
use Rattle.pcj_term.specs.declared.kind.Kind.{Kind}
use Rattle.pcj_term.specs.declared.kind.Kind.TheVariants.{Plain, Lang, Typed}
use Rattle.pcj_term.specs.declared.term.Term.{Term}
use Rattle.pcj_term.specs.declared.term.Term.TheVariants.{Iri, Blank, Literal}
use Rattle.pcj_term.specs.Iri.{is_absolute}
use Rattle.pcj_term.specs.Label.{is_label_start, begins_label}
use Rattle.pcj_term.specs.Reading.{begins_with}
use Rattle.pcj_term.specs.Valid.{xsd_string}
use Rattle.pcj_term.specs.Order.{same_bytes}
use Rattle.pcj_term.proofs.ByteLemmas.{same_bytes-Decides}
use Rattle.pcj_ntriples.specs.declared.kind.NtKind.{NtKind}
use Rattle.pcj_ntriples.specs.declared.kind.NtKind.TheVariants.{ObjectExpected, BadTag, RelativeIri, TermTooLong}
use Rattle.pcj_ntriples.specs.declared.enclosure.Enclosure.{Enclosure}
use Rattle.pcj_ntriples.specs.declared.enclosure.Enclosure.TheVariants as enclosures
use Rattle.pcj_ntriples.specs.declared.place.Place.{Place}
use Rattle.pcj_ntriples.specs.Text.{closing_of, written_by, Closes}
use Rattle.pcj_ntriples.specs.TextReading.{text_from}
use Rattle.pcj_ntriples.specs.Term.{is_blank, begins_blank, Skips, TakesIri, BeforeDatatype, TakesDatatype, begins_datatype, begins_suffix, TakesKind, Takes, term_limit, WritesBytes, takes_nodes, takes_literals, IsAllowed, expected_at, begins_node, begins_term, TakesTerm, TakesLongTerm}
use Rattle.pcj_ntriples.specs.Line.{IsNoTag, IsCutTag, IsRelative}
use Rattle.pcj_ntriples.specs.LineReading.{◌>>=◌, skip_blanks, encoded, iri_at, name_at, node_at, tag_from, lang_of, lang_at, kind_of_datatype, datatype_at, kind_at, literal_at, any_term_at, bytes_between, term_at}
use Rattle.pcj_ntriples.proofs.Spelling.{IsTextFault, IsTextOutcome, text_outcome, closes_read, unclosed_read, bad_escape_read, forbidden_within_read}
use Rattle.pcj_ntriples.proofs.Names.{IsLangOutcome, lang_outcome, tag_again, tag_fails_again, label_taken, label_again, scalars_parts}

-- ---- what follows

-- rest stands at the end
abbrev pub Ends : List ℕ → List ℕ → Type 0
Ends characters rest = (front : List ℕ) × (characters ≡ front ++ rest)

pub ends_through : (a b c : List ℕ) → Ends a b → Ends b c → Ends a c
ends_through a b c h k = (h.0 ++ k.0, h.1 ∙ ap (λ (t : List ℕ). h.0 ++ t) k.1 ∙ sym (append_assoc h.0 k.0 c))

pub ends_scalars : (characters rest : List ℕ) → Ends characters rest → all_scalars characters ≡ true → all_scalars rest ≡ true
ends_scalars characters rest h are = (scalars_parts h.0 rest (subst (λ (t : List ℕ). all_scalars t ≡ true) h.1 are)).1

pub first_ends : (first : ℕ) (characters rest : List ℕ) → characters ≡ first ∷ rest → Ends characters rest
first_ends first characters rest e = (first ∷ [], e)

pub skips_ends : (characters rest : List ℕ) → Skips characters rest → Ends characters rest
skips_ends characters rest h = (h.0, h.2)

pub closes_ends : (enclosure : Enclosure) (inner text rest : List ℕ) → Closes enclosure inner text rest → Ends inner rest
closes_ends enclosure inner text rest w = (written_by w.pieces ++ closing_of enclosure ∷ [], w.written ∙ sym (append_assoc (written_by w.pieces) (closing_of enclosure ∷ []) rest))

iri_ends : (inner iri rest : List ℕ) → TakesIri inner iri rest → Ends inner rest
iri_ends inner iri rest h = closes_ends enclosures.Iri inner h.0 rest h.1

pub before_datatype_ends : (after rest : List ℕ) → BeforeDatatype after rest → Ends after rest
before_datatype_ends after rest h =
    ends_through after (94 ∷ 94 ∷ h.0) rest (skips_ends after (94 ∷ 94 ∷ h.0) h.1)
    (ends_through (94 ∷ 94 ∷ h.0) h.0 rest (94 ∷ 94 ∷ [], refl) (skips_ends h.0 rest h.2))

datatype_ends : (after datatype rest : List ℕ) → TakesDatatype after datatype rest → Ends after rest
datatype_ends after datatype rest h =
    ends_through after (60 ∷ h.0) rest (before_datatype_ends after (60 ∷ h.0) h.1) (ends_through (60 ∷ h.0) h.0 rest (60 ∷ [], refl) (iri_ends h.0 datatype rest h.2))

kind_ends : (after : List ℕ) (kind : Kind) (rest : List ℕ) → TakesKind after kind rest → Ends after rest
kind_ends after Plain rest (inl h) = ([], sym h.0)
kind_ends after Plain rest (inr h) = datatype_ends after xsd_string rest h
kind_ends after (Lang tag) rest h = let taken = h.2 in
    ends_through after (64 ∷ h.0) rest (skips_ends after (64 ∷ h.0) h.1) (ends_through (64 ∷ h.0) h.0 rest (64 ∷ [], refl) (taken.0, taken.1))
kind_ends after (Typed datatype) rest h = datatype_ends after datatype rest h.0

pub takes_ends : (load : ℕ) (characters : List ℕ) (term : Term) (rest : List ℕ) → Takes load characters term rest → Ends characters rest
takes_ends load characters (Iri iri) rest h = ends_through characters h.0 rest (60 ∷ [], h.1) (iri_ends h.0 iri rest h.2)
takes_ends load characters (Blank node label) rest h = let taken = h.2 in ends_through characters h.0 rest (95 ∷ 58 ∷ [], h.1) (taken.0, taken.1)
takes_ends load characters (Literal text kind) rest h =
    ends_through characters h.0 rest (34 ∷ [], h.3) (ends_through h.0 h.2 rest (closes_ends enclosures.String h.0 h.1 h.2 h.4) (kind_ends h.2 kind rest h.6))

-- ---- blanks

pub skip_taken : (characters : List ℕ) → Skips characters (skip_blanks characters)
skip_taken [] = ([], refl, refl, refl)
skip_taken (character ∷ characters) = by (is_blank character) refl (skip_taken characters)
  where
    by : (v : Bool) → is_blank character ≡ v → Skips characters (skip_blanks characters) → Skips (character ∷ characters) (skip_blanks (character ∷ characters))
    by true p later = rw p (character ∷ later.0, and_from _ _ p later.1, ap (λ (t : List ℕ). character ∷ t) later.2, later.3)
    by false p later = rw p ([], refl, refl, p)

pub skip_none : (rest : List ℕ) → begins_blank rest ≡ false → skip_blanks rest ≡ rest
skip_none [] e = refl
skip_none (character ∷ rest) e = rw e refl

skip_all : (blanks rest : List ℕ) → list_all is_blank blanks ≡ true → begins_blank rest ≡ false → skip_blanks (blanks ++ rest) ≡ rest
skip_all [] rest all e = skip_none rest e
skip_all (blank ∷ blanks) rest all e = let parts = and_parts (is_blank blank) (list_all is_blank blanks) all in rw parts.0 (skip_all blanks rest parts.1 e)

pub skip_again : (characters rest : List ℕ) → Skips characters rest → skip_blanks characters ≡ rest
skip_again characters rest h = ap skip_blanks h.2 ∙ skip_all h.0 rest h.1 h.3

pub begins_is : (first : ℕ) (characters : List ℕ) → begins_with first characters ≡ true → characters ≡ first ∷ drop 1 characters
begins_is first [] e = absurd cc
begins_is first (character ∷ characters) e = ap (λ (c : ℕ). c ∷ characters) (eqb-true character first e)

-- ---- IRIs

abbrev pub IsIriFault : List ℕ → NtKind → Type 0
IsIriFault inner kind = IsTextFault enclosures.Iri inner kind ⊎ ((kind ≡ RelativeIri) × IsRelative inner)

abbrev pub IsIriOutcome : List ℕ → Result (List ℕ × List ℕ) NtKind → Type 0
IsIriOutcome inner (Ok found) = TakesIri inner found.0 found.1
IsIriOutcome inner (Err kind) = IsIriFault inner kind

iri_outcome : (inner : List ℕ) → IsIriOutcome inner (iri_at inner)
unfolding iri_at
iri_outcome inner = by (text_from enclosures.Iri 0 inner) (text_outcome enclosures.Iri inner)
  where
    tested : (text rest : List ℕ) (v : Bool) → is_absolute (encode_utf8_all text) ≡ v → Closes enclosures.Iri inner text rest → IsIriOutcome inner (cond v (Ok (encode_utf8_all text, rest)) (Err RelativeIri))
    tested text rest true p closes = (text, closes, refl, p)
    tested text rest false p closes = inr (refl, (text, rest, closes, p))

    by : (r : Result (List ℕ × List ℕ) NtKind) → IsTextOutcome enclosures.Iri inner r → IsIriOutcome inner (encoded r >>= (λ found. cond (is_absolute found.0) (Ok found) (Err RelativeIri)))
    by (Ok found) outcome = tested found.0 found.1 (is_absolute (encode_utf8_all found.0)) refl outcome
    by (Err kind) outcome = inl outcome

iri_again : (inner iri rest : List ℕ) → TakesIri inner iri rest → iri_at inner ≡ Ok (iri, rest)
unfolding iri_at
iri_again inner iri rest h =
    let absolute : is_absolute (encode_utf8_all h.0) ≡ true = ap is_absolute (sym h.2) ∙ h.3 in
    rw (closes_read enclosures.Iri inner h.0 rest h.1, absolute) (ap (λ (t : List ℕ). Ok (t, rest)) (sym h.2))

text_fault_read : (enclosure : Enclosure) (inner : List ℕ) (kind : NtKind) → IsTextFault enclosure inner kind → text_from enclosure 0 inner ≡ Err kind
text_fault_read enclosure inner kind (inl h) = unclosed_read enclosure inner h.1 ∙ ap Err (sym h.0)
text_fault_read enclosure inner kind (inr (inl h)) = bad_escape_read enclosure inner h.1 ∙ ap Err (sym h.0)
text_fault_read enclosure inner kind (inr (inr h)) = forbidden_within_read enclosure inner h.1 ∙ ap Err (sym h.0)

pub iri_fault_read : (inner : List ℕ) (kind : NtKind) → IsIriFault inner kind → iri_at inner ≡ Err kind
unfolding iri_at
iri_fault_read inner kind (inl h) = rw (text_fault_read enclosures.Iri inner kind h) refl
iri_fault_read inner kind (inr h) = let relative = h.1 in
    rw (closes_read enclosures.Iri inner relative.0 relative.1 relative.2, relative.3) (ap Err (sym h.0))

-- ---- what follows a string

abbrev pub IsKindFault : List ℕ → NtKind → Type 0
IsKindFault after kind =
    ((kind ≡ BadTag) × ((inner : List ℕ) × Skips after (64 ∷ inner) × (IsNoTag inner ⊎ IsCutTag inner)))
    ⊎ ((kind ≡ ObjectExpected) × ((rest : List ℕ) × BeforeDatatype after rest × (begins_with 60 rest ≡ false)))
    ⊎ ((inner : List ℕ) × BeforeDatatype after (60 ∷ inner) × IsIriFault inner kind)

abbrev pub IsKindOutcome : List ℕ → Result (Kind × List ℕ) NtKind → Type 0
IsKindOutcome after (Ok found) = TakesKind after found.0 found.1
IsKindOutcome after (Err kind) = IsKindFault after kind

lang_kind : (after inner : List ℕ) → Skips after (64 ∷ inner) → (o : Option (List ℕ × List ℕ)) → IsLangOutcome inner o → IsKindOutcome after (lang_of o)
lang_kind after inner skips (Some found) outcome = (inner, skips, (found.0, outcome.0, outcome.1, outcome.2, refl))
lang_kind after inner skips None outcome = inl (refl, (inner, skips, outcome))

typed_kind : (after datatype rest : List ℕ) (v : Bool) → same_bytes datatype xsd_string ≡ v → TakesDatatype after datatype rest → TakesKind after (kind_of_datatype datatype) rest
typed_kind after datatype rest true p h = rw p (inr (subst (λ (d : List ℕ). TakesDatatype after d rest) ((same_bytes-Decides datatype xsd_string).0 p) h))
typed_kind after datatype rest false p h = rw p (h, λ same. let yes = (same_bytes-Decides datatype xsd_string).1 same in absurd cc)

datatype_kind : (after marked next : List ℕ) → Skips after (94 ∷ 94 ∷ marked) → Skips marked next → IsKindOutcome after (datatype_at next)
datatype_kind after marked next skips again = by (begins_with 60 next) refl
  where
    found_by : (inner : List ℕ) → BeforeDatatype after (60 ∷ inner) → (r : Result (List ℕ × List ℕ) NtKind) → IsIriOutcome inner r → IsKindOutcome after (r >>= (λ found. Ok (kind_of_datatype found.0, found.1)))
    found_by inner before (Ok found) outcome = typed_kind after found.0 found.1 (same_bytes found.0 xsd_string) refl (inner, before, outcome)
    found_by inner before (Err kind) outcome = inr (inr (inner, before, outcome))

    by : (v : Bool) → begins_with 60 next ≡ v → IsKindOutcome after (datatype_at next)
    by true p = rw p (found_by (drop 1 next) (subst (BeforeDatatype after) (begins_is 60 next p) (marked, skips, again)) (iri_at (drop 1 next)) (iri_outcome (drop 1 next)))
    by false p = rw p (inr (inl (refl, (next, (marked, skips, again), p))))

datatype_is : (characters : List ℕ) → begins_datatype characters ≡ true → characters ≡ 94 ∷ 94 ∷ drop 2 characters
datatype_is [] e = absurd cc
datatype_is (first ∷ []) e = absurd cc
datatype_is (first ∷ next ∷ characters) e =
    let parts = and_parts (nat_eq first 94) (nat_eq next 94) e in
    ap (λ (c : ℕ). c ∷ next ∷ characters) (eqb-true first 94 parts.0) ∙ ap (λ (c : ℕ). 94 ∷ c ∷ characters) (eqb-true next 94 parts.1)

kind_outcome_from : (after next : List ℕ) → Skips after next → IsKindOutcome after (kind_at after next)
unfolding kind_at
kind_outcome_from after next skips = by (begins_with 64 next) (begins_datatype next) refl refl
  where
    by : (tag datatype : Bool) → begins_with 64 next ≡ tag → begins_datatype next ≡ datatype → IsKindOutcome after (kind_at after next)
    by true datatype p q =
        rw p (lang_kind after (drop 1 next) (subst (Skips after) (begins_is 64 next p) skips) (tag_from false false (drop 1 next)) (lang_outcome (drop 1 next)))
    by false true p q =
        rw (p, q) (datatype_kind after (drop 2 next) (skip_blanks (drop 2 next)) (subst (Skips after) (datatype_is next q) skips) (skip_taken (drop 2 next)))
    by false false p q = rw (p, q) (inl (refl, (next, skips, rw (p, q) refl)))

kind_outcome : (after : List ℕ) → IsKindOutcome after (kind_at after (skip_blanks after))
kind_outcome after = kind_outcome_from after (skip_blanks after) (skip_taken after)

plain_again : (after next : List ℕ) → begins_suffix next ≡ false → kind_at after next ≡ Ok (Plain, after)
unfolding kind_at
plain_again after next e = let parts = or_parts (begins_with 64 next) (begins_datatype next) e in rw (parts.0, parts.1) refl

lang_at_again : (after inner : List ℕ) → kind_at after (64 ∷ inner) ≡ lang_at inner
unfolding kind_at
lang_at_again after inner = refl

datatype_at_again : (after marked : List ℕ) → kind_at after (94 ∷ 94 ∷ marked) ≡ datatype_at (skip_blanks marked)
unfolding kind_at
datatype_at_again after marked = refl

before_datatype_read : (after rest : List ℕ) → BeforeDatatype after rest → kind_at after (skip_blanks after) ≡ datatype_at rest
before_datatype_read after rest h =
    ap (kind_at after) (skip_again after (94 ∷ 94 ∷ h.0) h.1) ∙ datatype_at_again after h.0 ∙ ap datatype_at (skip_again h.0 rest h.2)

datatype_read : (after datatype rest : List ℕ) → TakesDatatype after datatype rest → kind_at after (skip_blanks after) ≡ Ok (kind_of_datatype datatype, rest)
datatype_read after datatype rest h =
    before_datatype_read after (60 ∷ h.0) h.1 ∙ ap (λ (r : Result (List ℕ × List ℕ) NtKind). r >>= (λ found. Ok (kind_of_datatype found.0, found.1))) (iri_again h.0 datatype rest h.2)

kind_again : (after : List ℕ) (kind : Kind) (rest : List ℕ) → TakesKind after kind rest → kind_at after (skip_blanks after) ≡ Ok (kind, rest)
kind_again after Plain rest (inl h) = let plain = h.1 in
    ap (kind_at after) (skip_again after plain.0 plain.1) ∙ plain_again after plain.0 plain.2 ∙ ap (λ (r : List ℕ). Ok (Plain, r)) (sym h.0)
kind_again after Plain rest (inr h) = datatype_read after xsd_string rest h
kind_again after (Lang tag) rest h = let taken = h.2 in
    ap (kind_at after) (skip_again after (64 ∷ h.0) h.1) ∙ lang_at_again after h.0
    ∙ ap lang_of (tag_again h.0 taken.0 rest taken.1 taken.2 taken.3)
    ∙ ap (λ (t : List ℕ). Ok (Lang t, rest)) (sym taken.4)
kind_again after (Typed datatype) rest h =
    let other = false_from_ne_true (same_bytes datatype xsd_string) (λ e. h.1 ((same_bytes-Decides datatype xsd_string).0 e)) in
    datatype_read after datatype rest h.0 ∙ rw other refl

kind_fault_read : (after : List ℕ) (kind : NtKind) → IsKindFault after kind → kind_at after (skip_blanks after) ≡ Err kind
kind_fault_read after kind (inl h) = let found = h.1 in
    ap (kind_at after) (skip_again after (64 ∷ found.0) found.1) ∙ lang_at_again after found.0 ∙ ap lang_of (tag_fails_again found.0 found.2) ∙ ap Err (sym h.0)
kind_fault_read after kind (inr (inl h)) = let found = h.1 in
    before_datatype_read after found.0 found.1 ∙ rw found.2 (ap Err (sym h.0))
kind_fault_read after kind (inr (inr h)) =
    before_datatype_read after (60 ∷ h.0) h.1 ∙ ap (λ (r : Result (List ℕ × List ℕ) NtKind). r >>= (λ found. Ok (kind_of_datatype found.0, found.1))) (iri_fault_read h.0 kind h.2)

-- ---- a term of any length

abbrev pub IsLiteralFault : List ℕ → NtKind → Type 0
IsLiteralFault inner kind = IsTextFault enclosures.String inner kind ⊎ ((text after : List ℕ) × Closes enclosures.String inner text after × IsKindFault after kind)

abbrev pub IsAnyFault : Place → List ℕ → NtKind → Type 0
IsAnyFault place characters kind =
    ((kind ≡ expected_at place) × (begins_term place characters ≡ false))
    ⊎ ((inner : List ℕ) × (characters ≡ 60 ∷ inner) × IsIriFault inner kind)
    ⊎ ((inner : List ℕ) × (takes_literals place ≡ true) × (characters ≡ 34 ∷ inner) × IsLiteralFault inner kind)

abbrev pub IsAnyOutcome : ℕ → Place → List ℕ → Result (Term × List ℕ) NtKind → Type 0
IsAnyOutcome load place characters (Ok found) = IsAllowed place found.0 × Takes load characters found.0 found.1
IsAnyOutcome load place characters (Err kind) = IsAnyFault place characters kind

node_is : (characters : List ℕ) → begins_node characters ≡ true → (characters ≡ 95 ∷ 58 ∷ drop 2 characters) × (begins_label (drop 2 characters) ≡ true)
node_is [] e = absurd cc
node_is (first ∷ []) e = absurd cc
node_is (first ∷ second ∷ []) e = absurd cc
node_is (first ∷ second ∷ third ∷ characters) e =
    let parts = and_parts (nat_eq first 95 && nat_eq second 58) (is_label_start third) e in
    let marks = and_parts (nat_eq first 95) (nat_eq second 58) parts.0 in
    (ap (λ (c : ℕ). c ∷ second ∷ third ∷ characters) (eqb-true first 95 marks.0) ∙ ap (λ (c : ℕ). 95 ∷ c ∷ third ∷ characters) (eqb-true second 58 marks.1), parts.1)

abbrev literal_of : List ℕ → Result (Kind × List ℕ) NtKind → Result (Term × List ℕ) NtKind
literal_of text r = r >>= (λ kind. Ok (Literal (encode_utf8_all text) kind.0, kind.1))

abbrev literal_after : Result (List ℕ × List ℕ) NtKind → Result (Term × List ℕ) NtKind
literal_after r = encoded r >>= (λ text. kind_at text.1 (skip_blanks text.1) >>= (λ kind. Ok (Literal text.0 kind.0, kind.1)))

literal_outcome : (load : ℕ) (place : Place) (characters inner : List ℕ) → takes_literals place ≡ true → characters ≡ 34 ∷ inner → IsAnyOutcome load place characters (literal_at inner)
unfolding literal_at
literal_outcome load place characters inner allowed e = by (text_from enclosures.String 0 inner) (text_outcome enclosures.String inner)
  where
    with_kind : (text after : List ℕ) → Closes enclosures.String inner text after → (r : Result (Kind × List ℕ) NtKind) → IsKindOutcome after r → IsAnyOutcome load place characters (literal_of text r)
    with_kind text after closes (Ok found) outcome = (allowed, (inner, text, after, e, closes, refl, outcome))
    with_kind text after closes (Err kind) outcome = inr (inr (inner, allowed, e, inr (text, after, closes, outcome)))

    by : (r : Result (List ℕ × List ℕ) NtKind) → IsTextOutcome enclosures.String inner r → IsAnyOutcome load place characters (literal_after r)
    by (Ok found) outcome = with_kind found.0 found.1 outcome (kind_at found.1 (skip_blanks found.1)) (kind_outcome found.1)
    by (Err kind) outcome = inr (inr (inner, allowed, e, inl outcome))

any_outcome : (load : ℕ) (place : Place) (characters : List ℕ) → all_scalars characters ≡ true → IsAnyOutcome load place characters (any_term_at load place characters)
unfolding any_term_at
any_outcome load place characters are = by (begins_with 60 characters) (takes_nodes place && begins_node characters) (takes_literals place && begins_with 34 characters) refl refl refl
  where
    iri_by : (inner : List ℕ) → characters ≡ 60 ∷ inner → (r : Result (List ℕ × List ℕ) NtKind) → IsIriOutcome inner r → IsAnyOutcome load place characters (r >>= (λ found. Ok (Iri found.0, found.1)))
    iri_by inner e (Ok found) outcome = (tt, (inner, e, outcome))
    iri_by inner e (Err kind) outcome = inr (inl (inner, e, outcome))

    by : (iri node literal : Bool) → begins_with 60 characters ≡ iri → takes_nodes place && begins_node characters ≡ node → takes_literals place && begins_with 34 characters ≡ literal → IsAnyOutcome load place characters (any_term_at load place characters)
    by true node literal p q r = rw p (iri_by (drop 1 characters) (begins_is 60 characters p) (iri_at (drop 1 characters)) (iri_outcome (drop 1 characters)))
    by false true literal p q r =
        let parts = and_parts (takes_nodes place) (begins_node characters) q in
        let node = node_is characters parts.1 in
        rw (p, q) (parts.0, (drop 2 characters, node.0, label_taken (drop 2 characters) node.1 (ends_scalars characters (drop 2 characters) (95 ∷ 58 ∷ [], node.0) are), refl))
    by false false true p q r =
        let parts = and_parts (takes_literals place) (begins_with 34 characters) r in
        rw (p, q, r) (literal_outcome load place characters (drop 1 characters) parts.0 (begins_is 34 characters parts.1))
    by false false false p q r = rw (p, q, r) (inl (refl, rw (p, q, r) refl))

node_begins : (inner : List ℕ) → begins_node (95 ∷ 58 ∷ inner) ≡ begins_label inner
node_begins [] = refl
node_begins (third ∷ inner) = refl

no_node : (inner : List ℕ) → begins_node (34 ∷ inner) ≡ false
no_node [] = refl
no_node (second ∷ []) = refl
no_node (second ∷ third ∷ inner) = refl

iri_term_at : (load : ℕ) (place : Place) (inner : List ℕ) → any_term_at load place (60 ∷ inner) ≡ iri_at inner >>= (λ found. Ok (Iri found.0, found.1))
unfolding any_term_at
iri_term_at load place inner = refl

node_term_at : (load : ℕ) (place : Place) (inner : List ℕ) → takes_nodes place ≡ true → begins_label inner ≡ true → any_term_at load place (95 ∷ 58 ∷ inner) ≡ node_at load inner
unfolding any_term_at
node_term_at load place inner allowed begins = rw (allowed, node_begins inner, begins) refl

literal_term_at : (load : ℕ) (place : Place) (inner : List ℕ) → takes_literals place ≡ true → any_term_at load place (34 ∷ inner) ≡ literal_at inner
unfolding any_term_at
literal_term_at load place inner allowed = rw (no_node inner, and-false (takes_nodes place), allowed) refl

literal_from : (inner text after : List ℕ) → Closes enclosures.String inner text after → literal_at inner ≡ literal_of text (kind_at after (skip_blanks after))
unfolding literal_at
literal_from inner text after closes = ap literal_after (closes_read enclosures.String inner text after closes)

any_read : (load : ℕ) (place : Place) (characters : List ℕ) (term : Term) (rest : List ℕ) → all_scalars characters ≡ true → IsAllowed place term → Takes load characters term rest → any_term_at load place characters ≡ Ok (term, rest)
any_read load place characters (Iri iri) rest are allowed h =
    ap (any_term_at load place) h.1 ∙ iri_term_at load place h.0
    ∙ ap (λ (r : Result (List ℕ × List ℕ) NtKind). r >>= (λ found. Ok (Iri found.0, found.1))) (iri_again h.0 iri rest h.2)
any_read load place characters (Blank node label) rest are allowed h =
    let reads = label_again h.0 label rest (ends_scalars characters h.0 (95 ∷ 58 ∷ [], h.1) are) h.2 in
    ap (any_term_at load place) h.1 ∙ node_term_at load place h.0 allowed reads.begins
    ∙ ap (λ (l : List ℕ). Ok (Blank load l, (name_at h.0).1)) reads.label_is
    ∙ ap (λ (r : List ℕ). Ok (Blank load label, r)) reads.rest_is
    ∙ ap (λ (n : ℕ). Ok (Blank n label, rest)) (sym h.3)
any_read load place characters (Literal text kind) rest are allowed h =
    ap (any_term_at load place) h.3 ∙ literal_term_at load place h.0 allowed ∙ literal_from h.0 h.1 h.2 h.4
    ∙ ap (literal_of h.1) (kind_again h.2 kind rest h.6)
    ∙ ap (λ (t : List ℕ). Ok (Literal t kind, rest)) (sym h.5)

literal_fault_read : (inner : List ℕ) (kind : NtKind) → IsLiteralFault inner kind → literal_at inner ≡ Err kind
unfolding literal_at
literal_fault_read inner kind (inl h) = ap literal_after (text_fault_read enclosures.String inner kind h)
literal_fault_read inner kind (inr h) = literal_from inner h.0 h.1 h.2 ∙ ap (literal_of h.0) (kind_fault_read h.1 kind h.3)

none_at : (load : ℕ) (place : Place) (characters : List ℕ) → begins_term place characters ≡ false → any_term_at load place characters ≡ Err (expected_at place)
unfolding any_term_at
none_at load place characters e =
    let outer = or_parts (begins_with 60 characters || (takes_nodes place && begins_node characters)) (takes_literals place && begins_with 34 characters) e in
    let inner = or_parts (begins_with 60 characters) (takes_nodes place && begins_node characters) outer.0 in
    rw (inner.0, inner.1, outer.1) refl

pub any_fault_read : (load : ℕ) (place : Place) (characters : List ℕ) (kind : NtKind) → IsAnyFault place characters kind → any_term_at load place characters ≡ Err kind
any_fault_read load place characters kind (inl h) = none_at load place characters h.1 ∙ ap Err (sym h.0)
any_fault_read load place characters kind (inr (inl h)) =
    ap (any_term_at load place) h.1 ∙ iri_term_at load place h.0
    ∙ ap (λ (r : Result (List ℕ × List ℕ) NtKind). r >>= (λ found. Ok (Iri found.0, found.1))) (iri_fault_read h.0 kind h.2)
any_fault_read load place characters kind (inr (inr h)) =
    ap (any_term_at load place) h.2 ∙ literal_term_at load place h.0 h.1 ∙ literal_fault_read h.0 kind h.3

-- ---- a term, and its length

bytes_counted : (characters rest : List ℕ) (count : ℕ) → WritesBytes characters rest count → bytes_between characters rest ≡ count
bytes_counted characters rest count h =
    let whole : encode_utf8_all characters ≡ encode_utf8_all h.0 ++ encode_utf8_all rest = ap encode_utf8_all h.1 ∙ encodes-append h.0 rest in
    omega (arith, ap length whole, length-append (encode_utf8_all h.0) (encode_utf8_all rest), h.2)

bytes_written : (characters rest : List ℕ) → Ends characters rest → WritesBytes characters rest (bytes_between characters rest)
bytes_written characters rest h = (h.0, h.1, bytes_counted characters rest (length (encode_utf8_all h.0)) (h.0, h.1, refl))

abbrev pub IsTermFault : ℕ → Place → List ℕ → NtKind → Type 0
IsTermFault load place characters kind =
    IsAnyFault place characters kind ⊎ ((kind ≡ TermTooLong) × ((term : Term) × (rest : List ℕ) × TakesLongTerm load place characters term rest))

abbrev pub IsTermOutcome : ℕ → Place → List ℕ → Result (Term × List ℕ) NtKind → Type 0
IsTermOutcome load place characters (Ok found) = TakesTerm load place characters found.0 found.1
IsTermOutcome load place characters (Err kind) = IsTermFault load place characters kind

abbrev measured : List ℕ → Result (Term × List ℕ) NtKind → Result (Term × List ℕ) NtKind
measured characters r = r >>= (λ found. cond (nat_lt term_limit (bytes_between characters found.1)) (Err TermTooLong) (Ok found))

pub term_outcome : (load : ℕ) (place : Place) (characters : List ℕ) → all_scalars characters ≡ true → IsTermOutcome load place characters (term_at load place characters)
unfolding term_at
term_outcome load place characters are = by (any_term_at load place characters) (any_outcome load place characters are)
  where
    length_of : (found : Term × List ℕ) → Takes load characters found.0 found.1 → WritesBytes characters found.1 (bytes_between characters found.1)
    length_of found h = bytes_written characters found.1 (takes_ends load characters found.0 found.1 h)

    tested : (found : Term × List ℕ) (v : Bool) → nat_lt term_limit (bytes_between characters found.1) ≡ v → IsAllowed place found.0 × Takes load characters found.0 found.1 → IsTermOutcome load place characters (cond v (Err TermTooLong) (Ok found))
    tested found true p h = inr (refl, (found.0, found.1, (h.0, h.1, (bytes_between characters found.1, length_of found h.1, ltb-true term_limit (bytes_between characters found.1) p))))
    tested found false p h = (h.0, h.1, (bytes_between characters found.1, length_of found h.1, ltb-false term_limit (bytes_between characters found.1) p))

    by : (r : Result (Term × List ℕ) NtKind) → IsAnyOutcome load place characters r → IsTermOutcome load place characters (measured characters r)
    by (Ok found) outcome = tested found (nat_lt term_limit (bytes_between characters found.1)) refl outcome
    by (Err kind) outcome = inl outcome

pub term_read : (load : ℕ) (place : Place) (characters : List ℕ) (term : Term) (rest : List ℕ) → all_scalars characters ≡ true → TakesTerm load place characters term rest → term_at load place characters ≡ Ok (term, rest)
unfolding term_at
term_read load place characters term rest are h = let size = h.2 in
    let count = bytes_counted characters rest size.0 size.1 in
    let short = le-ltb term_limit (bytes_between characters rest) (omega (arith, count, size.2)) in
    ap (measured characters) (any_read load place characters term rest are h.0 h.1) ∙ rw short refl

pub long_read : (load : ℕ) (place : Place) (characters : List ℕ) (term : Term) (rest : List ℕ) → all_scalars characters ≡ true → TakesLongTerm load place characters term rest → term_at load place characters ≡ Err TermTooLong
unfolding term_at
long_read load place characters term rest are h = let size = h.2 in
    let count = bytes_counted characters rest size.0 size.1 in
    let long = lt-ltb term_limit (bytes_between characters rest) (omega (arith, count, size.2)) in
    ap (measured characters) (any_read load place characters term rest are h.0 h.1) ∙ rw long refl

pub fault_read : (load : ℕ) (place : Place) (characters : List ℕ) (kind : NtKind) → IsAnyFault place characters kind → term_at load place characters ≡ Err kind
unfolding term_at
fault_read load place characters kind h = ap (measured characters) (any_fault_read load place characters kind h)
