-- The terms of a line in UTF-8 are valid.
use Rattle.std.proofs.Common.{◌≡◌, ℕ, ◌+◌, ◌/◌, ◌%◌, ◌<◌, ◌≤◌, ◌^◌, Bool, true, false, not, ◌&&◌, cond, nat_eq, nat_le, nat_lt, List, [], ◌∷◌, map, Option, Some, None, refl, ap, sym, subst, ◌∙◌, arith, inl, inr, ◌⊎◌, encode_utf8_all, chars}
use Rattle.std.specs.Char.{encode_utf8, IsScalar, to_ascii_lowercase}
use Rattle.std.specs.List.{list_all, filter_map, All, AllByRecursion}
use Rattle.std.specs.Str.{all_scalars, is_utf8, IsAscii}
use Rattle.std.proofs.lemmas.Bool.{and_parts, eqb-true, leb-true, le-leb, lt-leb, lt-ltb, ne_eqb, and_from}
use Rattle.std.proofs.lemmas.List.Elements.{All-nil, All-cons, All-head, All-tail, All-filter}
use Rattle.std.proofs.lemmas.List.Folds.{list_all-append}
use Rattle.std.proofs.lemmas.Option.{same_Some}
use Rattle.std.proofs.lemmas.Str.{encodes-IsAscii, scalars-chars, IsUtf8-from_is_utf8}
use Rattle.std.proofs.lemmas.Str.Ascii.{IsAscii-nil, IsAscii-cons, lowercase_is}
use Rattle.std.proofs.Math.Bool.{and-false, or-true}
use Rattle.pcj_term.specs.declared.kind.Kind.{Kind}
use Rattle.pcj_term.specs.declared.kind.Kind.TheVariants.{Plain, Lang, Typed}
use Rattle.pcj_term.specs.declared.term.Term.{Term}
use Rattle.pcj_term.specs.declared.term.Term.TheVariants.{Iri, Blank, Literal}
use Rattle.pcj_term.specs.declared.triple.Triple.{Triple}
use Rattle.pcj_term.specs.Iri.{is_letter, is_digit, is_iri_character, is_absolute, is_absolute_iri}
use Rattle.pcj_term.specs.Label.{is_label}
use Rattle.pcj_term.specs.Tag.{is_language_tag, is_capital, is_lower_case}
use Rattle.pcj_term.specs.Triple.{same_triple, distinct}
use Rattle.pcj_term.specs.Valid.{IsValidKind, IsValid}
use Rattle.pcj_ntriples.specs.declared.enclosure.Enclosure.{Enclosure}
use Rattle.pcj_ntriples.specs.declared.enclosure.Enclosure.TheVariants as enclosures
use Rattle.pcj_ntriples.specs.declared.place.Place.TheVariants as places
use Rattle.pcj_ntriples.specs.Text.{closing_of, short_escape_of, IsEscape, Piece, IsRaw, IsEscaped, IsPiece, written_by, spelled_by, Closes}
use Rattle.pcj_ntriples.specs.Lines.{document_lines}
use Rattle.pcj_ntriples.specs.Term.{TakesIri, TakesTag, TakesDatatype, TakesKind, Takes, IsAllowed}
use Rattle.pcj_ntriples.specs.Line.{BeforeDot, Good}
use Rattle.pcj_ntriples.specs.Document.{Say}
use Rattle.pcj_ntriples.specs.Valid.{IsSubject, IsPredicate, CarriesLoad, IsTripleOf, HasValidTriples}
use Rattle.pcj_ntriples.proofs.Names.{is_hyphen, accepts, tag_accepts, utf8_encoded, scalars_parts}
use Rattle.pcj_ntriples.proofs.Taken.{ends_scalars, first_ends, skips_ends, closes_ends, before_datatype_ends}
use Rattle.pcj_ntriples.proofs.Says.{before_predicate_ends, before_object_ends}

-- ---- the characters of a text

one_of : (test : Bool) (here : ℕ) (others : Option ℕ) (character : ℕ) → IsScalar here → (others ≡ Some character → IsScalar character) → cond test (Some here) others ≡ Some character → IsScalar character
one_of true here others character is later e = subst IsScalar (same_Some here character e) is
one_of false here others character is later e = later e

short_scalar : (enclosure : Enclosure) (letter character : ℕ) → short_escape_of enclosure letter ≡ Some character → IsScalar character
short_scalar enclosures.Iri letter character e = absurd cc
short_scalar enclosures.String letter character e =
    one_of (nat_eq letter 116) 9 _ character refl
    (one_of (nat_eq letter 98) 8 _ character refl
    (one_of (nat_eq letter 110) 10 _ character refl
    (one_of (nat_eq letter 114) 13 _ character refl
    (one_of (nat_eq letter 102) 12 _ character refl
    (one_of (nat_eq letter 34) 34 _ character refl
    (one_of (nat_eq letter 39) 39 _ character refl
    (one_of (nat_eq letter 92) 92 _ character refl (λ none. absurd cc)))))))) e

escape_scalar : (enclosure : Enclosure) (escape : List ℕ) (character : ℕ) → IsEscape enclosure escape character → IsScalar character
escape_scalar enclosure [] character (inl is) = absurd is
escape_scalar enclosure [] character (inr is) = absurd is
escape_scalar enclosure (letter ∷ digits) character (inl is) = is.3
escape_scalar enclosure (letter ∷ more) character (inr is) = short_scalar enclosure letter character is.1

piece_scalar : (enclosure : Enclosure) (piece : Piece) → IsRaw enclosure piece ⊎ IsEscaped enclosure piece → all_scalars piece.written ≡ true → IsScalar piece.character
piece_scalar enclosure piece (inl raw) are = (and_parts _ true (ap all_scalars (sym raw.0) ∙ are)).0
piece_scalar enclosure piece (inr escaped) are = escape_scalar enclosure escaped.0 piece.character escaped.2

pieces_scalars : (enclosure : Enclosure) (pieces : List Piece) → AllByRecursion (IsPiece enclosure) pieces → all_scalars (written_by pieces) ≡ true → all_scalars (spelled_by pieces) ≡ true
pieces_scalars enclosure [] good are = refl
pieces_scalars enclosure (piece ∷ pieces) good are =
    let one = good.0 in
    let parts = scalars_parts piece.written (written_by pieces) are in
    and_from _ _ (piece_scalar enclosure piece one.1 parts.0) (pieces_scalars enclosure pieces good.1 parts.1)

text_scalars : (enclosure : Enclosure) (inner text rest : List ℕ) → Closes enclosure inner text rest → all_scalars inner ≡ true → all_scalars text ≡ true
text_scalars enclosure inner text rest w are =
    let written = (scalars_parts (written_by w.pieces) (closing_of enclosure ∷ rest) (ap all_scalars (sym w.written) ∙ are)).0 in
    ap all_scalars w.spelled ∙ pieces_scalars enclosure w.pieces w.good written

pieces_allowed : (pieces : List Piece) → AllByRecursion (IsPiece enclosures.Iri) pieces → list_all is_iri_character (spelled_by pieces) ≡ true
pieces_allowed [] good = refl
pieces_allowed (piece ∷ pieces) good = let one = good.0 in and_from _ _ one.0 (pieces_allowed pieces good.1)

-- ---- IRIs in UTF-8

high_byte : (byte : ℕ) → 128 ≤ byte → is_iri_character byte ≡ true
high_byte byte high =
    let above = lt-ltb 32 byte (omega (arith, high)) in
    let apart = λ (mark : ℕ) (low : mark < 128). ne_eqb mark byte (λ e. omega (arith, e, low, high)) in
    rw (above, apart 60 (omega arith), apart 62 (omega arith), apart 34 (omega arith), apart 123 (omega arith), apart 125 (omega arith), apart 124 (omega arith), apart 94 (omega arith), apart 96 (omega arith), apart 92 (omega arith)) refl

encoded_character : (character : ℕ) → is_iri_character character ≡ true → list_all is_iri_character (encode_utf8 character) ≡ true
unfolding encode_utf8
encoded_character character is = by (nat_lt character 128) (nat_lt character 2048) (nat_lt character 65536) refl refl refl
  where
    byte : (bits : ℕ) → is_iri_character (128 + bits % 64) ≡ true
    byte bits = high_byte (128 + bits % 64) (omega arith)

    by : (one two three : Bool) → nat_lt character 128 ≡ one → nat_lt character 2048 ≡ two → nat_lt character 65536 ≡ three → list_all is_iri_character (encode_utf8 character) ≡ true
    by true two three p q r = rw p (and_from _ _ is refl)
    by false true three p q r = rw (p, q) (and_from _ _ (high_byte (192 + character / 64) (omega arith)) (and_from _ _ (byte character) refl))
    by false false true p q r =
        rw (p, q, r) (and_from _ _ (high_byte (224 + character / 4096) (omega arith)) (and_from _ _ (byte (character / 64)) (and_from _ _ (byte character) refl)))
    by false false false p q r =
        rw (p, q, r)
        (and_from _ _ (high_byte (240 + character / 262144) (omega arith)) (and_from _ _ (byte (character / 4096)) (and_from _ _ (byte (character / 64)) (and_from _ _ (byte character) refl))))

encoded_characters : (characters : List ℕ) → list_all is_iri_character characters ≡ true → list_all is_iri_character (encode_utf8_all characters) ≡ true
encoded_characters [] are = refl
encoded_characters (character ∷ characters) are =
    let parts = and_parts (is_iri_character character) (list_all is_iri_character characters) are in
    list_all-append is_iri_character (encode_utf8 character) (encode_utf8_all characters)
    ∙ and_from _ _ (encoded_character character parts.0) (encoded_characters characters parts.1)

iri_valid : (inner iri rest : List ℕ) → TakesIri inner iri rest → all_scalars inner ≡ true → is_absolute_iri iri ≡ true
iri_valid inner iri rest h are =
    let closes = h.1 in
    let scalars = text_scalars enclosures.Iri inner h.0 rest closes are in
    let allowed : list_all is_iri_character h.0 ≡ true = ap (list_all is_iri_character) closes.spelled ∙ pieces_allowed closes.pieces closes.good in
    let absolute : is_absolute (encode_utf8_all h.0) ≡ true = ap is_absolute (sym h.2) ∙ h.3 in
    ap is_absolute_iri h.2 ∙ and_from _ _ (and_from _ _ (utf8_encoded h.0 scalars) (encoded_characters h.0 allowed)) absolute

-- ---- tags in lower case

-- a tag's characters in lower case: a tag still, without capitals, and in ASCII
record IsLowered (digits some : Bool) (characters : List ℕ) : Type 0 where
  accepted : accepts digits some (map to_ascii_lowercase characters) ≡ true
  lower : is_lower_case (map to_ascii_lowercase characters) ≡ true
  ascii : IsAscii (map to_ascii_lowercase characters)

abbrev IsLow : ℕ → Type 0
IsLow character = (is_capital character ≡ false) × (character < 128)

low_by : (character : ℕ) → (character < 65) ⊎ (90 < character) → character < 128 → IsLow character
low_by character (inl below) small = (rw (lt-leb 65 character below) refl, small)
low_by character (inr above) small = (rw (lt-leb character 90 above) (and-false (nat_le 65 character)), small)

small_letter : (character : ℕ) → 97 ≤ character → character ≤ 122 → is_letter character ≡ true
small_letter character low high = rw (le-leb 97 character low, le-leb character 122 high) (or-true (is_capital character))

letter_lowered : (character : ℕ) → is_letter character ≡ true → (is_letter (to_ascii_lowercase character) ≡ true) × IsLow (to_ascii_lowercase character)
letter_lowered character is = by (is_capital character) refl
  where
    small : 97 ≤ to_ascii_lowercase character → to_ascii_lowercase character ≤ 122 → (is_letter (to_ascii_lowercase character) ≡ true) × IsLow (to_ascii_lowercase character)
    small low high = (small_letter (to_ascii_lowercase character) low high, low_by (to_ascii_lowercase character) (inr (omega (arith, low))) (omega (arith, high)))

    by : (v : Bool) → is_capital character ≡ v → (is_letter (to_ascii_lowercase character) ≡ true) × IsLow (to_ascii_lowercase character)
    by true p =
        let parts = and_parts (nat_le 65 character) (nat_le character 90) p in
        let low = leb-true 65 character parts.0 in
        let high = leb-true character 90 parts.1 in
        let moved = (lowercase_is character).0 (low, high) in
        small (omega (arith, moved, low)) (omega (arith, moved, high))
    by false p =
        let parts = and_parts (nat_le 97 character) (nat_le character 122) (rw p at is) in
        let low = leb-true 97 character parts.0 in
        let high = leb-true character 122 parts.1 in
        let same = (lowercase_is character).2 (omega (arith, low)) in
        small (omega (arith, same, low)) (omega (arith, same, high))

-- a digit and the hyphen stay as they are
unmoved : (character : ℕ) → character < 65 → (to_ascii_lowercase character ≡ character) × IsLow (to_ascii_lowercase character)
unmoved character below =
    let same = (lowercase_is character).1 below in
    (same, subst IsLow (sym same) (low_by character (inl below) (omega (arith, below))))

lowered : (digits some : Bool) (characters : List ℕ) → accepts digits some characters ≡ true → IsLowered digits some characters
lowered digits some [] is = record { accepted = is; lower = refl; ascii = IsAscii-nil }
lowered digits some (character ∷ characters) is = by some (is_letter character) (digits && is_digit character) (is_hyphen character) refl refl refl is (lowered digits true characters) (lowered true false characters)
  where
    first : (then some : Bool) → IsLow (to_ascii_lowercase character) → IsLowered then some characters → (other : Bool) → accepts digits other (to_ascii_lowercase character ∷ map to_ascii_lowercase characters) ≡ true → IsLowered digits other (character ∷ characters)
    first then some low later other here = record {
      accepted = here;
      lower = and_from _ _ (ap not low.0) later.lower;
      ascii = IsAscii-cons (to_ascii_lowercase character) (map to_ascii_lowercase characters) low.1 later.ascii;
    }

    by : (some letter digit hyphen : Bool) → is_letter character ≡ letter → digits && is_digit character ≡ digit → is_hyphen character ≡ hyphen → accepts digits some (character ∷ characters) ≡ true → (accepts digits true characters ≡ true → IsLowered digits true characters) → (accepts true false characters ≡ true → IsLowered true false characters) → IsLowered digits some (character ∷ characters)
    by some true digit hyphen p q r is later next =
        let rest = later (rw p at is) in
        let low = letter_lowered character p in
        first digits true low.1 rest some (rw low.0 rest.accepted)
    by some false true hyphen p q r is later next =
        let rest = later (rw (p, q) at is) in
        let parts = and_parts digits (is_digit character) q in
        let high = leb-true character 57 (and_parts (nat_le 48 character) (nat_le character 57) parts.1).1 in
        let same = unmoved character (omega (arith, high)) in
        first digits true same.1 rest some (rw (same.0, p, q) rest.accepted)
    by true false false true p q r is later next =
        let rest = next (rw (p, q, r) at is) in
        let same = unmoved character (omega (arith, eqb-true character 45 r)) in
        first true false same.1 rest true (rw (same.0, p, q, r) rest.accepted)
    by false false false true p q r is later next = let none = rw (p, q, r) at is in absurd cc
    by some false false false p q r is later next = let none = rw (p, q, r) at is in absurd cc

tag_valid : (inner tag rest : List ℕ) → TakesTag inner tag rest → (is_language_tag tag ≡ true) × (is_lower_case tag ≡ true)
tag_valid inner tag rest h =
    let longest = h.2 in
    let low = lowered false false h.0 (sym (tag_accepts h.0) ∙ longest.0) in
    let same : tag ≡ map to_ascii_lowercase h.0 = h.4 ∙ encodes-IsAscii (map to_ascii_lowercase h.0) low.ascii in
    (ap is_language_tag same ∙ tag_accepts (map to_ascii_lowercase h.0) ∙ low.accepted, ap is_lower_case same ∙ low.lower)

-- ---- terms

datatype_valid : (after datatype rest : List ℕ) → TakesDatatype after datatype rest → all_scalars after ≡ true → is_absolute_iri datatype ≡ true
datatype_valid after datatype rest h are =
    let inner = ends_scalars (60 ∷ h.0) h.0 (60 ∷ [], refl) (ends_scalars after (60 ∷ h.0) (before_datatype_ends after (60 ∷ h.0) h.1) are) in
    iri_valid h.0 datatype rest h.2 inner

kind_valid : (after : List ℕ) (kind : Kind) (rest : List ℕ) → TakesKind after kind rest → all_scalars after ≡ true → IsValidKind kind
kind_valid after Plain rest h are = tt
kind_valid after (Lang tag) rest h are = tag_valid h.0 tag rest h.2
kind_valid after (Typed datatype) rest h are = (datatype_valid after datatype rest h.0 are, h.1)

takes_valid : (load : ℕ) (characters : List ℕ) (term : Term) (rest : List ℕ) → load < 2 ^ 64 → all_scalars characters ≡ true → Takes load characters term rest → IsValid term
takes_valid load characters (Iri iri) rest small are h =
    iri_valid h.0 iri rest h.2 (ends_scalars characters h.0 (first_ends 60 characters h.0 h.1) are)
takes_valid load characters (Blank node label) rest small are h =
    let taken = h.2 in
    let longest = taken.2 in
    (subst (λ (n : ℕ). n < 2 ^ 64) (sym h.3) small, ap is_label taken.3 ∙ longest.0)
takes_valid load characters (Literal text kind) rest small are h =
    let inner = ends_scalars characters h.0 (first_ends 34 characters h.0 h.3) are in
    let after = ends_scalars h.0 h.2 (closes_ends enclosures.String h.0 h.1 h.2 h.4) inner in
    (ap is_utf8 h.5 ∙ utf8_encoded h.1 (text_scalars enclosures.String h.0 h.1 h.2 h.4 inner), kind_valid h.2 kind rest h.6 after)

takes_carries : (load : ℕ) (characters : List ℕ) (term : Term) (rest : List ℕ) → Takes load characters term rest → CarriesLoad load term
takes_carries load characters (Iri iri) rest h = tt
takes_carries load characters (Blank node label) rest h = h.3
takes_carries load characters (Literal text kind) rest h = tt

subject_allowed : (term : Term) → IsAllowed places.Subject term → IsSubject term
subject_allowed (Iri iri) is = tt
subject_allowed (Blank load label) is = tt
subject_allowed (Literal text kind) is = absurd cc

predicate_allowed : (term : Term) → IsAllowed places.Predicate term → IsPredicate term
predicate_allowed (Iri iri) is = tt
predicate_allowed (Blank load label) is = absurd cc
predicate_allowed (Literal text kind) is = absurd cc

-- ---- triples

triple_valid : (load : ℕ) (line : List ℕ) (triple : Triple) (rest : List ℕ) → load < 2 ^ 64 → all_scalars line ≡ true → BeforeDot load line triple rest → IsTripleOf load triple
triple_valid load line triple rest small are before_dot =
    let before_object = before_dot.2 in
    let before_predicate = before_object.2 in
    let subject = before_predicate.3 in
    let predicate = before_object.3 in
    let object = before_dot.3 in
    let at_subject = ends_scalars line before_predicate.0 (skips_ends line before_predicate.0 before_predicate.2) are in
    let at_predicate = ends_scalars line before_object.0 (before_predicate_ends load line triple.subject before_object.0 before_predicate) are in
    let at_object = ends_scalars line before_dot.0 (before_object_ends load line triple.subject triple.predicate before_dot.0 before_object) are in
    record {
      subject = subject_allowed triple.subject subject.0;
      predicate = predicate_allowed triple.predicate predicate.0;
      valid = (
        takes_valid load before_predicate.0 triple.subject before_predicate.1 small at_subject subject.1,
        takes_valid load before_object.0 triple.predicate before_object.1 small at_predicate predicate.1,
        takes_valid load before_dot.0 triple.object before_dot.1 small at_object object.1,
      );
      carries = (
        takes_carries load before_predicate.0 triple.subject before_predicate.1 subject.1,
        takes_carries load before_object.0 triple.predicate before_object.1 predicate.1,
        takes_carries load before_dot.0 triple.object before_dot.1 object.1,
      );
    }

line_valid : (load : ℕ) (line : List ℕ) (triple : Triple) → load < 2 ^ 64 → Good load line (Some triple) → IsTripleOf load triple
line_valid load line triple small good =
    let after_dot = good.1.1 in
    triple_valid load (chars line) triple (46 ∷ after_dot.0) small (scalars-chars line (IsUtf8-from_is_utf8 line good.0)) after_dot.1

lines_valid : (load : ℕ) (lines : List (List ℕ)) (said : List (Option Triple)) → load < 2 ^ 64 → Say load lines said → All (IsTripleOf load) (filter_map (λ triple. triple) said)
lines_valid load [] [] small each = All-nil (IsTripleOf load)
lines_valid load [] (s ∷ said) small each = absurd each
lines_valid load (line ∷ lines) [] small each = absurd each
lines_valid load (line ∷ lines) (None ∷ said) small each = lines_valid load lines said small each.1
lines_valid load (line ∷ lines) (Some triple ∷ said) small each =
    All-cons (IsTripleOf load) triple (filter_map (λ t. t) said) (line_valid load line triple small each.0) (lines_valid load lines said small each.1)

distinct_valid : (load : ℕ) (triples : List Triple) → All (IsTripleOf load) triples → All (IsTripleOf load) (distinct triples)
distinct_valid load [] all = all
distinct_valid load (triple ∷ triples) all =
    All-cons (IsTripleOf load) triple _ (All-head (IsTripleOf load) triple triples all)
    (All-filter (λ other. not (same_triple triple other)) (IsTripleOf load) (distinct triples) (distinct_valid load triples (All-tail (IsTripleOf load) triple triples all)))

pub has_valid_triples : HasValidTriples
has_valid_triples text load triples small document =
    subst (All (IsTripleOf load)) (sym document.kept)
    (distinct_valid load (filter_map (λ triple. triple) document.said) (lines_valid load (document_lines text) document.said small document.each))
