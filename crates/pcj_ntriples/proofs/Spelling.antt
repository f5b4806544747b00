-- What is read between two marks is what is written there, and the other way round.
use Rattle.std.proofs.Common.{◌≡◌, ℕ, zero, suc, ◌+◌, ◌*◌, ◌-◌, ◌<◌, ◌≤◌, length, drop, Bool, true, false, not, ◌&&◌, cond, nat_eq, nat_lt, List, [], ◌∷◌, ◌++◌, Option, Some, None, Result, Ok, Err, refl, ap, sym, subst, ◌∙◌, append_assoc, append-nil, arith, inl, inr, ◌⊎◌}
use Rattle.std.specs.Char.{digit_value, IsScalar}
use Rattle.std.specs.List.{list_all, AllByRecursion}
use Rattle.std.specs.Str.{all_scalars}
use Rattle.std.specs.Str.Parse.{digits_value_after}
use Rattle.std.proofs.lemmas.Bool.{and_parts, eqb-true, eq-eqb, not-true, lt-ltb, and_from}
use Rattle.std.proofs.lemmas.List.{length-append}
use Rattle.std.proofs.lemmas.Option.{cond_some, same_Some}
use Rattle.std.proofs.Math.Utf8.{scalar_cases}
use Rattle.pcj_ntriples.specs.declared.kind.NtKind.{NtKind}
use Rattle.pcj_ntriples.specs.declared.kind.NtKind.TheVariants.{IriChar, BadEscape}
use Rattle.pcj_ntriples.specs.declared.enclosure.Enclosure.{Enclosure}
use Rattle.pcj_ntriples.specs.declared.enclosure.Enclosure.TheVariants as enclosures
use Rattle.pcj_ntriples.specs.Text.{closing_of, allows_character, unclosed_of, short_escape, short_escape_of, is_hexadecimal, digits_after, IsEscape, BeginsNoEscape, Piece, stands_raw, IsRaw, IsEscaped, IsPiece, written_by, spelled_by, Within, Closes, IsForbiddenRaw, IsForbiddenEscape, HoldsForbidden, IsUnclosed, HasBadEscape}
use Rattle.pcj_ntriples.specs.TextReading.{digits_at, scalar_at, letter_at, escape_by, escape_at, with_front, with_character, after_escape, text_from, allowed_at, escaped_at, character_at}

-- ---- digits

-- Digits at the front: what they are, and what follows them.
record ReadsDigits (n number : ℕ) (characters : List ℕ) (found : ℕ × List ℕ) : Type 0 where
  digits : List ℕ
  whole : characters ≡ digits ++ found.1
  count : length digits ≡ n
  are : list_all is_hexadecimal digits ≡ true
  value : digits_value_after 16 number digits ≡ found.0

cond_taken : {A : Type 0} (test : Bool) (o : Option A) (found : A) → cond test o None ≡ Some found → (test ≡ true) × (o ≡ Some found)
cond_taken true o found e = (refl, e)
cond_taken false o found e = absurd cc

digits_taken : (n number : ℕ) (characters : List ℕ) (found : ℕ × List ℕ) → digits_at n number characters ≡ Some found → ReadsDigits n number characters found
digits_taken zero number characters found e = let same = same_Some (number, characters) found e in record { digits = []; whole = ap (λ (f : ℕ × List ℕ). f.1) same; count = refl; are = refl; value = ap (λ (f : ℕ × List ℕ). f.0) same }
digits_taken (suc n) number [] found e = absurd cc
digits_taken (suc n) number (digit ∷ characters) found e =
    let parts = cond_taken (is_hexadecimal digit && nat_lt (number * 16 + digit_value digit) 0x110000) (digits_at n (number * 16 + digit_value digit) characters) found e in
    let later = digits_taken n (number * 16 + digit_value digit) characters found parts.1 in
    record {
      digits = digit ∷ later.digits;
      whole = ap (λ (t : List ℕ). digit ∷ t) later.whole;
      count = ap suc later.count;
      are = and_from _ _ (and_parts _ _ parts.0).0 later.are;
      value = later.value;
    }

number_grows : (digits : List ℕ) (number : ℕ) → number ≤ digits_value_after 16 number digits
number_grows [] number = omega arith
number_grows (digit ∷ digits) number = let later = number_grows digits (number * 16 + digit_value digit) in omega (arith, later)

digits_again : (digits rest : List ℕ) (number : ℕ) → list_all is_hexadecimal digits ≡ true → digits_value_after 16 number digits < 0x110000 → digits_at (length digits) number (digits ++ rest) ≡ Some (digits_value_after 16 number digits, rest)
digits_again [] rest number are small = refl
digits_again (digit ∷ digits) rest number are small =
    let parts = and_parts (is_hexadecimal digit) (list_all is_hexadecimal digits) are in
    let grown = number_grows digits (number * 16 + digit_value digit) in
    let within = lt-ltb (number * 16 + digit_value digit) 0x110000 (omega (arith, grown, small)) in
    let later = digits_again digits rest (number * 16 + digit_value digit) parts.1 small in
    rw (parts.0, within) later

-- ---- escapes

scalar_taken : (o : Option (ℕ × List ℕ)) (found : ℕ × List ℕ) → scalar_at o ≡ Some found → (o ≡ Some found) × IsScalar found.0
scalar_taken None found e = absurd cc
scalar_taken (Some f) found e =
    let taken = cond_some (all_scalars (f.0 ∷ [])) f found e in
    (ap Some taken.1, subst (λ (p : ℕ × List ℕ). IsScalar p.0) taken.1 (and_parts _ true taken.0).0)

scalar_again : (found : ℕ × List ℕ) → IsScalar found.0 → scalar_at (Some found) ≡ Some found
scalar_again found is = rw is refl

scalar_small : (character : ℕ) → IsScalar character → character < 0x110000
scalar_small character is = by (scalar_cases character is)
  where
    by : (character < 55296) ⊎ ((57344 ≤ character) × (character < 1114112)) → character < 0x110000
    by (inl low) = omega (arith, low)
    by (inr high) = high.1

-- what an escape is, where one is read
abbrev pub ReadsEscape : Enclosure → List ℕ → ℕ × List ℕ → Type 0
ReadsEscape enclosure characters found = (escape : List ℕ) × (characters ≡ escape ++ found.1) × IsEscape enclosure escape found.0

pub escape_taken : (enclosure : Enclosure) (characters : List ℕ) (found : ℕ × List ℕ) → escape_at enclosure characters ≡ Some found → ReadsEscape enclosure characters found
unfolding escape_at
escape_taken enclosure [] found e = absurd cc
escape_taken enclosure (letter ∷ characters) found e = by (digits_after letter) (short_escape_of enclosure letter) refl refl e
  where
    by : (count short : Option ℕ) → digits_after letter ≡ count → short_escape_of enclosure letter ≡ short → escape_by count short characters ≡ Some found → ReadsEscape enclosure (letter ∷ characters) found
    by None None p q read = absurd cc
    by None (Some character) p q read =
        let same = same_Some (character, characters) found read in
        (letter ∷ [], ap (λ (f : ℕ × List ℕ). letter ∷ f.1) same, inr (refl, q ∙ ap (λ (f : ℕ × List ℕ). Some f.0) same))
    by (Some n) short p q read =
        let scalar = scalar_taken (digits_at n 0 characters) found read in
        let digits = digits_taken n 0 characters found scalar.0 in
        (letter ∷ digits.digits, ap (λ (t : List ℕ). letter ∷ t) digits.whole, inl (p ∙ ap Some (sym digits.count), digits.are, digits.value, scalar.1))

short_apart : (enclosure : Enclosure) (letter character : ℕ) → short_escape_of enclosure letter ≡ Some character → digits_after letter ≡ None
short_apart enclosures.Iri letter character e = absurd cc
short_apart enclosures.String letter character e = by (nat_eq letter 117) (nat_eq letter 85) refl refl
  where
    by : (four eight : Bool) → nat_eq letter 117 ≡ four → nat_eq letter 85 ≡ eight → digits_after letter ≡ None
    by true eight p q = let none : short_escape letter ≡ None = ap short_escape (eqb-true letter 117 p) in absurd cc
    by false true p q = let none : short_escape letter ≡ None = ap short_escape (eqb-true letter 85 q) in absurd cc
    by false false p q = rw (p, q) refl

pub escape_again : (enclosure : Enclosure) (escape rest : List ℕ) (character : ℕ) → IsEscape enclosure escape character → escape_at enclosure (escape ++ rest) ≡ Some (character, rest)
unfolding escape_at
escape_again enclosure [] rest character (inl is) = absurd is
escape_again enclosure [] rest character (inr is) = absurd is
escape_again enclosure (letter ∷ digits) rest character (inl is) =
    let small = scalar_small character is.3 in
    let found = digits_again digits rest 0 is.1 (subst (λ (c : ℕ). c < 0x110000) (sym is.2) small) in
    ap (λ (o : Option ℕ). escape_by o (short_escape_of enclosure letter) (digits ++ rest)) is.0
    ∙ ap scalar_at (found ∙ ap (λ (c : ℕ). Some (c, rest)) is.2)
    ∙ scalar_again (character, rest) is.3
escape_again enclosure (letter ∷ more) rest character (inr is) =
    let none = short_apart enclosure letter character is.1 in
    ap (λ (o : Option ℕ). escape_by o (short_escape_of enclosure letter) (more ++ rest)) none
    ∙ ap (λ (o : Option ℕ). letter_at o (more ++ rest)) is.1
    ∙ ap (λ (t : List ℕ). Some (character, t ++ rest)) is.0

pub escape_missing : (enclosure : Enclosure) (characters : List ℕ) → escape_at enclosure characters ≡ None → BeginsNoEscape enclosure characters
escape_missing enclosure characters e = λ escape rest character is escapes.
    let again : escape_at enclosure characters ≡ Some (character, rest) = ap (escape_at enclosure) is ∙ escape_again enclosure escape rest character escapes in
    absurd cc

pub escape_none : (enclosure : Enclosure) (characters : List ℕ) → BeginsNoEscape enclosure characters → escape_at enclosure characters ≡ None
escape_none enclosure characters none = by (escape_at enclosure characters) refl
  where
    by : (found : Option (ℕ × List ℕ)) → escape_at enclosure characters ≡ found → escape_at enclosure characters ≡ None
    by None e = e
    by (Some found) e = let taken = escape_taken enclosure characters found e in absurd (none taken.0 found.1 found.0 taken.1 taken.2)

-- ---- one step

text_skip : (enclosure : Enclosure) (front rest : List ℕ) → text_from enclosure (length front) (front ++ rest) ≡ text_from enclosure 0 rest
unfolding text_from
text_skip enclosure [] rest = refl
text_skip enclosure (character ∷ front) rest = text_skip enclosure front rest

text_end : (enclosure : Enclosure) (rest : List ℕ) → text_from enclosure 0 (closing_of enclosure ∷ rest) ≡ Ok ([], rest)
unfolding text_from
text_end enclosure rest = let same = eq-eqb (closing_of enclosure) (closing_of enclosure) refl in rw same refl

text_raw : (enclosure : Enclosure) (character : ℕ) (rest : List ℕ) → stands_raw enclosure character ≡ true → text_from enclosure 0 (character ∷ rest) ≡ with_character enclosure character (text_from enclosure 0 rest)
unfolding text_from
text_raw enclosure character rest raw =
    let parts = and_parts (not (nat_eq character (closing_of enclosure))) (not (nat_eq character 92)) raw in
    let inside = not-true (nat_eq character (closing_of enclosure)) parts.0 in
    let other = not-true (nat_eq character 92) parts.1 in
    rw (inside, other) refl

not_closing : (enclosure : Enclosure) → nat_eq 92 (closing_of enclosure) ≡ false
not_closing enclosures.Iri = refl
not_closing enclosures.String = refl

text_escape : (enclosure : Enclosure) (escape rest : List ℕ) (character : ℕ) → escape_at enclosure (escape ++ rest) ≡ Some (character, rest) → text_from enclosure 0 (92 ∷ escape ++ rest) ≡ with_character enclosure character (text_from enclosure 0 rest)
unfolding text_from
text_escape enclosure escape rest character e =
    let count : length (escape ++ rest) - length rest ≡ length escape = omega (arith, length-append escape rest) in
    let found = ap (after_escape enclosure (λ n. text_from enclosure n (escape ++ rest)) (length (escape ++ rest))) e in
    let skipped = ap (λ (n : ℕ). with_character enclosure character (text_from enclosure n (escape ++ rest))) count in
    rw (not_closing enclosure) (found ∙ skipped ∙ ap (with_character enclosure character) (text_skip enclosure escape rest))

text_bad : (enclosure : Enclosure) (characters : List ℕ) → escape_at enclosure characters ≡ None → text_from enclosure 0 (92 ∷ characters) ≡ Err BadEscape
unfolding text_from
text_bad enclosure characters e = rw (not_closing enclosure) (ap (after_escape enclosure (λ n. text_from enclosure n characters) (length characters)) e)

-- ---- pieces

front_joined : (front more : List ℕ) (found : Result (List ℕ × List ℕ) NtKind) → with_front front (with_front more found) ≡ with_front (front ++ more) found
front_joined front more (Ok found) = ap (λ (t : List ℕ). Ok (t, found.1)) (sym (append_assoc front more found.0))
front_joined front more (Err kind) = refl

-- a character by which a text goes on, allowed or not
abbrev pub Stands : Enclosure → Piece → Type 0
Stands enclosure piece = IsRaw enclosure piece ⊎ IsEscaped enclosure piece

piece_read : (enclosure : Enclosure) (piece : Piece) (rest : List ℕ) → Stands enclosure piece → text_from enclosure 0 (piece.written ++ rest) ≡ with_character enclosure piece.character (text_from enclosure 0 rest)
piece_read enclosure piece rest (inl raw) =
    ap (λ (t : List ℕ). text_from enclosure 0 (t ++ rest)) raw.0 ∙ text_raw enclosure piece.character rest raw.1
piece_read enclosure piece rest (inr escaped) =
    ap (λ (t : List ℕ). text_from enclosure 0 (t ++ rest)) escaped.1
    ∙ text_escape enclosure escaped.0 rest piece.character (escape_again enclosure escaped.0 rest piece.character escaped.2)

allowed_read : (enclosure : Enclosure) (character : ℕ) (found : Result (List ℕ × List ℕ) NtKind) → allows_character enclosure character ≡ true → with_character enclosure character found ≡ with_front (character ∷ []) found
allowed_read enclosure character found allowed = rw allowed refl

forbidden_read : (enclosure : Enclosure) (character : ℕ) (found : Result (List ℕ × List ℕ) NtKind) → allows_character enclosure character ≡ false → with_character enclosure character found ≡ Err IriChar
forbidden_read enclosure character found forbidden = rw forbidden refl

front_none : (found : Result (List ℕ × List ℕ) NtKind) → found ≡ with_front [] found
front_none (Ok found) = refl
front_none (Err kind) = refl

pieces_read : (enclosure : Enclosure) (pieces : List Piece) (rest : List ℕ) → AllByRecursion (IsPiece enclosure) pieces → text_from enclosure 0 (written_by pieces ++ rest) ≡ with_front (spelled_by pieces) (text_from enclosure 0 rest)
pieces_read enclosure [] rest good = front_none (text_from enclosure 0 rest)
pieces_read enclosure (piece ∷ pieces) rest good =
    let one = good.0 in
    ap (text_from enclosure 0) (append_assoc piece.written (written_by pieces) rest)
    ∙ piece_read enclosure piece (written_by pieces ++ rest) one.1
    ∙ allowed_read enclosure piece.character (text_from enclosure 0 (written_by pieces ++ rest)) one.0
    ∙ ap (with_front (piece.character ∷ [])) (pieces_read enclosure pieces rest good.1)
    ∙ front_joined (piece.character ∷ []) (spelled_by pieces) (text_from enclosure 0 rest)

within_read : (enclosure : Enclosure) (inner text rest : List ℕ) → Within enclosure inner text rest → text_from enclosure 0 inner ≡ with_front text (text_from enclosure 0 rest)
within_read enclosure inner text rest w =
    ap (text_from enclosure 0) w.written
    ∙ pieces_read enclosure w.pieces rest w.good
    ∙ ap (λ (t : List ℕ). with_front t (text_from enclosure 0 rest)) (sym w.spelled)

pub closes_read : (enclosure : Enclosure) (inner text rest : List ℕ) → Closes enclosure inner text rest → text_from enclosure 0 inner ≡ Ok (text, rest)
closes_read enclosure inner text rest w =
    within_read enclosure inner text (closing_of enclosure ∷ rest) w
    ∙ ap (with_front text) (text_end enclosure rest)
    ∙ ap (λ (t : List ℕ). Ok (t, rest)) (append-nil text)

text_over : (enclosure : Enclosure) → text_from enclosure 0 [] ≡ Err (unclosed_of enclosure)
unfolding text_from
text_over enclosure = refl

pub unclosed_read : (enclosure : Enclosure) (inner : List ℕ) → IsUnclosed enclosure inner → text_from enclosure 0 inner ≡ Err (unclosed_of enclosure)
unclosed_read enclosure inner h = within_read enclosure inner h.0 [] h.1 ∙ ap (with_front h.0) (text_over enclosure)

pub bad_escape_read : (enclosure : Enclosure) (inner : List ℕ) → HasBadEscape enclosure inner → text_from enclosure 0 inner ≡ Err BadEscape
bad_escape_read enclosure inner h =
    within_read enclosure inner h.0 (92 ∷ h.1) h.2 ∙ ap (with_front h.0) (text_bad enclosure h.1 (escape_none enclosure h.1 h.3))

forbidden_front : (enclosure : Enclosure) (rest : List ℕ) → IsForbiddenRaw enclosure rest ⊎ IsForbiddenEscape enclosure rest → text_from enclosure 0 rest ≡ Err IriChar
forbidden_front enclosure [] (inl h) = absurd h
forbidden_front enclosure (character ∷ rest) (inl h) = text_raw enclosure character rest h.0 ∙ forbidden_read enclosure character (text_from enclosure 0 rest) h.1
forbidden_front enclosure rest (inr h) =
    ap (text_from enclosure 0) h.3
    ∙ text_escape enclosure h.0 h.1 h.2 (escape_again enclosure h.0 h.1 h.2 h.4)
    ∙ forbidden_read enclosure h.2 (text_from enclosure 0 h.1) h.5

pub forbidden_within_read : (enclosure : Enclosure) (inner : List ℕ) → HoldsForbidden enclosure inner → text_from enclosure 0 inner ≡ Err IriChar
forbidden_within_read enclosure inner h =
    within_read enclosure inner h.0 h.1 h.2 ∙ ap (with_front h.0) (forbidden_front enclosure h.1 h.3)

-- ---- what reading gives, and why

abbrev pub IsTextFault : Enclosure → List ℕ → NtKind → Type 0
IsTextFault enclosure inner kind =
    ((kind ≡ unclosed_of enclosure) × IsUnclosed enclosure inner)
    ⊎ ((kind ≡ BadEscape) × HasBadEscape enclosure inner)
    ⊎ ((kind ≡ IriChar) × HoldsForbidden enclosure inner)

abbrev pub IsTextOutcome : Enclosure → List ℕ → Result (List ℕ × List ℕ) NtKind → Type 0
IsTextOutcome enclosure inner (Ok found) = Closes enclosure inner found.0 found.1
IsTextOutcome enclosure inner (Err kind) = IsTextFault enclosure inner kind

within_more : (enclosure : Enclosure) (piece : Piece) (inner text rest : List ℕ) → IsPiece enclosure piece → Within enclosure inner text rest → Within enclosure (piece.written ++ inner) (piece.character ∷ text) rest
within_more enclosure piece inner text rest one w = record {
  pieces = piece ∷ w.pieces;
  good = (one, w.good);
  written = ap (λ (t : List ℕ). piece.written ++ t) w.written ∙ sym (append_assoc piece.written (written_by w.pieces) rest);
  spelled = ap (λ (t : List ℕ). piece.character ∷ t) w.spelled;
}

outcome_onto : (enclosure : Enclosure) (piece : Piece) (inner : List ℕ) (result : Result (List ℕ × List ℕ) NtKind) → IsPiece enclosure piece → IsTextOutcome enclosure inner result → IsTextOutcome enclosure (piece.written ++ inner) (with_front (piece.character ∷ []) result)
outcome_onto enclosure piece inner (Ok found) one w = within_more enclosure piece inner found.0 (closing_of enclosure ∷ found.1) one w
outcome_onto enclosure piece inner (Err kind) one (inl h) = inl (h.0, (piece.character ∷ h.1.0, within_more enclosure piece inner h.1.0 [] one h.1.1))
outcome_onto enclosure piece inner (Err kind) one (inr (inl h)) =
    inr (inl (h.0, (piece.character ∷ h.1.0, h.1.1, within_more enclosure piece inner h.1.0 (92 ∷ h.1.1) one h.1.2, h.1.3)))
outcome_onto enclosure piece inner (Err kind) one (inr (inr h)) =
    inr (inr (h.0, (piece.character ∷ h.1.0, h.1.1, within_more enclosure piece inner h.1.0 h.1.1 one h.1.2, h.1.3)))

nothing_yet : (enclosure : Enclosure) (inner : List ℕ) → Within enclosure inner [] inner
nothing_yet enclosure inner = record { pieces = []; good = tt; written = refl; spelled = refl }

forbidden_here : (enclosure : Enclosure) (piece : Piece) (inner : List ℕ) → Stands enclosure piece → allows_character enclosure piece.character ≡ false → HoldsForbidden enclosure (piece.written ++ inner)
forbidden_here enclosure piece inner (inl raw) barred =
    ([], piece.written ++ inner, nothing_yet enclosure (piece.written ++ inner), inl (subst (λ (t : List ℕ). IsForbiddenRaw enclosure (t ++ inner)) (sym raw.0) (raw.1, barred)))
forbidden_here enclosure piece inner (inr escaped) barred =
    ([], piece.written ++ inner, nothing_yet enclosure (piece.written ++ inner), inr (escaped.0, inner, piece.character, ap (λ (t : List ℕ). t ++ inner) escaped.1, escaped.2, barred))

outcome_more : (enclosure : Enclosure) (piece : Piece) (inner : List ℕ) (result : Result (List ℕ × List ℕ) NtKind) → Stands enclosure piece → IsTextOutcome enclosure inner result → IsTextOutcome enclosure (piece.written ++ inner) (with_character enclosure piece.character result)
outcome_more enclosure piece inner result stands outcome = by (allows_character enclosure piece.character) refl
  where
    by : (v : Bool) → allows_character enclosure piece.character ≡ v → IsTextOutcome enclosure (piece.written ++ inner) (with_character enclosure piece.character result)
    by true is =
        subst (IsTextOutcome enclosure (piece.written ++ inner)) (sym (allowed_read enclosure piece.character result is))
        (outcome_onto enclosure piece inner result (is, stands) outcome)
    by false is =
        subst (IsTextOutcome enclosure (piece.written ++ inner)) (sym (forbidden_read enclosure piece.character result is))
        (inr (inr (refl, forbidden_here enclosure piece inner stands is)))

drop_front : (front rest : List ℕ) → drop (length front) (front ++ rest) ≡ rest
drop_front [] rest = refl
drop_front (character ∷ front) rest = drop_front front rest

text_outcome_from : (enclosure : Enclosure) (inner : List ℕ) (n : ℕ) → IsTextOutcome enclosure (drop n inner) (text_from enclosure n inner)
unfolding text_from
text_outcome_from enclosure [] zero = inl (refl, ([], nothing_yet enclosure []))
text_outcome_from enclosure [] (suc n) = inl (refl, ([], nothing_yet enclosure []))
text_outcome_from enclosure (character ∷ inner) (suc n) = text_outcome_from enclosure inner n
text_outcome_from enclosure (character ∷ inner) zero = by (nat_eq character (closing_of enclosure)) (nat_eq character 92) refl refl (λ n. text_outcome_from enclosure inner n)
  where
    whole : List ℕ
    whole = character ∷ inner

    escaped : (o : Option (ℕ × List ℕ)) → escape_at enclosure inner ≡ o → character ≡ 92 → ((n : ℕ) → IsTextOutcome enclosure (drop n inner) (text_from enclosure n inner)) → IsTextOutcome enclosure (character ∷ inner) (after_escape enclosure (λ n. text_from enclosure n inner) (length inner) o)
    escaped None none is later = inr (inl (refl, ([], inner, subst (λ (c : ℕ). Within enclosure (character ∷ inner) [] (c ∷ inner)) is (nothing_yet enclosure (character ∷ inner)), escape_missing enclosure inner none)))
    escaped (Some found) some is later =
        let taken = escape_taken enclosure inner found some in
        let count : length inner - length found.1 ≡ length taken.0 = omega (arith, ap length taken.1, length-append taken.0 found.1) in
        let rest : drop (length inner - length found.1) inner ≡ found.1 = ap (λ (n : ℕ). drop n inner) count ∙ ap (drop (length taken.0)) taken.1 ∙ drop_front taken.0 found.1 in
        let piece : Piece = record { written = 92 ∷ taken.0; character = found.0 } in
        let after = subst (λ (t : List ℕ). IsTextOutcome enclosure t (text_from enclosure (length inner - length found.1) inner)) rest (later (length inner - length found.1)) in
        subst (λ (t : List ℕ). IsTextOutcome enclosure t (with_character enclosure found.0 (text_from enclosure (length inner - length found.1) inner)))
        (ap (λ (t : List ℕ). 92 ∷ t) (sym taken.1) ∙ ap (λ (c : ℕ). c ∷ inner) (sym is))
        (outcome_more enclosure piece found.1 (text_from enclosure (length inner - length found.1) inner) (inr (taken.0, refl, taken.2)) after)

    by : (closing backslash : Bool) → nat_eq character (closing_of enclosure) ≡ closing → nat_eq character 92 ≡ backslash → ((n : ℕ) → IsTextOutcome enclosure (drop n inner) (text_from enclosure n inner)) → IsTextOutcome enclosure (character ∷ inner) (text_from enclosure 0 (character ∷ inner))
    by true backslash p q later =
        rw p (subst (λ (c : ℕ). Within enclosure (character ∷ inner) [] (c ∷ inner)) (eqb-true character (closing_of enclosure) p) (nothing_yet enclosure (character ∷ inner)))
    by false true p q later = rw (p, q) (escaped (escape_at enclosure inner) refl (eqb-true character 92 q) later)
    by false false p q later =
        rw (p, q) (outcome_more enclosure (record { written = character ∷ []; character = character }) inner (text_from enclosure 0 inner) (inl (refl, rw (p, q) refl)) (later 0))

pub text_outcome : (enclosure : Enclosure) (inner : List ℕ) → IsTextOutcome enclosure inner (text_from enclosure 0 inner)
text_outcome enclosure inner = text_outcome_from enclosure inner 0

-- ---- character by character

abbrev pub goes_on : Enclosure → Result (Option ℕ × List ℕ) NtKind → Result (List ℕ × List ℕ) NtKind
goes_on enclosure (Ok found) = onto found.0 found.1
  where
    onto : Option ℕ → List ℕ → Result (List ℕ × List ℕ) NtKind
    onto None rest = Ok ([], rest)
    onto (Some character) rest = with_front (character ∷ []) (text_from enclosure 0 rest)
goes_on enclosure (Err kind) = Err kind

allowed_goes_on : (enclosure : Enclosure) (character : ℕ) (rest : List ℕ) → with_character enclosure character (text_from enclosure 0 rest) ≡ goes_on enclosure (allowed_at enclosure character rest)
allowed_goes_on enclosure character rest = by (allows_character enclosure character) refl
  where
    by : (v : Bool) → allows_character enclosure character ≡ v → with_character enclosure character (text_from enclosure 0 rest) ≡ goes_on enclosure (allowed_at enclosure character rest)
    by true p = rw p refl
    by false p = rw p refl

pub text_goes_on : (enclosure : Enclosure) (characters : List ℕ) → text_from enclosure 0 characters ≡ goes_on enclosure (character_at enclosure characters)
text_goes_on enclosure [] = text_over enclosure
text_goes_on enclosure (character ∷ characters) = by (nat_eq character (closing_of enclosure)) (nat_eq character 92) refl refl
  where
    escaped : (o : Option (ℕ × List ℕ)) → escape_at enclosure characters ≡ o → text_from enclosure 0 (92 ∷ characters) ≡ goes_on enclosure (escaped_at enclosure o)
    escaped None p = text_bad enclosure characters p
    escaped (Some found) p =
        let taken = escape_taken enclosure characters found p in
        ap (λ (t : List ℕ). text_from enclosure 0 (92 ∷ t)) taken.1
        ∙ text_escape enclosure taken.0 found.1 found.0 (escape_again enclosure taken.0 found.1 found.0 taken.2)
        ∙ allowed_goes_on enclosure found.0 found.1

    by : (closing backslash : Bool) → nat_eq character (closing_of enclosure) ≡ closing → nat_eq character 92 ≡ backslash → text_from enclosure 0 (character ∷ characters) ≡ goes_on enclosure (character_at enclosure (character ∷ characters))
    by true backslash p q = rw p (ap (λ (c : ℕ). text_from enclosure 0 (c ∷ characters)) (eqb-true character (closing_of enclosure) p) ∙ text_end enclosure characters)
    by false true p q = rw (p, q) (ap (λ (c : ℕ). text_from enclosure 0 (c ∷ characters)) (eqb-true character 92 q) ∙ escaped (escape_at enclosure characters) refl)
    by false false p q = rw (p, q) (text_raw enclosure character characters (rw (p, q) refl) ∙ allowed_goes_on enclosure character characters)
