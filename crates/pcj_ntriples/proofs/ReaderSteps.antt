-- What the reader's loops keep.
use Rattle.std.proofs.Common.{◌≡◌, ℕ, zero, suc, ◌+◌, ◌*◌, ◌<◌, ◌≤◌, length, Bool, true, false, ◌&&◌, cond, nat_eq, nat_lt, List, [], ◌∷◌, ◌++◌, Option, Some, None, Result, Ok, Err, refl, ap, sym, ◌∙◌, append_assoc, append-nil, arith, encode_utf8_all}
use Rattle.std.specs.Char.{digit_value, encode_utf8}
use Rattle.std.proofs.lemmas.Bool.{lt-ltb, le-ltb}
use Rattle.std.proofs.lemmas.Str.{encodes-append}
use Rattle.pcj_ntriples.specs.declared.kind.NtKind.{NtKind}
use Rattle.pcj_ntriples.specs.declared.enclosure.Enclosure.{Enclosure}
use Rattle.pcj_ntriples.specs.Text.{closing_of, allows_character, is_hexadecimal}
use Rattle.pcj_ntriples.specs.TextReading.{digits_at, escape_at, with_front, text_from, allowed_at, escaped_at, character_at}
use Rattle.pcj_ntriples.specs.LineReading.{encoded, text_at}
use Rattle.pcj_ntriples.proofs.Spelling.{goes_on, text_goes_on, escape_taken}
use Rattle.std.proofs.lemmas.List.{length-append}
use Rattle.pcj_ntriples.specs.declared.fault.Fault.{Fault}
use Rattle.pcj_ntriples.specs.declared.fault.Fault.TheVariants.{Wrong, Memory}
use Rattle.pcj_ntriples.specs.Fault.{IsFault}

-- ---- digits

pub record DigitsLeft (digits count number : ℕ) (characters whole : List ℕ) : Type 0 where
  pub left : ℕ
  pub total : left + count ≡ digits
  pub same : digits_at left number characters ≡ digits_at digits 0 whole
  pub small : number < 0x110000

-- ---- a text

pub record TextSoFar (enclosure : Enclosure) (text characters whole : List ℕ) : Type 0 where
  pub spelled : List ℕ
  pub bytes : text ≡ encode_utf8_all spelled
  pub same : with_front spelled (text_from enclosure 0 characters) ≡ text_from enclosure 0 whole

pub digits_start : (digits : ℕ) (whole : List ℕ) → DigitsLeft digits 0 0 whole whole
digits_start digits whole = record { left = digits; total = omega arith; same = refl; small = omega arith }

digits_step : (digits count number c : ℕ) (rest whole : List ℕ) (v : Bool) → DigitsLeft digits count number (c ∷ rest) whole → count < digits → is_hexadecimal c && nat_lt (number * 16 + digit_value c) 0x110000 ≡ v → (left : ℕ) × (suc left + count ≡ digits) × (cond v (digits_at left (number * 16 + digit_value c) rest) None ≡ digits_at digits 0 whole)
digits_step digits count number c rest whole v d within is = by d.left d.total d.same
  where
    by : (left : ℕ) → left + count ≡ digits → digits_at left number (c ∷ rest) ≡ digits_at digits 0 whole → (left : ℕ) × (suc left + count ≡ digits) × (cond v (digits_at left (number * 16 + digit_value c) rest) None ≡ digits_at digits 0 whole)
    by zero total same = absurd (omega (arith, total, within))
    by (suc left) total same = (left, total, ap (λ (w : Bool). cond w (digits_at left (number * 16 + digit_value c) rest) None) (sym is) ∙ same)

pub digits_wrong : (digits count number c : ℕ) (rest whole : List ℕ) → DigitsLeft digits count number (c ∷ rest) whole → count < digits → 16 ≤ digit_value c → digits_at digits 0 whole ≡ None
digits_wrong digits count number c rest whole d within large =
    let none = le-ltb (digit_value c) 16 large in
    let step = digits_step digits count number c rest whole false d within (rw none refl) in sym step.2

pub digits_next : (digits count number c : ℕ) (rest whole : List ℕ) → DigitsLeft digits count number (c ∷ rest) whole → count < digits → digit_value c < 16 → number * 16 + digit_value c ≤ 0x10FFFF → DigitsLeft digits (count + 1) (number * 16 + digit_value c) rest whole
digits_next digits count number c rest whole d within hex small =
    let is = lt-ltb (digit_value c) 16 hex in
    let low = lt-ltb (number * 16 + digit_value c) 0x110000 (omega (arith, small)) in
    let step = digits_step digits count number c rest whole true d within (rw (is, low) refl) in
    record { left = step.0; total = let total = step.1 in omega (arith, total); same = step.2; small = omega (arith, small) }

-- ---- a text goes on

front_joined : (front : List ℕ) (character : ℕ) (found : Result (List ℕ × List ℕ) NtKind) → with_front (front ++ character ∷ []) found ≡ with_front front (with_front (character ∷ []) found)
front_joined front character (Ok found) = ap (λ (t : List ℕ). Ok (t, found.1)) (append_assoc front (character ∷ []) found.0)
front_joined front character (Err kind) = refl

pub text_more : (enclosure : Enclosure) (text characters whole rest next : List ℕ) (character : ℕ) → TextSoFar enclosure text characters whole → character_at enclosure characters ≡ Ok (Some character, rest) → next ≡ text ++ encode_utf8 character → TextSoFar enclosure next rest whole
text_more enclosure text characters whole rest next character t e grown = record {
  spelled = t.spelled ++ character ∷ [];
  bytes = grown ∙ ap (λ (b : List ℕ). b ++ encode_utf8 character) t.bytes ∙ ap (λ (b : List ℕ). encode_utf8_all t.spelled ++ b) (sym (append-nil (encode_utf8 character))) ∙ sym (encodes-append t.spelled (character ∷ []));
  same = front_joined t.spelled character (text_from enclosure 0 rest) ∙ ap (with_front t.spelled) (sym (text_goes_on enclosure characters ∙ ap (goes_on enclosure) e)) ∙ t.same;
}

pub text_whole : (enclosure : Enclosure) (text characters whole rest : List ℕ) → TextSoFar enclosure text characters whole → character_at enclosure characters ≡ Ok (None, rest) → text_at enclosure whole ≡ Ok (text, rest)
text_whole enclosure text characters whole rest t e =
    ap encoded (sym t.same ∙ ap (with_front t.spelled) (text_goes_on enclosure characters ∙ ap (goes_on enclosure) e))
    ∙ ap (λ (b : List ℕ). Ok (b, rest)) (ap encode_utf8_all (append-nil t.spelled) ∙ sym t.bytes)

pub text_wrong : (enclosure : Enclosure) (text characters whole : List ℕ) (kind : NtKind) → TextSoFar enclosure text characters whole → character_at enclosure characters ≡ Err kind → text_at enclosure whole ≡ Err kind
text_wrong enclosure text characters whole kind t e =
    ap encoded (sym t.same ∙ ap (with_front t.spelled) (text_goes_on enclosure characters ∙ ap (goes_on enclosure) e))

pub text_fault : (enclosure : Enclosure) (text characters whole : List ℕ) (fault : Fault) → TextSoFar enclosure text characters whole → IsFault fault (character_at enclosure characters) → IsFault fault (text_at enclosure whole)
text_fault enclosure text characters whole (Wrong kind) t e = text_wrong enclosure text characters whole kind t e
text_fault enclosure text characters whole Memory t e = tt

abbrev after_of : Result (Option ℕ × List ℕ) NtKind → List ℕ
after_of (Ok found) = found.1
after_of (Err kind) = []

-- a character that is taken leaves fewer
pub character_shorter : (enclosure : Enclosure) (characters rest : List ℕ) (found : Option ℕ) → character_at enclosure characters ≡ Ok (found, rest) → length rest < length characters
character_shorter enclosure [] rest found e = absurd cc
character_shorter enclosure (character ∷ characters) rest found e = by (nat_eq character (closing_of enclosure)) (nat_eq character 92) refl refl
  where
    taken : (c : ℕ) (after : List ℕ) (v : Bool) → allows_character enclosure c ≡ v → allowed_at enclosure c after ≡ Ok (found, rest) → after ≡ rest
    taken c after true p same = let here = rw p at same in ap after_of here
    taken c after false p same = let here = rw p at same in absurd cc

    escaped : (o : Option (ℕ × List ℕ)) → escape_at enclosure characters ≡ o → escaped_at enclosure o ≡ Ok (found, rest) → length rest < length (character ∷ characters)
    escaped None p same = absurd cc
    escaped (Some f) p same =
        let after = taken f.0 f.1 (allows_character enclosure f.0) refl same in
        let reads = escape_taken enclosure characters f p in
        omega (arith, ap length after, ap length reads.1, length-append reads.0 f.1)

    by : (closing backslash : Bool) → nat_eq character (closing_of enclosure) ≡ closing → nat_eq character 92 ≡ backslash → length rest < length (character ∷ characters)
    by true backslash p q = let here = rw p at e in let same : characters ≡ rest = ap after_of here in omega (arith, ap length same)
    by false true p q = let here = rw (p, q) at e in escaped (escape_at enclosure characters) refl here
    by false false p q = let here = rw (p, q) at e in let same = taken character characters (allows_character enclosure character) refl here in omega (arith, ap length same)
