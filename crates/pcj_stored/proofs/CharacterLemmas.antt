-- Characters of tokens and their bytes: IRIs, local names, tags.
use Rattle.std.proofs.Common.{◌≡◌, ℕ, suc, ◌+◌, ◌-◌, ◌/◌, ◌%◌, ◌<◌, ◌≤◌, Bool, true, false, not, ◌&&◌, cond, nat_eq, nat_le, nat_lt, List, [], ◌∷◌, ◌++◌, map, length, take, drop, Option, Some, None, refl, ap, sym, subst, ◌∙◌, arith, inl, inr, ◌⊎◌, encode_utf8_all, length-append}
use Rattle.std.specs.Char.{encode_utf8, to_ascii_lowercase}
use Rattle.std.specs.List.{list_all, prefix_len}
use Rattle.std.specs.Str.{all_scalars, is_utf8, IsAscii}
use Rattle.std.proofs.lemmas.Bool.{and_parts, eqb-true, leb-true, le-leb, lt-leb, lt-ltb, ltb-false, ne_eqb, and_from}
use Rattle.std.proofs.lemmas.List.Folds.{list_all-append}
use Rattle.std.proofs.lemmas.Option.{same_Some}
use Rattle.std.proofs.lemmas.Str.{encodes-append, encodes-IsAscii, encode_ascii}
use Rattle.std.proofs.lemmas.Str.Ascii.{IsAscii-nil, IsAscii-cons, lowercase_is}
use Rattle.std.proofs.Math.Bool.{and-false, or-true}
use Rattle.std.proofs.Math.Seq.{take-append_seam}
use Rattle.pcj_term.specs.Iri.{is_letter, is_digit, is_iri_character}
use Rattle.pcj_term.specs.Label.{is_name_start, is_label_start, is_label_character, ends_in_a_dot}
use Rattle.pcj_term.specs.Reading.{◌>>=◌, after, before, cut}
use Rattle.pcj_term.specs.Tag.{is_language_tag, is_capital, is_lower_case}
use Rattle.pcj_term.proofs.OptionLemmas.{bind_some}
use Rattle.pcj_term.proofs.Parts.{after_takes, before_takes, cut_takes}
use Rattle.pcj_ntriples.proofs.Names.{is_hyphen, accepts, tag_accepts, utf8_encoded, scalars_parts}
use Rattle.pcj_lex.specs.Rules.{passes, inside_brackets, is_iri_written, is_name, is_prefix, is_local, is_tag}
use Rattle.pcj_translate.specs.Term.{is_no_colon, local_of, inside_of, tag_of}

-- ---- classes of characters, in bytes

-- a test that each byte of a character beyond ASCII passes
abbrev pub PassesHigh : (ℕ → Bool) → Type 0
PassesHigh test = (byte : ℕ) → 128 ≤ byte → test byte ≡ true

pub one_encoded : (test : ℕ → Bool) (character : ℕ) → PassesHigh test → test character ≡ true → list_all test (encode_utf8 character) ≡ true
unfolding encode_utf8
one_encoded test character high is = by (nat_lt character 128) (nat_lt character 2048) (nat_lt character 65536) refl refl refl
  where
    byte : (bits : ℕ) → test (128 + bits % 64) ≡ true
    byte bits = high (128 + bits % 64) (omega arith)

    by : (one two three : Bool) → nat_lt character 128 ≡ one → nat_lt character 2048 ≡ two → nat_lt character 65536 ≡ three → list_all test (encode_utf8 character) ≡ true
    by true two three p q r = rw p (and_from _ _ is refl)
    by false true three p q r = rw (p, q) (and_from _ _ (high (192 + character / 64) (omega arith)) (and_from _ _ (byte character) refl))
    by false false true p q r =
        rw (p, q, r) (and_from _ _ (high (224 + character / 4096) (omega arith)) (and_from _ _ (byte (character / 64)) (and_from _ _ (byte character) refl)))
    by false false false p q r =
        rw (p, q, r)
        (and_from _ _ (high (240 + character / 262144) (omega arith)) (and_from _ _ (byte (character / 4096)) (and_from _ _ (byte (character / 64)) (and_from _ _ (byte character) refl))))

pub all_encoded : (test : ℕ → Bool) (characters : List ℕ) → PassesHigh test → list_all test characters ≡ true → list_all test (encode_utf8_all characters) ≡ true
all_encoded test [] high are = refl
all_encoded test (character ∷ characters) high are =
    let parts = and_parts (test character) (list_all test characters) are in
    list_all-append test (encode_utf8 character) (encode_utf8_all characters)
    ∙ and_from _ _ (one_encoded test character high parts.0) (all_encoded test characters high parts.1)

high_iri : PassesHigh is_iri_character
high_iri byte high =
    let above = lt-ltb 32 byte (omega (arith, high)) in
    let apart = λ (mark : ℕ) (low : mark < 128). ne_eqb mark byte (λ e. omega (arith, e, low, high)) in
    rw (above, apart 60 (omega arith), apart 62 (omega arith), apart 34 (omega arith), apart 123 (omega arith), apart 125 (omega arith), apart 124 (omega arith), apart 94 (omega arith), apart 96 (omega arith), apart 92 (omega arith)) refl

high_no_colon : PassesHigh is_no_colon
high_no_colon byte high = ap not (ne_eqb byte 58 (λ e. omega (arith, e, high)))

-- ---- between two characters of ASCII

pub inside_bytes : (a b : ℕ) (inner : List ℕ) → inside_of (a ∷ (inner ++ b ∷ [])) ≡ inner
inside_bytes a b inner =
    let count : length (a ∷ (inner ++ b ∷ [])) - 2 ≡ length inner = omega (arith, length-append inner (b ∷ [])) in
    ap (λ (n : ℕ). take n (inner ++ b ∷ [])) count ∙ take-append_seam inner (b ∷ [])

pub first_encoded : (a : ℕ) (rest : List ℕ) → a < 128 → encode_utf8_all (a ∷ rest) ≡ a ∷ encode_utf8_all rest
first_encoded a rest small = ap (λ (f : List ℕ). f ++ encode_utf8_all rest) (encode_ascii a small)

pub enclosed_encoded : (a b : ℕ) (inner : List ℕ) → a < 128 → b < 128 → inside_of (encode_utf8_all (a ∷ (inner ++ b ∷ []))) ≡ encode_utf8_all inner
enclosed_encoded a b inner small low =
    let whole : encode_utf8_all (a ∷ (inner ++ b ∷ [])) ≡ a ∷ (encode_utf8_all inner ++ b ∷ []) =
    first_encoded a (inner ++ b ∷ []) small ∙ ap (λ (t : List ℕ). a ∷ t) (encodes-append inner (b ∷ []) ∙ ap (λ (t : List ℕ). encode_utf8_all inner ++ t) (first_encoded b [] low)) in
    ap inside_of whole ∙ inside_bytes a b (encode_utf8_all inner)

pub inner_scalars : (a b : ℕ) (inner : List ℕ) → all_scalars (a ∷ (inner ++ b ∷ [])) ≡ true → all_scalars inner ≡ true
inner_scalars a b inner are = (scalars_parts inner (b ∷ []) (scalars_parts (a ∷ []) (inner ++ b ∷ []) are).1).0

-- ---- IRIs

-- bytes that may stand in an IRI
abbrev pub IsIriPart : List ℕ → Type 0
IsIriPart bytes = (is_utf8 bytes ≡ true) × (list_all is_iri_character bytes ≡ true)

pub part_encoded : (characters : List ℕ) → all_scalars characters ≡ true → list_all is_iri_character characters ≡ true → IsIriPart (encode_utf8_all characters)
part_encoded characters are allowed = (utf8_encoded characters are, all_encoded is_iri_character characters high_iri allowed)

passes_some : {A : Type 0} (test : A → Bool) (o : Option A) → passes test o ≡ true → (x : A) × (o ≡ Some x) × (test x ≡ true)
passes_some test None is = absurd cc
passes_some test (Some x) is = (x, refl, is)

pub iri_inside : (w : List ℕ) → is_iri_written w ≡ true → all_scalars w ≡ true → IsIriPart (inside_of (encode_utf8_all w))
iri_inside w is are =
    let found = passes_some (list_all is_iri_character) (inside_brackets w) is in
    let opened = bind_some (after 60 w) (before 62) found.0 found.1 in
    let whole : w ≡ 60 ∷ (found.0 ++ 62 ∷ []) = after_takes 60 w opened.0 opened.1 ∙ ap (λ (t : List ℕ). 60 ∷ t) (before_takes 62 opened.0 found.0 opened.2) in
    let inner = inner_scalars 60 62 found.0 (subst (λ (t : List ℕ). all_scalars t ≡ true) whole are) in
    let bytes : inside_of (encode_utf8_all w) ≡ encode_utf8_all found.0 = ap (λ (t : List ℕ). inside_of (encode_utf8_all t)) whole ∙ enclosed_encoded 60 62 found.0 (omega arith) (omega arith) in
    subst IsIriPart (sym bytes) (part_encoded found.0 inner found.2)

-- ---- local names

start_inside : (character : ℕ) → is_label_start character ≡ true → is_label_character character ≡ true
start_inside character is = by (is_name_start character) refl
  where
    by : (v : Bool) → is_name_start character ≡ v → is_label_character character ≡ true
    by true p = rw p refl
    by false p = let digit = rw p at is in rw (p, digit, or-true (nat_eq character 45)) refl

-- no character up to the blank stands in a name
label_above : (c : ℕ) → is_label_character c ≡ true → nat_lt 32 c ≡ true
label_above c is = by (nat_lt 32 c) refl
  where
    by : (v : Bool) → nat_lt 32 c ≡ v → nat_lt 32 c ≡ true
    by true p = p
    by false p =
        let low : c ≤ 32 = ltb-false 32 c p in
        let below = λ (n : ℕ) (high : 32 < n). lt-leb n c (omega (arith, low, high)) in
        let other = λ (n : ℕ) (high : 32 < n). ne_eqb c n (λ e. omega (arith, e, low, high)) in
        let no : is_label_character c ≡ false =
        rw (
          below 65 (omega arith),
          below 97 (omega arith),
          below 0xC0 (omega arith),
          below 0xD8 (omega arith),
          below 0xF8 (omega arith),
          below 0x370 (omega arith),
          below 0x37F (omega arith),
          below 0x200C (omega arith),
          below 0x2070 (omega arith),
          below 0x2C00 (omega arith),
          below 0x3001 (omega arith),
          below 0xF900 (omega arith),
          below 0xFDF0 (omega arith),
          below 0x10000 (omega arith),
          below 48 (omega arith),
          below 0x300 (omega arith),
          below 0x203F (omega arith),
          other 95 (omega arith),
          other 58 (omega arith),
          other 45 (omega arith),
          other 0xB7 (omega arith),
          other 46 (omega arith),
        ) refl in
        absurd cc

label_iri : (c : ℕ) → is_label_character c ≡ true → is_iri_character c ≡ true
label_iri c is =
    let apart = λ (mark : ℕ) (no : is_label_character mark ≡ true → ⊥). ne_eqb mark c (λ e. no (subst (λ (n : ℕ). is_label_character n ≡ true) (sym e) is)) in
    rw (
      label_above c is,
      apart 60 (λ yes. absurd cc),
      apart 62 (λ yes. absurd cc),
      apart 34 (λ yes. absurd cc),
      apart 123 (λ yes. absurd cc),
      apart 125 (λ yes. absurd cc),
      apart 124 (λ yes. absurd cc),
      apart 94 (λ yes. absurd cc),
      apart 96 (λ yes. absurd cc),
      apart 92 (λ yes. absurd cc),
    ) refl

labels_iri : (characters : List ℕ) → list_all is_label_character characters ≡ true → list_all is_iri_character characters ≡ true
labels_iri [] are = refl
labels_iri (c ∷ characters) are =
    let parts = and_parts (is_label_character c) (list_all is_label_character characters) are in
    and_from _ _ (label_iri c parts.0) (labels_iri characters parts.1)

local_iri : (w : List ℕ) → is_local w ≡ true → list_all is_iri_character w ≡ true
local_iri [] is = refl
local_iri (first ∷ more) is =
    let parts = and_parts (is_label_start first && list_all is_label_character more) (not (ends_in_a_dot (first ∷ more))) is in
    let inner = and_parts (is_label_start first) (list_all is_label_character more) parts.0 in
    labels_iri (first ∷ more) (and_from _ _ (start_inside first inner.0) inner.1)

no_colon_before : (w : List ℕ) (parts : List ℕ × List ℕ) → cut 58 w ≡ Some parts → list_all is_no_colon parts.0 ≡ true
no_colon_before [] parts e = absurd cc
no_colon_before (c ∷ w) parts e = by (nat_eq c 58) refl e (λ q f. no_colon_before w q f)
  where
    by : (v : Bool) → nat_eq c 58 ≡ v → cond v (Some ([], w)) (cut 58 w >>= (λ q. Some (c ∷ q.0, q.1))) ≡ Some parts → ((q : List ℕ × List ℕ) → cut 58 w ≡ Some q → list_all is_no_colon q.0 ≡ true) → list_all is_no_colon parts.0 ≡ true
    by true p e later = subst (λ (q : List ℕ × List ℕ). list_all is_no_colon q.0 ≡ true) (same_Some ([], w) parts e) refl
    by false p e later =
        let found = bind_some (cut 58 w) (λ q. Some (c ∷ q.0, q.1)) parts e in
        let first : is_no_colon c ≡ true = ap not p in
        subst (λ (q : List ℕ × List ℕ). list_all is_no_colon q.0 ≡ true) (same_Some (c ∷ (found.0).0, (found.0).1) parts found.2) (and_from _ _ first (later found.0 found.1))

behind_colon : (xs ys : List ℕ) → list_all is_no_colon xs ≡ true → local_of (xs ++ 58 ∷ ys) ≡ ys
behind_colon [] ys all = refl
behind_colon (x ∷ xs) ys all =
    let parts = and_parts (is_no_colon x) (list_all is_no_colon xs) all in
    let count : prefix_len is_no_colon (x ∷ (xs ++ 58 ∷ ys)) + 1 ≡ suc (prefix_len is_no_colon (xs ++ 58 ∷ ys) + 1) = rw parts.0 (omega arith) in
    ap (λ (n : ℕ). drop n (x ∷ (xs ++ 58 ∷ ys))) count ∙ behind_colon xs ys parts.1

pub name_local : (w : List ℕ) → is_name w ≡ true → all_scalars w ≡ true → IsIriPart (local_of (encode_utf8_all w))
name_local w is are =
    let found = passes_some (λ (parts : List ℕ × List ℕ). is_prefix parts.0 && is_local parts.1) (cut 58 w) is in
    let front = (found.0).0 in
    let local = (found.0).1 in
    let whole : w ≡ front ++ 58 ∷ local = cut_takes 58 w found.0 found.1 in
    let later = (scalars_parts front (58 ∷ local) (subst (λ (t : List ℕ). all_scalars t ≡ true) whole are)).1 in
    let scalars = (scalars_parts (58 ∷ []) local later).1 in
    let bytes : encode_utf8_all w ≡ encode_utf8_all front ++ 58 ∷ encode_utf8_all local =
    ap encode_utf8_all whole ∙ encodes-append front (58 ∷ local) ∙ ap (λ (t : List ℕ). encode_utf8_all front ++ t) (first_encoded 58 local (omega arith)) in
    let no_colons = all_encoded is_no_colon front high_no_colon (no_colon_before w found.0 found.1) in
    let same : local_of (encode_utf8_all w) ≡ encode_utf8_all local = ap local_of bytes ∙ behind_colon (encode_utf8_all front) (encode_utf8_all local) no_colons in
    subst IsIriPart (sym same) (part_encoded local scalars (local_iri local (and_parts (is_prefix front) (is_local local) found.2).1))

-- ---- tags in lower case

-- a tag's characters: those in lower case are a tag still, without capitals, and they are ASCII
record IsLowered (digits some : Bool) (characters : List ℕ) : Type 0 where
  accepted : accepts digits some (map to_ascii_lowercase characters) ≡ true
  lower : is_lower_case (map to_ascii_lowercase characters) ≡ true
  ascii : IsAscii characters

small_letter : (character : ℕ) → 97 ≤ character → character ≤ 122 → is_letter character ≡ true
small_letter character low high = rw (le-leb 97 character low, le-leb character 122 high) (or-true (is_capital character))

low_by : (character : ℕ) → (character < 65) ⊎ (90 < character) → is_capital character ≡ false
low_by character (inl below) = rw (lt-leb 65 character below) refl
low_by character (inr above) = rw (lt-leb character 90 above) (and-false (nat_le 65 character))

letter_lowered : (character : ℕ) → is_letter character ≡ true → (is_letter (to_ascii_lowercase character) ≡ true) × (is_capital (to_ascii_lowercase character) ≡ false) × (character < 128)
letter_lowered character is = by (is_capital character) refl
  where
    small : 97 ≤ to_ascii_lowercase character → to_ascii_lowercase character ≤ 122 → character < 128 → (is_letter (to_ascii_lowercase character) ≡ true) × (is_capital (to_ascii_lowercase character) ≡ false) × (character < 128)
    small low high ascii = (small_letter (to_ascii_lowercase character) low high, low_by (to_ascii_lowercase character) (inr (omega (arith, low))), ascii)

    by : (v : Bool) → is_capital character ≡ v → (is_letter (to_ascii_lowercase character) ≡ true) × (is_capital (to_ascii_lowercase character) ≡ false) × (character < 128)
    by true p =
        let parts = and_parts (nat_le 65 character) (nat_le character 90) p in
        let low = leb-true 65 character parts.0 in
        let high = leb-true character 90 parts.1 in
        let moved = (lowercase_is character).0 (low, high) in
        small (omega (arith, moved, low)) (omega (arith, moved, high)) (omega (arith, high))
    by false p =
        let parts = and_parts (nat_le 97 character) (nat_le character 122) (rw p at is) in
        let low = leb-true 97 character parts.0 in
        let high = leb-true character 122 parts.1 in
        let same = (lowercase_is character).2 (omega (arith, low)) in
        small (omega (arith, same, low)) (omega (arith, same, high)) (omega (arith, high))

-- a digit and the hyphen stay as they are
unmoved : (character : ℕ) → character < 65 → (to_ascii_lowercase character ≡ character) × (is_capital (to_ascii_lowercase character) ≡ false)
unmoved character below =
    let same = (lowercase_is character).1 below in
    (same, subst (λ (c : ℕ). is_capital c ≡ false) (sym same) (low_by character (inl below)))

lowered : (digits some : Bool) (characters : List ℕ) → accepts digits some characters ≡ true → IsLowered digits some characters
lowered digits some [] is = record { accepted = is; lower = refl; ascii = IsAscii-nil }
lowered digits some (character ∷ characters) is = by some (is_letter character) (digits && is_digit character) (is_hyphen character) refl refl refl is (lowered digits true characters) (lowered true false characters)
  where
    first : (then some : Bool) → is_capital (to_ascii_lowercase character) ≡ false → character < 128 → IsLowered then some characters → (other : Bool) → accepts digits other (to_ascii_lowercase character ∷ map to_ascii_lowercase characters) ≡ true → IsLowered digits other (character ∷ characters)
    first then some low small later other here = record {
      accepted = here;
      lower = and_from _ _ (ap not low) later.lower;
      ascii = IsAscii-cons character characters small later.ascii;
    }

    by : (some letter digit hyphen : Bool) → is_letter character ≡ letter → digits && is_digit character ≡ digit → is_hyphen character ≡ hyphen → accepts digits some (character ∷ characters) ≡ true → (accepts digits true characters ≡ true → IsLowered digits true characters) → (accepts true false characters ≡ true → IsLowered true false characters) → IsLowered digits some (character ∷ characters)
    by some true digit hyphen p q r is later next =
        let rest = later (rw p at is) in
        let low = letter_lowered character p in
        first digits true low.1 low.2 rest some (rw low.0 rest.accepted)
    by some false true hyphen p q r is later next =
        let rest = later (rw (p, q) at is) in
        let parts = and_parts digits (is_digit character) q in
        let high = leb-true character 57 (and_parts (nat_le 48 character) (nat_le character 57) parts.1).1 in
        let same = unmoved character (omega (arith, high)) in
        first digits true same.1 (omega (arith, high)) rest some (rw (same.0, p, q) rest.accepted)
    by true false false true p q r is later next =
        let rest = next (rw (p, q, r) at is) in
        let at : character ≡ 45 = eqb-true character 45 r in
        let same = unmoved character (omega (arith, at)) in
        first true false same.1 (omega (arith, at)) rest true (rw (same.0, p, q, r) rest.accepted)
    by false false false true p q r is later next = let none = rw (p, q, r) at is in absurd cc
    by some false false false p q r is later next = let none = rw (p, q, r) at is in absurd cc

pub tag_lowered : (w : List ℕ) → is_tag w ≡ true → (is_language_tag (tag_of (encode_utf8_all w)) ≡ true) × (is_lower_case (tag_of (encode_utf8_all w)) ≡ true)
tag_lowered [] is = absurd cc
tag_lowered (sign ∷ tag) is =
    let parts = and_parts (nat_eq sign 64) (is_language_tag tag) is in
    let small : sign < 128 = omega (arith, eqb-true sign 64 parts.0) in
    let low = lowered false false tag (sym (tag_accepts tag) ∙ parts.1) in
    let same : tag_of (encode_utf8_all (sign ∷ tag)) ≡ map to_ascii_lowercase tag =
    ap tag_of (first_encoded sign tag small) ∙ ap (map to_ascii_lowercase) (encodes-IsAscii tag low.ascii) in
    (ap is_language_tag same ∙ tag_accepts (map to_ascii_lowercase tag) ∙ low.accepted, ap is_lower_case same ∙ low.lower)
