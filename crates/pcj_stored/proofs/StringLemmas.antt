-- The text of a string, without its quotes and escapes, is UTF-8.
use Rattle.std.proofs.Common.{◌≡◌, ℕ, ◌≤◌, ◌<◌, Bool, true, false, not, ◌&&◌, ◌||◌, cond, nat_eq, nat_lt, List, [], ◌∷◌, ◌++◌, refl, ap, sym, subst, ◌∙◌, arith, encode_utf8_all}
use Rattle.std.specs.Char.{encode_utf8}
use Rattle.std.specs.List.{list_all}
use Rattle.std.specs.Str.{all_scalars, is_utf8}
use Rattle.std.proofs.lemmas.Bool.{and_parts, and_from, eqb-true, ltb-true, ltb-false, ne_eqb, not-true}
use Rattle.std.proofs.Math.Utf8.{low_scalar}
use Rattle.pcj_ntriples.proofs.Names.{utf8_encoded, scalars_parts}
use Rattle.pcj_lex.specs.Characters.{is_quote, is_line_end, is_escape_letter}
use Rattle.pcj_lex.specs.Rules.{is_quoted, is_string, stands_raw}
use Rattle.pcj_translate.specs.Term.{escaped_by, unescaped, text_of, inside_of}
use Rattle.pcj_stored.proofs.CharacterLemmas.{one_encoded, first_encoded, enclosed_encoded}

-- ---- steps over bytes

plain_step : (b : ℕ) (rest : List ℕ) → nat_eq b 92 ≡ false → unescaped (b ∷ rest) ≡ b ∷ unescaped rest
plain_step b [] p = refl
plain_step b (n ∷ rest) p = rw p refl

plain_steps : (bytes rest : List ℕ) → list_all (λ b. not (nat_eq b 92)) bytes ≡ true → unescaped (bytes ++ rest) ≡ bytes ++ unescaped rest
plain_steps [] rest all = refl
plain_steps (b ∷ bytes) rest all =
    let parts = and_parts (not (nat_eq b 92)) (list_all (λ c. not (nat_eq c 92)) bytes) all in
    plain_step b (bytes ++ rest) (not-true (nat_eq b 92) parts.0) ∙ ap (λ (t : List ℕ). b ∷ t) (plain_steps bytes rest parts.1)

high_no_slash : (byte : ℕ) → 128 ≤ byte → not (nat_eq byte 92) ≡ true
high_no_slash byte high = ap not (ne_eqb byte 92 (λ e. omega (arith, e, high)))

letter_small : (n : ℕ) → is_escape_letter n ≡ true → n < 128
letter_small n is = by (nat_lt n 128) refl
  where
    by : (v : Bool) → nat_lt n 128 ≡ v → n < 128
    by true p = ltb-true n 128 p
    by false p =
        let high = ltb-false n 128 p in
        let apart = λ (mark : ℕ) (low : mark < 128). ne_eqb mark n (λ e. omega (arith, e, low, high)) in
        let no : is_escape_letter n ≡ false = rw (apart 116 (omega arith), apart 98 (omega arith), apart 110 (omega arith), apart 114 (omega arith), apart 102 (omega arith), apart 34 (omega arith), apart 39 (omega arith), apart 92 (omega arith)) refl in
        absurd cc

small_choice : (v : Bool) (a b : ℕ) → a < 128 → b < 128 → cond v a b < 128
small_choice true a b small other = small
small_choice false a b small other = other

escaped_small : (n : ℕ) → n < 128 → escaped_by n < 128
escaped_small n small =
    small_choice (nat_eq n 116) 9 _ (omega arith)
    (small_choice (nat_eq n 98) 8 _ (omega arith)
    (small_choice (nat_eq n 110) 10 _ (omega arith)
    (small_choice (nat_eq n 114) 13 _ (omega arith)
    (small_choice (nat_eq n 102) 12 n (omega arith) small))))

-- ---- strings

-- what follows a string's first quote: what stands inside, whose text is these characters
record IsQuoted (quote : ℕ) (w : List ℕ) : Type 0 where
  inner : List ℕ
  plain : List ℕ
  whole : w ≡ inner ++ quote ∷ []
  unescapes : unescaped (encode_utf8_all inner) ≡ encode_utf8_all plain
  scalars : all_scalars plain ≡ true

raw_more : (quote c : ℕ) (w : List ℕ) → all_scalars (c ∷ []) ≡ true → stands_raw quote c ≡ true → IsQuoted quote w → IsQuoted quote (c ∷ w)
raw_more quote c w are raw h =
    let parts = and_parts (not (nat_eq c quote) && not (nat_eq c 92)) (not (is_line_end c)) raw in
    let slash = (and_parts (not (nat_eq c quote)) (not (nat_eq c 92)) parts.0).1 in
    record {
      inner = c ∷ h.inner;
      plain = c ∷ h.plain;
      whole = ap (λ (t : List ℕ). c ∷ t) h.whole;
      unescapes = plain_steps (encode_utf8 c) (encode_utf8_all h.inner) (one_encoded (λ b. not (nat_eq b 92)) c high_no_slash slash) ∙ ap (λ (t : List ℕ). encode_utf8 c ++ t) h.unescapes;
      scalars = and_from _ _ (and_parts _ true are).0 h.scalars;
    }

escape_more : (quote c next : ℕ) (w : List ℕ) → nat_eq c 92 ≡ true → is_escape_letter next ≡ true → IsQuoted quote w → IsQuoted quote (c ∷ next ∷ w)
escape_more quote c next w slash letter h =
    let small = letter_small next letter in
    let fits = escaped_small next small in
    let bytes : encode_utf8_all (92 ∷ next ∷ h.inner) ≡ 92 ∷ next ∷ encode_utf8_all h.inner =
    first_encoded 92 (next ∷ h.inner) (omega arith) ∙ ap (λ (t : List ℕ). 92 ∷ t) (first_encoded next h.inner small) in
    let found : IsQuoted quote (92 ∷ next ∷ w) = record {
      inner = 92 ∷ next ∷ h.inner;
      plain = escaped_by next ∷ h.plain;
      whole = ap (λ (t : List ℕ). 92 ∷ next ∷ t) h.whole;
      unescapes = ap unescaped bytes ∙ ap (λ (t : List ℕ). escaped_by next ∷ t) h.unescapes ∙ sym (first_encoded (escaped_by next) h.plain fits);
      scalars = and_from _ _ (low_scalar (escaped_by next) (omega (arith, fits))) h.scalars;
    } in
    subst (λ (n : ℕ). IsQuoted quote (n ∷ next ∷ w)) (sym (eqb-true c 92 slash)) found

quoted : (quote : ℕ) (w : List ℕ) → all_scalars w ≡ true → is_quoted quote w ≡ true → IsQuoted quote w
quoted quote [] are is = absurd cc
quoted quote (c ∷ []) are is = record { inner = []; plain = []; whole = ap (λ (n : ℕ). n ∷ []) (eqb-true c quote is); unescapes = refl; scalars = refl }
quoted quote (c ∷ next ∷ more) are is =
    let first = (scalars_parts (c ∷ []) (next ∷ more) are) in
    let second = (scalars_parts (next ∷ []) more first.1) in
    by (stands_raw quote c) (is_quoted quote (next ∷ more)) (nat_eq c 92 && is_escape_letter next) (is_quoted quote more) refl refl refl refl is first.0 (quoted quote (next ∷ more) first.1) (quoted quote more second.1)
  where
    by : (raw rest slash after : Bool) → stands_raw quote c ≡ raw → is_quoted quote (next ∷ more) ≡ rest → nat_eq c 92 && is_escape_letter next ≡ slash → is_quoted quote more ≡ after → (raw && rest) || (slash && after) ≡ true →
        all_scalars (c ∷ []) ≡ true → (is_quoted quote (next ∷ more) ≡ true → IsQuoted quote (next ∷ more)) → (is_quoted quote more ≡ true → IsQuoted quote more) → IsQuoted quote (c ∷ next ∷ more)
    by true true slash after p q r s e are later last = raw_more quote c (next ∷ more) are p (later q)
    by true false true true p q r s e are later last = let parts = and_parts (nat_eq c 92) (is_escape_letter next) r in escape_more quote c next more parts.0 parts.1 (last s)
    by false rest true true p q r s e are later last = let parts = and_parts (nat_eq c 92) (is_escape_letter next) r in escape_more quote c next more parts.0 parts.1 (last s)
    by true false true false p q r s e are later last = absurd cc
    by true false false after p q r s e are later last = absurd cc
    by false rest true false p q r s e are later last = absurd cc
    by false rest false after p q r s e are later last = absurd cc

quote_small : (quote : ℕ) → is_quote quote ≡ true → quote < 128
quote_small quote is = by (nat_eq quote 34) refl
  where
    by : (v : Bool) → nat_eq quote 34 ≡ v → quote < 128
    by true p = omega (arith, eqb-true quote 34 p)
    by false p = let other : nat_eq quote 39 ≡ true = rw p at is in omega (arith, eqb-true quote 39 other)

pub string_text : (w : List ℕ) → is_string w ≡ true → all_scalars w ≡ true → is_utf8 (text_of (encode_utf8_all w)) ≡ true
string_text [] is are = absurd cc
string_text (quote ∷ more) is are =
    let parts = and_parts (is_quote quote) (is_quoted quote more) is in
    let small = quote_small quote parts.0 in
    let h = quoted quote more (scalars_parts (quote ∷ []) more are).1 parts.1 in
    let inside : inside_of (encode_utf8_all (quote ∷ more)) ≡ encode_utf8_all h.inner =
    ap (λ (t : List ℕ). inside_of (encode_utf8_all (quote ∷ t))) h.whole ∙ enclosed_encoded quote quote h.inner small small in
    ap (λ (t : List ℕ). is_utf8 (unescaped t)) inside ∙ ap is_utf8 h.unescapes ∙ utf8_encoded h.plain h.scalars
