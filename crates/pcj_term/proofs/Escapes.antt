-- Texts byte by byte: an escape or a byte that stands for itself, up to the quote.
use Rattle.std.proofs.Common.{◌≡◌, ℕ, suc, ◌+◌, ◌<◌, length, Bool, true, false, nat_eq, List, [], ◌∷◌, ◌++◌, Option, Some, None, refl, ap, sym, subst, ◌∙◌, append_assoc, append-nil, arith, option_map, take, drop, get_or, ◌-◌, ◌≤◌}
use Rattle.std.specs.List.{prefix_len}
use Rattle.std.proofs.lemmas.Bool.{or_parts, eqb-true, ne_eqb, not-true}
use Rattle.std.proofs.lemmas.List.{take_all, length-drop}
use Rattle.std.proofs.lemmas.Option.{cond_some, same_Some}
use Rattle.pcj_term.specs.Term.{escape_of, escaped}
use Rattle.pcj_term.specs.Reading.{◌>>=◌, after, is_plain, unescaped, printed_byte, with_front, text_at}
use Rattle.pcj_term.proofs.OptionLemmas.{bind_some}

-- what a byte that stands for itself is not
record IsNoneOfFive (byte : ℕ) : Type 0 where
  tab : nat_eq byte 9 ≡ false
  lf : nat_eq byte 10 ≡ false
  cr : nat_eq byte 13 ≡ false
  quote : nat_eq byte 34 ≡ false
  backslash : nat_eq byte 92 ≡ false

plain_parts : (byte : ℕ) → is_plain byte ≡ true → IsNoneOfFive byte
unfolding is_plain
plain_parts byte h =
    let all = not-true _ h in
    let four = or_parts _ _ all in
    let three = or_parts _ _ four.0 in
    let two = or_parts _ _ three.0 in
    let one = or_parts _ _ two.0 in
    record { tab = one.0; lf = one.1; cr = two.1; quote = three.1; backslash = four.1 }

-- ---- the loop

pub with_front-nil : (parts : Option (List ℕ × List ℕ)) → with_front [] parts ≡ parts
with_front-nil None = refl
with_front-nil (Some parts) = refl

pub with_front-append : (front more : List ℕ) (parts : Option (List ℕ × List ℕ)) → with_front (front ++ more) parts ≡ with_front front (with_front more parts)
with_front-append front more None = refl
with_front-append front more (Some parts) = ap (λ (t : List ℕ). Some (t, parts.1)) (append_assoc front more parts.0)

abbrev Steps : List ℕ → ℕ → List ℕ → Type 0
Steps bytes byte rest = (text_at bytes ≡ with_front (byte ∷ []) (text_at rest)) × (length rest < length bytes)

escape_step : (first next : ℕ) (bytes : List ℕ) (plain : ℕ) → nat_eq first 34 ≡ false → nat_eq first 92 ≡ true → unescaped next ≡ Some plain → text_at (first ∷ next ∷ bytes) ≡ with_front (plain ∷ []) (text_at bytes)
unfolding text_at
escape_step first next bytes plain quote backslash means = rw (quote, backslash, means) refl

no_escape : (next : ℕ) (bytes : List ℕ) → ◌>>=◌ {B = ℕ × List ℕ} (unescaped next) (λ plain. Some (plain, bytes)) ≡ None → unescaped next ≡ None
no_escape next bytes e = by (unescaped next) refl
  where
    by : (o : Option ℕ) → unescaped next ≡ o → unescaped next ≡ None
    by None is = is
    by (Some b) is = let none = rw is at e in absurd cc

pub printed_step : (bytes : List ℕ) (found : ℕ × List ℕ) → printed_byte bytes ≡ Some found → Steps bytes found.0 found.1
unfolding text_at
printed_step [] found e = absurd cc
printed_step (first ∷ []) found e =
    let plain = cond_some (is_plain first) (first, []) found e in
    let parts = plain_parts first plain.0 in
    subst (λ (p : ℕ × List ℕ). Steps (first ∷ []) p.0 p.1) plain.1 (rw parts.quote refl, omega arith)
printed_step (first ∷ next ∷ bytes) found e = by (nat_eq first 92) refl
  where
    by : (v : Bool) → nat_eq first 92 ≡ v → Steps (first ∷ next ∷ bytes) found.0 found.1
    by true is =
        let there = rw is at e in
        let escape = bind_some (unescaped next) (λ plain. Some (plain, bytes)) found there in
        let quote = ne_eqb first 34 (λ q. omega (arith, q, eqb-true first 92 is)) in
        subst (λ (p : ℕ × List ℕ). Steps (first ∷ next ∷ bytes) p.0 p.1) (same_Some _ _ escape.2) (escape_step first next bytes escape.0 quote is escape.1, omega arith)
    by false is =
        let there = rw is at e in
        let plain = cond_some (is_plain first) (first, next ∷ bytes) found there in
        let parts = plain_parts first plain.0 in
        subst (λ (p : ℕ × List ℕ). Steps (first ∷ next ∷ bytes) p.0 p.1) plain.1 (rw (parts.quote, is, plain.0) refl, omega arith)

pub printed_end : (bytes : List ℕ) → printed_byte bytes ≡ None → text_at bytes ≡ option_map (λ rest. ([], rest)) (after 34 bytes)
unfolding text_at
printed_end [] e = refl
printed_end (first ∷ []) e = by (nat_eq first 34) refl
  where
    by : (v : Bool) → nat_eq first 34 ≡ v → text_at (first ∷ []) ≡ option_map (λ rest. ([], rest)) (after 34 (first ∷ []))
    by true is = rw is refl
    by false is = rw is refl
printed_end (first ∷ next ∷ bytes) e = by (nat_eq first 34) (nat_eq first 92) (is_plain first) refl refl refl
  where
    by : (quote backslash plain : Bool) → nat_eq first 34 ≡ quote → nat_eq first 92 ≡ backslash → is_plain first ≡ plain → text_at (first ∷ next ∷ bytes) ≡ option_map (λ rest. ([], rest)) (after 34 (first ∷ next ∷ bytes))
    by true backslash plain p q r = rw p refl
    by false true plain p q r =
        let there = rw q at e in
        let none = no_escape next bytes there in
        rw (p, q, none) refl
    by false false true p q r = let there = rw (q, r) at e in absurd cc
    by false false false p q r = rw (p, q, r) refl

-- ---- a text and its printed form

plain_from_parts : (byte : ℕ) → IsNoneOfFive byte → is_plain byte ≡ true
unfolding is_plain
plain_from_parts byte h = rw (h.tab, h.lf, h.cr, h.quote, h.backslash) refl

plain_first : (byte : ℕ) (rest : List ℕ) → is_plain byte ≡ true → nat_eq byte 92 ≡ false → printed_byte (byte ∷ rest) ≡ Some (byte, rest)
plain_first byte [] h b = rw h refl
plain_first byte (next ∷ rest) h b = rw (b, h) refl

-- a byte is read from its printed form
pub printed_again : (byte : ℕ) (rest : List ℕ) → printed_byte (escape_of byte ++ rest) ≡ Some (byte, rest)
printed_again byte rest = by (nat_eq byte 9) (nat_eq byte 10) (nat_eq byte 13) (nat_eq byte 34) (nat_eq byte 92) refl refl refl refl refl
  where
    by : (tab lf cr quote backslash : Bool) → nat_eq byte 9 ≡ tab → nat_eq byte 10 ≡ lf → nat_eq byte 13 ≡ cr → nat_eq byte 34 ≡ quote → nat_eq byte 92 ≡ backslash → printed_byte (escape_of byte ++ rest) ≡ Some (byte, rest)
    by true lf cr quote backslash a b c d e = rw (eqb-true byte 9 a) refl
    by false true cr quote backslash a b c d e = rw (eqb-true byte 10 b) refl
    by false false true quote backslash a b c d e = rw (eqb-true byte 13 c) refl
    by false false false true backslash a b c d e = rw (eqb-true byte 34 d) refl
    by false false false false true a b c d e = rw (eqb-true byte 92 e) refl
    by false false false false false a b c d e =
        let itself : escape_of byte ≡ byte ∷ [] = rw (a, b, c, d, e) refl in
        rw itself (plain_first byte rest (plain_from_parts byte (record { tab = a; lf = b; cr = c; quote = d; backslash = e })) e)

plain_itself : (byte : ℕ) → is_plain byte ≡ true → escape_of byte ≡ byte ∷ []
plain_itself byte h = let parts = plain_parts byte h in rw (parts.tab, parts.lf, parts.cr, parts.quote, parts.backslash) refl

escape_itself : (next plain : ℕ) → unescaped next ≡ Some plain → escape_of plain ≡ 92 ∷ next ∷ []
escape_itself next plain e = by (nat_eq next 116) (nat_eq next 110) (nat_eq next 114) (nat_eq next 34) (nat_eq next 92) refl refl refl refl refl
  where
    is : (code : ℕ) → next ≡ code → (byte : ℕ) → Some byte ≡ Some plain → escape_of byte ≡ 92 ∷ code ∷ [] → escape_of plain ≡ 92 ∷ next ∷ []
    is code same byte found written = subst (λ (b : ℕ). escape_of b ≡ 92 ∷ next ∷ []) (same_Some byte plain found) (written ∙ ap (λ (c : ℕ). 92 ∷ c ∷ []) (sym same))

    by : (tab lf cr quote backslash : Bool) → nat_eq next 116 ≡ tab → nat_eq next 110 ≡ lf → nat_eq next 114 ≡ cr → nat_eq next 34 ≡ quote → nat_eq next 92 ≡ backslash → escape_of plain ≡ 92 ∷ next ∷ []
    by true lf cr quote backslash a b c d f = let there = rw a at e in is 116 (eqb-true next 116 a) 9 there refl
    by false true cr quote backslash a b c d f = let there = rw (a, b) at e in is 110 (eqb-true next 110 b) 10 there refl
    by false false true quote backslash a b c d f = let there = rw (a, b, c) at e in is 114 (eqb-true next 114 c) 13 there refl
    by false false false true backslash a b c d f = let there = rw (a, b, c, d) at e in is 34 (eqb-true next 34 d) 34 there refl
    by false false false false true a b c d f = let there = rw (a, b, c, d, f) at e in is 92 (eqb-true next 92 f) 92 there refl
    by false false false false false a b c d f = let there = rw (a, b, c, d, f) at e in absurd cc

abbrev Prints : List ℕ → List ℕ × List ℕ → Type 0
Prints bytes parts = bytes ≡ escaped parts.0 ++ 34 ∷ parts.1

prints_more : (front : List ℕ) (byte : ℕ) (bytes : List ℕ) (o : Option (List ℕ × List ℕ)) (parts : List ℕ × List ℕ) → escape_of byte ≡ front → with_front (byte ∷ []) o ≡ Some parts → ((inner : List ℕ × List ℕ) → o ≡ Some inner → Prints bytes inner) → Prints (front ++ bytes) parts
prints_more front byte bytes None parts written e later = absurd cc
prints_more front byte bytes (Some inner) parts written e later =
    subst (λ (p : List ℕ × List ℕ). Prints (front ++ bytes) p) (same_Some (byte ∷ inner.0, inner.1) parts e)
    (ap (λ (t : List ℕ). front ++ t) (later inner refl) ∙ ap (λ (f : List ℕ). f ++ (escaped inner.0 ++ 34 ∷ inner.1)) (sym written) ∙ sym (append_assoc (escape_of byte) (escaped inner.0) (34 ∷ inner.1)))

pub text_takes : (bytes : List ℕ) (parts : List ℕ × List ℕ) → text_at bytes ≡ Some parts → Prints bytes parts
unfolding text_at
text_takes [] parts e = absurd cc
text_takes (byte ∷ []) parts e =
    let found = cond_some (nat_eq byte 34) ([], []) parts e in
    subst (λ (p : List ℕ × List ℕ). Prints (byte ∷ []) p) found.1 (ap (λ (b : ℕ). b ∷ []) (eqb-true byte 34 found.0))
text_takes (byte ∷ next ∷ bytes) parts e =
    by (nat_eq byte 34) (nat_eq byte 92) (is_plain byte) refl refl refl (text_takes bytes) (text_takes (next ∷ bytes))
  where
    escape : (o : Option ℕ) → unescaped next ≡ o → nat_eq byte 92 ≡ true → ((inner : List ℕ × List ℕ) → text_at bytes ≡ Some inner → Prints bytes inner) → ◌>>=◌ {B = List ℕ × List ℕ} o (λ plain. with_front (plain ∷ []) (text_at bytes)) ≡ Some parts → Prints (byte ∷ next ∷ bytes) parts
    escape None means is later there = absurd cc
    escape (Some plain) means is later there =
        let written : escape_of plain ≡ byte ∷ next ∷ [] = escape_itself next plain means ∙ ap (λ (b : ℕ). b ∷ next ∷ []) (sym (eqb-true byte 92 is)) in
        prints_more (byte ∷ next ∷ []) plain bytes (text_at bytes) parts written there later

    by : (quote backslash plain : Bool) → nat_eq byte 34 ≡ quote → nat_eq byte 92 ≡ backslash → is_plain byte ≡ plain → ((inner : List ℕ × List ℕ) → text_at bytes ≡ Some inner → Prints bytes inner) → ((inner : List ℕ × List ℕ) → text_at (next ∷ bytes) ≡ Some inner → Prints (next ∷ bytes) inner) → Prints (byte ∷ next ∷ bytes) parts
    by true backslash plain p q r deep later =
        let here = rw p at e in
        subst (λ (found : List ℕ × List ℕ). Prints (byte ∷ next ∷ bytes) found) (same_Some ([], next ∷ bytes) parts here) (ap (λ (b : ℕ). b ∷ next ∷ bytes) (eqb-true byte 34 p))
    by false true plain p q r deep later = let there = rw (p, q) at e in escape (unescaped next) refl q deep there
    by false false true p q r deep later = let there = rw (p, q, r) at e in prints_more (byte ∷ []) byte (next ∷ bytes) (text_at (next ∷ bytes)) parts (plain_itself byte r) there later
    by false false false p q r deep later = let there = rw (p, q, r) at e in absurd cc

pub text_again : (text rest : List ℕ) → text_at (escaped text ++ 34 ∷ rest) ≡ Some (text, rest)
unfolding text_at
text_again [] [] = refl
text_again [] (next ∷ rest) = refl
text_again (byte ∷ text) rest =
    let end : List ℕ = escaped text ++ 34 ∷ rest in
    let step = printed_step (escape_of byte ++ end) (byte, end) (printed_again byte end) in
    ap text_at (append_assoc (escape_of byte) (escaped text) (34 ∷ rest)) ∙ step.0 ∙ ap (with_front (byte ∷ [])) (text_again text rest)

-- ---- bytes at the front that stand for themselves

pub escaped_front : (bytes : List ℕ) → escaped bytes ≡ take (prefix_len is_plain bytes) bytes ++ escaped (drop (prefix_len is_plain bytes) bytes)
escaped_front [] = refl
escaped_front (byte ∷ bytes) = by (is_plain byte) refl (escaped_front bytes)
  where
    by : (v : Bool) → is_plain byte ≡ v → escaped bytes ≡ take (prefix_len is_plain bytes) bytes ++ escaped (drop (prefix_len is_plain bytes) bytes) →
        escaped (byte ∷ bytes) ≡ take (prefix_len is_plain (byte ∷ bytes)) (byte ∷ bytes) ++ escaped (drop (prefix_len is_plain (byte ∷ bytes)) (byte ∷ bytes))
    by true is later = let one : 1 + prefix_len is_plain bytes ≡ suc (prefix_len is_plain bytes) = omega arith in rw (is, plain_itself byte is, one) (ap (λ (t : List ℕ). byte ∷ t) later)
    by false is later = rw is refl

text_plain : (byte : ℕ) (bytes : List ℕ) → is_plain byte ≡ true → text_at (byte ∷ bytes) ≡ with_front (byte ∷ []) (text_at bytes)
unfolding text_at
text_plain byte [] is = let parts = plain_parts byte is in rw parts.quote refl
text_plain byte (next ∷ bytes) is = let parts = plain_parts byte is in rw (parts.quote, parts.backslash, is) refl

pub text_front : (bytes : List ℕ) → text_at bytes ≡ with_front (take (prefix_len is_plain bytes) bytes) (text_at (drop (prefix_len is_plain bytes) bytes))
text_front [] = sym (with_front-nil (text_at []))
text_front (byte ∷ bytes) = by (is_plain byte) refl (text_front bytes)
  where
    by : (v : Bool) → is_plain byte ≡ v → text_at bytes ≡ with_front (take (prefix_len is_plain bytes) bytes) (text_at (drop (prefix_len is_plain bytes) bytes)) →
        text_at (byte ∷ bytes) ≡ with_front (take (prefix_len is_plain (byte ∷ bytes)) (byte ∷ bytes)) (text_at (drop (prefix_len is_plain (byte ∷ bytes)) (byte ∷ bytes)))
    by true is later = let one : 1 + prefix_len is_plain bytes ≡ suc (prefix_len is_plain bytes) = omega arith in rw (is, one) (text_plain byte bytes is ∙ ap (with_front (byte ∷ [])) later ∙ sym (with_front-append (byte ∷ []) (take (prefix_len is_plain bytes) bytes) (text_at (drop (prefix_len is_plain bytes) bytes))))
    by false is later = rw is (sym (with_front-nil (text_at (byte ∷ bytes))))

-- ---- a run that stands for itself, and what follows it

pub first_and_rest : (bytes : List ℕ) → 1 ≤ length bytes → bytes ≡ get_or bytes 0 0 ∷ take (length bytes - 1) (drop 1 bytes)
first_and_rest [] some = absurd (omega arith)
first_and_rest (byte ∷ bytes) some = let all : length (byte ∷ bytes) - 1 ≡ length bytes = omega arith in rw all (ap (λ (t : List ℕ). byte ∷ t) (sym (take_all (length bytes) bytes (omega arith))))

pub escaped_cut : (bytes plain end : List ℕ) → plain ≡ take (prefix_len is_plain bytes) bytes → end ≡ drop (prefix_len is_plain bytes) bytes → plain ++ escaped end ≡ escaped bytes
escaped_cut bytes plain end front back = rw (front, back) (sym (escaped_front bytes))

pub escaped_step : (out bytes plain end following : List ℕ) (byte : ℕ) → plain ≡ take (prefix_len is_plain bytes) bytes → end ≡ drop (prefix_len is_plain bytes) bytes → end ≡ byte ∷ following → ((out ++ plain) ++ escape_of byte) ++ escaped following ≡ out ++ escaped bytes
escaped_step out bytes plain end following byte front back parts =
    append_assoc (out ++ plain) (escape_of byte) (escaped following)
    ∙ append_assoc out plain (escape_of byte ++ escaped following)
    ∙ ap (λ (t : List ℕ). out ++ (plain ++ escaped t)) (sym parts)
    ∙ ap (λ (t : List ℕ). out ++ t) (escaped_cut bytes plain end front back)

pub text_cut : (bytes plain end : List ℕ) → plain ≡ take (prefix_len is_plain bytes) bytes → end ≡ drop (prefix_len is_plain bytes) bytes → with_front plain (text_at end) ≡ text_at bytes
text_cut bytes plain end front back = rw (front, back) (sym (text_front bytes))

pub escaped_last : (out bytes plain end : List ℕ) → plain ≡ take (prefix_len is_plain bytes) bytes → end ≡ drop (prefix_len is_plain bytes) bytes → length end < 1 → out ++ plain ≡ out ++ escaped bytes
escaped_last out bytes plain [] front back none = ap (λ (t : List ℕ). out ++ t) (sym (append-nil plain) ∙ escaped_cut bytes plain [] front back)
escaped_last out bytes plain (byte ∷ end) front back none = absurd (omega arith)

pub step_shorter : (bytes end : List ℕ) (n : ℕ) → end ≡ drop n bytes → 1 ≤ length end → length (take (length end - 1) (drop 1 end)) < length bytes
step_shorter bytes end n back some = omega (arith, ap length back, length-drop n bytes, ap length (first_and_rest end some))
