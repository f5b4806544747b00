-- Places of tokens: what leads to them, and that there is one of each.
use Rattle.std.proofs.Common.{◌≡◌, ℕ, ◌+◌, ◌-◌, ◌≤◌, false, List, [], ◌∷◌, ◌++◌, length, take, drop, Option, Some, None, refl, ap, sym, subst, ◌∙◌, inl, inr, ◌⊎◌, arith, chars, encode_utf8_all, length-append, length-drop, true, ◌<◌, drop-drop}
use Rattle.std.specs.Char.{encode_utf8}
use Rattle.std.specs.Str.{IsUtf8, all_scalars}
use Rattle.std.proofs.lemmas.Str.{encodes-append, encodes-chars, length-encode, len_utf8_bounds, length-le-encodes, scalars-chars}
use Rattle.std.proofs.Math.Seq.{take-append_seam, drop-append_seam, drop-append-add}
use Rattle.pcj_ntriples.specs.Term.{IsLongest}
use Rattle.pcj_ntriples.proofs.Names.{longest_same, scalars_parts}
use Rattle.pcj_lex.specs.declared.rule.Rule.{Rule}
use Rattle.pcj_lex.specs.declared.state.State.TheVariants as states
use Rattle.pcj_lex.specs.declared.token.TokenKind.{TokenKind}
use Rattle.pcj_lex.specs.Rules.{kind_of, is_gap, token_rules, Begins, StartsNone}
use Rattle.pcj_lex.specs.Reading.{after_longest, or_all, after_gap, first_of}
use Rattle.pcj_lex.specs.Token.{Leads, ReadsOn, IsNext, IsLast, IsNoToken, SaysOneToken, HasOneFault, IsNotBoth, IsNotAfterAll, IsEither}
use Rattle.pcj_lex.proofs.Forms.{gap_accepts}
use Rattle.pcj_lex.proofs.Longest.{IsLeft, left_of}
use Rattle.pcj_lex.proofs.FirstRule.{IsBegun, begun_of, begins_same, begins_apart, begins_none, begins_some, begins_whole}

-- blanks and comments, and what follows them
abbrev pub IsSkipped : List ℕ → List ℕ → Type 0
IsSkipped characters rest = (gap : List ℕ) × (characters ≡ gap ++ rest) × IsLongest (is_gap false) gap rest

skipped_by : (characters : List ℕ) (o : Option (List ℕ)) → IsLeft states.Gap characters o → IsSkipped characters (or_all characters o)
skipped_by characters None left = ([], refl, (refl, λ more further e h. left more further e (sym (gap_accepts more) ∙ h)))
skipped_by characters (Some rest) left =
    let long = left.2 in
    (left.0, left.1, (gap_accepts left.0 ∙ long.0, λ more further e h. long.1 more further e (sym (gap_accepts (left.0 ++ more)) ∙ h)))

pub skipped_of : (characters : List ℕ) → IsSkipped characters (after_gap characters)
skipped_of characters = skipped_by characters (after_longest states.Gap characters) (left_of states.Gap characters)

-- ---- bytes

pub whole_bytes : (text : List ℕ) (front rest : List ℕ) → IsUtf8 text → chars text ≡ front ++ rest → text ≡ encode_utf8_all front ++ encode_utf8_all rest
whole_bytes text front rest is e = sym (encodes-chars text is) ∙ ap encode_utf8_all e ∙ encodes-append front rest

pub enough : (text : List ℕ) (from : ℕ) (gap rest : List ℕ) → from ≤ length text → IsUtf8 (drop from text) → chars (drop from text) ≡ gap ++ rest → length text ≡ from + length (encode_utf8_all gap) + length (encode_utf8_all rest)
enough text from gap rest within is e =
    let bytes = ap length (whole_bytes (drop from text) gap rest is e) in
    omega (arith, bytes, length-append (encode_utf8_all gap) (encode_utf8_all rest), length-drop from text, within)

pub leads_to : (text : List ℕ) (from at : ℕ) (rest : List ℕ) → from ≤ length text → IsUtf8 (drop from text) → IsSkipped (chars (drop from text)) rest → at + length (encode_utf8_all rest) ≡ length text → Leads text from at rest
leads_to text from at rest within is s count = record { gap = s.0; whole = s.1; skipped = s.2; place = omega (arith, enough text from s.0 rest within is s.1, count) }

pub cut_source : (bytes characters written rest : List ℕ) → bytes ≡ encode_utf8_all characters → characters ≡ written ++ rest → take (length bytes - length (encode_utf8_all rest)) bytes ≡ encode_utf8_all written
cut_source bytes characters written rest e f =
    let whole : bytes ≡ encode_utf8_all written ++ encode_utf8_all rest = e ∙ ap encode_utf8_all f ∙ encodes-append written rest in
    let count : length bytes - length (encode_utf8_all rest) ≡ length (encode_utf8_all written) = omega (arith, ap length whole, length-append (encode_utf8_all written) (encode_utf8_all rest)) in
    ap (λ (n : ℕ). take n bytes) count ∙ ap (take (length (encode_utf8_all written))) whole ∙ take-append_seam (encode_utf8_all written) (encode_utf8_all rest)

-- ---- one token, one end or one fault

pub leads_same : (text : List ℕ) (from at place : ℕ) (rest other : List ℕ) → Leads text from at rest → Leads text from place other → (at ≡ place) × (rest ≡ other)
leads_same text from at place rest other l m =
    let same = longest_same (is_gap false) l.gap rest m.gap other (sym l.whole ∙ m.whole) l.skipped m.skipped in
    (l.place ∙ ap (λ (g : List ℕ). from + length (encode_utf8_all g)) same.0 ∙ sym m.place, same.1)

pub says_one : SaysOneToken
says_one text from kind other at place source bytes n m =
    let led = leads_same text from at place n.characters m.characters n.leads m.leads in
    let same = begins_same m.characters kind other n.written n.rest m.written m.rest (subst (λ (t : List ℕ). Begins t kind n.written n.rest) led.1 n.begins) m.begins in
    (same.0, led.0, n.spelled ∙ ap encode_utf8_all same.1 ∙ sym m.spelled)

pub one_fault : HasOneFault
one_fault text from at place n m = (leads_same text from at place (n.0 ∷ n.1) (m.0 ∷ m.1) n.2 m.2).0

pub not_both : IsNotBoth
not_both text from at place kind source n m =
    let led = leads_same text from at place n.characters (m.0 ∷ m.1) n.leads m.2 in
    begins_apart (m.0 ∷ m.1) kind n.written n.rest (subst (λ (t : List ℕ). Begins t kind n.written n.rest) led.1 n.begins) m.3

pub not_after_all : IsNotAfterAll
not_after_all text from at kind source last = (
  (λ n.
      let led = leads_same text from at last.0 n.characters [] n.leads last.1 in
      begins_none kind n.written n.rest (subst (λ (t : List ℕ). Begins t kind n.written n.rest) led.1 n.begins)),
  (λ m. let led = leads_same text from at last.0 (m.0 ∷ m.1) [] m.2 last.1 in absurd cc),
)

pub either : IsEither
either text from = by (after_gap (chars (drop from text))) (skipped_of (chars (drop from text)))
  where
    place : (gap : List ℕ) → ℕ
    place gap = from + length (encode_utf8_all gap)

    kinds : (rest : List ℕ) (first : ℕ) (gap written after : List ℕ) (o : Option TokenKind) → Leads text from (place gap) (first ∷ rest) → ((k : TokenKind) → o ≡ Some k → Begins (first ∷ rest) k written after) → (o ≡ None → StartsNone (first ∷ rest)) →
        ((kind : TokenKind) × (at : ℕ) × (source : List ℕ) × IsNext text from kind at source) ⊎ (IsLast text from ⊎ ((at : ℕ) × IsNoToken text from at))
    kinds rest first gap written after (Some k) leads begins none =
        inl (k, place gap, encode_utf8_all written, record { characters = first ∷ rest; written = written; rest = after; leads = leads; begins = begins k refl; spelled = refl })
    kinds rest first gap written after None leads begins none = inr (inr (place gap, (first, rest, leads, none refl)))

    begun : (rest : List ℕ) (first : ℕ) (gap : List ℕ) (o : Option (Rule × List ℕ)) → Leads text from (place gap) (first ∷ rest) → IsBegun (first ∷ rest) o →
        ((kind : TokenKind) × (at : ℕ) × (source : List ℕ) × IsNext text from kind at source) ⊎ (IsLast text from ⊎ ((at : ℕ) × IsNoToken text from at))
    begun rest first gap None leads none = inr (inr (place gap, (first, rest, leads, none)))
    begun rest first gap (Some found) leads b = kinds rest first gap b.0 found.1 (kind_of found.0) leads b.2 b.3

    by : (rest : List ℕ) → IsSkipped (chars (drop from text)) rest →
        ((kind : TokenKind) × (at : ℕ) × (source : List ℕ) × IsNext text from kind at source) ⊎ (IsLast text from ⊎ ((at : ℕ) × IsNoToken text from at))
    by [] s = inr (inl (place s.0, record { gap = s.0; whole = s.1; skipped = s.2; place = refl }))
    by (first ∷ rest) s = begun rest first s.0 (first_of token_rules (first ∷ rest)) (record { gap = s.0; whole = s.1; skipped = s.2; place = refl }) (begun_of (first ∷ rest))

-- ---- what `next_token` finds

-- past the gap there are these bytes, at this place
pub record IsThere (text : List ℕ) (from : ℕ) (characters bytes : List ℕ) : Type 0 where
  pub within : length bytes ≤ length text
  pub spelled : bytes ≡ encode_utf8_all characters
  pub leads : Leads text from (length text - length bytes) characters

pub is_there : (text : List ℕ) (from : ℕ) (left characters bytes : List ℕ) → from ≤ length text → IsUtf8 (drop from text) → left ≡ drop from text → characters ≡ after_gap (chars left) → bytes ≡ encode_utf8_all characters → IsThere text from characters bytes
is_there text from left characters bytes within is same after spelled =
    let past : characters ≡ after_gap (chars (drop from text)) = after ∙ ap (λ (b : List ℕ). after_gap (chars b)) same in
    let skipped = subst (IsSkipped (chars (drop from text))) (sym past) (skipped_of (chars (drop from text))) in
    let whole = enough text from skipped.0 characters within is skipped.1 in
    let fewer : length bytes ≤ length text = omega (arith, whole, ap length spelled) in
    let count : length text - length bytes + length (encode_utf8_all characters) ≡ length text = omega (arith, whole, ap length spelled) in
    record { within = fewer; spelled = spelled; leads = leads_to text from (length text - length bytes) characters within is skipped count }

empty_bytes : (characters : List ℕ) → length (encode_utf8_all characters) ≡ 0 → characters ≡ []
empty_bytes [] e = refl
empty_bytes (c ∷ characters) e = absurd (omega (arith, length-append (encode_utf8 c) (encode_utf8_all characters), length-encode c, (len_utf8_bounds c).0, e))

pub is_last : (text : List ℕ) (from : ℕ) (characters bytes : List ℕ) → IsThere text from characters bytes → length bytes ≡ 0 → IsLast text from
is_last text from characters bytes t none =
    let empty = empty_bytes characters (ap length (sym t.spelled) ∙ none) in
    (length text - length bytes, subst (Leads text from (length text - length bytes)) empty t.leads)

pub is_no_token : (text : List ℕ) (from : ℕ) (characters bytes : List ℕ) → IsThere text from characters bytes → (length bytes ≡ 0 → ⊥) → StartsNone characters → IsNoToken text from (length text - length bytes)
is_no_token text from [] bytes t some none = absurd (some (ap length t.spelled))
is_no_token text from (first ∷ more) bytes t some none = (first, more, t.leads, none)

is_begun : (characters : List ℕ) (o : Option (Rule × List ℕ)) → o ≡ first_of token_rules characters → IsBegun characters o
is_begun characters o e = subst (IsBegun characters) (sym e) (begun_of characters)

pub none_begins : (characters : List ℕ) (o : Option (Rule × List ℕ)) → o ≡ first_of token_rules characters → o ≡ None → StartsNone characters
none_begins characters o e none = subst (IsBegun characters) none (is_begun characters o e)

pub one_begins : (characters : List ℕ) (o : Option (Rule × List ℕ)) (rule : Rule) (rest : List ℕ) → o ≡ first_of token_rules characters → o ≡ Some (rule, rest) → IsBegun characters (Some (rule, rest))
one_begins characters o rule rest e some = subst (IsBegun characters) some (is_begun characters o e)

pub fewer_bytes : (text : List ℕ) (from : ℕ) (characters bytes written rest left : List ℕ) → IsThere text from characters bytes → characters ≡ written ++ rest → left ≡ encode_utf8_all rest → length left ≤ length bytes
fewer_bytes text from characters bytes written rest left t whole e =
    let count = ap length (t.spelled ∙ ap encode_utf8_all whole ∙ encodes-append written rest) in
    omega (arith, count, length-append (encode_utf8_all written) (encode_utf8_all rest), ap length e)

pub next_is : (text : List ℕ) (from : ℕ) (characters bytes left source rest : List ℕ) (rule : Rule) (o : Option TokenKind) (kind : TokenKind) → IsThere text from characters bytes → IsBegun characters (Some (rule, rest)) → left ≡ encode_utf8_all rest → source ≡ take (length bytes - length left) bytes → o ≡ kind_of rule → o ≡ Some kind → IsNext text from kind (length text - length bytes) source
next_is text from characters bytes left source rest rule o kind t b e cut is some = record {
  characters = characters;
  written = b.0;
  rest = rest;
  leads = t.leads;
  begins = b.2 kind (sym is ∙ some);
  spelled = cut ∙ ap (λ (l : List ℕ). take (length bytes - length l) bytes) e ∙ cut_source bytes characters b.0 rest t.spelled b.1;
}

-- ---- behind a token

three_parts : (text gap written rest : List ℕ) → IsUtf8 text → chars text ≡ gap ++ (written ++ rest) → text ≡ encode_utf8_all gap ++ (encode_utf8_all written ++ encode_utf8_all rest)
three_parts text gap written rest is e = whole_bytes text gap (written ++ rest) is e ∙ ap (λ (b : List ℕ). encode_utf8_all gap ++ b) (encodes-append written rest)

rest_readable : (text gap written rest : List ℕ) → IsUtf8 text → chars text ≡ gap ++ (written ++ rest) → IsUtf8 (encode_utf8_all rest)
rest_readable text gap written rest is e =
    let all : all_scalars (gap ++ (written ++ rest)) ≡ true = subst (λ (t : List ℕ). all_scalars t ≡ true) e (scalars-chars text is) in
    let later = (scalars_parts gap (written ++ rest) all).1 in
    (rest, ((scalars_parts written rest later).1, refl))

drop_two : (left a b c : List ℕ) → left ≡ a ++ (b ++ c) → drop (length a + length b) left ≡ c
drop_two left a b c e =
    ap (drop (length a + length b)) e ∙ drop-append-add a (b ++ c) (length b) ∙ drop-append_seam b c

some_bytes : (written : List ℕ) → (written ≡ [] → ⊥) → 0 < length (encode_utf8_all written)
some_bytes [] some = absurd (some refl)
some_bytes (c ∷ written) some = let enough = length-le-encodes (c ∷ written) in omega (arith, enough)

pub reads_on : (text : List ℕ) (from : ℕ) (kind : TokenKind) (at : ℕ) (source : List ℕ) → from ≤ length text → IsUtf8 (drop from text) → IsNext text from kind at source → ReadsOn text from (at + length source)
reads_on text from kind at source within is n =
    let l = n.leads in
    let whole = begins_whole n.characters kind n.written n.rest n.begins in
    let cut : chars (drop from text) ≡ l.gap ++ (n.written ++ n.rest) = l.whole ∙ ap (λ (t : List ℕ). l.gap ++ t) whole in
    let parts = three_parts (drop from text) l.gap n.written n.rest is cut in
    let counts = ap length parts in
    let some = some_bytes n.written (begins_some n.characters kind n.written n.rest n.begins) in
    let size = ap length n.spelled in
    let behind : at + length source ≡ from + (length (encode_utf8_all l.gap) + length (encode_utf8_all n.written)) = omega (arith, l.place, size) in
    let rest : drop (at + length source) text ≡ encode_utf8_all n.rest =
    ap (λ (i : ℕ). drop i text) behind ∙ sym (drop-drop (length (encode_utf8_all l.gap) + length (encode_utf8_all n.written)) from text) ∙ drop_two (drop from text) (encode_utf8_all l.gap) (encode_utf8_all n.written) (encode_utf8_all n.rest) parts in
    record {
      further = omega (arith, l.place, size, some);
      within = omega (arith, l.place, size, counts, length-append (encode_utf8_all l.gap) (encode_utf8_all n.written ++ encode_utf8_all n.rest), length-append (encode_utf8_all n.written) (encode_utf8_all n.rest), length-drop from text, within);
      readable = subst IsUtf8 (sym rest) (rest_readable (drop from text) l.gap n.written n.rest is cut);
    }
