-- Printed forms are apart, and each is one cell of one line.
use Rattle.std.proofs.Common.{◌≡◌, ℕ, ◌+◌, ◌/◌, ◌%◌, ◌≤◌, Bool, true, false, nat_eq, nat_lt, List, [], ◌∷◌, ◌++◌, Some, None, refl, ap, subst, ◌∙◌, arith, codes, decimal, chars, encode_utf8_all}
use Rattle.std.specs.Char.{encode_utf8}
use Rattle.std.specs.List.{list_all, slice_split, onto_first}
use Rattle.std.specs.Str.Parse.{AllDigits}
use Rattle.std.proofs.lemmas.Bool.{and_parts, eqb-true, ne_eqb, and_from}
use Rattle.std.proofs.lemmas.List.Folds.{list_all-append}
use Rattle.std.proofs.lemmas.Option.{same_Some}
use Rattle.std.proofs.lemmas.Str.{IsUtf8-from_is_utf8, encodes-chars}
use Rattle.std.proofs.lemmas.Str.Parse.{digit_from_value}
use Rattle.pcj_term.specs.declared.kind.Kind.{Kind}
use Rattle.pcj_term.specs.declared.kind.Kind.TheVariants.{Plain, Lang, Typed}
use Rattle.pcj_term.specs.declared.term.Term.TheVariants.{Iri, Blank, Literal}
use Rattle.pcj_term.specs.Iri.{is_letter_or_digit, is_iri_character, is_absolute_iri}
use Rattle.pcj_term.specs.Label.{is_label, is_label_character}
use Rattle.pcj_term.specs.Tag.{is_subtag, is_language_tag}
use Rattle.pcj_term.specs.Term.{bracketed, escaped, escape_of, quoted, suffix_of}
use Rattle.pcj_term.specs.Valid.{IsValidKind}
use Rattle.pcj_term.specs.Laws.{is_within_cell, PrintsOneTerm, ReadsBack, PrintsOneCell}
use Rattle.pcj_term.proofs.Parts.{decimal_digits}
use Rattle.pcj_term.proofs.Reading.{term_again}

pub prints_one_term : PrintsOneTerm
prints_one_term term other valid also same =
    let first = term_again term valid in
    let second = term_again other also in
    same_Some term other (cc)

pub reads_back : ReadsBack
reads_back term None valid h = absurd (h term valid refl)
reads_back term (Some other) valid h = ap Some (prints_one_term other term h.0 valid h.1)

abbrev IsCell : List ℕ → Type 0
IsCell bytes = list_all is_within_cell bytes ≡ true

cell_append : (front end : List ℕ) → IsCell front → IsCell end → IsCell (front ++ end)
cell_append front end h k = list_all-append is_within_cell front end ∙ and_from _ _ h k

within_cell : (byte : ℕ) → (byte ≡ 9 → ⊥) → (byte ≡ 10 → ⊥) → is_within_cell byte ≡ true
within_cell byte tab lf = rw (ne_eqb byte 9 tab, ne_eqb byte 10 lf) refl

-- a class that has neither TAB nor LF
class_within : (test : ℕ → Bool) → test 9 ≡ false → test 10 ≡ false → (byte : ℕ) → test byte ≡ true → is_within_cell byte ≡ true
class_within test tab lf byte h = within_cell byte
    (λ e. let yes : test 9 ≡ true = subst (λ (b : ℕ). test b ≡ true) e h in absurd cc)
    (λ e. let yes : test 10 ≡ true = subst (λ (b : ℕ). test b ≡ true) e h in absurd cc)

class_cell : (test : ℕ → Bool) → test 9 ≡ false → test 10 ≡ false → (bytes : List ℕ) → list_all test bytes ≡ true → IsCell bytes
class_cell test tab lf [] h = refl
class_cell test tab lf (byte ∷ bytes) h =
    let parts = and_parts (test byte) (list_all test bytes) h in
    and_from _ _ (class_within test tab lf byte parts.0) (class_cell test tab lf bytes parts.1)

digits_cell : (digits : List ℕ) → AllDigits 10 digits → IsCell digits
digits_cell [] all = refl
digits_cell (d ∷ digits) all =
    let digit = digit_from_value d all.0 in
    and_from _ _ (within_cell d (λ e. omega (arith, digit.0, e)) (λ e. omega (arith, digit.0, e))) (digits_cell digits all.1)

-- a character of more than one byte has no ASCII in it
encode_cell : (c : ℕ) → is_within_cell c ≡ true → IsCell (encode_utf8 c)
unfolding encode_utf8
encode_cell c h = by (nat_lt c 128) (nat_lt c 2048) (nat_lt c 65536) refl refl refl
  where
    lead : (low n : ℕ) → 128 ≤ low → is_within_cell (low + n) ≡ true
    lead low n large = within_cell (low + n) (λ e. omega (arith, large, e)) (λ e. omega (arith, large, e))

    more : (bits : ℕ) → is_within_cell (128 + bits % 64) ≡ true
    more bits = lead 128 (bits % 64) (omega arith)

    by : (one two three : Bool) → nat_lt c 128 ≡ one → nat_lt c 2048 ≡ two → nat_lt c 65536 ≡ three → IsCell (encode_utf8 c)
    by true two three p q r = rw p (and_from _ _ h refl)
    by false true three p q r = rw (p, q) (and_from _ _ (lead 192 (c / 64) (omega arith)) (and_from _ _ (more c) refl))
    by false false true p q r = rw (p, q, r) (and_from _ _ (lead 224 (c / 4096) (omega arith)) (and_from _ _ (more (c / 64)) (and_from _ _ (more c) refl)))
    by false false false p q r = rw (p, q, r) (and_from _ _ (lead 240 (c / 262144) (omega arith)) (and_from _ _ (more (c / 4096)) (and_from _ _ (more (c / 64)) (and_from _ _ (more c) refl))))

encodes_cell : (characters : List ℕ) → IsCell characters → IsCell (encode_utf8_all characters)
encodes_cell [] h = refl
encodes_cell (c ∷ characters) h =
    let parts = and_parts (is_within_cell c) (list_all is_within_cell characters) h in
    cell_append (encode_utf8 c) (encode_utf8_all characters) (encode_cell c parts.0) (encodes_cell characters parts.1)

iri_cell : (iri : List ℕ) → is_absolute_iri iri ≡ true → IsCell (bracketed iri)
iri_cell iri h =
    let characters = (and_parts _ _ (and_parts _ _ h).0).1 in
    cell_append iri (62 ∷ []) (class_cell is_iri_character refl refl iri characters) refl

label_cell : (label : List ℕ) → is_label label ≡ true → IsCell label
label_cell label h =
    let outer = and_parts _ _ h in
    let utf8 = IsUtf8-from_is_utf8 label outer.0 in
    let text = (and_parts _ _ (and_parts _ _ outer.1).0).1 in
    subst IsCell (encodes-chars label utf8) (encodes_cell (chars label) (class_cell is_label_character refl refl (chars label) text))

abbrev ArePlain : List (List ℕ) → Type 0
ArePlain parts = list_all (list_all is_letter_or_digit) parts ≡ true

parts_cell : (tag : List ℕ) → list_all (list_all is_letter_or_digit) (slice_split (λ byte. nat_eq byte 45) tag) ≡ true → IsCell tag
parts_cell [] h = refl
parts_cell (byte ∷ tag) h = by (nat_eq byte 45) refl (parts_cell tag)
  where
    onto : (parts : List (List ℕ)) → ArePlain (onto_first byte parts) → (is_letter_or_digit byte ≡ true) × ArePlain parts
    onto [] k = let both = and_parts _ _ k in ((and_parts _ _ both.0).0, refl)
    onto (part ∷ parts) k =
        let both = and_parts _ _ k in
        let first = and_parts (is_letter_or_digit byte) (list_all is_letter_or_digit part) both.0 in
        (first.0, and_from _ _ first.1 both.1)

    by : (v : Bool) → nat_eq byte 45 ≡ v → (ArePlain (slice_split (λ byte. nat_eq byte 45) tag) → IsCell tag) → IsCell (byte ∷ tag)
    by true is later =
        let rest = rw is at h in
        and_from _ _ (within_cell byte (λ e. omega (arith, e, eqb-true byte 45 is)) (λ e. omega (arith, e, eqb-true byte 45 is))) (later rest)
    by false is later =
        let whole = rw is at h in
        let parts = onto (slice_split (λ byte. nat_eq byte 45) tag) whole in
        and_from _ _ (class_within is_letter_or_digit refl refl byte parts.0) (later parts.1)

subtags_letters : (parts : List (List ℕ)) → list_all is_subtag parts ≡ true → list_all (list_all is_letter_or_digit) parts ≡ true
subtags_letters [] h = refl
subtags_letters (part ∷ parts) h =
    let both = and_parts (is_subtag part) (list_all is_subtag parts) h in
    and_from _ _ (and_parts _ _ both.0).1 (subtags_letters parts both.1)

tag_cell : (tag : List ℕ) → is_language_tag tag ≡ true → IsCell tag
tag_cell tag h =
    let subtags : list_all is_subtag (slice_split (λ byte. nat_eq byte 45) tag) ≡ true = (and_parts _ _ h).0 in
    parts_cell tag (subtags_letters (slice_split (λ byte. nat_eq byte 45) tag) subtags)

escape_cell : (byte : ℕ) → IsCell (escape_of byte)
escape_cell byte = by (nat_eq byte 9) (nat_eq byte 10) (nat_eq byte 13) (nat_eq byte 34) (nat_eq byte 92) refl refl refl refl refl
  where
    by : (tab lf cr quote backslash : Bool) → nat_eq byte 9 ≡ tab → nat_eq byte 10 ≡ lf → nat_eq byte 13 ≡ cr → nat_eq byte 34 ≡ quote → nat_eq byte 92 ≡ backslash → IsCell (escape_of byte)
    by true lf cr quote backslash a b c d e = rw a refl
    by false true cr quote backslash a b c d e = rw (a, b) refl
    by false false true quote backslash a b c d e = rw (a, b, c) refl
    by false false false true backslash a b c d e = rw (a, b, c, d) refl
    by false false false false true a b c d e = rw (a, b, c, d, e) refl
    by false false false false false a b c d e = rw (a, b, c, d, e, a, b) refl

escaped_cell : (text : List ℕ) → IsCell (escaped text)
escaped_cell [] = refl
escaped_cell (byte ∷ text) = cell_append (escape_of byte) (escaped text) (escape_cell byte) (escaped_cell text)

suffix_cell : (kind : Kind) → IsValidKind kind → IsCell (suffix_of kind)
suffix_cell Plain h = refl
suffix_cell (Lang tag) h = tag_cell tag h.0
suffix_cell (Typed datatype) h = iri_cell datatype h.0

pub prints_one_cell : PrintsOneCell
prints_one_cell (Iri iri) h = iri_cell iri h
prints_one_cell (Blank load label) h = cell_append (codes "_:t" ++ decimal load ++ codes "x") label (cell_append (decimal load) (codes "x") (digits_cell (decimal load) (decimal_digits load h.0)) refl) (label_cell label h.1)
prints_one_cell (Literal text kind) h = cell_append (quoted text) (suffix_of kind) (cell_append (escaped text) (34 ∷ []) (escaped_cell text) refl) (suffix_cell kind h.1)
