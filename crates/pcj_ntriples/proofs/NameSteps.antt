-- What the loops over labels and tags keep.
use Rattle.std.proofs.Common.{◌≡◌, ℕ, length, take, Bool, true, false, not, ◌&&◌, ◌||◌, cond, nat_eq, List, [], ◌∷◌, ◌++◌, map, Option, Some, None, Ok, refl, ap, sym, subst, ◌∙◌, append_assoc, append-nil, encode_utf8_all}
use Rattle.std.specs.Char.{encode_utf8, to_ascii_lowercase}
use Rattle.std.specs.List.{list_all}
use Rattle.std.proofs.lemmas.Bool.{and_parts, or_parts, eq-eqb, not-true, and_from}
use Rattle.std.proofs.lemmas.List.Folds.{list_all-append}
use Rattle.std.proofs.lemmas.Str.{encodes-append}
use Rattle.std.proofs.Math.Seq.{take-append_seam}
use Rattle.std.proofs.Math.Bool.{or-true}
use Rattle.pcj_term.specs.Label.{is_label_character}
use Rattle.pcj_term.specs.Iri.{is_letter, is_digit, is_letter_or_digit}
use Rattle.pcj_ntriples.specs.Term.{IsLongest}
use Rattle.pcj_ntriples.specs.LineReading.{name_at, label_at, onto_tag, tag_from, lowered, tag_at, is_tag_character, begins_tag_character, begins_label_character}
use Rattle.pcj_ntriples.proofs.Names.{ends_dot, IsRun, run_of, longest_same, is_hyphen, hyphen_alone}

encoded_push : (front : List ℕ) (character : ℕ) → encode_utf8_all front ++ encode_utf8 character ≡ encode_utf8_all (front ++ character ∷ [])
encoded_push front character = ap (λ (b : List ℕ). encode_utf8_all front ++ b) (sym (append-nil (encode_utf8 character))) ∙ sym (encodes-append front (character ∷ []))

-- ---- tags

abbrev pub onto_all : List ℕ → Option (List ℕ × List ℕ) → Option (List ℕ × List ℕ)
onto_all front None = None
onto_all front (Some found) = Some (front ++ found.0, found.1)

pub record TagSoFar (tag : List ℕ) (digits some : Bool) (characters whole : List ℕ) : Type 0 where
  pub written : List ℕ
  pub bytes : tag ≡ encode_utf8_all (map to_ascii_lowercase written)
  pub same : onto_all written (tag_from digits some characters) ≡ tag_from false false whole

onto_joined : (front : List ℕ) (character : ℕ) (o : Option (List ℕ × List ℕ)) → onto_all (front ++ character ∷ []) o ≡ onto_all front (onto_tag character o)
onto_joined front character None = refl
onto_joined front character (Some found) = ap (λ (t : List ℕ). Some (t, found.1)) (append_assoc front (character ∷ []) found.0)

tag_step : (digits some : Bool) (character : ℕ) (characters : List ℕ) → is_tag_character digits some character ≡ true → tag_from digits some (character ∷ characters) ≡ onto_tag character (tag_from (digits || nat_eq character 45) (not (nat_eq character 45)) characters)
unfolding tag_from
tag_step digits some character characters is = by (is_letter character || (digits && is_digit character)) (is_hyphen character) refl refl
  where
    or_false : (v : Bool) → v || false ≡ v
    or_false true = refl
    or_false false = refl

    either : (v : Bool) → is_letter character ≡ v → is_letter character || (digits && is_digit character) ≡ true → is_letter_or_digit character ≡ true
    either true p q = rw p refl
    either false p q = let digit = rw p at q in rw (p, (and_parts digits (is_digit character) digit).1) refl

    by : (letter hyphen : Bool) → is_letter character || (digits && is_digit character) ≡ letter → is_hyphen character ≡ hyphen → tag_from digits some (character ∷ characters) ≡ onto_tag character (tag_from (digits || nat_eq character 45) (not (nat_eq character 45)) characters)
    by true hyphen p q = rw (p, hyphen_alone character (either (is_letter character) refl p), or_false digits) refl
    by false true p q = let here = rw (p, q) at is in rw (p, q, here, or-true digits) refl
    by false false p q = let none = rw (p, q) at is in absurd cc

tag_stop : (digits some : Bool) (characters : List ℕ) → begins_tag_character digits some characters ≡ false → tag_from digits some characters ≡ cond some (Some ([], characters)) None
unfolding tag_from
tag_stop digits some [] e = refl
tag_stop digits some (character ∷ characters) e =
    let parts = or_parts (is_letter character || (digits && is_digit character)) (is_hyphen character && some) e in
    rw (parts.0, parts.1) refl

map_push : (front : List ℕ) (character : ℕ) → map to_ascii_lowercase (front ++ character ∷ []) ≡ map to_ascii_lowercase front ++ to_ascii_lowercase character ∷ []
map_push [] character = refl
map_push (first ∷ front) character = ap (λ (t : List ℕ). to_ascii_lowercase first ∷ t) (map_push front character)

pub tag_more : (tag next : List ℕ) (digits some : Bool) (character : ℕ) (rest whole : List ℕ) → TagSoFar tag digits some (character ∷ rest) whole → is_tag_character digits some character ≡ true → next ≡ tag ++ encode_utf8 (to_ascii_lowercase character) → TagSoFar next (digits || nat_eq character 45) (not (nat_eq character 45)) rest whole
tag_more tag next digits some character rest whole t is grown = record {
  written = t.written ++ character ∷ [];
  bytes = grown ∙ ap (λ (b : List ℕ). b ++ encode_utf8 (to_ascii_lowercase character)) t.bytes ∙ encoded_push (map to_ascii_lowercase t.written) (to_ascii_lowercase character) ∙ ap encode_utf8_all (sym (map_push t.written character));
  same = onto_joined t.written character _ ∙ ap (onto_all t.written) (sym (tag_step digits some character rest is)) ∙ t.same;
}

pub tag_whole : (tag : List ℕ) (digits : Bool) (characters whole : List ℕ) → TagSoFar tag digits true characters whole → begins_tag_character digits true characters ≡ false → tag_at whole ≡ Ok (tag, characters)
tag_whole tag digits characters whole t e =
    ap lowered (sym t.same ∙ ap (onto_all t.written) (tag_stop digits true characters e))
    ∙ ap (λ (w : List ℕ). Ok (w, characters)) (ap (λ (w : List ℕ). encode_utf8_all (map to_ascii_lowercase w)) (append-nil t.written) ∙ sym t.bytes)

pub tag_bad : (tag : List ℕ) (digits : Bool) (characters whole : List ℕ) → TagSoFar tag digits false characters whole → begins_tag_character digits false characters ≡ false → tag_at whole ≡ lowered None
tag_bad tag digits characters whole t e = ap lowered (sym t.same ∙ ap (onto_all t.written) (tag_stop digits false characters e))

-- ---- labels

abbrev pub are_dots : List ℕ → Bool
are_dots characters = list_all (λ c. nat_eq c 46) characters

pub record LabelSoFar (label : List ℕ) (kept : ℕ) (after characters whole : List ℕ) : Type 0 where
  pub name : List ℕ
  pub dots : List ℕ
  pub bytes : label ≡ encode_utf8_all (name ++ dots)
  pub count : kept ≡ length (encode_utf8_all name)
  pub follows : after ≡ dots ++ characters
  pub written : whole ≡ name ++ after
  pub all : list_all is_label_character (name ++ dots) ≡ true
  pub dotted : are_dots dots ≡ true
  pub inside : ends_dot name ≡ false

moved_in : (front : List ℕ) (character : ℕ) (rest : List ℕ) → front ++ character ∷ rest ≡ (front ++ character ∷ []) ++ rest
moved_in front character rest = sym (append_assoc front (character ∷ []) rest)

all_push : (test : ℕ → Bool) (front : List ℕ) (character : ℕ) → list_all test front ≡ true → test character ≡ true → list_all test (front ++ character ∷ []) ≡ true
all_push test front character all one = list_all-append test front (character ∷ []) ∙ and_from _ _ all (and_from _ _ one refl)

-- a dot may still turn out to stand at the end
pub label_dot : (label next : List ℕ) (kept : ℕ) (after : List ℕ) (character : ℕ) (rest whole : List ℕ) → LabelSoFar label kept after (character ∷ rest) whole → is_label_character character ≡ true → character ≡ 46 → next ≡ label ++ encode_utf8 character → LabelSoFar next kept after rest whole
label_dot label next kept after character rest whole l is dot grown = record {
  name = l.name;
  dots = l.dots ++ character ∷ [];
  bytes = grown ∙ ap (λ (b : List ℕ). b ++ encode_utf8 character) l.bytes ∙ encoded_push (l.name ++ l.dots) character ∙ ap encode_utf8_all (append_assoc l.name l.dots (character ∷ []));
  count = l.count;
  follows = l.follows ∙ moved_in l.dots character rest;
  written = l.written;
  all = ap (list_all is_label_character) (sym (append_assoc l.name l.dots (character ∷ []))) ∙ all_push is_label_character (l.name ++ l.dots) character l.all is;
  dotted = all_push (λ c. nat_eq c 46) l.dots character l.dotted (eq-eqb character 46 dot);
  inside = l.inside;
}

ends_dot_push : (front : List ℕ) (character : ℕ) → ends_dot (front ++ character ∷ []) ≡ nat_eq character 46
ends_dot_push [] character = refl
ends_dot_push (first ∷ []) character = refl
ends_dot_push (first ∷ next ∷ front) character = ends_dot_push (next ∷ front) character

pub label_other : (label next : List ℕ) (kept grown_to : ℕ) (after : List ℕ) (character : ℕ) (rest whole : List ℕ) → LabelSoFar label kept after (character ∷ rest) whole → is_label_character character ≡ true → nat_eq character 46 ≡ false → next ≡ label ++ encode_utf8 character → grown_to ≡ length next → LabelSoFar next grown_to rest rest whole
label_other label next kept grown_to after character rest whole l is other grown count =
    let bytes : next ≡ encode_utf8_all ((l.name ++ l.dots) ++ character ∷ []) = grown ∙ ap (λ (b : List ℕ). b ++ encode_utf8 character) l.bytes ∙ encoded_push (l.name ++ l.dots) character in
    record {
      name = (l.name ++ l.dots) ++ character ∷ [];
      dots = [];
      bytes = bytes ∙ ap encode_utf8_all (sym (append-nil ((l.name ++ l.dots) ++ character ∷ [])));
      count = count ∙ ap length bytes;
      follows = refl;
      written = l.written ∙ ap (λ (t : List ℕ). l.name ++ t) l.follows ∙ sym (append_assoc l.name l.dots (character ∷ rest)) ∙ moved_in (l.name ++ l.dots) character rest;
      all = ap (list_all is_label_character) (append-nil ((l.name ++ l.dots) ++ character ∷ [])) ∙ all_push is_label_character (l.name ++ l.dots) character l.all is;
      dotted = refl;
      inside = ends_dot_push (l.name ++ l.dots) character ∙ other;
    }

-- what goes on a run of dots is dots, where no label character follows these
dots_alone : (dots characters more further : List ℕ) → dots ++ characters ≡ more ++ further → begins_label_character characters ≡ false → are_dots dots ≡ true → list_all is_label_character more ≡ true → are_dots more ≡ true
dots_alone dots characters [] further e stop dotted all = refl
dots_alone [] characters (x ∷ more) further e stop dotted all =
    let parts = and_parts (is_label_character x) (list_all is_label_character more) all in
    let yes : begins_label_character characters ≡ true = ap begins_label_character e ∙ parts.0 in absurd cc
dots_alone (d ∷ dots) characters (x ∷ more) further e stop dotted all =
    let same : d ≡ x = cc in
    let rest : dots ++ characters ≡ more ++ further = cc in
    let parts = and_parts (is_label_character x) (list_all is_label_character more) all in
    let dot = and_parts (nat_eq d 46) (are_dots dots) dotted in
    and_from _ _ (subst (λ (c : ℕ). nat_eq c 46 ≡ true) same dot.0) (dots_alone dots characters more further rest stop dot.1 parts.1)

ends_in_dots : (x : ℕ) (more : List ℕ) → are_dots (x ∷ more) ≡ true → ends_dot (x ∷ more) ≡ true
ends_in_dots x [] dotted = (and_parts (nat_eq x 46) true dotted).0
ends_in_dots x (y ∷ more) dotted = ends_in_dots y more (and_parts (nat_eq x 46) (are_dots (y ∷ more)) dotted).1

ends_dot_later : (front : List ℕ) (x : ℕ) (more : List ℕ) → ends_dot (front ++ x ∷ more) ≡ ends_dot (x ∷ more)
ends_dot_later [] x more = refl
ends_dot_later (first ∷ []) x more = refl
ends_dot_later (first ∷ next ∷ front) x more = ends_dot_later (next ∷ front) x more

no_dots_left : (name more : List ℕ) → are_dots more ≡ true → ends_dot (name ++ more) ≡ false → more ≡ []
no_dots_left name [] dotted e = refl
no_dots_left name (x ∷ more) dotted e = let yes = ends_dot_later name x more ∙ ends_in_dots x more dotted in absurd cc

abbrev is_run : List ℕ → Bool
is_run characters = list_all is_label_character characters && not (ends_dot characters)

run_longest : (characters name rest : List ℕ) → IsRun characters name rest → IsLongest is_run name rest
run_longest characters name rest run = (
  and_from _ _ run.all (ap not run.open_end),
  λ more further e h.
      let parts = and_parts (list_all is_label_character (name ++ more)) (not (ends_dot (name ++ more))) h in
      run.long more further e parts.0 (not-true (ends_dot (name ++ more)) parts.1),
)

same_run : (characters name rest other after : List ℕ) → IsRun characters name rest → IsRun characters other after → (name ≡ other) × (rest ≡ after)
same_run characters name rest other after run again =
    longest_same is_run name rest other after (sym run.whole ∙ again.whole) (run_longest characters name rest run) (run_longest characters other after again)

label_run : (label : List ℕ) (kept : ℕ) (after characters whole : List ℕ) → (l : LabelSoFar label kept after characters whole) → begins_label_character characters ≡ false → IsRun whole l.name after
label_run label kept after characters whole l stop = record {
  whole = l.written;
  all = (and_parts (list_all is_label_character l.name) (list_all is_label_character l.dots) (sym (list_all-append is_label_character l.name l.dots) ∙ l.all)).0;
  open_end = l.inside;
  long = λ more further e h k.
      let parts = and_parts (list_all is_label_character l.name) (list_all is_label_character more) (sym (list_all-append is_label_character l.name more) ∙ h) in
      no_dots_left l.name more (dots_alone l.dots characters more further (sym l.follows ∙ e) stop l.dotted parts.1) k;
}

kept_label : (label : List ℕ) (kept : ℕ) (after characters whole : List ℕ) → (l : LabelSoFar label kept after characters whole) → encode_utf8_all l.name ≡ take kept label
kept_label label kept after characters whole l =
    let bytes : label ≡ encode_utf8_all l.name ++ encode_utf8_all l.dots = l.bytes ∙ encodes-append l.name l.dots in
    sym (ap (λ (n : ℕ). take n label) l.count ∙ ap (take (length (encode_utf8_all l.name))) bytes ∙ take-append_seam (encode_utf8_all l.name) (encode_utf8_all l.dots))

label_of_run : (characters name rest label : List ℕ) → ((name_at characters).0 ≡ name) × ((name_at characters).1 ≡ rest) → encode_utf8_all name ≡ label → label_at characters ≡ (label, rest)
label_of_run characters name rest label same bytes =
    ap (λ (n : List ℕ). (encode_utf8_all n, (name_at characters).1)) same.0 ∙ ap (λ (r : List ℕ). (encode_utf8_all name, r)) same.1 ∙ ap (λ (b : List ℕ). (b, rest)) bytes

pub label_done : (label : List ℕ) (kept : ℕ) (after characters whole : List ℕ) → LabelSoFar label kept after characters whole → begins_label_character characters ≡ false → label_at whole ≡ (take kept label, after)
label_done label kept after characters whole l stop =
    label_of_run whole l.name after (take kept label)
    (same_run whole (name_at whole).0 (name_at whole).1 l.name after (run_of whole) (label_run label kept after characters whole l stop))
    (kept_label label kept after characters whole l)
