-- Tags and labels: the longest there is at the front.
use Rattle.std.proofs.Common.{◌≡◌, ℕ, ◌+◌, ◌-◌, ◌%◌, ◌<◌, length, drop, Bool, true, false, not, ◌&&◌, ◌||◌, cond, nat_eq, nat_lt, List, [], ◌∷◌, ◌++◌, Option, Some, None, refl, ap, sym, subst, ◌∙◌, append_assoc, append-nil, arith, inl, inr, ◌⊎◌, encode_utf8_all, eqb}
use Rattle.std.specs.Cmp.Lexicographic.{pointwise}
use Rattle.std.specs.Char.{encode_utf8}
use Rattle.std.specs.List.{list_all, slice_split, onto_first, take_while}
use Rattle.std.specs.Str.{all_scalars, is_utf8}
use Rattle.std.proofs.lemmas.Bool.{and_parts, eqb-true, eq-eqb, ne_eqb, not-true, ltb-false, lt-ltb, and_from}
use Rattle.std.proofs.lemmas.List.{length-append}
use Rattle.std.proofs.lemmas.List.Sums.{take_while-cons}
use Rattle.std.proofs.lemmas.Str.{chars-encodes, is_utf8-from_IsUtf8, len_utf8_bounds, length-encode}
use Rattle.std.proofs.Math.Seq.{drop-append-add}
use Rattle.std.proofs.Math.Bool.{and-false, or-true}
use Rattle.pcj_term.specs.Iri.{is_letter, is_digit, is_letter_or_digit}
use Rattle.pcj_term.specs.Label.{is_name_start, is_label_start, is_label_character, begins_label, ends_in_a_dot}
use Rattle.pcj_term.specs.Tag.{is_subtag, is_language_tag}
use Rattle.pcj_term.specs.Reading.{begins_with}
use Rattle.pcj_ntriples.specs.Term.{IsLongest, is_label_of, TakesLabel}
use Rattle.pcj_ntriples.specs.Line.{IsNoTag, IsCutTag}
use Rattle.pcj_ntriples.specs.LineReading.{onto_name, name_at, onto_tag, tag_from}

-- the longest front that passes a test is one
pub longest_same : (test : List ℕ → Bool) (a r b s : List ℕ) → a ++ r ≡ b ++ s → IsLongest test a r → IsLongest test b s → (a ≡ b) × (r ≡ s)
longest_same test [] r [] s e h k = (refl, e)
longest_same test [] r (y ∷ b) s e h k = let none = h.1 (y ∷ b) s e k.0 in absurd cc
longest_same test (x ∷ a) r [] s e h k = let none = k.1 (x ∷ a) r (sym e) h.0 in absurd cc
longest_same test (x ∷ a) r (y ∷ b) s e h k =
    let first : x ≡ y = cc in
    let rest : a ++ r ≡ b ++ s = cc in
    let later = longest_same (λ w. test (x ∷ w)) a r b s rest h (subst (λ (z : ℕ). IsLongest test (z ∷ b) s) (sym first) k) in
    (ap (λ (t : List ℕ). x ∷ t) later.0 ∙ ap (λ (z : ℕ). z ∷ b) first, later.1)

-- ---- tags, character by character

abbrev pub is_hyphen : ℕ → Bool
is_hyphen character = nat_eq character 45

abbrev pub accepts : Bool → Bool → List ℕ → Bool
accepts digits some [] = some
accepts digits some (character ∷ characters) =
    cond (is_letter character || (digits && is_digit character)) (accepts digits true characters) (is_hyphen character && (some && accepts true false characters))

abbrev first_fits : Bool → List (List ℕ) → Bool
first_fits some [] = some
first_fits some (part ∷ parts) = (some || nat_lt 0 (length part)) && list_all is_letter_or_digit part && list_all is_subtag parts

nonempty : (part : List ℕ) (character : ℕ) → nat_lt 0 (length (character ∷ part)) ≡ true
nonempty part character = lt-ltb 0 (length (character ∷ part)) (omega arith)

split_fits : (characters : List ℕ) → first_fits false (slice_split is_hyphen characters) ≡ list_all is_subtag (slice_split is_hyphen characters)
split_fits [] = refl
split_fits (character ∷ characters) = by (is_hyphen character) refl
  where
    onto : (parts : List (List ℕ)) → first_fits false (onto_first character parts) ≡ list_all is_subtag (onto_first character parts)
    onto [] = refl
    onto (part ∷ parts) = refl

    by : (v : Bool) → is_hyphen character ≡ v → first_fits false (slice_split is_hyphen (character ∷ characters)) ≡ list_all is_subtag (slice_split is_hyphen (character ∷ characters))
    by true p = rw p refl
    by false p = rw p (onto (slice_split is_hyphen characters))

-- a part with one more character at its front
part_fits : (some : Bool) (character : ℕ) (parts : List (List ℕ)) → is_letter_or_digit character ≡ true → first_fits some (onto_first character parts) ≡ first_fits true parts
part_fits some character [] is = rw (is, or-true some) refl
part_fits some character (part ∷ parts) is = rw (is, nonempty part character, or-true some) refl

part_fails : (some : Bool) (character : ℕ) (parts : List (List ℕ)) → is_letter_or_digit character ≡ false → first_fits some (onto_first character parts) ≡ false
part_fails some character [] is = rw (is, or-true some) refl
part_fails some character (part ∷ parts) is = rw (is, nonempty part character, or-true some) refl

pub hyphen_alone : (character : ℕ) → is_letter_or_digit character ≡ true → is_hyphen character ≡ false
hyphen_alone character is = by (is_hyphen character) refl
  where
    by : (v : Bool) → is_hyphen character ≡ v → is_hyphen character ≡ false
    by false p = p
    by true p = let other : is_letter_or_digit 45 ≡ true = subst (λ (c : ℕ). is_letter_or_digit c ≡ true) (eqb-true character 45 p) is in absurd cc

hyphen_fits : (some rest : Bool) → some && rest ≡ (some || nat_lt 0 0) && true && rest
hyphen_fits true rest = refl
hyphen_fits false rest = refl

rest_fits : (some : Bool) (characters : List ℕ) → accepts true some characters ≡ first_fits some (slice_split is_hyphen characters)
rest_fits true [] = refl
rest_fits false [] = refl
rest_fits some (character ∷ characters) = by (is_letter_or_digit character) (is_hyphen character) refl refl (rest_fits true characters) (rest_fits false characters)
  where
    by : (letter hyphen : Bool) → is_letter_or_digit character ≡ letter → is_hyphen character ≡ hyphen → accepts true true characters ≡ first_fits true (slice_split is_hyphen characters) → accepts true false characters ≡ first_fits false (slice_split is_hyphen characters) → accepts true some (character ∷ characters) ≡ first_fits some (slice_split is_hyphen (character ∷ characters))
    by true hyphen p q later next = rw (p, hyphen_alone character p) (later ∙ sym (part_fits some character (slice_split is_hyphen characters) p))
    by false true p q later next = rw (p, q) (ap (λ (v : Bool). some && v) (next ∙ split_fits characters) ∙ hyphen_fits some (list_all is_subtag (slice_split is_hyphen characters)))
    by false false p q later next = rw (p, q) (sym (part_fails some character (slice_split is_hyphen characters) p))

-- whether the characters up to the first hyphen are letters
abbrev begins_letters : List ℕ → Bool
begins_letters characters = list_all is_letter (take_while (λ character. not (is_hyphen character)) characters)

begins_letters-cons : (character : ℕ) (characters : List ℕ) → begins_letters (character ∷ characters) ≡ cond (is_hyphen character) true (is_letter character && begins_letters characters)
begins_letters-cons character characters = ap (list_all is_letter) (take_while-cons (λ c. not (is_hyphen c)) character characters) ∙ by (is_hyphen character)
  where
    by : (v : Bool) → list_all is_letter (cond (not v) (character ∷ take_while (λ c. not (is_hyphen c)) characters) []) ≡ cond v true (is_letter character && begins_letters characters)
    by true = refl
    by false = refl

letter_either : (character : ℕ) → is_letter character ≡ true → is_letter_or_digit character ≡ true
letter_either character is = rw is refl

and_true : (v : Bool) → v ≡ v && true
and_true true = refl
and_true false = refl

tag_fits : (some : Bool) (characters : List ℕ) → accepts false some characters ≡ first_fits some (slice_split is_hyphen characters) && begins_letters characters
tag_fits true [] = refl
tag_fits false [] = refl
tag_fits some (character ∷ characters) = by (is_letter character) (is_hyphen character) refl refl (tag_fits true characters)
  where
    by : (letter hyphen : Bool) → is_letter character ≡ letter → is_hyphen character ≡ hyphen → accepts false true characters ≡ first_fits true (slice_split is_hyphen characters) && begins_letters characters → accepts false some (character ∷ characters) ≡ first_fits some (slice_split is_hyphen (character ∷ characters)) && begins_letters (character ∷ characters)
    by true hyphen p q later =
        let either = letter_either character p in
        rw (begins_letters-cons character characters, p, hyphen_alone character either)
        (later ∙ ap (λ (v : Bool). v && begins_letters characters) (sym (part_fits some character (slice_split is_hyphen characters) either)))
    by false true p q later =
        rw (begins_letters-cons character characters, p, q)
        (ap (λ (v : Bool). some && v) (rest_fits false characters ∙ split_fits characters) ∙ hyphen_fits some (list_all is_subtag (slice_split is_hyphen characters)) ∙ and_true _)
    by false false p q later =
        rw (begins_letters-cons character characters, p, q) (sym (and-false (first_fits some (onto_first character (slice_split is_hyphen characters)))))

pub tag_accepts : (tag : List ℕ) → is_language_tag tag ≡ accepts false false tag
tag_accepts tag = sym (tag_fits false tag ∙ ap (λ (v : Bool). v && begins_letters tag) (split_fits tag))

-- ---- the longest tag

abbrev pub TestFails : (List ℕ → Bool) → List ℕ → Type 0
TestFails test characters = (front rest : List ℕ) → characters ≡ front ++ rest → test front ≡ true → ⊥

abbrev pub IsCut : (List ℕ → Bool) → List ℕ → Type 0
IsCut test characters = (front rest : List ℕ) × (characters ≡ front ++ 45 ∷ rest) × IsLongest test front (45 ∷ rest)

abbrev pub IsTagOutcome : (List ℕ → Bool) → List ℕ → Option (List ℕ × List ℕ) → Type 0
IsTagOutcome test characters (Some found) = (characters ≡ found.0 ++ found.1) × IsLongest test found.0 found.1 × (begins_with 45 found.1 ≡ false)
IsTagOutcome test characters None = TestFails test characters ⊎ IsCut test characters

tag_goes_on : (test after : List ℕ → Bool) (character : ℕ) (characters : List ℕ) (o : Option (List ℕ × List ℕ)) → ((w : List ℕ) → test (character ∷ w) ≡ after w) → (TestFails after characters → IsTagOutcome test (character ∷ characters) None) → IsTagOutcome after characters o → IsTagOutcome test (character ∷ characters) (onto_tag character o)
tag_goes_on test after character characters (Some found) step none outcome = let long = outcome.1 in
    (ap (λ (t : List ℕ). character ∷ t) outcome.0, (step found.0 ∙ long.0, λ more further e h. long.1 more further e (sym (step (found.0 ++ more)) ∙ h)), outcome.2)
tag_goes_on test after character characters None step none (inl fails) = none fails
tag_goes_on test after character characters None step none (inr cut) = let long = cut.3 in
    inr (character ∷ cut.0, cut.1, ap (λ (t : List ℕ). character ∷ t) cut.2, (step cut.0 ∙ long.0, λ more further e h. long.1 more further e (sym (step (cut.0 ++ more)) ∙ h)))

front_of_none : (more further : List ℕ) → [] ≡ more ++ further → more ≡ []
front_of_none [] further e = refl
front_of_none (x ∷ more) further e = absurd cc

tag_outcome : (digits some : Bool) (characters : List ℕ) → IsTagOutcome (accepts digits some) characters (tag_from digits some characters)
unfolding tag_from
tag_outcome digits true [] = (refl, (refl, λ more further e h. front_of_none more further e), refl)
tag_outcome digits false [] = inl (λ front rest e h. fails front rest e h)
  where
    fails : (front rest : List ℕ) → [] ≡ front ++ rest → accepts digits false front ≡ true → ⊥
    fails [] rest e h = absurd cc
    fails (x ∷ front) rest e h = absurd cc
tag_outcome digits some (character ∷ characters) = by some (is_letter character || (digits && is_digit character)) (is_hyphen character) refl refl (tag_outcome digits true characters) (tag_outcome true false characters)
  where
    ends : (more further : List ℕ) → is_letter character || (digits && is_digit character) ≡ false → is_hyphen character ≡ false → character ∷ characters ≡ more ++ further → accepts digits true more ≡ true → more ≡ []
    ends [] further p q e h = refl
    ends (x ∷ more) further p q e h =
        let same : x ≡ character = cc in
        let here : accepts digits true (character ∷ more) ≡ true = subst (λ (c : ℕ). accepts digits true (c ∷ more) ≡ true) same h in
        let none = rw (p, q) at here in absurd cc

    cut : (more further : List ℕ) → is_letter character || (digits && is_digit character) ≡ false → is_hyphen character ≡ true → TestFails (accepts true false) characters → 45 ∷ characters ≡ more ++ further → accepts digits true more ≡ true → more ≡ []
    cut [] further p q none e h = refl
    cut (x ∷ more) further p q none e h =
        let hyphen : x ≡ 45 = cc in
        let same : x ≡ character = hyphen ∙ sym (eqb-true character 45 q) in
        let rest : characters ≡ more ++ further = cc in
        let here : accepts digits true (character ∷ more) ≡ true = subst (λ (c : ℕ). accepts digits true (c ∷ more) ≡ true) same h in
        let step = rw (p, q) at here in
        absurd (none more further rest step)

    fails : (front rest : List ℕ) → is_letter character || (digits && is_digit character) ≡ false → character ∷ characters ≡ front ++ rest → accepts digits false front ≡ true → ⊥
    fails [] rest p e h = absurd cc
    fails (x ∷ front) rest p e h =
        let same : x ≡ character = cc in
        let here : accepts digits false (character ∷ front) ≡ true = subst (λ (c : ℕ). accepts digits false (c ∷ front) ≡ true) same h in
        let step = rw p at here in
        let none : is_hyphen character && false ≡ false = and-false (is_hyphen character) in absurd cc

    by : (some letter hyphen : Bool) → is_letter character || (digits && is_digit character) ≡ letter → is_hyphen character ≡ hyphen → IsTagOutcome (accepts digits true) characters (tag_from digits true characters) → IsTagOutcome (accepts true false) characters (tag_from true false characters) → IsTagOutcome (accepts digits some) (character ∷ characters) (tag_from digits some (character ∷ characters))
    by some true hyphen p q later next =
        rw p (tag_goes_on (accepts digits some) (accepts digits true) character characters (tag_from digits true characters) (λ w. rw p refl) (λ none. absurd (none [] characters refl refl)) later)
    by true false true p q later next =
        rw (p, q) (tag_goes_on (accepts digits true) (accepts true false) character characters (tag_from true false characters) (λ w. rw (p, q) refl)
        (λ none. inr ([], characters, ap (λ (c : ℕ). c ∷ characters) (eqb-true character 45 q), (refl, λ more further e h. cut more further p q none e h))) next)
    by true false false p q later next = rw (p, q) (refl, (refl, λ more further e h. ends more further p q e h), q)
    by false false true p q later next = rw (p, q) (inl (λ front rest e h. fails front rest p e h))
    by false false false p q later next = rw (p, q) (inl (λ front rest e h. fails front rest p e h))

longest_by : (test other : List ℕ → Bool) (front rest : List ℕ) → ((w : List ℕ) → test w ≡ other w) → IsLongest test front rest → IsLongest other front rest
longest_by test other front rest same long = (sym (same front) ∙ long.0, λ more further e h. long.1 more further e (same (front ++ more) ∙ h))

-- what reading a tag gives, and why
abbrev pub IsLangOutcome : List ℕ → Option (List ℕ × List ℕ) → Type 0
IsLangOutcome inner (Some found) = (inner ≡ found.0 ++ found.1) × IsLongest is_language_tag found.0 found.1 × (begins_with 45 found.1 ≡ false)
IsLangOutcome inner None = IsNoTag inner ⊎ IsCutTag inner

lang_outcome_of : (inner : List ℕ) (o : Option (List ℕ × List ℕ)) → IsTagOutcome (accepts false false) inner o → IsLangOutcome inner o
lang_outcome_of inner (Some found) outcome = (outcome.0, longest_by (accepts false false) is_language_tag found.0 found.1 (λ w. sym (tag_accepts w)) outcome.1, outcome.2)
lang_outcome_of inner None (inl none) = inl (λ written rest e h. none written rest e (sym (tag_accepts written) ∙ h))
lang_outcome_of inner None (inr cut) = inr (cut.0, cut.1, cut.2, longest_by (accepts false false) is_language_tag cut.0 (45 ∷ cut.1) (λ w. sym (tag_accepts w)) cut.3)

pub lang_outcome : (inner : List ℕ) → IsLangOutcome inner (tag_from false false inner)
lang_outcome inner = lang_outcome_of inner (tag_from false false inner) (tag_outcome false false inner)

pub tag_again : (inner written rest : List ℕ) → inner ≡ written ++ rest → IsLongest is_language_tag written rest → begins_with 45 rest ≡ false → tag_from false false inner ≡ Some (written, rest)
tag_again inner written rest e long apart = by (tag_from false false inner) refl (lang_outcome inner)
  where
    by : (o : Option (List ℕ × List ℕ)) → tag_from false false inner ≡ o → IsLangOutcome inner o → tag_from false false inner ≡ Some (written, rest)
    by (Some found) is outcome =
        let same = longest_same is_language_tag found.0 found.1 written rest (sym outcome.0 ∙ e) outcome.1 long in
        is ∙ ap (λ (w : List ℕ). Some (w, found.1)) same.0 ∙ ap (λ (r : List ℕ). Some (written, r)) same.1
    by None is (inl none) = absurd (none written rest e long.0)
    by None is (inr cut) =
        let same = longest_same is_language_tag cut.0 (45 ∷ cut.1) written rest (sym cut.2 ∙ e) cut.3 long in
        let hyphen : begins_with 45 rest ≡ true = ap (begins_with 45) (sym same.1) in absurd cc

pub tag_fails_again : (inner : List ℕ) → IsNoTag inner ⊎ IsCutTag inner → tag_from false false inner ≡ None
tag_fails_again inner fault = by (tag_from false false inner) refl (lang_outcome inner) fault
  where
    by : (o : Option (List ℕ × List ℕ)) → tag_from false false inner ≡ o → IsLangOutcome inner o → IsNoTag inner ⊎ IsCutTag inner → tag_from false false inner ≡ None
    by None is outcome f = is
    by (Some found) is outcome (inl none) = absurd (none found.0 found.1 outcome.0 (outcome.1).0)
    by (Some found) is outcome (inr cut) =
        let same = longest_same is_language_tag cut.0 (45 ∷ cut.1) found.0 found.1 (sym cut.2 ∙ outcome.0) cut.3 outcome.1 in
        let apart = outcome.2 in
        let hyphen : begins_with 45 found.1 ≡ true = ap (begins_with 45) (sym same.1) in absurd cc

-- ---- labels

abbrev pub ends_dot : List ℕ → Bool
ends_dot [] = false
ends_dot (character ∷ []) = nat_eq character 46
ends_dot (character ∷ next ∷ characters) = ends_dot (next ∷ characters)

abbrev pub is_name : List ℕ → Bool
is_name characters = begins_label characters && list_all is_label_character characters && not (ends_dot characters)

-- a run of label characters, less its dots at the end
pub record IsRun (characters name rest : List ℕ) : Type 0 where
  pub whole : characters ≡ name ++ rest
  pub all : list_all is_label_character name ≡ true
  pub open_end : ends_dot name ≡ false
  pub long : (more further : List ℕ) → rest ≡ more ++ further → list_all is_label_character (name ++ more) ≡ true → ends_dot (name ++ more) ≡ false → more ≡ []

dot_later : (character : ℕ) (characters : List ℕ) → ends_dot (character ∷ characters) ≡ false → ends_dot characters ≡ false
dot_later character [] e = refl
dot_later character (next ∷ characters) e = e

pub run_of : (characters : List ℕ) → IsRun characters (name_at characters).0 (name_at characters).1
unfolding name_at
run_of [] = record { whole = refl; all = refl; open_end = refl; long = λ more further e h k. front_of_none more further e }
run_of (character ∷ characters) = by (is_label_character character) refl (run_of characters)
  where
    stops : (more further : List ℕ) → is_label_character character ≡ false → character ∷ characters ≡ more ++ further → list_all is_label_character more ≡ true → more ≡ []
    stops [] further p e h = refl
    stops (x ∷ more) further p e h =
        let same : x ≡ character = cc in
        let parts = and_parts (is_label_character x) (list_all is_label_character more) h in
        let yes = subst (λ (c : ℕ). is_label_character c ≡ true) same parts.0 in absurd cc

    dots : (more further : List ℕ) → character ≡ 46 → IsRun characters [] characters → character ∷ characters ≡ more ++ further → list_all is_label_character more ≡ true → ends_dot more ≡ false → more ≡ []
    dots [] further dot run e h k = refl
    dots (x ∷ more) further dot run e h k =
        let same : x ≡ character = cc in
        let rest : characters ≡ more ++ further = cc in
        let parts = and_parts (is_label_character x) (list_all is_label_character more) h in
        let none = run.long more further rest parts.1 (dot_later x more k) in
        let here : nat_eq x 46 ≡ false = subst (λ (m : List ℕ). ends_dot (x ∷ m) ≡ false) none k in
        let also : nat_eq x 46 ≡ true = eq-eqb x 46 (same ∙ dot) in absurd cc

    onto : (name rest : List ℕ) → is_label_character character ≡ true → IsRun characters name rest → ends_dot (character ∷ name) ≡ false → IsRun (character ∷ characters) (character ∷ name) rest
    onto name rest p run last = record {
      whole = ap (λ (t : List ℕ). character ∷ t) run.whole;
      all = and_from _ _ p run.all;
      open_end = last;
      long = λ more further e h k. run.long more further e (and_parts _ (list_all is_label_character (name ++ more)) h).1 (dot_later character (name ++ more) k);
    }

    short : (name after : List ℕ) (v : Bool) → nat_eq character 46 ≡ v → is_label_character character ≡ true → IsRun characters name after → IsRun (character ∷ characters) (onto_name character name after characters).0 (onto_name character name after characters).1
    short (next ∷ name) after v p letter run = onto (next ∷ name) after letter run run.open_end
    short [] after true p letter run =
        let itself = subst (λ (r : List ℕ). IsRun characters [] r) (sym run.whole) run in
        rw p (record { whole = refl; all = refl; open_end = refl; long = λ more further e h k. dots more further (eqb-true character 46 p) itself e h k })
    short [] after false p letter run = rw p (onto [] after letter run p)

    by : (v : Bool) → is_label_character character ≡ v → IsRun characters (name_at characters).0 (name_at characters).1 → IsRun (character ∷ characters) (name_at (character ∷ characters)).0 (name_at (character ∷ characters)).1
    by false p run = rw p (record { whole = refl; all = refl; open_end = refl; long = λ more further e h k. stops more further p e h })
    by true p run = rw p (short (name_at characters).0 (name_at characters).1 (nat_eq character 46) refl p run)

-- ---- labels as bytes

last_at : (xs ys : List ℕ) → 0 < length ys → ends_in_a_dot (xs ++ ys) ≡ ends_in_a_dot ys
last_at xs ys some =
    let count : length (xs ++ ys) - 1 ≡ length xs + (length ys - 1) = omega (arith, length-append xs ys, some) in
    ap (pointwise eqb (46 ∷ [])) (ap (λ (n : ℕ). drop n (xs ++ ys)) count ∙ drop-append-add xs ys (length ys - 1))

dot_alone : (character : ℕ) → pointwise eqb (46 ∷ []) (character ∷ []) ≡ nat_eq character 46
dot_alone character = by (nat_eq character 46) refl
  where
    by : (v : Bool) → nat_eq character 46 ≡ v → pointwise eqb (46 ∷ []) (character ∷ []) ≡ nat_eq character 46
    by true p = subst (λ (c : ℕ). pointwise eqb (46 ∷ []) (c ∷ []) ≡ nat_eq c 46) (sym (eqb-true character 46 p)) refl
    by false p = let other = ne_eqb 46 character (λ e. let yes = eq-eqb character 46 (sym e) in absurd cc) in rw (other, p) refl

encoded_dot : (character : ℕ) → ends_in_a_dot (encode_utf8 character) ≡ nat_eq character 46
unfolding encode_utf8
encoded_dot character = by (nat_lt character 128) (nat_lt character 2048) (nat_lt character 65536) refl refl refl
  where
    tail : (bits : ℕ) → nat_lt character 128 ≡ false → pointwise eqb (46 ∷ []) ((128 + bits % 64) ∷ []) ≡ nat_eq character 46
    tail bits p =
        let other = ne_eqb 46 (128 + bits % 64) (λ e. omega (arith, e)) in
        let large = ne_eqb character 46 (λ e. omega (arith, e, ltb-false character 128 p)) in
        rw (other, large) refl

    by : (one two three : Bool) → nat_lt character 128 ≡ one → nat_lt character 2048 ≡ two → nat_lt character 65536 ≡ three → ends_in_a_dot (encode_utf8 character) ≡ nat_eq character 46
    by true two three p q r = rw p (dot_alone character)
    by false true three p q r = rw (p, q) (tail character p)
    by false false true p q r = rw (p, q, r) (tail character p)
    by false false false p q r = rw (p, q, r) (tail character p)

encoded_some : (character : ℕ) → 0 < length (encode_utf8 character)
encoded_some character = let bound = len_utf8_bounds character in omega (arith, length-encode character, bound.0)

dot_encoded : (characters : List ℕ) → ends_in_a_dot (encode_utf8_all characters) ≡ ends_dot characters
dot_encoded [] = refl
dot_encoded (character ∷ []) = ap ends_in_a_dot (append-nil (encode_utf8 character)) ∙ encoded_dot character
dot_encoded (character ∷ next ∷ characters) =
    let some : 0 < length (encode_utf8_all (next ∷ characters)) = omega (arith, encoded_some next, length-append (encode_utf8 next) (encode_utf8_all characters)) in
    last_at (encode_utf8 character) (encode_utf8_all (next ∷ characters)) some ∙ dot_encoded (next ∷ characters)

pub utf8_encoded : (characters : List ℕ) → all_scalars characters ≡ true → is_utf8 (encode_utf8_all characters) ≡ true
utf8_encoded characters are = is_utf8-from_IsUtf8 (encode_utf8_all characters) (characters, (are, refl))

label_name : (characters : List ℕ) → all_scalars characters ≡ true → is_label_of characters ≡ is_name characters
label_name characters are =
    rw (utf8_encoded characters are, chars-encodes characters are, dot_encoded characters) refl

pub scalars_parts : (front rest : List ℕ) → all_scalars (front ++ rest) ≡ true → (all_scalars front ≡ true) × (all_scalars rest ≡ true)
scalars_parts [] rest are = (refl, are)
scalars_parts (character ∷ front) rest are =
    let parts = and_parts _ (all_scalars (front ++ rest)) are in
    let later = scalars_parts front rest parts.1 in
    (and_from _ _ parts.0 later.0, later.1)

pub scalars_joined : (front rest : List ℕ) → all_scalars front ≡ true → all_scalars rest ≡ true → all_scalars (front ++ rest) ≡ true
scalars_joined [] rest are also = also
scalars_joined (character ∷ front) rest are also =
    let parts = and_parts _ (all_scalars front) are in
    and_from _ _ parts.0 (scalars_joined front rest parts.1 also)

-- a label's first character is no dot
start_no_dot : (character : ℕ) → is_label_start character ≡ true → nat_eq character 46 ≡ false
start_no_dot character is = ne_eqb character 46 (λ e. let yes = subst (λ (c : ℕ). is_label_start c ≡ true) e is in absurd cc)

start_inside : (character : ℕ) → is_label_start character ≡ true → is_label_character character ≡ true
start_inside character is = by (is_name_start character) refl
  where
    by : (v : Bool) → is_name_start character ≡ v → is_label_character character ≡ true
    by true p = rw p refl
    by false p = let digit = rw p at is in rw (p, digit, or-true (nat_eq character 45)) refl

name_begins : (character : ℕ) (characters name rest : List ℕ) → is_label_start character ≡ true → IsRun (character ∷ characters) name rest → begins_label name ≡ true
name_begins character characters [] rest start run =
    let none = run.long (character ∷ []) characters (sym run.whole) (and_from _ _ (start_inside character start) refl) (start_no_dot character start) in absurd cc
name_begins character characters (x ∷ name) rest start run =
    let same : character ≡ x = let e = run.whole in cc in
    subst (λ (c : ℕ). is_label_start c ≡ true) same start

-- a run that begins as a label does is one, and the longest
run_label : (character : ℕ) (characters name rest : List ℕ) → is_label_start character ≡ true → all_scalars (character ∷ characters) ≡ true → IsRun (character ∷ characters) name rest → IsLongest is_label_of name rest
run_label character characters name rest start are run =
    let front = (scalars_parts name rest whole).0 in
    let closed : not (ends_dot name) ≡ true = ap not run.open_end in
    (label_name name front ∙ and_from _ _ (and_from _ _ (name_begins character characters name rest start run) run.all) closed, longer)
  where
    whole : all_scalars (name ++ rest) ≡ true
    whole = subst (λ (t : List ℕ). all_scalars t ≡ true) run.whole are

    longer : (more further : List ℕ) → rest ≡ more ++ further → is_label_of (name ++ more) ≡ true → more ≡ []
    longer more further e h =
        let some = (scalars_parts (name ++ more) further (subst (λ (t : List ℕ). all_scalars t ≡ true) (ap (λ (t : List ℕ). name ++ t) e ∙ sym (append_assoc name more further)) whole)).0 in
        let is : is_name (name ++ more) ≡ true = sym (label_name (name ++ more) some) ∙ h in
        let parts = and_parts (begins_label (name ++ more) && list_all is_label_character (name ++ more)) (not (ends_dot (name ++ more))) is in
        let inner = and_parts (begins_label (name ++ more)) (list_all is_label_character (name ++ more)) parts.0 in
        run.long more further e inner.1 (not-true (ends_dot (name ++ more)) parts.1)

pub label_taken : (inner : List ℕ) → begins_label inner ≡ true → all_scalars inner ≡ true → TakesLabel inner (encode_utf8_all (name_at inner).0) (name_at inner).1
label_taken [] start are = absurd cc
label_taken (character ∷ inner) start are =
    let run = run_of (character ∷ inner) in
    ((name_at (character ∷ inner)).0, run.whole, run_label character inner (name_at (character ∷ inner)).0 (name_at (character ∷ inner)).1 start are run, refl)

label_begins : (inner name rest : List ℕ) → all_scalars inner ≡ true → inner ≡ name ++ rest → is_label_of name ≡ true → begins_label inner ≡ true
label_begins inner [] rest are e is = let empty : is_name [] ≡ true = sym (label_name [] refl) ∙ is in absurd cc
label_begins inner (x ∷ name) rest are e is =
    let front = (scalars_parts (x ∷ name) rest (subst (λ (t : List ℕ). all_scalars t ≡ true) e are)).0 in
    let parts = and_parts (begins_label (x ∷ name) && list_all is_label_character (x ∷ name)) (not (ends_dot (x ∷ name))) (sym (label_name (x ∷ name) front) ∙ is) in
    ap begins_label e ∙ (and_parts (begins_label (x ∷ name)) (list_all is_label_character (x ∷ name)) parts.0).0

-- what a label's reading gives, where one is there
pub record ReadsLabel (inner label rest : List ℕ) : Type 0 where
  pub begins : begins_label inner ≡ true
  pub label_is : encode_utf8_all (name_at inner).0 ≡ label
  pub rest_is : (name_at inner).1 ≡ rest

pub label_again : (inner label rest : List ℕ) → all_scalars inner ≡ true → TakesLabel inner label rest → ReadsLabel inner label rest
label_again inner label rest are h =
    let begins = label_begins inner h.0 rest are h.1 (h.2).0 in
    let taken = label_taken inner begins are in
    let same = longest_same is_label_of taken.0 (name_at inner).1 h.0 rest (sym taken.1 ∙ h.1) taken.2 h.2 in
    record { begins = begins; label_is = taken.3 ∙ ap encode_utf8_all same.0 ∙ sym h.3; rest_is = same.1 }
