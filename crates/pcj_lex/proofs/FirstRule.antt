-- The first rule that fits, and what begins with a token.
use Rattle.std.proofs.Common.{◌≡◌, ℕ, ◌+◌, ◌<◌, ◌≤◌, get_or, drop, drop-cons, add-one, Bool, true, false, List, [], ◌∷◌, ◌++◌, Option, Some, None, refl, ap, sym, subst, ◌∙◌, inl, inr}
use Rattle.std.specs.Bool.{then_some}
use Rattle.std.proofs.Math.ListN.{drop_of_length-le}
use Rattle.pcj_ntriples.specs.Term.{IsLongest}
use Rattle.pcj_ntriples.proofs.Names.{longest_same}
use Rattle.pcj_lex.specs.declared.rule.Rule.{Rule}
use Rattle.pcj_lex.specs.declared.rule.Rule.TheVariants as rows
use Rattle.pcj_lex.specs.declared.state.State.TheVariants as states
use Rattle.pcj_lex.specs.declared.token.TokenKind.{TokenKind}
use Rattle.pcj_lex.specs.Rules.{has_form, may_follow, kind_of, token_rules, Fits, FitsNowhere, IsFirst, NoneFits, Begins, StartsNone}
use Rattle.pcj_lex.specs.Reading.{accepts, after_longest, fitting, or_else, first_of}
use Rattle.pcj_lex.proofs.Forms.{form_accepts, no_form_empty}
use Rattle.pcj_lex.proofs.Longest.{IsLeft, left_of}

-- ---- a step over a rule

pub first_none : (rule : Rule) (rules : List Rule) (characters : List ℕ) → after_longest (states.Start rule) characters ≡ None → first_of (rule ∷ rules) characters ≡ first_of rules characters
unfolding first_of
first_none rule rules characters none = ap (λ (o : Option (List ℕ)). or_else (fitting rule o) (first_of rules characters)) none

pub first_some : (rule : Rule) (rules : List Rule) (characters rest : List ℕ) (v : Bool) → after_longest (states.Start rule) characters ≡ Some rest → may_follow rule rest ≡ v → first_of (rule ∷ rules) characters ≡ or_else (then_some v (rule, rest)) (first_of rules characters)
unfolding first_of
first_some rule rules characters rest v some follows =
    ap (λ (o : Option (List ℕ)). or_else (fitting rule o) (first_of rules characters)) some
    ∙ ap (λ (w : Bool). or_else (then_some w (rule, rest)) (first_of rules characters)) follows

-- ---- which rule fits

fit_same : (rule : Rule) (characters w r v s : List ℕ) → Fits rule characters w r → Fits rule characters v s → (w ≡ v) × (r ≡ s)
fit_same rule characters w r v s f g = longest_same (has_form rule) w r v s (sym f.whole ∙ g.whole) f.longest g.longest

nothing_fits : (rule : Rule) (characters : List ℕ) → IsLeft (states.Start rule) characters None → FitsNowhere rule characters
nothing_fits rule characters left w s f =
    let is : accepts (states.Start rule) w ≡ true = sym (form_accepts rule w) ∙ (f.longest).0 in
    let empty : w ≡ [] = left w s f.whole is in
    let here : accepts (states.Start rule) [] ≡ true = subst (λ (t : List ℕ). accepts (states.Start rule) t ≡ true) empty is in
    let no = no_form_empty rule in absurd cc

longest_form : (rule : Rule) (front rest : List ℕ) → IsLongest (accepts (states.Start rule)) front rest → IsLongest (has_form rule) front rest
longest_form rule front rest long = (form_accepts rule front ∙ long.0, λ more further e h. long.1 more further e (sym (form_accepts rule (front ++ more)) ∙ h))

fits_with : (rule : Rule) (characters rest : List ℕ) (left : IsLeft (states.Start rule) characters (Some rest)) → may_follow rule rest ≡ true → Fits rule characters left.0 rest
fits_with rule characters rest left follows = record { whole = left.1; longest = longest_form rule left.0 rest left.2; follows = follows }

fits_without : (rule : Rule) (characters rest : List ℕ) → IsLeft (states.Start rule) characters (Some rest) → may_follow rule rest ≡ false → FitsNowhere rule characters
fits_without rule characters rest left not_so w s f =
    let same = longest_same (has_form rule) w s left.0 rest (sym f.whole ∙ left.1) f.longest (longest_form rule left.0 rest left.2) in
    let here : may_follow rule rest ≡ true = subst (λ (t : List ℕ). may_follow rule t ≡ true) same.1 f.follows in absurd cc

-- what is found, and why
abbrev pub IsFound : List Rule → List ℕ → Option (Rule × List ℕ) → Type 0
IsFound rules characters None = NoneFits rules characters
IsFound rules characters (Some found) = (written : List ℕ) × IsFirst rules characters found.0 written found.1

passed_over : (rule : Rule) (rules : List Rule) (characters : List ℕ) (o : Option (Rule × List ℕ)) → FitsNowhere rule characters → IsFound rules characters o → IsFound (rule ∷ rules) characters o
passed_over rule rules characters None nowhere found = (nowhere, found)
passed_over rule rules characters (Some f) nowhere found = (found.0, inr (nowhere, found.1))

found_by : (rule : Rule) (rules : List Rule) (characters : List ℕ) (o : Option (List ℕ)) → after_longest (states.Start rule) characters ≡ o → IsLeft (states.Start rule) characters o → IsFound rules characters (first_of rules characters) → IsFound (rule ∷ rules) characters (first_of (rule ∷ rules) characters)
found_by rule rules characters None is left later =
    subst (IsFound (rule ∷ rules) characters) (sym (first_none rule rules characters is)) (passed_over rule rules characters (first_of rules characters) (nothing_fits rule characters left) later)
found_by rule rules characters (Some rest) is left later = by (may_follow rule rest) refl
  where
    by : (v : Bool) → may_follow rule rest ≡ v → IsFound (rule ∷ rules) characters (first_of (rule ∷ rules) characters)
    by true p = subst (IsFound (rule ∷ rules) characters) (sym (first_some rule rules characters rest true is p)) (left.0, inl (refl, fits_with rule characters rest left p))
    by false p = subst (IsFound (rule ∷ rules) characters) (sym (first_some rule rules characters rest false is p)) (passed_over rule rules characters (first_of rules characters) (fits_without rule characters rest left p) later)

pub found_of : (rules : List Rule) (characters : List ℕ) → IsFound rules characters (first_of rules characters)
unfolding first_of
found_of [] characters = tt
found_of (rule ∷ rules) characters = found_by rule rules characters (after_longest (states.Start rule) characters) refl (left_of (states.Start rule) characters) (found_of rules characters)

-- ---- one rule is the first

first_same : (rules : List Rule) (characters : List ℕ) (r q : Rule) (w s v t : List ℕ) → IsFirst rules characters r w s → IsFirst rules characters q v t → (r ≡ q) × (w ≡ v) × (s ≡ t)
first_same [] characters r q w s v t f g = absurd f
first_same (rule ∷ rules) characters r q w s v t (inl f) (inl g) = let same = fit_same rule characters w s v t f.1 g.1 in (f.0 ∙ sym g.0, same.0, same.1)
first_same (rule ∷ rules) characters r q w s v t (inl f) (inr g) = absurd (g.0 w s f.1)
first_same (rule ∷ rules) characters r q w s v t (inr f) (inl g) = absurd (f.0 v t g.1)
first_same (rule ∷ rules) characters r q w s v t (inr f) (inr g) = first_same rules characters r q w s v t f.1 g.1

first_apart : (rules : List Rule) (characters : List ℕ) (r : Rule) (w s : List ℕ) → NoneFits rules characters → IsFirst rules characters r w s → ⊥
first_apart [] characters r w s none f = f
first_apart (rule ∷ rules) characters r w s none (inl f) = none.0 w s f.1
first_apart (rule ∷ rules) characters r w s none (inr f) = first_apart rules characters r w s none.1 f.1

empty_parts : (w s : List ℕ) → [] ≡ w ++ s → w ≡ []
empty_parts [] s e = refl
empty_parts (x ∷ w) s e = absurd cc

first_of_none : (rules : List Rule) (r : Rule) (w s : List ℕ) → IsFirst rules [] r w s → ⊥
first_of_none [] r w s f = f
first_of_none (rule ∷ rules) r w s (inl f) =
    let fits = f.1 in
    let empty = empty_parts w s fits.whole in
    let here : has_form rule [] ≡ true = subst (λ (t : List ℕ). has_form rule t ≡ true) empty (fits.longest).0 in
    let no = form_accepts rule [] ∙ no_form_empty rule in absurd cc
first_of_none (rule ∷ rules) r w s (inr f) = first_of_none rules r w s f.1

-- ---- one token begins

some_kind : (o : Option TokenKind) (k j : TokenKind) → o ≡ Some k → o ≡ Some j → k ≡ j
some_kind None k j e f = absurd cc
some_kind (Some x) k j e f = cc

pub begins_same : (characters : List ℕ) (k j : TokenKind) (w s v t : List ℕ) → Begins characters k w s → Begins characters j v t → (k ≡ j) × (w ≡ v) × (s ≡ t)
begins_same characters k j w s v t b d =
    let same = first_same token_rules characters b.rule d.rule w s v t b.first d.first in
    (some_kind (kind_of b.rule) k j b.kind_is (ap kind_of same.0 ∙ d.kind_is), same.1, same.2)

pub begins_apart : (characters : List ℕ) (k : TokenKind) (w s : List ℕ) → Begins characters k w s → StartsNone characters → ⊥
begins_apart characters k w s b (inl none) = first_apart token_rules characters b.rule w s none b.first
begins_apart characters k w s b (inr open_one) =
    let same = first_same token_rules characters b.rule open_one.0 w s open_one.1 open_one.2 b.first open_one.3 in
    let is : kind_of open_one.0 ≡ Some k = sym (ap kind_of same.0) ∙ b.kind_is in
    let no = open_one.4 in absurd cc

pub begins_none : (k : TokenKind) (w s : List ℕ) → Begins [] k w s → ⊥
begins_none k w s b = first_of_none token_rules b.rule w s b.first

front_of : (rules : List Rule) (characters : List ℕ) (r : Rule) (w s : List ℕ) → IsFirst rules characters r w s → characters ≡ w ++ s
front_of [] characters r w s f = absurd f
front_of (rule ∷ rules) characters r w s (inl f) = let fits = f.1 in fits.whole
front_of (rule ∷ rules) characters r w s (inr f) = front_of rules characters r w s f.1

some_written : (rules : List Rule) (characters : List ℕ) (r : Rule) (w s : List ℕ) → IsFirst rules characters r w s → w ≡ [] → ⊥
some_written [] characters r w s f none = f
some_written (rule ∷ rules) characters r w s (inl f) none =
    let fits = f.1 in
    let here : has_form rule [] ≡ true = subst (λ (t : List ℕ). has_form rule t ≡ true) none (fits.longest).0 in
    let no = form_accepts rule [] ∙ no_form_empty rule in absurd cc
some_written (rule ∷ rules) characters r w s (inr f) none = some_written rules characters r w s f.1 none

pub begins_some : (characters : List ℕ) (k : TokenKind) (w s : List ℕ) → Begins characters k w s → w ≡ [] → ⊥
begins_some characters k w s b none = some_written token_rules characters b.rule w s b.first none

pub begins_whole : (characters : List ℕ) (k : TokenKind) (w s : List ℕ) → Begins characters k w s → characters ≡ w ++ s
begins_whole characters k w s b = front_of token_rules characters b.rule w s b.first

-- what is begun, by the rule that is found
abbrev pub IsBegun : List ℕ → Option (Rule × List ℕ) → Type 0
IsBegun characters None = StartsNone characters
IsBegun characters (Some found) = (written : List ℕ) × (characters ≡ written ++ found.1) × ((k : TokenKind) → kind_of found.0 ≡ Some k → Begins characters k written found.1) × (kind_of found.0 ≡ None → StartsNone characters)

begun_by : (characters : List ℕ) (o : Option (Rule × List ℕ)) → IsFound token_rules characters o → IsBegun characters o
begun_by characters None none = inl none
begun_by characters (Some found) first = (
  first.0,
  front_of token_rules characters found.0 first.0 found.1 first.1,
  λ k is. record { rule = found.0; first = first.1; kind_is = is },
  λ none. inr (found.0, first.0, found.1, first.1, none),
)

pub begun_of : (characters : List ℕ) → IsBegun characters (first_of token_rules characters)
begun_of characters = begun_by characters (first_of token_rules characters) (found_of token_rules characters)

-- ---- the loop over the rules

-- the rule at a place of the list
abbrev pub rule_at : ℕ → Rule
rule_at i = get_or token_rules i rows.LongQuotes

rules_from : (i : ℕ) → i < 15 → drop i token_rules ≡ rule_at i ∷ drop (i + 1) token_rules
rules_from i within = drop-cons token_rules i rows.LongQuotes within ∙ ap (λ (n : ℕ). rule_at i ∷ drop n token_rules) (sym (add-one i))

pub rule_found : (i : ℕ) (characters rest : List ℕ) → i < 15 → after_longest (states.Start (rule_at i)) characters ≡ Some rest → may_follow (rule_at i) rest ≡ true → first_of (drop i token_rules) characters ≡ first_of token_rules characters → Some (rule_at i, rest) ≡ first_of token_rules characters
rule_found i characters rest within some follows so_far =
    sym (first_some (rule_at i) (drop (i + 1) token_rules) characters rest true some follows) ∙ ap (λ (rules : List Rule). first_of rules characters) (sym (rules_from i within)) ∙ so_far

pub rule_over : (i : ℕ) (characters : List ℕ) → i < 15 → after_longest (states.Start (rule_at i)) characters ≡ None → first_of (drop i token_rules) characters ≡ first_of token_rules characters → first_of (drop (i + 1) token_rules) characters ≡ first_of token_rules characters
rule_over i characters within none so_far =
    sym (first_none (rule_at i) (drop (i + 1) token_rules) characters none) ∙ ap (λ (rules : List Rule). first_of rules characters) (sym (rules_from i within)) ∙ so_far

pub rule_barred : (i : ℕ) (characters rest : List ℕ) → i < 15 → after_longest (states.Start (rule_at i)) characters ≡ Some rest → may_follow (rule_at i) rest ≡ false → first_of (drop i token_rules) characters ≡ first_of token_rules characters → first_of (drop (i + 1) token_rules) characters ≡ first_of token_rules characters
rule_barred i characters rest within some follows so_far =
    sym (first_some (rule_at i) (drop (i + 1) token_rules) characters rest false some follows) ∙ ap (λ (rules : List Rule). first_of rules characters) (sym (rules_from i within)) ∙ so_far

pub rules_over : (i : ℕ) (characters : List ℕ) → 15 ≤ i → first_of (drop i token_rules) characters ≡ first_of token_rules characters → None ≡ first_of token_rules characters
unfolding first_of
rules_over i characters past so_far = ap (λ (rules : List Rule). first_of rules characters) (sym (drop_of_length-le token_rules past)) ∙ so_far
