-- The lowest place so far, and those to come.
use Rattle.std.proofs.Common.{◌≡◌, ℕ, ◌+◌, ◌<◌, Bool, true, false, cond, List, [], ◌∷◌, length, drop, map, filter, get_or, ◌++◌, Option, Some, None, refl, ap, sym, ◌∙◌, arith, add-one, drop-cons}
use Rattle.pcj_grammar.specs.declared.lexeme.Lexeme.{Lexeme}
use Rattle.pcj_translate.specs.Uses.{place_of}
use Rattle.pcj_translate.specs.Places.{lower, lowest_of, lower_of}

abbrev pub lowest_in : (Lexeme → Bool) → List Lexeme → Option ℕ
lowest_in test ls = lowest_of (map place_of (filter test ls))

pub exchanged : (place : ℕ) (old later : Option ℕ) → lower_of (lower place old) later ≡ lower_of old (lower place later)
exchanged place None later = refl
exchanged place (Some other) None = ap (λ (n : ℕ). Some n) (omega arith)
exchanged place (Some other) (Some third) = ap (λ (n : ℕ). Some n) (omega arith)

pub nothing_later : (old : Option ℕ) → lower_of old None ≡ old
nothing_later None = refl
nothing_later (Some place) = refl

head_step : (test : Lexeme → Bool) (l : Lexeme) (ls : List Lexeme) (v : Bool) → test l ≡ v → lowest_in test (l ∷ ls) ≡ cond v (lower l.at (lowest_in test ls)) (lowest_in test ls)
head_step test l ls true e = rw e refl
head_step test l ls false e = rw e refl

pub place_taken : (test : Lexeme → Bool) (ls : List Lexeme) (i : ℕ) (d : Lexeme) (old : Option ℕ) → i < length ls → test (get_or ls i d) ≡ true → lower_of (lower (get_or ls i d).at old) (lowest_in test (drop (i + 1) ls)) ≡ lower_of old (lowest_in test (drop i ls))
place_taken test ls i d old within passes =
    exchanged (get_or ls i d).at old (lowest_in test (drop (i + 1) ls))
    ∙ ap (lower_of old) (sym (head_step test (get_or ls i d) (drop (i + 1) ls) true passes) ∙ ap (λ (x : List Lexeme). lowest_in test (get_or ls i d ∷ x)) (ap (λ (n : ℕ). drop n ls) (add-one i)) ∙ ap (lowest_in test) (sym (drop-cons ls i d within)))

pub place_passed : (test : Lexeme → Bool) (ls : List Lexeme) (i : ℕ) (d : Lexeme) (old : Option ℕ) → i < length ls → test (get_or ls i d) ≡ false → lower_of old (lowest_in test (drop (i + 1) ls)) ≡ lower_of old (lowest_in test (drop i ls))
place_passed test ls i d old within fails =
    ap (lower_of old) (sym (head_step test (get_or ls i d) (drop (i + 1) ls) false fails) ∙ ap (λ (x : List Lexeme). lowest_in test (get_or ls i d ∷ x)) (ap (λ (n : ℕ). drop n ls) (add-one i)) ∙ ap (lowest_in test) (sym (drop-cons ls i d within)))

pub lower_both : (place : ℕ) (o other : Option ℕ) → lower place (lower_of o other) ≡ lower_of (lower place o) other
lower_both place None other = refl
lower_both place (Some n) None = refl
lower_both place (Some n) (Some m) = ap (λ (k : ℕ). Some k) (omega arith)

-- the lowest place of two lists is the lower of theirs
pub lowest_of_both : (places others : List ℕ) → lowest_of (places ++ others) ≡ lower_of (lowest_of places) (lowest_of others)
lowest_of_both [] others = refl
lowest_of_both (place ∷ places) others = ap (lower place) (lowest_of_both places others) ∙ lower_both place (lowest_of places) (lowest_of others)
