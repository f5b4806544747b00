-- The words of a command line, and what the reader makes of them.
use Rattle.std.proofs.Common.{◌≡◌, ℕ, ◌<◌, ◌≤◌, Bool, true, false, List, [], ◌∷◌, length, Option, Some, None, Result, Ok, Err, refl, ap, sym, subst, ◌∙◌, inl, inr}
use Rattle.std.specs.Prelude.{◌⊎◌, nat_lt, codes, is_some, if◌then◌else◌}
use Rattle.std.proofs.lemmas.Bool.{ltb-true, ltb-false, lt-ltb, le-ltb}
use Rattle.pcj_term.specs.Order.{same_bytes}
use Rattle.pcj_term.proofs.ByteLemmas.{same_bytes_are}
use Rattle.pcj_script.specs.declared.error.ScriptKind.{ScriptKind}
use Rattle.pcj_script.specs.declared.error.ScriptKind.TheVariants.{UnknownCommand, BadActor, BadNumber, BadName, TooLong}
use Rattle.pcj_script.specs.Words.{words_of}
use Rattle.pcj_script.specs.Places.{client_of, crashed_of, count_of, is_name}
use Rattle.pcj_script.specs.Commands.{Command, Begins, words_refusal}
use Rattle.pcj_script.specs.Commands.Command.{Load, Register, StepClient, Crash, Status, Answers, Scan}
use Rattle.pcj_script.specs.Reading.{with_place, with_text, one_word, two_words, three_words, words_opening, line_opening}

-- ---- a command is begun by its words

place_ok : {A : Type 0} (found : Option A) (kind : ScriptKind) (go : A → Result Command ScriptKind) (command : Command) → with_place found kind go ≡ Ok command →
    (x : A) × (found ≡ Some x) × (go x ≡ Ok command)
place_ok None kind go command h = absurd cc
place_ok (Some x) kind go command h = (x, refl, h)

if_ok : (test : Bool) (kind : ScriptKind) (made command : Command) → (if test then Ok made else Err kind) ≡ Ok command → (test ≡ true) × (made ≡ command)
if_ok true kind made command h = (refl, cc)
if_ok false kind made command h = absurd cc

ok_is : (made command : Command) (found : Result Command ScriptKind) → found ≡ Ok made → found ≡ Ok command → made ≡ command
ok_is made command found e h = let both : Ok made ≡ Ok command = sym e ∙ h in cc

begun_by_one : (word : List ℕ) (command : Command) → one_word word ≡ Ok command → Begins (word ∷ []) command
begun_by_one word command h = by (same_bytes word (codes "status")) (same_bytes word (codes "scan")) refl refl h
  where
    is : (name : List ℕ) → same_bytes word name ≡ true → word ∷ [] ≡ name ∷ []
    is name e = ap (λ w. w ∷ []) (same_bytes_are word name e)

    by : (status scan : Bool) → same_bytes word (codes "status") ≡ status → same_bytes word (codes "scan") ≡ scan →
        (if status then Ok Status else if scan then Ok (Scan []) else Err UnknownCommand) ≡ Ok command → Begins (word ∷ []) command
    by true scan s c e = subst (Begins (word ∷ [])) (ok_is _ _ _ refl e) (is (codes "status") s)
    by false true s c e = subst (Begins (word ∷ [])) (ok_is _ _ _ refl e) (is (codes "scan") c)
    by false false s c e = absurd cc

begun_by_two : (word other : List ℕ) (command : Command) → two_words word other ≡ Ok command → Begins (word ∷ other ∷ []) command
begun_by_two word other command h = by (same_bytes word (codes "load")) (same_bytes word (codes "crash")) (same_bytes word (codes "answers")) refl refl refl h
  where
    is : (name : List ℕ) → same_bytes word name ≡ true → word ∷ other ∷ [] ≡ name ∷ other ∷ []
    is name e = ap (λ w. w ∷ other ∷ []) (same_bytes_are word name e)

    by : (load crash answers : Bool) → same_bytes word (codes "load") ≡ load → same_bytes word (codes "crash") ≡ crash → same_bytes word (codes "answers") ≡ answers →
        (if load then with_place (client_of other) BadActor (λ client. Ok (Load client [])) else
        if crash then with_place (crashed_of other) BadActor (λ crashed. Ok (Crash crashed)) else
        if answers then (if is_name other then Ok (Answers other) else Err BadName) else Err UnknownCommand) ≡ Ok command → Begins (word ∷ other ∷ []) command
    by true crash answers l c a e =
        let found = place_ok (client_of other) BadActor _ command e in
        subst (Begins (word ∷ other ∷ [])) (ok_is _ _ _ refl found.2) (other, is (codes "load") l, found.1)
    by false true answers l c a e =
        let found = place_ok (crashed_of other) BadActor _ command e in
        subst (Begins (word ∷ other ∷ [])) (ok_is _ _ _ refl found.2) (other, is (codes "crash") c, found.1)
    by false false true l c a e =
        let found = if_ok (is_name other) BadName (Answers other) command e in
        subst (Begins (word ∷ other ∷ [])) found.1 (is (codes "answers") a, found.0)
    by false false false l c a e = absurd cc

begun_by_three : (word other third : List ℕ) (command : Command) → three_words word other third ≡ Ok command → Begins (word ∷ other ∷ third ∷ []) command
begun_by_three word other third command h = by (same_bytes word (codes "register")) (same_bytes word (codes "step")) refl refl h
  where
    is : (name : List ℕ) → same_bytes word name ≡ true → word ∷ other ∷ third ∷ [] ≡ name ∷ other ∷ third ∷ []
    is name e = ap (λ w. w ∷ other ∷ third ∷ []) (same_bytes_are word name e)

    by : (register step : Bool) → same_bytes word (codes "register") ≡ register → same_bytes word (codes "step") ≡ step →
        (if register then with_place (client_of other) BadActor (λ client. if is_name third then Ok (Register client third []) else Err BadName) else
        if step then with_place (client_of other) BadActor (λ client. with_place (count_of third) BadNumber (λ count. Ok (StepClient client count))) else
        Err UnknownCommand) ≡ Ok command → Begins (word ∷ other ∷ third ∷ []) command
    by true step r s e =
        let found = place_ok (client_of other) BadActor _ command e in
        let named = if_ok (is_name third) BadName (Register found.0 third []) command found.2 in
        subst (Begins (word ∷ other ∷ third ∷ [])) named.1 (other, is (codes "register") r, found.1, named.0)
    by false true r s e =
        let found = place_ok (client_of other) BadActor _ command e in
        let counted = place_ok (count_of third) BadNumber _ command found.2 in
        subst (Begins (word ∷ other ∷ third ∷ [])) (ok_is _ _ _ refl counted.2) (other, third, is (codes "step") s, found.1, counted.1)
    by false false r s e = absurd cc

pub begun_by_words : (words : List (List ℕ)) (command : Command) → words_opening words ≡ Ok command → Begins words command
begun_by_words [] command h = absurd cc
begun_by_words (word ∷ []) command h = begun_by_one word command h
begun_by_words (word ∷ other ∷ []) command h = begun_by_two word other command h
begun_by_words (word ∷ other ∷ third ∷ []) command h = begun_by_three word other third command h
begun_by_words (word ∷ other ∷ third ∷ further ∷ more) command h = absurd cc

-- ---- a command that is begun is found

pub words_found : (words : List (List ℕ)) (command : Command) → Begins words command → words_opening words ≡ Ok (with_text command [])
words_found words (Load client document) h = rw (h.1, h.2) refl
words_found words (Register client name text) h = rw (h.1, h.2, h.3) refl
words_found words (StepClient client count) h = rw (h.2, h.3, h.4) refl
words_found words (Crash crashed) h = rw (h.1, h.2) refl
words_found words Status h = rw h refl
words_found words (Answers name) h = rw (h.0, h.1) refl
words_found words (Scan text) h = rw h refl

-- ---- words are refused in one way

abbrev pub error_of : Result Command ScriptKind → Option ScriptKind
error_of (Ok command) = None
error_of (Err kind) = Some kind

place_error : {A : Type 0} (found : Option A) (kind : ScriptKind) (go : A → Result Command ScriptKind) (later : Option ScriptKind) → ((x : A) → later ≡ error_of (go x)) →
    (if is_some found then later else Some kind) ≡ error_of (with_place found kind go)
place_error None kind go later h = refl
place_error (Some x) kind go later h = h x

if_error : (test : Bool) (kind : ScriptKind) (made : Command) → (if test then None else Some kind) ≡ error_of (if test then Ok made else Err kind)
if_error true kind made = refl
if_error false kind made = refl

one_error : (word : List ℕ) → words_refusal (word ∷ []) ≡ error_of (one_word word)
one_error word = by (same_bytes word (codes "status")) (same_bytes word (codes "scan")) refl refl
  where
    by : (status scan : Bool) → same_bytes word (codes "status") ≡ status → same_bytes word (codes "scan") ≡ scan → words_refusal (word ∷ []) ≡ error_of (one_word word)
    by true scan s c = rw s refl
    by false true s c = rw (s, c) refl
    by false false s c = rw (s, c) refl

two_error : (word other : List ℕ) → words_refusal (word ∷ other ∷ []) ≡ error_of (two_words word other)
two_error word other = by (same_bytes word (codes "load")) (same_bytes word (codes "crash")) (same_bytes word (codes "answers")) refl refl refl
  where
    by : (load crash answers : Bool) → same_bytes word (codes "load") ≡ load → same_bytes word (codes "crash") ≡ crash → same_bytes word (codes "answers") ≡ answers →
        words_refusal (word ∷ other ∷ []) ≡ error_of (two_words word other)
    by true crash answers l c a = rw l (place_error (client_of other) BadActor (λ client. Ok (Load client [])) None (λ client. refl))
    by false true answers l c a = rw (l, c) (place_error (crashed_of other) BadActor (λ crashed. Ok (Crash crashed)) None (λ crashed. refl))
    by false false true l c a = rw (l, c, a) (if_error (is_name other) BadName (Answers other))
    by false false false l c a = rw (l, c, a) refl

three_error : (word other third : List ℕ) → words_refusal (word ∷ other ∷ third ∷ []) ≡ error_of (three_words word other third)
three_error word other third = by (same_bytes word (codes "register")) (same_bytes word (codes "step")) refl refl
  where
    by : (register step : Bool) → same_bytes word (codes "register") ≡ register → same_bytes word (codes "step") ≡ step →
        words_refusal (word ∷ other ∷ third ∷ []) ≡ error_of (three_words word other third)
    by true step r s =
        rw r (place_error (client_of other) BadActor _ _ (λ client. if_error (is_name third) BadName (Register client third [])))
    by false true r s =
        rw (r, s) (place_error (client_of other) BadActor _ _ (λ client. place_error (count_of third) BadNumber (λ count. Ok (StepClient client count)) None (λ count. refl)))
    by false false r s = rw (r, s) refl

pub words_error : (words : List (List ℕ)) → words_refusal words ≡ error_of (words_opening words)
words_error [] = refl
words_error (word ∷ []) = one_error word
words_error (word ∷ other ∷ []) = two_error word other
words_error (word ∷ other ∷ third ∷ []) = three_error word other third
words_error (word ∷ other ∷ third ∷ further ∷ more) = refl

-- ---- lines

pub opening_of_short : (line : List ℕ) → length line ≤ 1024 → line_opening line ≡ words_opening (words_of line)
opening_of_short line short = let few : nat_lt 1024 (length line) ≡ false = le-ltb 1024 (length line) short in rw few refl

pub opening_of_long : (line : List ℕ) → 1024 < length line → line_opening line ≡ Err TooLong
opening_of_long line long = let many : nat_lt 1024 (length line) ≡ true = lt-ltb 1024 (length line) long in rw many refl

abbrev pub IsShort : List ℕ → Result Command ScriptKind → Type 0
IsShort line found = (length line ≤ 1024) × (words_opening (words_of line) ≡ found)

abbrev pub IsLong : List ℕ → Result Command ScriptKind → Type 0
IsLong line found = (1024 < length line) × (found ≡ Err TooLong)

pub short_or_long : (line : List ℕ) (found : Result Command ScriptKind) → line_opening line ≡ found → IsShort line found ⊎ IsLong line found
short_or_long line found h = by (nat_lt 1024 (length line)) refl h
  where
    by : (long : Bool) → nat_lt 1024 (length line) ≡ long → (if long then Err TooLong else words_opening (words_of line)) ≡ found → IsShort line found ⊎ IsLong line found
    by true l e = inr (ltb-true 1024 (length line) l, sym e)
    by false l e = inl (ltb-false 1024 (length line) l, e)
