-- Exactly one thing stands at the front of some lines.
use Rattle.std.proofs.Common.{◌≡◌, ℕ, ◌+◌, Bool, true, false, cond, List, [], ◌∷◌, Some, Result, Ok, Err, refl, ap, sym, ◌∙◌, inl, inr}
use Rattle.pcj_script.specs.declared.error.ScriptKind.{ScriptKind}
use Rattle.pcj_script.specs.declared.error.ScriptKind.TheVariants.{TooLong}
use Rattle.pcj_script.specs.Lines.{Line, said}
use Rattle.pcj_script.specs.Words.{words_of}
use Rattle.pcj_script.specs.Commands.{Command, words_refusal}
use Rattle.pcj_script.specs.Commands.Command.{Load, Register, StepClient, Crash, Status, Answers, Scan}
use Rattle.pcj_script.specs.Front.{Front, HasFront, is_skipped, BeginsCommand, Follows, HasText, EndsText}
use Rattle.pcj_script.specs.Front.Front.{NoLine, Skipped, Whole, Open, Refused}
use Rattle.pcj_script.specs.Reading.{line_opening, words_opening, with_text}
use Rattle.pcj_script.proofs.OpeningLemmas.{words_found, words_error, error_of, opening_of_short, opening_of_long}
use Rattle.pcj_script.proofs.FrontLemmas.{command_begins, line_refused}
use Rattle.pcj_script.proofs.TextEnds.{TextFront, HasTextFront, one_text_front, some_text_front}
use Rattle.pcj_script.proofs.TextEnds.TextFront.{Ends, Passes, Goes}

-- ---- what stands there, by the first line and the end of the text behind it

abbrev with_text_front : Command → TextFront → Front
with_text_front command (Ends text count) = Whole (with_text command text) (count + 1)
with_text_front command (Passes before) = Refused (before + 1) TooLong
with_text_front command Goes = Open

abbrev opened_front : Result Command ScriptKind → TextFront → Front
opened_front (Err kind) text = Refused 0 kind
opened_front (Ok (Load client document)) text = with_text_front (Load client document) text
opened_front (Ok (Register client name query)) text = with_text_front (Register client name query) text
opened_front (Ok (StepClient client count)) text = Whole (StepClient client count) 1
opened_front (Ok (Crash crashed)) text = Whole (Crash crashed) 1
opened_front (Ok Status) text = Whole Status 1
opened_front (Ok (Answers name)) text = Whole (Answers name) 1
opened_front (Ok (Scan query)) text = with_text_front (Scan query) text

abbrev front_of : Line → TextFront → Front
front_of first text = cond (is_skipped (said first)) Skipped (opened_front (line_opening (said first)) text)

-- ---- no other thing stands there

opens : (line : List ℕ) (command : Command) → BeginsCommand line command → line_opening line ≡ Ok (with_text command [])
opens line command h = opening_of_short line h.short ∙ words_found (words_of line) command h.words

error_is : (found : Result Command ScriptKind) (kind : ScriptKind) → error_of found ≡ Some kind → found ≡ Err kind
error_is (Ok command) kind h = absurd cc
error_is (Err other) kind h = let same : other ≡ kind = cc in ap Err same

whole_is : (first : Line) (more : List Line) (command : Command) (following : ℕ) (text : TextFront) → BeginsCommand (said first) command → Follows more command following → HasTextFront more text →
    Whole command (following + 1) ≡ front_of first text
whole_is first more (Load client document) following text begins follows h =
    rw (begins.looked_at, opens (said first) (Load client document) begins, one_text_front more text (Ends document following) h follows) refl
whole_is first more (Register client name query) following text begins follows h =
    rw (begins.looked_at, opens (said first) (Register client name query) begins, one_text_front more text (Ends query following) h follows) refl
whole_is first more (StepClient client count) following text begins follows h = rw (begins.looked_at, opens (said first) (StepClient client count) begins, follows) refl
whole_is first more (Crash crashed) following text begins follows h = rw (begins.looked_at, opens (said first) (Crash crashed) begins, follows) refl
whole_is first more Status following text begins follows h = rw (begins.looked_at, opens (said first) Status begins, follows) refl
whole_is first more (Answers name) following text begins follows h = rw (begins.looked_at, opens (said first) (Answers name) begins, follows) refl
whole_is first more (Scan query) following text begins follows h =
    rw (begins.looked_at, opens (said first) (Scan query) begins, one_text_front more text (Ends query following) h follows) refl

text_is : (first : Line) (more : List Line) (command : Command) (text other : TextFront) → BeginsCommand (said first) command → HasText command → HasTextFront more text → HasTextFront more other →
    with_text_front (with_text command []) other ≡ front_of first text
text_is first more (Load client document) text other begins has h o =
    rw (begins.looked_at, opens (said first) (Load client document) begins, one_text_front more text other h o) refl
text_is first more (Register client name query) text other begins has h o =
    rw (begins.looked_at, opens (said first) (Register client name query) begins, one_text_front more text other h o) refl
text_is first more (StepClient client count) text other begins has h o = absurd has
text_is first more (Crash crashed) text other begins has h o = absurd has
text_is first more Status text other begins has h o = absurd has
text_is first more (Answers name) text other begins has h o = absurd has
text_is first more (Scan query) text other begins has h o =
    rw (begins.looked_at, opens (said first) (Scan query) begins, one_text_front more text other h o) refl

refused_is : (first : Line) (text : TextFront) (kind : ScriptKind) → is_skipped (said first) ≡ false → line_opening (said first) ≡ Err kind → Refused 0 kind ≡ front_of first text
refused_is first text kind looked_at opening = rw (looked_at, opening) refl

abbrev IsFirst : Line → List Line → Line → List Line → Type 0
IsFirst first more other rest = (other ≡ first) × (rest ≡ more)

is_first : (first other : Line) (more rest : List Line) → first ∷ more ≡ other ∷ rest → IsFirst first more other rest
is_first first other more rest e = (cc, cc)

front_is : (first : Line) (more : List Line) (text : TextFront) (front : Front) → HasTextFront more text → HasFront (first ∷ more) front → front ≡ front_of first text
front_is first more text NoLine t h = absurd cc
front_is first more text Skipped t h =
    let skipped : is_skipped (said first) ≡ true = rw (is_first first h.0 more h.1 h.2).0 at h.3 in
    rw skipped refl
front_is first more text (Whole command count) t h =
    let at = is_first first h.first more h.more h.is in
    ap (Whole command) h.counted ∙ whole_is first more command h.following text (rw at.0 at h.begins) (rw at.1 at h.follows) t
front_is first more text Open t h =
    let at = is_first first h.first more h.more h.is in
    text_is first more h.command text Goes (rw at.0 at h.begins) h.has_text t (rw at.1 at h.goes_on)
front_is first more text (Refused before kind) t (inl h) =
    let at = is_first first h.first more h.more h.is in
    rw (h.counted, h.kind_is) (refused_is first text TooLong (rw at.0 at h.looked_at) (opening_of_long (said first) (rw at.0 at h.long)))
front_is first more text (Refused before kind) t (inr (inl h)) =
    let at = is_first first h.first more h.more h.is in
    let refused : words_refusal (words_of (said first)) ≡ Some kind = rw at.0 at h.refused in
    rw h.counted (refused_is first text kind (rw at.0 at h.looked_at)
    (opening_of_short (said first) (rw at.0 at h.short) ∙ error_is (words_opening (words_of (said first))) kind (sym (words_error (words_of (said first))) ∙ refused)))
front_is first more text (Refused before kind) t (inr (inr h)) =
    let at = is_first first h.first more h.more h.is in
    rw (h.counted, h.kind_is) (text_is first more h.command text (Passes h.own) (rw at.0 at h.begins) h.has_text t (rw at.1 at h.passes))

no_line_is : (front : Front) → HasFront [] front → front ≡ NoLine
no_line_is NoLine h = refl
no_line_is Skipped h = let e = h.2 in absurd cc
no_line_is (Whole command count) h = let e = h.is in absurd cc
no_line_is Open h = let e = h.is in absurd cc
no_line_is (Refused before kind) (inl h) = let e = h.is in absurd cc
no_line_is (Refused before kind) (inr (inl h)) = let e = h.is in absurd cc
no_line_is (Refused before kind) (inr (inr h)) = let e = h.is in absurd cc

pub one_front : (lines : List Line) (front other : Front) → HasFront lines front → HasFront lines other → front ≡ other
one_front [] front other a b = no_line_is front a ∙ sym (no_line_is other b)
one_front (first ∷ more) front other a b =
    let text = some_text_front more in
    front_is first more text.0 front text.1 a ∙ sym (front_is first more text.0 other text.1 b)

-- ---- something stands there

text_stands : (first : Line) (more : List Line) (command : Command) (text : TextFront) → BeginsCommand (said first) command → HasText command → HasTextFront more text →
    ((given : List ℕ) → BeginsCommand (said first) (with_text command given)) → ((given : List ℕ) (count : ℕ) → EndsText more given count → Follows more (with_text command given) count) →
    HasFront (first ∷ more) (with_text_front command text)
text_stands first more command (Ends text count) begins has h also follows =
    record { first = first; more = more; following = count; is = refl; begins = also text; follows = follows text count h; counted = refl }
text_stands first more command (Passes before) begins has h also follows =
    inr (inr (record { first = first; more = more; command = command; own = before; is = refl; begins = begins; has_text = has; passes = h; kind_is = refl; counted = refl }))
text_stands first more command Goes begins has h also follows =
    record { first = first; more = more; command = command; is = refl; begins = begins; has_text = has; goes_on = h }

whole_stands : (first : Line) (more : List Line) (command : Command) → BeginsCommand (said first) command → Follows more command 0 → HasFront (first ∷ more) (Whole command 1)
whole_stands first more command begins follows = record { first = first; more = more; following = 0; is = refl; begins = begins; follows = follows; counted = refl }

opened_stands : (first : Line) (more : List Line) (text : TextFront) (found : Result Command ScriptKind) → HasTextFront more text → is_skipped (said first) ≡ false → line_opening (said first) ≡ found →
    HasFront (first ∷ more) (opened_front found text)
opened_stands first more text (Err kind) h looked_at e = line_refused first more kind looked_at e
opened_stands first more text (Ok (Load client document)) h looked_at e =
    let begins = command_begins (said first) (Load client document) looked_at e in
    text_stands first more (Load client document) text begins tt h (λ given. record { looked_at = looked_at; short = begins.short; words = begins.words }) (λ given count ends. ends)
opened_stands first more text (Ok (Register client name query)) h looked_at e =
    let begins = command_begins (said first) (Register client name query) looked_at e in
    text_stands first more (Register client name query) text begins tt h (λ given. record { looked_at = looked_at; short = begins.short; words = begins.words }) (λ given count ends. ends)
opened_stands first more text (Ok (StepClient client count)) h looked_at e = whole_stands first more _ (command_begins (said first) _ looked_at e) refl
opened_stands first more text (Ok (Crash crashed)) h looked_at e = whole_stands first more _ (command_begins (said first) _ looked_at e) refl
opened_stands first more text (Ok Status) h looked_at e = whole_stands first more _ (command_begins (said first) _ looked_at e) refl
opened_stands first more text (Ok (Answers name)) h looked_at e = whole_stands first more _ (command_begins (said first) _ looked_at e) refl
opened_stands first more text (Ok (Scan query)) h looked_at e =
    let begins = command_begins (said first) (Scan query) looked_at e in
    text_stands first more (Scan query) text begins tt h (λ given. record { looked_at = looked_at; short = begins.short; words = begins.words }) (λ given count ends. ends)

front_stands : (first : Line) (more : List Line) (text : TextFront) → HasTextFront more text → HasFront (first ∷ more) (front_of first text)
front_stands first more text h = by (is_skipped (said first)) refl
  where
    by : (skipped : Bool) → is_skipped (said first) ≡ skipped → HasFront (first ∷ more) (front_of first text)
    by true s = rw s (first, more, refl, s)
    by false s = rw s (opened_stands first more text (line_opening (said first)) h s refl)

pub some_front : (lines : List Line) → (front : Front) × HasFront lines front
some_front [] = (NoLine, refl)
some_front (first ∷ more) =
    let text = some_text_front more in
    (front_of first text.0, front_stands first more text.0 text.1)
