-- What the reader makes of the first line and of the text behind it stands at the front.
use Rattle.std.proofs.Common.{◌≡◌, ℕ, ◌+◌, Bool, false, List, ◌∷◌, length, length-append, take, Ok, Err, refl, ap, sym, subst, ◌∙◌, arith, inl, inr, add-one, append-nil}
use Rattle.pcj_script.specs.declared.error.ScriptKind.{ScriptKind}
use Rattle.pcj_script.specs.declared.error.ScriptKind.TheVariants.{TooLong}
use Rattle.pcj_script.specs.declared.opening.Begun.{Begun}
use Rattle.pcj_script.specs.declared.opening.Begun.TheVariants as begins
use Rattle.pcj_script.specs.declared.command.Command.{Command as Sliced}
use Rattle.pcj_script.specs.declared.command.Command.TheVariants as sliced
use Rattle.pcj_script.specs.Lines.{Line, written, all_written, said, IsUsed}
use Rattle.pcj_script.specs.Words.{words_of}
use Rattle.pcj_script.specs.Commands.{Command, command_of}
use Rattle.pcj_script.specs.Commands.Command.{Load, Register, StepClient, Crash, Status, Answers, Scan}
use Rattle.pcj_script.specs.Front.{is_skipped, BeginsCommand, WholeCommand, IsRefused, HasText, Follows, EndsText, PassesLimit}
use Rattle.pcj_script.specs.Reading.{IsFirstLine, line_opening, begun, with_text}
use Rattle.pcj_script.specs.Told.{RefusesLine}
use Rattle.pcj_script.proofs.OpeningLemmas.{begun_by_words, words_error, error_of, short_or_long}

pub command_begins : (line : List ℕ) (command : Command) → is_skipped line ≡ false → line_opening line ≡ Ok command → BeginsCommand line command
command_begins line command looked_at h = elim (short_or_long line (Ok command) h) [
  | inl short ↦ record { looked_at = looked_at; short = short.0; words = begun_by_words (words_of line) command short.1 }
  | inr long ↦ let bad = long.1 in absurd cc
]

pub line_refused : (first : Line) (more : List Line) (kind : ScriptKind) → is_skipped (said first) ≡ false → line_opening (said first) ≡ Err kind → IsRefused (first ∷ more) 0 kind
line_refused first more kind looked_at h = elim (short_or_long (said first) (Err kind) h) [
  | inl short ↦ inr (inl (record { first = first; more = more; is = refl; looked_at = looked_at; short = short.0; refused = words_error (words_of (said first)) ∙ ap error_of short.1; counted = refl }))
  | inr long ↦ inl (record { first = first; more = more; is = refl; looked_at = looked_at; long = long.0; kind_is = let same = long.1 in cc; counted = refl })
]

-- ---- a command with a text

begins_with_text : (line : List ℕ) (command : Command) (text : List ℕ) → BeginsCommand line command → BeginsCommand line (with_text command text)
begins_with_text line (Load client document) text h = record { looked_at = h.looked_at; short = h.short; words = h.words }
begins_with_text line (Register client name query) text h = record { looked_at = h.looked_at; short = h.short; words = h.words }
begins_with_text line (StepClient client count) text h = h
begins_with_text line (Crash crashed) text h = h
begins_with_text line Status text h = h
begins_with_text line (Answers name) text h = h
begins_with_text line (Scan query) text h = record { looked_at = h.looked_at; short = h.short; words = h.words }

text_follows : (more : List Line) (command : Begun) (text : List ℕ) (count : ℕ) → EndsText more text count → Follows more (with_text (begun command) text) count
text_follows more (begins.Load client) text count h = h
text_follows more (begins.Register client name) text count h = h
text_follows more begins.Scan text count h = h

pub has_text : (command : Begun) → HasText (begun command)
has_text (begins.Load client) = tt
has_text (begins.Register client name) = tt
has_text begins.Scan = tt

pub whole_with_text : (first : Line) (more : List Line) (command : Begun) (given : Command) (text : List ℕ) (count size used : ℕ) →
    BeginsCommand (said first) (begun command) → given ≡ with_text (begun command) text → EndsText more text count → IsUsed more count used → size ≡ length (written first) →
    WholeCommand (first ∷ more) given (count + 1) × IsUsed (first ∷ more) (count + 1) (size + used)
whole_with_text first more command given text count size used begin is ends counted sized = (
  record {
    first = first;
    more = more;
    following = count;
    is = refl;
    begins = subst (BeginsCommand (said first)) (sym is) (begins_with_text (said first) (begun command) text begin);
    follows = subst (λ c. Follows more c count) (sym is) (text_follows more command text count ends);
    counted = refl;
  },
  omega (arith, sized, counted, used_with first more count),
)
  where
    used_with : (first : Line) (more : List Line) (count : ℕ) → length (all_written (take (count + 1) (first ∷ more))) ≡ length (written first) + length (all_written (take count more))
    used_with first more count = rw add-one (length-append (written first) (all_written (take count more)))

pub text_too_long : (first : Line) (more : List Line) (command : Begun) (before : ℕ) → BeginsCommand (said first) (begun command) → PassesLimit more before →
    IsRefused (first ∷ more) (before + 1) TooLong
text_too_long first more command before begin passes =
    inr (inr (record { first = first; more = more; command = begun command; own = before; is = refl; begins = begin; has_text = has_text command; passes = passes; kind_is = refl; counted = refl }))

-- ---- a command without a text

pub nothing_follows : (more : List Line) (command : Sliced) → (HasText (command_of command) → ⊥) → Follows more (command_of command) 0
nothing_follows more (sliced.Load client document) h = absurd (h tt)
nothing_follows more (sliced.Register client name text) h = absurd (h tt)
nothing_follows more (sliced.StepClient client count) h = refl
nothing_follows more (sliced.Crash crashed) h = refl
nothing_follows more sliced.Status h = refl
nothing_follows more (sliced.Answers name) h = refl
nothing_follows more (sliced.Scan text) h = absurd (h tt)

pub whole_without_text : (lines more : List Line) (first : Line) (command : Sliced) (used : ℕ) → lines ≡ first ∷ more → is_skipped (said first) ≡ false →
    line_opening (said first) ≡ Ok (command_of command) → (HasText (command_of command) → ⊥) → used ≡ length (written first) →
    WholeCommand lines (command_of command) 1 × IsUsed lines 1 used
whole_without_text lines more first command used is looked_at opens none sized = (
  record {
    first = first;
    more = more;
    following = 0;
    is = is;
    begins = command_begins (said first) (command_of command) looked_at opens;
    follows = nothing_follows more command none;
    counted = refl;
  },
  rw is (sized ∙ sym (ap length (append-nil (written first)))),
)

pub refused_at_first : (ended : Bool) (line : ℕ) (lines more : List Line) (first : Line) (kind : ScriptKind) → lines ≡ first ∷ more → is_skipped (said first) ≡ false →
    line_opening (said first) ≡ Err kind → RefusesLine ended line lines line kind
refused_at_first ended line lines more first kind is looked_at opens =
    inl (0, subst (λ ls. IsRefused ls 0 kind) (sym is) (line_refused first more kind looked_at opens), omega arith)

pub sizes_of : (ended : Bool) (text : List ℕ) (first : Line) (rest : List ℕ) → IsFirstLine ended text first rest → length text ≡ length (written first) + length rest
sizes_of ended text first rest h = ap length h.is ∙ length-append (written first) rest
