-- A script is read piece by piece as it is read whole.
use Rattle.std.proofs.Common.{◌≡◌, ℕ, zero, suc, ◌+◌, Bool, true, false, cond, List, [], ◌∷◌, ◌++◌, length, length-append, take, drop, drop-drop, refl, ap, sym, subst, ◌∙◌, inl, inr, append_assoc}
use Rattle.std.specs.Prelude.{◌⊎◌, ◌==◌}
use Rattle.std.proofs.lemmas.Bool.Decides.{Decides-eqb}
use Rattle.std.specs.List.{filter}
use Rattle.std.proofs.lemmas.Bool.{cases_Bool}
use Rattle.std.proofs.lemmas.List.Elements.{filter-append}
use Rattle.pcj_script.specs.Lines.{Line, onto_line, script_lines, lines_given, written, all_written, IsUsed}
use Rattle.pcj_script.specs.Commands.{Command}
use Rattle.pcj_script.specs.Commands.Command.{Load, Register, StepClient, Crash, Status, Answers, Scan}
use Rattle.pcj_script.specs.Front.{Front, HasFront, Follows, EndsText}
use Rattle.pcj_script.specs.Front.Front.{NoLine, Skipped, Whole, Open, Refused}
use Rattle.pcj_script.specs.Laws.{IsSettled, StandsWhateverFollows, GoesOnBehind}

-- ---- lines are written back

abbrev pub grown : ℕ → Line → Line
grown byte line = record { bytes = byte ∷ line.bytes; is_ended = line.is_ended }

grown_written : (byte : ℕ) (line : Line) → written (grown byte line) ≡ byte ∷ written line
grown_written byte line = elim (cases_Bool line.is_ended) [
  | inl has ↦ rw has refl
  | inr lacks ↦ rw lacks refl
]

onto_written : (byte : ℕ) (lines : List Line) → all_written (onto_line byte lines) ≡ byte ∷ all_written lines
onto_written byte [] = refl
onto_written byte (line ∷ lines) = ap (λ bs. bs ++ all_written lines) (grown_written byte line)

pub written_back : (bytes : List ℕ) → all_written (script_lines bytes) ≡ bytes
written_back [] = refl
written_back (byte ∷ bytes) = by (byte == 10) refl (written_back bytes)
  where
    by : (feed : Bool) → (byte == 10) ≡ feed → all_written (script_lines bytes) ≡ bytes → all_written (script_lines (byte ∷ bytes)) ≡ byte ∷ bytes
    by true f back = rw f (ap (λ bs. 10 ∷ bs) back ∙ ap (λ b. b ∷ bytes) (sym ((Decides-eqb byte 10).0 f)))
    by false f back = rw f (onto_written byte (script_lines bytes) ∙ ap (λ bs. byte ∷ bs) back)

-- ---- what stands behind the first line

-- the first line of more bytes: it ends there, or it is that of the bytes behind, grown, or all that there is
abbrev IsFirstOf : ℕ → List ℕ → Line → List Line → Type 0
IsFirstOf byte bytes line lines =
    ((line ≡ record { bytes = []; is_ended = true }) × (lines ≡ script_lines bytes))
    ⊎ ((line ≡ record { bytes = byte ∷ []; is_ended = false }) × (lines ≡ []) × (script_lines bytes ≡ []))
    ⊎ ((next : Line) × (line ≡ grown byte next) × (script_lines bytes ≡ next ∷ lines))

first_of_onto : (byte : ℕ) (bytes : List ℕ) (found : List Line) (line : Line) (lines : List Line) → script_lines bytes ≡ found → onto_line byte found ≡ line ∷ lines → IsFirstOf byte bytes line lines
first_of_onto byte bytes [] line lines is e =
    let same : line ≡ record { bytes = byte ∷ []; is_ended = false } = cc in
    let none : lines ≡ [] = cc in
    inr (inl (same, none, is))
first_of_onto byte bytes (next ∷ rest) line lines is e =
    let same : line ≡ grown byte next = cc in
    let tail : rest ≡ lines = cc in
    inr (inr (next, same, is ∙ ap (λ ls. next ∷ ls) tail))

first_of : (byte : ℕ) (bytes : List ℕ) (line : Line) (lines : List Line) → script_lines (byte ∷ bytes) ≡ line ∷ lines → IsFirstOf byte bytes line lines
first_of byte bytes line lines e = by (byte == 10) refl
  where
    by : (feed : Bool) → (byte == 10) ≡ feed → IsFirstOf byte bytes line lines
    by true f =
        let both : record { bytes = []; is_ended = true } ∷ script_lines bytes ≡ line ∷ lines = rw f at e in
        let same : line ≡ record { bytes = []; is_ended = true } = cc in
        let tail : lines ≡ script_lines bytes = cc in
        inl (same, tail)
    by false f =
        let onto : onto_line byte (script_lines bytes) ≡ line ∷ lines = rw f at e in
        first_of_onto byte bytes (script_lines bytes) line lines refl onto

behind_first : (bytes : List ℕ) (line : Line) (lines : List Line) → script_lines bytes ≡ line ∷ lines → script_lines (drop (length (written line)) bytes) ≡ lines
behind_first [] line lines e = absurd cc
behind_first (byte ∷ bytes) line lines e = elim (first_of byte bytes line lines e) [
  | inl h ↦ rw h.0 (sym h.1)
  | inr h ↦ elim h [
    | inl h ↦ rw h.0 (h.2 ∙ sym h.1)
    | inr h ↦ rw (h.1, grown_written byte h.0) (behind_first bytes h.0 lines h.2)
  ]
]

-- only the last line may be without its LF
open_last : (bytes : List ℕ) (line : Line) (lines : List Line) → script_lines bytes ≡ line ∷ lines → line.is_ended ≡ false → lines ≡ []
open_last [] line lines e lacks = absurd cc
open_last (byte ∷ bytes) line lines e lacks = elim (first_of byte bytes line lines e) [
  | inl h ↦ let bad : true ≡ false = ap (λ (l : Line). l.is_ended) (sym h.0) ∙ lacks in absurd cc
  | inr h ↦ elim h [
    | inl h ↦ h.1
    | inr h ↦ open_last bytes h.0 lines h.2 (ap (λ (l : Line). l.is_ended) (sym h.1) ∙ lacks)
  ]
]

abbrev ended_of : List Line → List Line
ended_of lines = filter (λ line. line.is_ended) lines

if_true : {A : Type 0} (test : Bool) (a b : A) → test ≡ true → cond test a b ≡ a
if_true true a b e = refl
if_true false a b e = absurd cc

if_false : {A : Type 0} (test : Bool) (a b : A) → test ≡ false → cond test a b ≡ b
if_false true a b e = absurd cc
if_false false a b e = refl

ended_first : (line : Line) (lines : List Line) → line.is_ended ≡ true → ended_of (line ∷ lines) ≡ line ∷ ended_of lines
ended_first line lines has = if_true line.is_ended (line ∷ ended_of lines) (ended_of lines) has

open_first : (line : Line) (lines : List Line) → line.is_ended ≡ false → ended_of (line ∷ lines) ≡ ended_of lines
open_first line lines lacks = if_false line.is_ended (line ∷ ended_of lines) (ended_of lines) lacks

behind_ended : (bytes : List ℕ) (found : List Line) (line : Line) (lines : List Line) → script_lines bytes ≡ found → ended_of found ≡ line ∷ lines →
    ended_of (script_lines (drop (length (written line)) bytes)) ≡ lines
behind_ended bytes [] line lines is e = absurd cc
behind_ended bytes (first ∷ rest) line lines is e = elim (cases_Bool first.is_ended) [
  | inl has ↦
      let both : first ∷ ended_of rest ≡ line ∷ lines = sym (ended_first first rest has) ∙ e in
      let same : line ≡ first = cc in
      let tail : ended_of rest ≡ lines = cc in
      rw same (ap ended_of (behind_first bytes first rest is) ∙ tail)
  | inr lacks ↦
      let none : ended_of rest ≡ line ∷ lines = sym (open_first first rest lacks) ∙ e in
      let bad : [] ≡ line ∷ lines = ap ended_of (sym (open_last bytes first rest is lacks)) ∙ none in absurd cc
]

behind_given : (ended : Bool) (bytes : List ℕ) (line : Line) (lines : List Line) → lines_given ended bytes ≡ line ∷ lines → lines_given ended (drop (length (written line)) bytes) ≡ lines
behind_given true bytes line lines e = behind_first bytes line lines e
behind_given false bytes line lines e = behind_ended bytes (script_lines bytes) line lines refl e

pub behind : (ended : Bool) (count : ℕ) (bytes : List ℕ) (found : List Line) (used : ℕ) → lines_given ended bytes ≡ found → IsUsed found count used → lines_given ended (drop used bytes) ≡ drop count found
behind ended zero bytes found used is u = rw u is
behind ended (suc count) bytes [] used is u = rw u is
behind ended (suc count) bytes (line ∷ lines) used is u =
    let size : used ≡ length (written line) + length (all_written (take count lines)) = u ∙ length-append (written line) (all_written (take count lines)) in
    let next = behind_given ended bytes line lines is in
    rw (size, sym (drop-drop (length (all_written (take count lines))) (length (written line)) bytes))
    (behind ended count (drop (length (written line)) bytes) lines (length (all_written (take count lines))) next refl)

-- ---- more bytes

abbrev GoesOnWith : List ℕ → List ℕ → List Line → Type 0
GoesOnWith bytes more found = (rest : List Line) × (script_lines (bytes ++ more) ≡ ended_of found ++ rest)

onto_is : (byte : ℕ) (bytes : List ℕ) → (byte == 10) ≡ false → script_lines (byte ∷ bytes) ≡ onto_line byte (script_lines bytes)
onto_is byte bytes f = rw f refl

onto_goes_on : (byte : ℕ) (bytes more : List ℕ) (found : List Line) → script_lines bytes ≡ found → (byte == 10) ≡ false → GoesOnWith bytes more found → GoesOnWith (byte ∷ bytes) more (onto_line byte found)
onto_goes_on byte bytes more [] is f h = (script_lines (byte ∷ (bytes ++ more)), refl)
onto_goes_on byte bytes more (line ∷ lines) is f h = elim (cases_Bool line.is_ended) [
  | inl has ↦
      let goes : script_lines (bytes ++ more) ≡ line ∷ (ended_of lines ++ h.0) = h.1 ∙ ap (λ ls. ls ++ h.0) (ended_first line lines has) in
      (h.0, onto_is byte (bytes ++ more) f ∙ ap (onto_line byte) goes ∙ ap (λ ls. ls ++ h.0) (sym (ended_first (grown byte line) lines has)))
  | inr lacks ↦
      let none : ended_of (grown byte line ∷ lines) ≡ [] = open_first (grown byte line) lines lacks ∙ ap ended_of (open_last bytes line lines is lacks) in
      (script_lines (byte ∷ (bytes ++ more)), ap (λ ls. ls ++ script_lines (byte ∷ (bytes ++ more))) (sym none))
]

goes_on_with : (bytes more : List ℕ) → GoesOnWith bytes more (script_lines bytes)
goes_on_with [] more = (script_lines more, refl)
goes_on_with (byte ∷ bytes) more = by (byte == 10) refl (goes_on_with bytes more)
  where
    by : (feed : Bool) → (byte == 10) ≡ feed → GoesOnWith bytes more (script_lines bytes) → GoesOnWith (byte ∷ bytes) more (script_lines (byte ∷ bytes))
    by true f later = (later.0, rw f (ap (λ ls. record { bytes = []; is_ended = true } ∷ ls) later.1))
    by false f later = subst (GoesOnWith (byte ∷ bytes) more) (sym (onto_is byte bytes f)) (onto_goes_on byte bytes more (script_lines bytes) refl f later)

ended_stay : (lines : List Line) → ended_of (ended_of lines) ≡ ended_of lines
ended_stay [] = refl
ended_stay (line ∷ lines) = elim (cases_Bool line.is_ended) [
  | inl has ↦ ap ended_of (ended_first line lines has) ∙ ended_first line (ended_of lines) has ∙ ap (λ ls. line ∷ ls) (ended_stay lines) ∙ sym (ended_first line lines has)
  | inr lacks ↦ ap ended_of (open_first line lines lacks) ∙ ended_stay lines ∙ sym (open_first line lines lacks)
]

pub given_more : (ended : Bool) (bytes more : List ℕ) → (rest : List Line) × (lines_given ended (bytes ++ more) ≡ lines_given false bytes ++ rest)
given_more true bytes more = goes_on_with bytes more
given_more false bytes more =
    let whole = goes_on_with bytes more in (
      ended_of whole.0,
      ap ended_of whole.1 ∙ filter-append (λ (line : Line). line.is_ended) (ended_of (script_lines bytes)) whole.0
          ∙ ap (λ ls. ls ++ ended_of whole.0) (ended_stay (script_lines bytes)),
    )

-- ---- what stands at the front of lines stands there whatever follows

text_stays : (lines rest : List Line) (text : List ℕ) (count : ℕ) → EndsText lines text count → EndsText (lines ++ rest) text count
text_stays lines rest text count h = record {
  own = h.own;
  last = h.last;
  after = h.after ++ rest;
  is = ap (λ ls. ls ++ rest) h.is ∙ append_assoc h.own (h.last ∷ h.after) rest;
  goes_on = h.goes_on;
  end = h.end;
  joined = h.joined;
  counted = h.counted;
}

follows_still : (lines rest : List Line) (command : Command) (count : ℕ) → Follows lines command count → Follows (lines ++ rest) command count
follows_still lines rest (Load client document) count h = text_stays lines rest document count h
follows_still lines rest (Register client name text) count h = text_stays lines rest text count h
follows_still lines rest (StepClient client steps) count h = h
follows_still lines rest (Crash crashed) count h = h
follows_still lines rest Status count h = h
follows_still lines rest (Answers name) count h = h
follows_still lines rest (Scan text) count h = text_stays lines rest text count h

pub front_stays : (lines rest : List Line) (front : Front) → IsSettled front → HasFront lines front → HasFront (lines ++ rest) front
front_stays lines rest NoLine s h = absurd s
front_stays lines rest Skipped s h = (h.0, h.1 ++ rest, ap (λ ls. ls ++ rest) h.2, h.3)
front_stays lines rest (Whole command count) s h = record {
  first = h.first;
  more = h.more ++ rest;
  following = h.following;
  is = ap (λ ls. ls ++ rest) h.is;
  begins = h.begins;
  follows = follows_still h.more rest command h.following h.follows;
  counted = h.counted;
}
front_stays lines rest Open s h = absurd s
front_stays lines rest (Refused before kind) s (inl h) =
    inl (record { first = h.first; more = h.more ++ rest; is = ap (λ ls. ls ++ rest) h.is; looked_at = h.looked_at; long = h.long; kind_is = h.kind_is; counted = h.counted })
front_stays lines rest (Refused before kind) s (inr (inl h)) =
    inr (inl (record { first = h.first; more = h.more ++ rest; is = ap (λ ls. ls ++ rest) h.is; looked_at = h.looked_at; short = h.short; refused = h.refused; counted = h.counted }))
front_stays lines rest (Refused before kind) s (inr (inr h)) = inr (inr (record {
  first = h.first;
  more = h.more ++ rest;
  command = h.command;
  own = h.own;
  is = ap (λ ls. ls ++ rest) h.is;
  begins = h.begins;
  has_text = h.has_text;
  passes = record {
    own = h.passes.own;
    line = h.passes.line;
    after = h.passes.after ++ rest;
    is = ap (λ ls. ls ++ rest) h.passes.is ∙ append_assoc h.passes.own (h.passes.line ∷ h.passes.after) rest;
    goes_on = h.passes.goes_on;
    not_end = h.passes.not_end;
    passes = h.passes.passes;
    counted = h.passes.counted;
  };
  kind_is = h.kind_is;
  counted = h.counted;
}))

pub stands_still : StandsWhateverFollows
stands_still ended bytes more front settled h =
    let given = given_more ended bytes more in
    subst (λ lines. HasFront lines front) (sym given.1) (front_stays (lines_given false bytes) given.0 front settled h)

pub goes_on_behind : GoesOnBehind
goes_on_behind ended bytes count used u = behind ended count bytes (lines_given ended bytes) used refl u
