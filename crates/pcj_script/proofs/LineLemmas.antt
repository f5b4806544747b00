-- The first line of a text, by the place of its LF, and what a line says.
use Rattle.std.proofs.Common.{◌≡◌, ◌≢◌, ℕ, zero, suc, ◌+◌, ◌<◌, Bool, true, false, Option, Some, None, List, [], ◌∷◌, ◌++◌, length, length-append, get_or, take, drop, refl, ap, sym, ◌∙◌, arith, append-nil, Bor}
use Rattle.std.specs.List.{filter}
use Rattle.std.specs.Prelude.{◌==◌, MatchOption}
use Rattle.std.specs.Option.{unwrap_or}
use Rattle.std.proofs.lemmas.Bool.{false_from_ne_true}
use Rattle.std.proofs.lemmas.Bool.Decides.{Decides-eqb}
use Rattle.std.proofs.lemmas.List.{take_more}
use Rattle.std.proofs.lemmas.List.{take-append-drop}
use Rattle.memchr.specs.Find.{IsFirstByte, is_byte}
use Rattle.pcj_script.specs.Lines.{Line, onto_line, script_lines, lines_given, without_return}
use Rattle.pcj_script.specs.Reading.{IsFirstLine}

-- ---- the CR before an LF

pub return_goes : (bytes : List ℕ) → without_return (bytes ++ 13 ∷ []) ≡ bytes
return_goes [] = refl
return_goes (byte ∷ []) = refl
return_goes (byte ∷ next ∷ bytes) = ap (λ bs. byte ∷ bs) (return_goes (next ∷ bytes))

pub all_stays : (bytes : List ℕ) → ((front : List ℕ) → bytes ≢ front ++ 13 ∷ []) → without_return bytes ≡ bytes
all_stays [] h = refl
all_stays (byte ∷ []) h = rw (other (byte == 13) refl) refl
  where
    other : (v : Bool) → (byte == 13) ≡ v → (byte == 13) ≡ false
    other false e = e
    other true e = absurd (h [] (ap (λ b. b ∷ []) ((Decides-eqb byte 13).0 e)))
all_stays (byte ∷ next ∷ bytes) h = ap (λ bs. byte ∷ bs) (all_stays (next ∷ bytes) (λ front e. h (byte ∷ front) (ap (λ bs. byte ∷ bs) e)))

pub said_is : (bytes : Bor (List ℕ)) (found : Option (Bor (List ℕ))) → MatchOption found ((front : List ℕ) → bytes.now ≢ front ++ 13 ∷ []) (λ x. bytes.now ≡ x.now ++ 13 ∷ []) →
    (unwrap_or found bytes).now ≡ without_return bytes.now
said_is bytes None h = sym (all_stays bytes.now h)
said_is bytes (Some front) h = sym (ap without_return h ∙ return_goes front.now)

-- ---- the first line

pub not_empty : (text : List ℕ) (is_empty : Bool) → is_empty ≡ (length text == 0) → is_empty ≡ false → 0 < length text
not_empty [] is_empty e none = let bad : true ≡ false = sym e ∙ none in cc
not_empty (byte ∷ bytes) is_empty e none = omega arith

goes_on : (byte : ℕ) (bytes : List ℕ) → (byte == 10) ≡ false → script_lines (byte ∷ bytes) ≡ onto_line byte (script_lines bytes)
goes_on byte bytes h = rw h refl

pub line_stops : (text : List ℕ) (at : ℕ) → at < length text → (get_or text at 0 == 10) ≡ true → ((k : ℕ) → k < at → (get_or text k 0 == 10) ≡ false) →
    script_lines text ≡ record { bytes = take at text; is_ended = true } ∷ script_lines (drop (suc at) text)
line_stops [] at within end no_end = absurd (omega arith)
line_stops (byte ∷ bytes) zero within end no_end = rw end refl
line_stops (byte ∷ bytes) (suc at) within end no_end =
    let rest = line_stops bytes at (omega arith) end (λ k lt. no_end (suc k) (omega arith)) in
    goes_on byte bytes (no_end 0 (omega arith)) ∙ ap (onto_line byte) rest

pub line_ends : (text : List ℕ) → 0 < length text → ((k : ℕ) → k < length text → (get_or text k 0 == 10) ≡ false) →
    script_lines text ≡ record { bytes = text; is_ended = false } ∷ []
line_ends [] within no_end = absurd (omega arith)
line_ends (byte ∷ []) within no_end = goes_on byte [] (no_end 0 (omega arith))
line_ends (byte ∷ next ∷ bytes) within no_end =
    let rest = line_ends (next ∷ bytes) (omega arith) (λ k lt. no_end (suc k) (omega arith)) in
    goes_on byte (next ∷ bytes) (no_end 0 (omega arith)) ∙ ap (onto_line byte) rest

pub without_feed : (text : List ℕ) → IsFirstByte (is_byte 10) text None → 0 < length text → script_lines text ≡ record { bytes = text; is_ended = false } ∷ []
without_feed text none some = line_ends text some (λ k lt. false_from_ne_true _ (none k (omega arith) lt))

pub ended_given : (ended : Bool) (text rest : List ℕ) (line : Line) → line.is_ended ≡ true → script_lines text ≡ line ∷ script_lines rest → lines_given ended text ≡ line ∷ lines_given ended rest
ended_given true text rest line is e = e
ended_given false text rest line is e = ap (filter (λ (l : Line). l.is_ended)) e ∙ rw is refl

pub first_ended : (ended : Bool) (text : List ℕ) (at : ℕ) → IsFirstByte (is_byte 10) text (Some at) → IsFirstLine ended text (record { bytes = take at text; is_ended = true }) (drop (at + 1) text)
first_ended ended text at h =
    let feed : get_or text at 0 ≡ 10 = (Decides-eqb (get_or text at 0) 10).0 h.1 in
    let next : suc at ≡ at + 1 = omega arith in
    let front : take (at + 1) text ≡ take at text ++ 10 ∷ [] = take_more text at 0 h.0.high ∙ ap (λ byte. take at text ++ byte ∷ []) feed in
    record {
      given = ended_given ended text (drop (at + 1) text) (record { bytes = take at text; is_ended = true }) refl
          (line_stops text at h.0.high h.1 (λ k lt. false_from_ne_true _ (h.0.before k (omega arith) lt)) ∙ rw (sym next) refl);
      is = sym (take-append-drop (at + 1) text) ∙ ap (λ bs. bs ++ drop (at + 1) text) front;
      some = omega (arith, length-append (take at text) (10 ∷ []));
    }

pub last_line : (text : List ℕ) → IsFirstByte (is_byte 10) text None → 0 < length text → IsFirstLine true text (record { bytes = text; is_ended = false }) []
last_line text none some = record { given = without_feed text none some; is = sym (append-nil text); some = some }

pub none_given : (text : List ℕ) → IsFirstByte (is_byte 10) text None → lines_given false text ≡ []
none_given [] none = refl
none_given (byte ∷ bytes) none = ap (filter (λ (l : Line). l.is_ended)) (without_feed (byte ∷ bytes) none (omega arith))
