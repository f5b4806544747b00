-- The first word of a line, by the place of the space behind it.
use Rattle.std.proofs.Common.{◌≡◌, ℕ, zero, suc, ◌<◌, true, false, Option, Some, None, List, [], ◌∷◌, length, get_or, take, drop, refl, ap, sym, ◌∙◌, arith}
use Rattle.std.specs.Prelude.{◌==◌}
use Rattle.std.specs.List.{filter, onto_first, slice_split}
use Rattle.std.specs.Option.{unwrap_or}
use Rattle.std.proofs.lemmas.Bool.{false_from_ne_true}
use Rattle.std.proofs.lemmas.List.{take_all, drop_all}
use Rattle.memchr.specs.Find.{IsFirstByte, is_byte}
use Rattle.pcj_term.specs.Reading.{begins_with}
use Rattle.pcj_script.specs.Words.{is_word, words_of}

abbrev pieces : List ℕ → List (List ℕ)
pieces line = slice_split (λ byte. byte == 32) line

abbrev words_in : List (List ℕ) → List (List ℕ)
words_in parts = filter is_word parts

goes_on : (byte : ℕ) (bytes : List ℕ) → (byte == 32) ≡ false → pieces (byte ∷ bytes) ≡ onto_first byte (pieces bytes)
goes_on byte bytes h = rw h refl

piece_stops : (text : List ℕ) (at : ℕ) → at < length text → (get_or text at 0 == 32) ≡ true → ((k : ℕ) → k < at → (get_or text k 0 == 32) ≡ false) →
    pieces text ≡ take at text ∷ pieces (drop (suc at) text)
piece_stops [] at within end no_end = absurd (omega arith)
piece_stops (byte ∷ bytes) zero within end no_end = rw end refl
piece_stops (byte ∷ bytes) (suc at) within end no_end =
    goes_on byte bytes (no_end 0 (omega arith)) ∙ ap (onto_first byte) (piece_stops bytes at (omega arith) end (λ k lt. no_end (suc k) (omega arith)))

piece_ends : (text : List ℕ) → ((k : ℕ) → k < length text → (get_or text k 0 == 32) ≡ false) → pieces text ≡ text ∷ []
piece_ends [] no_end = refl
piece_ends (byte ∷ bytes) no_end =
    goes_on byte bytes (no_end 0 (omega arith)) ∙ ap (onto_first byte) (piece_ends bytes (λ k lt. no_end (suc k) (omega arith)))

-- a space at the front says nothing
drops_space : (text : List ℕ) (at : ℕ) → at < length text → (get_or text at 0 == 32) ≡ true → words_of (drop at text) ≡ words_of (drop (suc at) text)
drops_space [] at within space = absurd (omega arith)
drops_space (byte ∷ bytes) zero within space = rw space refl
drops_space (byte ∷ bytes) (suc at) within space = drops_space bytes at (omega arith) space

pub word_begins : (text : List ℕ) → 0 < length text → begins_with 32 text ≡ false → (found : Option ℕ) → IsFirstByte (is_byte 32) text found →
    words_of text ≡ take (unwrap_or found (length text)) text ∷ words_of (drop (unwrap_or found (length text)) text)
word_begins [] some past found h = absurd (omega arith)
word_begins (byte ∷ bytes) some past None h =
    let none : (k : ℕ) → k < length (byte ∷ bytes) → (get_or (byte ∷ bytes) k 0 == 32) ≡ false = λ k lt. false_from_ne_true _ (h k (omega arith) lt) in
    rw (take_all (length (byte ∷ bytes)) (byte ∷ bytes) (omega arith), drop_all (length (byte ∷ bytes)) (byte ∷ bytes) (omega arith))
    (ap words_in (piece_ends (byte ∷ bytes) none))
word_begins (byte ∷ bytes) some past (Some zero) h = let bad : true ≡ false = sym h.1 ∙ past in cc
word_begins (byte ∷ bytes) some past (Some (suc at)) h =
    ap words_in (piece_stops (byte ∷ bytes) (suc at) h.0.high h.1 (λ k lt. false_from_ne_true _ (h.0.before k (omega arith) lt)))
    ∙ ap (λ (words : List (List ℕ)). take (suc at) (byte ∷ bytes) ∷ words) (sym (drops_space (byte ∷ bytes) (suc at) h.0.high h.1))
