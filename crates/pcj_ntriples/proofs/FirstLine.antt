-- The first line of a text, by the place of the first byte that ends a line.
use Rattle.std.proofs.Common.{◌≡◌, Option, Some, None, ℕ, zero, suc, ◌<◌, Bool, true, false, ◌||◌, nat_eq, List, [], ◌∷◌, length, get_or, take, drop, refl, ap, ◌∙◌, arith}
use Rattle.std.specs.List.{onto_first}
use Rattle.std.proofs.lemmas.Bool.{or_parts, eqb-true, false_from_ne_true}
use Rattle.std.proofs.lemmas.List.{take_all, drop_all}
use Rattle.std.specs.Option.{unwrap_or}
use Rattle.memchr.specs.Find.{IsFirstByte, is_byte2}
use Rattle.pcj_term.specs.Reading.{begins_with}
use Rattle.pcj_ntriples.specs.Lines.{document_lines, after_end}

-- the byte is LF or CR
abbrev pub ends : ℕ → Bool
ends byte = nat_eq byte 10 || nat_eq byte 13

goes_on : (byte : ℕ) (bytes : List ℕ) → ends byte ≡ false → document_lines (byte ∷ bytes) ≡ onto_first byte (document_lines bytes)
goes_on byte bytes h =
    let parts = or_parts (nat_eq byte 10) (nat_eq byte 13) h in
    rw (parts.0, parts.1) refl

starts_lf : (bytes : List ℕ) → begins_with 10 bytes ≡ true → document_lines bytes ≡ [] ∷ document_lines (drop 1 bytes)
starts_lf [] h = absurd cc
starts_lf (byte ∷ bytes) h = rw h refl

stops : (byte : ℕ) (bytes : List ℕ) → ends byte ≡ true → document_lines (byte ∷ bytes) ≡ [] ∷ document_lines (after_end (byte ∷ bytes))
stops byte bytes h = by (nat_eq byte 10) (nat_eq byte 13) (begins_with 10 bytes) refl refl refl
  where
    by : (lf cr next : Bool) → nat_eq byte 10 ≡ lf → nat_eq byte 13 ≡ cr → begins_with 10 bytes ≡ next → document_lines (byte ∷ bytes) ≡ [] ∷ document_lines (after_end (byte ∷ bytes))
    by true true next p q r =
        let ten = eqb-true byte 10 p in
        let thirteen = eqb-true byte 13 q in
        absurd (omega arith)
    by true false next p q r = rw (p, q) refl
    by false true true p q r = rw (p, q, r) (starts_lf bytes r)
    by false true false p q r = rw (p, q, r) refl
    by false false next p q r = let neither = rw (p, q) at h in absurd cc

pub line_stops : (text : List ℕ) (at : ℕ) → at < length text → ends (get_or text at 0) ≡ true → ((k : ℕ) → k < at → ends (get_or text k 0) ≡ false) → document_lines text ≡ take at text ∷ document_lines (after_end (drop at text))
line_stops [] at within end no_end = absurd (omega arith)
line_stops (byte ∷ bytes) zero within end no_end = stops byte bytes end
line_stops (byte ∷ bytes) (suc at) within end no_end =
    let rest = line_stops bytes at (omega arith) end (λ k lt. no_end (suc k) (omega arith)) in
    goes_on byte bytes (no_end 0 (omega arith)) ∙ ap (onto_first byte) rest

pub line_ends : (text : List ℕ) → 0 < length text → ((k : ℕ) → k < length text → ends (get_or text k 0) ≡ false) → document_lines text ≡ text ∷ []
line_ends [] within no_end = absurd (omega arith)
line_ends (byte ∷ []) within no_end = goes_on byte [] (no_end 0 (omega arith))
line_ends (byte ∷ next ∷ bytes) within no_end =
    let rest = line_ends (next ∷ bytes) (omega arith) (λ k lt. no_end (suc k) (omega arith)) in
    goes_on byte (next ∷ bytes) (no_end 0 (omega arith)) ∙ ap (onto_first byte) rest

pub first_line_is : (text : List ℕ) → 0 < length text → (found : Option ℕ) → IsFirstByte (is_byte2 10 13) text found → document_lines text ≡ take (unwrap_or found (length text)) text ∷ document_lines (after_end (drop (unwrap_or found (length text)) text))
first_line_is text within None h =
    let none : (k : ℕ) → k < length text → ends (get_or text k 0) ≡ false = λ k lt. false_from_ne_true _ (h k (omega arith) lt) in
    rw (take_all (length text) text (omega arith), drop_all (length text) text (omega arith)) (line_ends text within none)
first_line_is text within (Some at) h =
    line_stops text at h.0.high h.1 (λ k lt. false_from_ne_true _ (h.0.before k (omega arith) lt))
