-- What stands at the front of a script, and what is behind it.
use Rattle.std.proofs.Common.{◌≡◌, ◌≤◌, ◌<◌, ◌+◌, ℕ, suc, Bool, true, false, ◌&&◌, ◌==◌, nat_le, List, [], ◌∷◌, ◌++◌, length, take, get_or, cond, filter, Some, None, refl, ap, sym, subst, ◌∙◌, arith, if◌then◌else◌}
use Rattle.std.specs.List.{list_all}
use Rattle.std.proofs.lemmas.Bool.{leb-true}
use Rattle.std.proofs.lemmas.List.{take_more}
use Rattle.pcj_term.specs.Iri.{is_digit}
use Rattle.pcj_script.specs.Commands.{Begins, Command}
use Rattle.pcj_script.specs.Commands.Command.{Load, Register, StepClient, Crash, Status, Answers, Scan}
use Rattle.pcj_script.specs.Front.{Front, HasFront}
use Rattle.pcj_script.specs.Front.Front.{Whole}
use Rattle.pcj_script.specs.Lines.{Line, lines_given, onto_line, said, script_lines}
use Rattle.pcj_script.specs.Places.{count_of, value_of}
use Rattle.pcj_script.specs.Script.{Ending, Spells, Stop}
use Rattle.pcj_script.specs.Words.{words_of}
use Rattle.pcj_script.proofs.FrontLaws.{one_front}
use Rattle.pcj_script.proofs.ScriptLaws.{Continues, continues}
use Rattle.pcj_model.specs.Laws.{AsksSteps}

-- a script goes on behind what is told of its front
pub goes_on_with : (stop : Stop) (line : ℕ) (lines : List Line) (commands : List Command) (script : Ending) (front : Front) → Spells stop line lines commands script → HasFront lines front → Continues stop line lines front commands script
goes_on_with stop line lines commands script front spells has =
    let (found, is, after) = continues stop line lines commands script spells in
    subst (λ f. Continues stop line lines f commands script) (one_front lines found front is has) after

-- ---- steps are asked for

tested : (b : Bool) (x n : ℕ) → (if b then Some x else None) ≡ Some n → (b ≡ true) × (x ≡ n)
tested true x n is = (refl, (let same = is in cc))
tested false x n is = absurd (let clash = is in cc)

all_four : (a b c d : Bool) → a && b && c && d ≡ true → c ≡ true
all_four true true true d all = refl
all_four true true false d all = absurd cc
all_four true false c d all = absurd cc
all_four false b c d all = absurd cc

from_one : (n : ℕ) → nat_le 1 n ≡ true → 1 ≤ n
from_one n is = leb-true 1 n is

some_least : (word : List ℕ) (n : ℕ) → count_of word ≡ Some n → 1 ≤ n
some_least word n is =
    let (test, same) = tested (nat_le (length word) 7 && list_all is_digit word && nat_le 1 (value_of word) && nat_le (value_of word) 1000000) (value_of word) n is in
    subst (λ m. 1 ≤ m) same (from_one (value_of word) (all_four (nat_le (length word) 7) (list_all is_digit word) (nat_le 1 (value_of word)) (nat_le (value_of word) 1000000) test))

asks_by : (words : List (List ℕ)) (command : Command) → Begins words command → AsksSteps command
asks_by words (Load client document) begins = tt
asks_by words (Register client name text) begins = tt
asks_by words (StepClient client count) begins = some_least begins.1 count begins.4
asks_by words (Crash crashed) begins = tt
asks_by words Status begins = tt
asks_by words (Answers name) begins = tt
asks_by words (Scan text) begins = tt

pub asks_steps : (lines : List Line) (command : Command) (count : ℕ) → HasFront lines (Whole command count) → AsksSteps command
asks_steps lines command count has = asks_by (words_of (said has.first)) command has.begins.words

-- ---- lines that have their LF

abbrev ended_lines : List Line → ℕ
ended_lines lines = length (filter (λ line. line.is_ended) lines)

onto_counts : (byte : ℕ) (lines : List Line) → ended_lines (onto_line byte lines) ≡ ended_lines lines
onto_counts byte [] = refl
onto_counts byte (line ∷ lines) = by line.is_ended
  where
    by : (b : Bool) → length (cond b (record { bytes = byte ∷ line.bytes; is_ended = line.is_ended } ∷ filter (λ l. l.is_ended) lines) (filter (λ l. l.is_ended) lines)) ≡ length (cond b (line ∷ filter (λ l. l.is_ended) lines) (filter (λ l. l.is_ended) lines))
    by true = refl
    by false = refl

-- how many LF some bytes have
abbrev pub feeds : List ℕ → ℕ
feeds [] = 0
feeds (byte ∷ bytes) = cond (byte == 10) (suc (feeds bytes)) (feeds bytes)

-- there is a line for each
pub lines_are_feeds : (bytes : List ℕ) → feeds bytes ≡ length (lines_given false bytes)
lines_are_feeds [] = refl
lines_are_feeds (byte ∷ bytes) = by (lines_are_feeds bytes) (byte == 10) refl
  where
    by : feeds bytes ≡ length (lines_given false bytes) → (b : Bool) → (byte == 10) ≡ b → cond (byte == 10) (suc (feeds bytes)) (feeds bytes) ≡ ended_lines (if byte == 10 then record { bytes = []; is_ended = true } ∷ script_lines bytes else onto_line byte (script_lines bytes))
    by rest true e = rw e (ap suc rest)
    by rest false e = rw e (rest ∙ sym (onto_counts byte (script_lines bytes)))

-- one byte more at the end
pub feeds_more : (bytes : List ℕ) (byte : ℕ) → feeds (bytes ++ byte ∷ []) ≡ feeds bytes + cond (byte == 10) 1 0
feeds_more [] byte = by (byte == 10)
  where
    by : (b : Bool) → cond b 1 0 ≡ 0 + cond b 1 0
    by true = refl
    by false = refl
feeds_more (first ∷ bytes) byte = by (feeds_more bytes byte) (first == 10)
  where
    by : feeds (bytes ++ byte ∷ []) ≡ feeds bytes + cond (byte == 10) 1 0 → (b : Bool) → cond b (suc (feeds (bytes ++ byte ∷ []))) (feeds (bytes ++ byte ∷ [])) ≡ cond b (suc (feeds bytes)) (feeds bytes) + cond (byte == 10) 1 0
    by rest true = omega (arith, rest)
    by rest false = rest

-- a count of them that goes on by one byte
pub count_step : (bytes : List ℕ) (at count one : ℕ) → at < length bytes → count ≡ feeds (take at bytes) → count ≤ at → one ≡ cond (get_or bytes at 0 == 10) 1 0 → (count + one ≡ feeds (take (at + 1) bytes)) × (count + one ≤ at + 1)
count_step bytes at count one within is few more = by (get_or bytes at 0 == 10) refl
  where
    all : feeds (take (at + 1) bytes) ≡ feeds (take at bytes) + cond (get_or bytes at 0 == 10) 1 0
    all = ap feeds (take_more bytes at 0 within) ∙ feeds_more (take at bytes) (get_or bytes at 0)

    by : (b : Bool) → (get_or bytes at 0 == 10) ≡ b → (count + one ≡ feeds (take (at + 1) bytes)) × (count + one ≤ at + 1)
    by true e =
        let it : one ≡ 1 = more ∙ ap (λ b. cond b 1 0) e in
        let sum : feeds (take (at + 1) bytes) ≡ feeds (take at bytes) + 1 = all ∙ ap (λ b. feeds (take at bytes) + cond b 1 0) e in
        (omega (arith, it, sum, is), omega (arith, it, few))
    by false e =
        let it : one ≡ 0 = more ∙ ap (λ b. cond b 1 0) e in
        let sum : feeds (take (at + 1) bytes) ≡ feeds (take at bytes) + 0 = all ∙ ap (λ b. feeds (take at bytes) + cond b 1 0) e in
        (omega (arith, it, sum, is), omega (arith, it, few))
