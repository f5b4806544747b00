-- A text, read line by line.
use Rattle.std.proofs.Common.{◌≡◌, ◌≢◌, ℕ, ◌+◌, ◌<◌, ◌≤◌, Bool, List, [], ◌∷◌, ◌++◌, length, length-append, take, refl, ap, sym, subst, ◌∙◌, arith, append_assoc, append-nil, true, false, true≢false}
use Rattle.std.specs.List.{AllByRecursion}
use Rattle.std.specs.Prelude.{◌==◌}
use Rattle.std.specs.Cmp.Lexicographic.{pointwise}
use Rattle.std.proofs.Math.Seq.{take-append_seam}
use Rattle.std.proofs.lemmas.Bool.Decides.{Decides-eqb}
use Rattle.std.proofs.lemmas.Slice.Eq.{slice_eq-Decides}
use Rattle.pcj_script.specs.Lines.{Line, lines_given, written, all_written, said, IsUsed}
use Rattle.pcj_script.specs.Front.{GoesOn, EndsText, PassesLimit, end_line, text_limit}
use Rattle.pcj_script.specs.Reading.{IsFirstLine}

pub all_written-append : (lines more : List Line) → all_written (lines ++ more) ≡ all_written lines ++ all_written more
all_written-append [] more = refl
all_written-append (line ∷ lines) more = ap (λ bs. written line ++ bs) (all_written-append lines more) ∙ sym (append_assoc (written line) (all_written lines) (all_written more))

pub one_more_line : (lines : List Line) (line : Line) → all_written (lines ++ line ∷ []) ≡ all_written lines ++ written line
one_more_line lines line = all_written-append lines (line ∷ []) ∙ ap (λ bs. all_written lines ++ bs) (append-nil (written line))

-- the bytes up to the rest are those of so many lines, and the text goes on over them
pub record ReadSoFar (ended : Bool) (bytes rest : List ℕ) (size count : ℕ) : Type 0 where
  pub own : List Line
  pub given : lines_given ended bytes ≡ own ++ lines_given ended rest
  pub is : bytes ≡ all_written own ++ rest
  pub goes_on : GoesOn own
  pub sized : size ≡ length (all_written own)
  pub counted : count ≡ length own
  pub each : count ≤ size

pub read_nothing : (ended : Bool) (bytes : List ℕ) → ReadSoFar ended bytes bytes 0 0
read_nothing ended bytes = record { own = []; given = refl; is = refl; goes_on = record { no_end = tt; few = omega arith }; sized = refl; counted = refl; each = omega arith }

more_no_end : (lines : List Line) (line : Line) → AllByRecursion (λ line. said line ≢ end_line) lines → said line ≢ end_line → AllByRecursion (λ line. said line ≢ end_line) (lines ++ line ∷ [])
more_no_end [] line none not = (not, tt)
more_no_end (first ∷ lines) line none not = (none.0, more_no_end lines line none.1 not)

length_of_next : (own : List Line) (line : Line) → length (own ++ line ∷ []) ≡ length own + 1
length_of_next own line = length-append own (line ∷ [])

taken : (own after : List Line) (line : Line) → take (length own + 1) (own ++ line ∷ after) ≡ own ++ line ∷ []
taken own after line =
    rw (sym (length_of_next own line), sym (append_assoc own (line ∷ []) after)) (take-append_seam (own ++ line ∷ []) after)

pub read_more : (ended : Bool) (bytes rest following : List ℕ) (line : Line) (size count : ℕ) → ReadSoFar ended bytes rest size count → IsFirstLine ended rest line following → said line ≢ end_line →
    size + length (written line) ≤ text_limit → ReadSoFar ended bytes following (size + length (written line)) (count + 1)
read_more ended bytes rest following line size count before first not few =
    let sizes : size + length (written line) ≡ length (all_written (before.own ++ line ∷ [])) =
    omega (arith, before.sized, ap length (one_more_line before.own line), length-append (all_written before.own) (written line)) in
    record {
      own = before.own ++ line ∷ [];
      given = before.given ∙ ap (λ ls. before.own ++ ls) first.given ∙ sym (append_assoc before.own (line ∷ []) (lines_given ended following));
      is = before.is ∙ ap (λ bs. all_written before.own ++ bs) first.is ∙ sym (append_assoc (all_written before.own) (written line) following) ∙ ap (λ bs. bs ++ following) (sym (one_more_line before.own line));
      goes_on = record { no_end = more_no_end before.own line before.goes_on.no_end not; few = omega (arith, sizes, few) };
      sized = sizes;
      counted = omega (arith, before.counted, length_of_next before.own line);
      each = omega (arith, before.each, first.some);
    }

pub passes : (ended : Bool) (bytes rest following : List ℕ) (line : Line) (size count : ℕ) → ReadSoFar ended bytes rest size count → IsFirstLine ended rest line following → said line ≢ end_line →
    text_limit < size + length (written line) → PassesLimit (lines_given ended bytes) count
passes ended bytes rest following line size count before first not many = record {
  own = before.own;
  line = line;
  after = lines_given ended following;
  is = before.given ∙ ap (λ ls. before.own ++ ls) first.given;
  goes_on = before.goes_on;
  not_end = not;
  passes = omega (arith, many, before.sized, ap length (one_more_line before.own line), length-append (all_written before.own) (written line));
  counted = before.counted;
}

pub text_ends : (ended : Bool) (bytes rest following : List ℕ) (line : Line) (size count : ℕ) → ReadSoFar ended bytes rest size count → IsFirstLine ended rest line following → said line ≡ end_line →
    EndsText (lines_given ended bytes) (take size bytes) (count + 1) × IsUsed (lines_given ended bytes) (count + 1) (size + length (written line))
text_ends ended bytes rest following line size count before first is =
    let given : lines_given ended bytes ≡ before.own ++ line ∷ lines_given ended following = before.given ∙ ap (λ ls. before.own ++ ls) first.given in
    let text : take size bytes ≡ all_written before.own = rw (before.sized, before.is) (take-append_seam (all_written before.own) rest) in
    let front : take (count + 1) (lines_given ended bytes) ≡ before.own ++ line ∷ [] = rw (before.counted, given) (taken before.own (lines_given ended following) line) in (
      record { own = before.own; last = line; after = lines_given ended following; is = given; goes_on = before.goes_on; end = is; joined = text; counted = omega (arith, before.counted) },
      omega (arith, before.sized, ap length (ap all_written front ∙ one_more_line before.own line), length-append (all_written before.own) (written line)),
    )

pub goes_on_over_all : (ended : Bool) (bytes rest : List ℕ) (size count : ℕ) → ReadSoFar ended bytes rest size count → lines_given ended rest ≡ [] → GoesOn (lines_given ended bytes)
goes_on_over_all ended bytes rest size count before none =
    subst GoesOn (sym (before.given ∙ ap (λ ls. before.own ++ ls) none ∙ append-nil before.own)) before.goes_on

-- a line more fits, and its number does too
pub within : (ended : Bool) (bytes rest following : List ℕ) (line : Line) (size count : ℕ) → ReadSoFar ended bytes rest size count → IsFirstLine ended rest line following →
    count + 1 ≤ length bytes
within ended bytes rest following line size count before first =
    omega (arith, before.each, before.sized, ap length before.is, length-append (all_written before.own) rest, ap length first.is, length-append (written line) following, first.some)

pub used_within : (ended : Bool) (bytes rest following : List ℕ) (line : Line) (size count : ℕ) → ReadSoFar ended bytes rest size count → IsFirstLine ended rest line following →
    (count + 1 ≤ size + length (written line)) × (size + length (written line) ≤ length bytes)
used_within ended bytes rest following line size count before first = (
  omega (arith, before.each, first.some),
  omega (arith, before.sized, ap length before.is, length-append (all_written before.own) rest, ap length first.is, length-append (written line) following),
)

-- whether a line is `end`
pub is_end : (line other : List ℕ) (same : Bool) → same ≡ pointwise (λ (a : ℕ) (b : ℕ). a == b) line other → other ≡ end_line → (same ≡ true → line ≡ end_line) × (same ≡ false → line ≢ end_line)
is_end line other same e is =
    let decided = slice_eq-Decides Decides-eqb line other same e in (
      λ yes. decided.0 yes ∙ is,
      λ no same_line. true≢false (sym (decided.1 (same_line ∙ sym is)) ∙ no),
    )
