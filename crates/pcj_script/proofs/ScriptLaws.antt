-- Lines are commands and an ending in exactly one way.
use Rattle.std.proofs.Common.{◌≡◌, ℕ, zero, suc, ◌+◌, ◌<◌, ◌≤◌, Bool, List, [], ◌∷◌, length, drop, length-drop, refl, ap, sym, subst, ◌∙◌, arith, inl, inr}
use Rattle.pcj_script.specs.declared.error.ScriptKind.TheVariants.{MissingEnd, TooMuch}
use Rattle.pcj_script.specs.Lines.{Line}
use Rattle.pcj_script.specs.Commands.{Command}
use Rattle.pcj_script.specs.Front.{Front, HasFront}
use Rattle.pcj_script.specs.Front.Front.{NoLine, Skipped, Whole, Open, Refused}
use Rattle.pcj_script.specs.Script.{Ending, Stop, Spells, IsRead, stop_at, readable_lines}
use Rattle.pcj_script.specs.Script.Ending.{End, RefusedAt, CutOff}
use Rattle.pcj_script.specs.Script.Stop.{AtEnd, AtLimit, Elsewhere}
use Rattle.pcj_script.specs.Script.Spells.{skips, takes, refuses, is_over, has_no_end, passes_limit, goes_on}
use Rattle.pcj_script.proofs.FrontLaws.{one_front, some_front}

-- how lines end that are nothing, and how such that are a command whose text has no end
abbrev ending_at : Stop → ℕ → ℕ → Ending
ending_at AtEnd line count = End
ending_at AtLimit line count = RefusedAt (line + count) TooMuch
ending_at Elsewhere line count = CutOff

abbrev open_ending : Stop → ℕ → ℕ → Ending
open_ending AtEnd line count = RefusedAt line MissingEnd
open_ending AtLimit line count = RefusedAt (line + count) TooMuch
open_ending Elsewhere line count = CutOff

-- how a script goes on behind what stands at its front
abbrev pub Continues : Stop → ℕ → List Line → Front → List Command → Ending → Type 0
Continues stop line lines NoLine commands ending = (commands ≡ []) × (ending ≡ ending_at stop line (length lines))
Continues stop line lines Skipped commands ending = Spells stop (line + 1) (drop 1 lines) commands ending
Continues stop line lines (Whole command count) commands ending = (later : List Command) × (commands ≡ command ∷ later) × Spells stop (line + count) (drop count lines) later ending
Continues stop line lines Open commands ending = (commands ≡ []) × (ending ≡ open_ending stop line (length lines))
Continues stop line lines (Refused before kind) commands ending = (commands ≡ []) × (ending ≡ RefusedAt (line + before) kind)

pub continues : (stop : Stop) (line : ℕ) (lines : List Line) (commands : List Command) (ending : Ending) → Spells stop line lines commands ending →
    (front : Front) × HasFront lines front × Continues stop line lines front commands ending
continues stop line lines commands ending (skips h s) = (Skipped, h, s)
continues stop line lines commands ending (takes {command = command} {later = later} h s) = (Whole command _, h, (later, refl, s))
continues stop line lines commands ending (refuses h) = (Refused _ _, h, (refl, refl))
continues stop line lines commands ending (is_over e h) = (NoLine, h, (refl, rw e refl))
continues stop line lines commands ending (has_no_end e h) = (Open, h, (refl, rw e refl))
continues stop line lines commands ending (passes_limit e (inl h)) = (NoLine, h, (refl, rw e refl))
continues stop line lines commands ending (passes_limit e (inr h)) = (Open, h, (refl, rw e refl))
continues stop line lines commands ending (goes_on e (inl h)) = (NoLine, h, (refl, rw e refl))
continues stop line lines commands ending (goes_on e (inr h)) = (Open, h, (refl, rw e refl))

-- fewer lines stand behind a line that is skipped, and behind a command
fewer_lines : (lines : List Line) (count : ℕ) → 0 < length lines → 0 < count → length (drop count lines) < length lines
fewer_lines lines count some one = omega (arith, length-drop count lines)

has_line : (lines : List Line) → HasFront lines Skipped → 0 < length lines
has_line lines h = omega (arith, ap length h.2)

has_lines : (lines : List Line) (command : Command) (count : ℕ) → HasFront lines (Whole command count) → (0 < length lines) × (0 < count)
has_lines lines command count h = (omega (arith, ap length h.is), omega (arith, h.counted))

-- ---- at most one way

abbrev IsOneWay : Stop → ℕ → Type 0
IsOneWay stop most = (line : ℕ) (lines : List Line) (commands others : List Command) (ending other : Ending) → length lines ≤ most →
    Spells stop line lines commands ending → Spells stop line lines others other → (commands ≡ others) × (ending ≡ other)

one_way_on : (stop : Stop) (most line : ℕ) (lines : List Line) (commands others : List Command) (ending other : Ending) → length lines ≤ suc most → IsOneWay stop most →
    (front : Front) → HasFront lines front → Continues stop line lines front commands ending → Continues stop line lines front others other → (commands ≡ others) × (ending ≡ other)
one_way_on stop most line lines commands others ending other few way NoLine h a b = (a.0 ∙ sym b.0, a.1 ∙ sym b.1)
one_way_on stop most line lines commands others ending other few way Skipped h a b =
    way (line + 1) (drop 1 lines) commands others ending other (omega (arith, few, fewer_lines lines 1 (has_line lines h) (omega arith))) a b
one_way_on stop most line lines commands others ending other few way (Whole command count) h a b =
    let some = has_lines lines command count h in
    let later = way (line + count) (drop count lines) a.0 b.0 ending other (omega (arith, few, fewer_lines lines count some.0 some.1)) a.2 b.2 in
    (a.1 ∙ ap (λ cs. command ∷ cs) later.0 ∙ sym b.1, later.1)
one_way_on stop most line lines commands others ending other few way Open h a b = (a.0 ∙ sym b.0, a.1 ∙ sym b.1)
one_way_on stop most line lines commands others ending other few way (Refused before kind) h a b = (a.0 ∙ sym b.0, a.1 ∙ sym b.1)

one_way_at_most : (stop : Stop) (most line : ℕ) (lines : List Line) (commands others : List Command) (ending other : Ending) → length lines ≤ suc most → IsOneWay stop most →
    Spells stop line lines commands ending → Spells stop line lines others other → (commands ≡ others) × (ending ≡ other)
one_way_at_most stop most line lines commands others ending other few way a b =
    let first = continues stop line lines commands ending a in
    let second = continues stop line lines others other b in
    let same = one_front lines second.0 first.0 second.1 first.1 in
    one_way_on stop most line lines commands others ending other few way first.0 first.1 first.2 (subst (λ front. Continues stop line lines front others other) same second.2)

-- without a line nothing is skipped, and no command is there
no_way_on : (stop : Stop) (line : ℕ) (commands : List Command) (ending : Ending) → Spells stop line [] commands ending → Continues stop line [] NoLine commands ending
no_way_on stop line commands ending a =
    let first = continues stop line [] commands ending a in
    subst (λ front. Continues stop line [] front commands ending) (one_front [] first.0 NoLine first.1 refl) first.2

one_way : (stop : Stop) (most : ℕ) → IsOneWay stop most
one_way stop zero line [] commands others ending other few a b =
    let first = no_way_on stop line commands ending a in
    let second = no_way_on stop line others other b in
    (first.0 ∙ sym second.0, first.1 ∙ sym second.1)
one_way stop zero line (first ∷ more) commands others ending other few a b = absurd (omega arith)
one_way stop (suc most) line lines commands others ending other few a b = one_way_at_most stop most line lines commands others ending other few (one_way stop most) a b

pub one_reading : (all : Bool) (bytes : List ℕ) (commands others : List Command) (ending other : Ending) → IsRead all bytes commands ending → IsRead all bytes others other → (commands ≡ others) × (ending ≡ other)
one_reading all bytes commands others ending other a b =
    one_way (stop_at all bytes) (length (readable_lines all bytes)) 1 (readable_lines all bytes) commands others ending other (omega arith) a b

-- ---- at least one way

abbrev IsSpelled : Stop → ℕ → List Line → Type 0
IsSpelled stop line lines = (commands : List Command) × (ending : Ending) × Spells stop line lines commands ending

some_way_on : (stop : Stop) (most line : ℕ) (lines : List Line) → length lines ≤ suc most → ((line : ℕ) (lines : List Line) → length lines ≤ most → IsSpelled stop line lines) →
    (front : Front) → HasFront lines front → IsSpelled stop line lines
some_way_on AtEnd most line lines few way NoLine h = ([], End, is_over refl h)
some_way_on AtLimit most line lines few way NoLine h = ([], RefusedAt (line + length lines) TooMuch, passes_limit refl (inl h))
some_way_on Elsewhere most line lines few way NoLine h = ([], CutOff, goes_on refl (inl h))
some_way_on stop most line lines few way Skipped h =
    let later = way (line + 1) (drop 1 lines) (omega (arith, few, fewer_lines lines 1 (has_line lines h) (omega arith))) in
    (later.0, later.1, skips h later.2)
some_way_on stop most line lines few way (Whole command count) h =
    let some = has_lines lines command count h in
    let later = way (line + count) (drop count lines) (omega (arith, few, fewer_lines lines count some.0 some.1)) in
    (command ∷ later.0, later.1, takes h later.2)
some_way_on AtEnd most line lines few way Open h = ([], RefusedAt line MissingEnd, has_no_end refl h)
some_way_on AtLimit most line lines few way Open h = ([], RefusedAt (line + length lines) TooMuch, passes_limit refl (inr h))
some_way_on Elsewhere most line lines few way Open h = ([], CutOff, goes_on refl (inr h))
some_way_on stop most line lines few way (Refused before kind) h = ([], RefusedAt (line + before) kind, refuses h)

some_way : (stop : Stop) (most line : ℕ) (lines : List Line) → length lines ≤ most → IsSpelled stop line lines
some_way AtEnd zero line [] few = ([], End, is_over refl refl)
some_way AtLimit zero line [] few = ([], RefusedAt (line + 0) TooMuch, passes_limit refl (inl refl))
some_way Elsewhere zero line [] few = ([], CutOff, goes_on refl (inl refl))
some_way stop zero line (first ∷ more) few = absurd (omega arith)
some_way stop (suc most) line lines few =
    let front = some_front lines in
    some_way_on stop most line lines few (some_way stop most) front.0 front.1

pub some_reading : (all : Bool) (bytes : List ℕ) → (commands : List Command) × (ending : Ending) × IsRead all bytes commands ending
some_reading all bytes = some_way (stop_at all bytes) (length (readable_lines all bytes)) 1 (readable_lines all bytes) (omega arith)
