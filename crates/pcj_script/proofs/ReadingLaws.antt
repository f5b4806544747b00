-- The commands of the bytes that were read first stand, whatever is read behind them.
use Rattle.std.proofs.Common.{◌≡◌, ℕ, ◌+◌, ◌-◌, ◌≤◌, Bool, true, false, List, ◌∷◌, ◌++◌, length, length-append, take, drop, refl, ap, sym, subst, ◌∙◌, arith, inl, inr}
use Rattle.std.proofs.lemmas.Bool.{ltb-true, ltb-false, lt-ltb}
use Rattle.std.proofs.lemmas.List.{take-append-le, drop-append-le}
use Rattle.std.proofs.Math.Seq.{take-append-add}
use Rattle.pcj_script.specs.Lines.{Line, lines_given}
use Rattle.pcj_script.specs.Commands.{Command}
use Rattle.pcj_script.specs.Commands.Command.{Load, Register, StepClient, Crash, Status, Answers, Scan}
use Rattle.pcj_script.specs.Front.{Front, HasFront, EndsText, Follows}
use Rattle.pcj_script.specs.Front.Front.{Skipped, Whole, Refused}
use Rattle.pcj_script.specs.Script.{Ending, Stop, Spells, IsRead, script_limit, is_too_long, stop_at, readable_lines}
use Rattle.pcj_script.specs.Script.Stop.{AtLimit, Elsewhere}
use Rattle.pcj_script.specs.Script.Spells.{skips, takes, refuses, is_over, has_no_end, passes_limit, goes_on}
use Rattle.pcj_script.specs.Laws.{IsSettled, GoesOnFrom, CommandsStand}
use Rattle.pcj_script.proofs.FrontLaws.{one_front}
use Rattle.pcj_script.proofs.PieceLaws.{front_stays, given_more}
use Rattle.pcj_script.proofs.ScriptLaws.{Continues, continues, one_reading}

-- ---- lines of a command

text_within : (more : List Line) (text : List ℕ) (count : ℕ) → EndsText more text count → count ≤ length more
text_within more text count h = omega (arith, h.counted, ap length h.is, length-append h.own (h.last ∷ h.after))

follows_within : (more : List Line) (command : Command) (count : ℕ) → Follows more command count → count ≤ length more
follows_within more (Load client document) count h = text_within more document count h
follows_within more (Register client name text) count h = text_within more text count h
follows_within more (StepClient client steps) count h = omega (arith, h)
follows_within more (Crash crashed) count h = omega (arith, h)
follows_within more Status count h = omega (arith, h)
follows_within more (Answers name) count h = omega (arith, h)
follows_within more (Scan text) count h = text_within more text count h

within : (lines : List Line) (command : Command) (count : ℕ) → HasFront lines (Whole command count) → count ≤ length lines
within lines command count h = omega (arith, h.counted, ap length h.is, follows_within h.more command h.following h.follows)

has_line : (lines : List Line) → HasFront lines Skipped → 1 ≤ length lines
has_line lines h = omega (arith, ap length h.2)

-- ---- more lines

-- what stands at the front stands there where more lines follow, so that the reading goes on behind it
goes_on_behind : (stop : Stop) (line : ℕ) (lines rest : List Line) (front : Front) (others : List Command) (other : Ending) → IsSettled front → HasFront lines front →
    Spells stop line (lines ++ rest) others other → Continues stop line (lines ++ rest) front others other
goes_on_behind stop line lines rest front others other settled h b =
    let found = continues stop line (lines ++ rest) others other b in
    let same = one_front (lines ++ rest) found.0 front found.1 (front_stays lines rest front settled h) in
    subst (λ f. Continues stop line (lines ++ rest) f others other) same found.2

one_more : (command : Command) (commands others found : List Command) (ending other : Ending) → others ≡ command ∷ found → GoesOnFrom commands ending found other → GoesOnFrom (command ∷ commands) ending others other
one_more command commands others found ending other is (inl same) = inl (ap (λ cs. command ∷ cs) same.0 ∙ sym is, same.1)
one_more command commands others found ending other is (inr more) = inr (more.0, more.1, is ∙ ap (λ cs. command ∷ cs) more.2)

goes_on_from : (stop : Stop) (line : ℕ) (lines rest : List Line) (commands others : List Command) (ending other : Ending) → Spells Elsewhere line lines commands ending →
    Spells stop line (lines ++ rest) others other → GoesOnFrom commands ending others other
goes_on_from stop line lines rest commands others ending other (skips h s) b =
    let next = goes_on_behind stop line lines rest Skipped others other tt h b in
    goes_on_from stop (line + 1) (drop 1 lines) rest commands others ending other s (subst (λ ls. Spells stop (line + 1) ls others other) (drop-append-le 1 lines rest (has_line lines h)) next)
goes_on_from stop line lines rest commands others ending other (takes {count = count} {command = command} {later = later} h s) b =
    let next = goes_on_behind stop line lines rest (Whole command count) others other tt h b in
    one_more command later others next.0 ending other next.1
    (goes_on_from stop (line + count) (drop count lines) rest later next.0 ending other s
    (subst (λ ls. Spells stop (line + count) ls next.0 other) (drop-append-le count lines rest (within lines command count h)) next.2))
goes_on_from stop line lines rest commands others ending other (refuses {before = before} {kind = kind} h) b =
    let next = goes_on_behind stop line lines rest (Refused before kind) others other tt h b in
    inl (sym next.0, sym next.1)
goes_on_from stop line lines rest commands others ending other (is_over e h) b = absurd cc
goes_on_from stop line lines rest commands others ending other (has_no_end e h) b = absurd cc
goes_on_from stop line lines rest commands others ending other (passes_limit e h) b = absurd cc
goes_on_from stop line lines rest commands others ending other (goes_on e h) b = inr (others, refl, refl)

-- ---- more bytes

spelled_by : (stop other_stop : Stop) (lines other_lines : List Line) (commands : List Command) (ending : Ending) → stop ≡ other_stop → lines ≡ other_lines →
    Spells stop 1 lines commands ending → Spells other_stop 1 other_lines commands ending
spelled_by stop other_stop lines other_lines commands ending e f s =
    subst (λ ls. Spells other_stop 1 ls commands ending) f (subst (λ k. Spells k 1 lines commands ending) e s)

long_stop : (all : Bool) (bytes : List ℕ) → is_too_long bytes ≡ true → stop_at all bytes ≡ AtLimit
long_stop all bytes e = rw e refl

long_lines : (all : Bool) (bytes : List ℕ) → is_too_long bytes ≡ true → readable_lines all bytes ≡ lines_given false (take script_limit bytes)
long_lines all bytes e = rw e refl

short_stop : (bytes : List ℕ) → is_too_long bytes ≡ false → stop_at false bytes ≡ Elsewhere
short_stop bytes e = rw e refl

short_lines : (all : Bool) (bytes : List ℕ) → is_too_long bytes ≡ false → readable_lines all bytes ≡ lines_given all bytes
short_lines all bytes e = rw e refl

still_long : (bytes more : List ℕ) → is_too_long bytes ≡ true → is_too_long (bytes ++ more) ≡ true
still_long bytes more e = lt-ltb script_limit (length (bytes ++ more)) (omega (arith, ltb-true script_limit (length bytes) e, length-append bytes more))

-- the first bytes up to the limit are the same, where these are too many
same_front : (bytes more : List ℕ) → is_too_long bytes ≡ true → take script_limit (bytes ++ more) ≡ take script_limit bytes
same_front bytes more e = take-append-le script_limit bytes more (omega (arith, ltb-true script_limit (length bytes) e))

-- where these aren't, they are more of the same
more_front : (bytes more : List ℕ) → is_too_long bytes ≡ false → (part : List ℕ) × (take script_limit (bytes ++ more) ≡ bytes ++ part)
more_front bytes more e =
    let few = ltb-false script_limit (length bytes) e in
    let left : length bytes + (script_limit - length bytes) ≡ script_limit = omega (arith, few) in
    (take (script_limit - length bytes) more, ap (λ n. take n (bytes ++ more)) (sym left) ∙ take-append-add bytes more (script_limit - length bytes))

more_lines : (all : Bool) (bytes more : List ℕ) → is_too_long bytes ≡ false → (rest : List Line) × (readable_lines all (bytes ++ more) ≡ lines_given false bytes ++ rest)
more_lines all bytes more e = by (is_too_long (bytes ++ more)) refl
  where
    by : (long : Bool) → is_too_long (bytes ++ more) ≡ long → (rest : List Line) × (readable_lines all (bytes ++ more) ≡ lines_given false bytes ++ rest)
    by true f =
        let front = more_front bytes more e in
        let given = given_more false bytes front.0 in
        (given.0, long_lines all (bytes ++ more) f ∙ ap (lines_given false) front.1 ∙ given.1)
    by false f =
        let given = given_more all bytes more in
        (given.0, short_lines all (bytes ++ more) f ∙ given.1)

pub commands_stand : CommandsStand
commands_stand all bytes more commands others ending other a b = by (is_too_long bytes) refl
  where
    by : (long : Bool) → is_too_long bytes ≡ long → GoesOnFrom commands ending others other
    by true e =
        let longer = still_long bytes more e in
        let stops : stop_at all (bytes ++ more) ≡ stop_at false bytes = long_stop all (bytes ++ more) longer ∙ sym (long_stop false bytes e) in
        let lines : readable_lines all (bytes ++ more) ≡ readable_lines false bytes =
        long_lines all (bytes ++ more) longer ∙ ap (lines_given false) (same_front bytes more e) ∙ sym (long_lines false bytes e) in
        let read : IsRead false bytes others other = spelled_by _ _ _ _ others other stops lines b in
        inl (one_reading false bytes commands others ending other a read)
    by false e =
        let first : Spells Elsewhere 1 (lines_given false bytes) commands ending = spelled_by _ _ _ _ commands ending (short_stop bytes e) (short_lines false bytes e) a in
        let rest = more_lines all bytes more e in
        goes_on_from (stop_at all (bytes ++ more)) 1 (lines_given false bytes) rest.0 commands others ending other first
        (subst (λ ls. Spells (stop_at all (bytes ++ more)) 1 ls others other) rest.1 b)
