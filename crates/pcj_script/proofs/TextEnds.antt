-- A text ends in exactly one way.
use Rattle.std.proofs.Common.{◌≡◌, ◌≢◌, ℕ, ◌+◌, cond, List, [], ◌∷◌, ◌++◌, length, length-append, refl, ap, sym, subst, ◌∙◌, arith, inl, inr, append_assoc, append-nil}
use Rattle.std.specs.Prelude.{◌⊎◌, nat_lt}
use Rattle.std.specs.List.{AllByRecursion}
use Rattle.std.proofs.lemmas.Bool.{cases_Bool, ltb-true, ltb-false}
use Rattle.pcj_term.specs.Order.{same_bytes}
use Rattle.pcj_term.proofs.ByteLemmas.{bytes_cases, other_bytes}
use Rattle.pcj_script.specs.Lines.{Line, all_written, said}
use Rattle.pcj_script.specs.Front.{GoesOn, EndsText, PassesLimit, end_line, text_limit}
use Rattle.pcj_script.proofs.TextLemmas.{all_written-append}

-- a text ends with `end` behind so many lines, passes its limit, or goes on over all lines
pub data TextFront : Type 0 where
  Ends : (text : List ℕ) (count : ℕ) → TextFront
  Passes : (before : ℕ) → TextFront
  Goes : TextFront

abbrev pub HasTextFront : List Line → TextFront → Type 0
HasTextFront lines (Ends text count) = EndsText lines text count
HasTextFront lines (Passes before) = PassesLimit lines before
HasTextFront lines Goes = GoesOn lines

-- ---- the longest front over which a text goes on

goes_on_before : (lines more : List Line) → GoesOn (lines ++ more) → GoesOn lines
goes_on_before lines more h = record { no_end = none lines h.no_end; few = omega (arith, h.few, ap length (all_written-append lines more), length-append (all_written lines) (all_written more)) }
  where
    none : (ls : List Line) → AllByRecursion (λ line. said line ≢ end_line) (ls ++ more) → AllByRecursion (λ line. said line ≢ end_line) ls
    none [] h = tt
    none (line ∷ ls) h = (h.0, none ls h.1)

-- the text goes on over the first lines, and not over the next one, if there is one
pub record Stops (P : List Line → Type 0) (lines own after : List Line) : Type 0 where
  pub is : lines ≡ own ++ after
  pub holds : P own
  pub stops : (after ≡ []) ⊎ ((line : Line) × (more : List Line) × (after ≡ line ∷ more) × (P (own ++ line ∷ []) → ⊥))

nothing_is_no_stop : (P : List Line → Type 0) → ((ls more : List Line) → P (ls ++ more) → P ls) → (lines after : List Line) (line : Line) (other rest : List Line) →
    Stops P lines [] after → Stops P lines (line ∷ other) rest → ⊥
nothing_is_no_stop P closed lines after line other rest a b = elim a.stops [
  | inl none ↦ let e : [] ≡ line ∷ (other ++ rest) = sym none ∙ sym a.is ∙ b.is in cc
  | inr stop ↦
      let e : stop.0 ∷ stop.1 ≡ line ∷ (other ++ rest) = sym stop.2 ∙ sym a.is ∙ b.is in
      let same : line ≡ stop.0 = cc in
      stop.3 (subst (λ (l : Line). P (l ∷ [])) same (closed (line ∷ []) other b.holds))
]

one_stop : (P : List Line → Type 0) → ((ls more : List Line) → P (ls ++ more) → P ls) → (lines own after other rest : List Line) → Stops P lines own after → Stops P lines other rest →
    (own ≡ other) × (after ≡ rest)
one_stop P closed lines [] after [] rest a b = (refl, sym a.is ∙ b.is)
one_stop P closed lines [] after (line ∷ other) rest a b = absurd (nothing_is_no_stop P closed lines after line other rest a b)
one_stop P closed lines (line ∷ own) after [] rest a b = absurd (nothing_is_no_stop P closed lines rest line own after b a)
one_stop P closed lines (line ∷ own) after (next ∷ other) rest a b =
    let both : line ∷ (own ++ after) ≡ next ∷ (other ++ rest) = sym a.is ∙ b.is in
    let same : line ≡ next = cc in
    let later : own ++ after ≡ other ++ rest = cc in
    let tail = one_stop (λ ls. P (line ∷ ls)) (λ ls more. closed (line ∷ ls) more) (own ++ after) own after other rest
    (record { is = refl; holds = a.holds; stops = a.stops })
    (record {
      is = later;
      holds = subst (λ (l : Line). P (l ∷ other)) (sym same) b.holds;
      stops = subst (λ (l : Line). (rest ≡ []) ⊎ ((line : Line) × (more : List Line) × (rest ≡ line ∷ more) × (P (l ∷ (other ++ line ∷ [])) → ⊥))) (sym same) b.stops;
    }) in
    let owns : own ≡ other = tail.0 in
    (cc, tail.1)

-- ---- where a text ends

stays_at_end : (own : List Line) (line : Line) → said line ≡ end_line → GoesOn (own ++ line ∷ []) → ⊥
stays_at_end own line is h = not own h.no_end
  where
    not : (ls : List Line) → AllByRecursion (λ line. said line ≢ end_line) (ls ++ line ∷ []) → ⊥
    not [] h = h.0 is
    not (first ∷ ls) h = not ls h.1

-- what stands there by the lines before and after it
abbrev text_front : List Line → List Line → TextFront
text_front own [] = Goes
text_front own (line ∷ after) = cond (same_bytes (said line) end_line) (Ends (all_written own) (length own + 1)) (Passes (length own))

stop_of : (lines : List Line) (front : TextFront) → HasTextFront lines front → (own : List Line) × (after : List Line) × Stops GoesOn lines own after × (front ≡ text_front own after)
stop_of lines (Ends text count) h = (
  h.own,
  h.last ∷ h.after,
  record { is = h.is; holds = h.goes_on; stops = inr (h.last, h.after, refl, stays_at_end h.own h.last h.end) },
  rw (h.end, h.joined, h.counted) refl,
)
stop_of lines (Passes before) h = (
  h.own,
  h.line ∷ h.after,
  record { is = h.is; holds = h.goes_on; stops = inr (h.line, h.after, refl, λ goes. absurd (omega (arith, goes.few, h.passes))) },
  rw (other_bytes (said h.line) end_line h.not_end, h.counted) refl,
)
stop_of lines Goes h = (lines, [], record { is = sym (append-nil lines); holds = h; stops = inl refl }, refl)

pub one_text_front : (lines : List Line) (front other : TextFront) → HasTextFront lines front → HasTextFront lines other → front ≡ other
one_text_front lines front other a b =
    let first = stop_of lines front a in
    let second = stop_of lines other b in
    let same = one_stop GoesOn goes_on_before lines first.0 first.1 second.0 second.1 first.2 second.2 in
    first.3 ∙ rw (same.0, same.1) refl ∙ sym second.3

more_no_end : (lines : List Line) (line : Line) → AllByRecursion (λ line. said line ≢ end_line) lines → said line ≢ end_line → AllByRecursion (λ line. said line ≢ end_line) (lines ++ line ∷ [])
more_no_end [] line none not = (not, tt)
more_no_end (first ∷ lines) line none not = (none.0, more_no_end lines line none.1 not)

text_from : (all before lines : List Line) → all ≡ before ++ lines → GoesOn before → (front : TextFront) × HasTextFront all front
text_from all before [] is goes = (Goes, subst GoesOn (sym (is ∙ append-nil before)) goes)
text_from all before (line ∷ lines) is goes = elim (bytes_cases (said line) end_line) [
  | inl end ↦ (Ends (all_written before) (length before + 1), record { own = before; last = line; after = lines; is = is; goes_on = goes; end = end; joined = refl; counted = refl })
  | inr other ↦ elim (cases_Bool (nat_lt text_limit (length (all_written (before ++ line ∷ []))))) [
    | inl many ↦ (Passes (length before), record { own = before; line = line; after = lines; is = is; goes_on = goes; not_end = other; passes = ltb-true _ _ many; counted = refl })
    | inr few ↦ text_from all (before ++ line ∷ []) lines (is ∙ sym (append_assoc before (line ∷ []) lines))
        (record { no_end = more_no_end before line goes.no_end other; few = ltb-false _ _ few })
  ]
]

pub some_text_front : (lines : List Line) → (front : TextFront) × HasTextFront lines front
some_text_front lines = text_from lines [] lines refl (record { no_end = tt; few = omega arith })
