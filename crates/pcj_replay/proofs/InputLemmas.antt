-- What was read of a script, as lines and commands.
use Rattle.std.proofs.Common.{◌≡◌, ◌⊎◌, ◌≤◌, ◌<◌, ℕ, suc, Bool, true, false, List, [], ◌++◌, length, take, Option, Some, None, inl, inr, refl, ap, sym, subst, ◌∙◌, arith, append-nil}
use Rattle.std.proofs.lemmas.Bool.Decides.{leb_tells}
use Rattle.pcj_io.specs.Source.{Consumes, EndsWhereNothingIsLeft}
use Rattle.pcj_script.specs.Lines.{lines_given}
use Rattle.pcj_script.specs.Script.{is_too_long, readable_lines, script_limit, stop_at}
use Rattle.pcj_replay.specs.declared.input.Input.{Input}
use Rattle.pcj_replay.specs.declared.input.InputEnd.{InputEnd}
use Rattle.pcj_replay.specs.declared.input.InputEnd.TheVariants.{AtEnd, AtLimit, AtFault}
use Rattle.pcj_replay.specs.Input.{HoldsUpTo, IsFrontOf, IsReadFrom, lines_up_to, stop_of}

-- what a source gave so far, with its count of faults
pub record HasGiven (left now : Option (List ℕ)) (before after : ℕ) (bytes : List ℕ) : Type 0 where
  pub consumed : Consumes left now bytes
  pub faults : before ≤ after

-- ---- as it is read

pub all_read : (left now : Option (List ℕ)) (bytes : List ℕ) → Consumes left now bytes → EndsWhereNothingIsLeft now 0 → IsFrontOf left true bytes
all_read None now bytes consumed ends = tt
all_read (Some told) None bytes consumed ends = absurd consumed
all_read (Some told) (Some rest) bytes consumed ends = consumed ∙ ap (λ (more : List ℕ). bytes ++ more) (ends.0 refl) ∙ append-nil bytes

pub some_read : (left now : Option (List ℕ)) (bytes : List ℕ) → Consumes left now bytes → IsFrontOf left false bytes
some_read None now bytes consumed = tt
some_read (Some told) None bytes consumed = absurd consumed
some_read (Some told) (Some rest) bytes consumed = (rest, consumed)

-- ---- the limit

pub not_too_long : (bytes : List ℕ) → length bytes ≤ script_limit → is_too_long bytes ≡ false
not_too_long bytes few = elim (leb_tells (suc script_limit) (length bytes)) [ inl t ↦ let over : suc script_limit ≤ length bytes = t.1 in absurd (omega arith) | inr f ↦ f.0 ]

pub too_long : (bytes : List ℕ) → script_limit < length bytes → is_too_long bytes ≡ true
too_long bytes many = elim (leb_tells (suc script_limit) (length bytes)) [ inl t ↦ t.0 | inr f ↦ let under : length bytes < suc script_limit = f.1 in absurd (omega arith) ]

-- a byte past the limit was read
pub at_limit : (left now : Option (List ℕ)) (bytes : List ℕ) (input : Input) → Consumes left now bytes → script_limit < length bytes → input.bytes.items ≡ take script_limit bytes → input.end ≡ AtLimit → IsReadFrom left input
at_limit left now bytes input consumed many same is = subst (λ end. HoldsUpTo end left input.bytes.items) (sym is) (bytes, too_long bytes many, same, some_read left now bytes consumed)

-- ---- its commands

-- all of the source's bytes, where it tells them
abbrev pub whole_of : Option (List ℕ) → List ℕ
whole_of None = []
whole_of (Some left) = left

pub whole_is : (left : Option (List ℕ)) → IsFrontOf left true (whole_of left)
whole_is None = tt
whole_is (Some left) = refl

-- The bytes that are spelled, and whether they are all.
pub record ReadsAs (left : Option (List ℕ)) (end : InputEnd) (bytes : List ℕ) : Type 0 where
  pub all : Bool
  pub script : List ℕ
  pub front : IsFrontOf left all script
  pub is : all ≡ false → (end ≡ AtFault) ⊎ (end ≡ AtLimit)
  pub stop : stop_at all script ≡ stop_of end
  pub lines : readable_lines all script ≡ lines_up_to end bytes

pub reads_as : (left : Option (List ℕ)) (end : InputEnd) (bytes : List ℕ) → HoldsUpTo end left bytes → ReadsAs left end bytes
reads_as left AtEnd bytes holds = record {
  all = true;
  script = bytes;
  front = holds.1;
  is = λ no. absurd (let clash = no in cc);
  stop = rw (not_too_long bytes holds.0) refl;
  lines = rw (not_too_long bytes holds.0) refl;
}
reads_as left AtLimit bytes holds = record {
  all = false;
  script = holds.0;
  front = holds.3;
  is = λ no. inr refl;
  stop = rw holds.1 refl;
  lines = rw holds.1 (ap (lines_given false) (sym holds.2));
}
reads_as left AtFault bytes holds = record {
  all = false;
  script = bytes;
  front = holds.1;
  is = λ no. inl refl;
  stop = rw (not_too_long bytes holds.0) refl;
  lines = rw (not_too_long bytes holds.0) refl;
}
