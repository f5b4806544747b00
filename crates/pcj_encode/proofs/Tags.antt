-- The kind that a letter names has that letter.
use Rattle.std.proofs.Common.{◌≡◌, ℕ, Bool, true, false, cond, nat_eq, Option, Some, None, List, [], ◌∷◌, refl, ap, sym, ◌∙◌}
use Rattle.std.proofs.lemmas.Bool.{eqb-true}
use Rattle.std.proofs.lemmas.Option.{same_Some}
use Rattle.pcj_encode.specs.declared.tag.Tag.{Tag}
use Rattle.pcj_encode.specs.declared.tag.Tag.TheVariants.{Clock, Spo, Pos, Osp, Node, Group, Member, Registration, Name, Pattern, Task, Export}
use Rattle.pcj_encode.specs.declared.task_tag.TaskTag.{TaskTag}
use Rattle.pcj_encode.specs.declared.task_tag.TaskTag.TheVariants as task
use Rattle.pcj_encode.specs.Tag.{letter_of, task_letter_of, tagged, tag_of, task_tagged, task_tag_of}

-- a letter is this one, or what is said of the others holds
this_or : {T : Type 0} (letters : T → List ℕ) (letter known : ℕ) (first : T) (others : Option T) (tag : T) → letters first ≡ known ∷ [] →
    (others ≡ Some tag → letters tag ≡ letter ∷ []) → cond (nat_eq letter known) (Some first) others ≡ Some tag → letters tag ≡ letter ∷ []
this_or {T} letters letter known first others tag is later e = by (nat_eq letter known) refl
  where
    by : (b : Bool) → nat_eq letter known ≡ b → letters tag ≡ letter ∷ []
    by true same =
        let found : Some first ≡ Some tag = rw same at e in
        ap letters (sym (same_Some first tag found)) ∙ is ∙ ap (λ (n : ℕ). n ∷ []) (sym (eqb-true letter known same))
    by false apart = let found : others ≡ Some tag = rw apart at e in later found

tagged_takes : (letter : ℕ) (tag : Tag) → tagged letter ≡ Some tag → letter_of tag ≡ letter ∷ []
tagged_takes letter tag =
    this_or letter_of letter 122 Clock _ tag refl (
    this_or letter_of letter 115 Spo _ tag refl (
    this_or letter_of letter 112 Pos _ tag refl (
    this_or letter_of letter 111 Osp _ tag refl (
    this_or letter_of letter 114 Node _ tag refl (
    this_or letter_of letter 103 Group _ tag refl (
    this_or letter_of letter 109 Member _ tag refl (
    this_or letter_of letter 113 Registration _ tag refl (
    this_or letter_of letter 97 Name _ tag refl (
    this_or letter_of letter 116 Pattern _ tag refl (
    this_or letter_of letter 110 Task _ tag refl (
    this_or letter_of letter 120 Export None tag refl (λ e. absurd cc))))))))))))

pub tag_takes : (part : List ℕ) (tag : Tag) → tag_of part ≡ Some tag → letter_of tag ≡ part
tag_takes [] tag e = absurd cc
tag_takes (letter ∷ []) tag e = tagged_takes letter tag e
tag_takes (letter ∷ next ∷ part) tag e = absurd cc

pub tag_again : (tag : Tag) → tag_of (letter_of tag) ≡ Some tag
tag_again Clock = refl
tag_again Spo = refl
tag_again Pos = refl
tag_again Osp = refl
tag_again Node = refl
tag_again Group = refl
tag_again Member = refl
tag_again Registration = refl
tag_again Name = refl
tag_again Pattern = refl
tag_again Task = refl
tag_again Export = refl

task_tagged_takes : (letter : ℕ) (tag : TaskTag) → task_tagged letter ≡ Some tag → task_letter_of tag ≡ letter ∷ []
task_tagged_takes letter tag =
    this_or task_letter_of letter 116 task.Triple _ tag refl (
    this_or task_letter_of letter 98 task.Backfill _ tag refl (
    this_or task_letter_of letter 114 task.Row _ tag refl (
    this_or task_letter_of letter 101 task.Export None tag refl (λ e. absurd cc))))

pub task_tag_takes : (part : List ℕ) (tag : TaskTag) → task_tag_of part ≡ Some tag → task_letter_of tag ≡ part
task_tag_takes [] tag e = absurd cc
task_tag_takes (letter ∷ []) tag e = task_tagged_takes letter tag e
task_tag_takes (letter ∷ next ∷ part) tag e = absurd cc
