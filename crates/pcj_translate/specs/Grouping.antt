-- Reading groups from the front of some tokens, for every derivation of what is taken.
use Rattle.std.specs.Prelude.{◌≡◌, ℕ, zero, suc, Bool, true, false, List, [], ◌∷◌, Option, None}
use Rattle.pcj_algebra.specs.declared.pattern.Pattern.{Pattern}
use Rattle.pcj_grammar.specs.declared.lexeme.Lexeme.{Lexeme}
use Rattle.pcj_grammar.specs.declared.terminal.Terminal.{Terminal}
use Rattle.pcj_grammar.specs.declared.terminal.Terminal.TheVariants as t
use Rattle.pcj_grammar.specs.Grammar.{Form, word, name, maybe, many, ◌▹◌, Derives, by, one_after, left, right, without, with_it, end, again}
use Rattle.pcj_grammar.specs.Grammar as g
use Rattle.pcj_translate.specs.declared.content.Content.{Content}
use Rattle.pcj_translate.specs.Term.{Scope}
use Rattle.pcj_translate.specs.Adding.{block_form, IsPastBlock}
use Rattle.pcj_translate.specs.Testing.{IsWithinInner}
use Rattle.pcj_translate.specs.Group.{with_block, others_form, unions_form, group_by, other_by, unions_by}

abbrev pub is_union : Terminal → Bool
is_union t.Union = true
is_union _ = false

abbrev pub begins_union : List Lexeme → Bool
begins_union [] = false
begins_union (l ∷ x) = is_union l.terminal

abbrev pub is_brace : Terminal → Bool
is_brace t.OpenBrace = true
is_brace _ = false

abbrev pub begins_brace : List Lexeme → Bool
begins_brace [] = false
begins_brace (l ∷ x) = is_brace l.terminal

abbrev pub is_other : Terminal → Bool
is_other t.OpenBrace = true
is_other t.Filter = true
is_other _ = false

abbrev pub begins_other : List Lexeme → Bool
begins_other [] = false
begins_other (l ∷ x) = is_other l.terminal

-- no more than so many braces and parentheses are open at once
abbrev mutual
  pub IsWithinGroup : {x y : List Lexeme} → ℕ → Derives (name g.Group) x y → Type 0
  IsWithinGroup zero d = ⊥
  IsWithinGroup (suc n) (by (one_after o (one_after b (one_after others c)))) = IsWithinOthers n others

  pub IsWithinOthers : {x y : List Lexeme} → ℕ → Derives others_form x y → Type 0
  IsWithinOthers n end = Unit {0}
  IsWithinOthers n (again (one_after o (one_after d b)) more) = IsWithinOther n o × IsWithinOthers n more

  pub IsWithinOther : {x y : List Lexeme} → ℕ → Derives (name g.Other) x y → Type 0
  IsWithinOther n (by (left (one_after f i))) = IsWithinInner n i
  IsWithinOther n (by (right (one_after group unions))) = IsWithinGroup n group × IsWithinUnions n unions

  pub IsWithinUnions : {x y : List Lexeme} → ℕ → Derives unions_form x y → Type 0
  IsWithinUnions n end = Unit {0}
  IsWithinUnions n (again (one_after u group) more) = IsWithinGroup n group × IsWithinUnions n more

abbrev pub joint_form : Form
joint_form = name g.Group ▹ unions_form

abbrev pub joint_by : {x y : List Lexeme} → Scope → Derives joint_form x y → Option Pattern
joint_by scope (one_after group unions) = unions_by scope (group_by scope group) unions

abbrev pub IsWithinJoint : {x y : List Lexeme} → ℕ → Derives joint_form x y → Type 0
IsWithinJoint n (one_after group unions) = IsWithinGroup n group × IsWithinUnions n unions

abbrev pub ReadsGroup : Scope → ℕ → List Lexeme → List Lexeme → Option Pattern → Type 0
ReadsGroup scope n x z pattern = (y : List Lexeme) (d : Derives (name g.Group) x y) → IsWithinGroup n d → (z ≡ y) × (pattern ≡ group_by scope d)

abbrev pub ReadsJoint : Scope → ℕ → List Lexeme → List Lexeme → Option Pattern → Type 0
ReadsJoint scope n x z pattern = (y : List Lexeme) (d : Derives joint_form x y) → begins_union y ≡ false → IsWithinJoint n d → (z ≡ y) × (pattern ≡ joint_by scope d)

abbrev pub ReadsBlock : Scope → Content → List Lexeme → List Lexeme → Content → Type 0
ReadsBlock scope before x z after = (y : List Lexeme) (d : Derives block_form x y) → IsPastBlock y → (z ≡ y) × (after ≡ with_block scope before d)

abbrev pub ReadsOther : Scope → ℕ → Content → List Lexeme → List Lexeme → Content → Type 0
ReadsOther scope n before x z after = (y : List Lexeme) (d : Derives (name g.Other) x y) → begins_union y ≡ false → IsWithinOther n d → (z ≡ y) × (after ≡ other_by scope before d)

-- what a group has so far, by a name that crates above can use
abbrev pub GroupContent : Type 0
GroupContent = Content

-- what a group has before its first part
abbrev pub nothing : Content
nothing = record { pattern = None; condition = None }
