-- What a walk takes and finds, for every derivation of what is taken.
use Rattle.std.specs.Prelude.{◌≡◌, ℕ, false, List}
use Rattle.pcj_grammar.specs.declared.lexeme.Lexeme.{Lexeme}
use Rattle.pcj_grammar.specs.Grammar.{name, Derives}
use Rattle.pcj_grammar.specs.Grammar as g
use Rattle.pcj_translate.specs.Term.{Scope}
use Rattle.pcj_translate.specs.Adding.{block_form, IsPastBlock}
use Rattle.pcj_translate.specs.Testing.{inner_form, IsWithinInner}
use Rattle.pcj_translate.specs.Grouping.{begins_union, IsWithinGroup, IsWithinOther, joint_form, IsWithinJoint}
use Rattle.pcj_groups.specs.declared.findings.Findings.{Findings}
use Rattle.pcj_groups.specs.Finding.{with_block, group_found, other_found, joint_found}

abbrev pub WalksGroup : Scope → ℕ → List Lexeme → List Lexeme → Findings → Type 0
WalksGroup scope n x z found = (y : List Lexeme) (d : Derives (name g.Group) x y) → IsWithinGroup n d → (z ≡ y) × (found ≡ group_found scope d)

abbrev pub WalksJoint : Scope → ℕ → List Lexeme → List Lexeme → Findings → Findings → Type 0
WalksJoint scope n x z old new = (y : List Lexeme) (d : Derives joint_form x y) → begins_union y ≡ false → IsWithinJoint n d → (z ≡ y) × (new ≡ joint_found scope old d)

abbrev pub WalksBlock : Scope → List Lexeme → List Lexeme → Findings → Findings → Type 0
WalksBlock scope x z old new = (y : List Lexeme) (d : Derives block_form x y) → IsPastBlock y → (z ≡ y) × (new ≡ with_block scope old d)

abbrev pub WalksOther : Scope → ℕ → List Lexeme → List Lexeme → Findings → Findings → Type 0
WalksOther scope n x z old new = (y : List Lexeme) (d : Derives (name g.Other) x y) → begins_union y ≡ false → IsWithinOther n d → (z ≡ y) × (new ≡ other_found scope old d)

abbrev pub SkipsInner : ℕ → List Lexeme → List Lexeme → Type 0
SkipsInner n x z = (y : List Lexeme) (d : Derives inner_form x y) → IsWithinInner n d → z ≡ y
