-- What reading a group gives is what its derivation says.
use Rattle.std.proofs.Common.{◌≡◌, ℕ, zero, suc, ◌<◌, ◌-◌, Bool, true, false, List, [], ◌∷◌, Option, refl, ap, sym, subst, ◌∙◌, arith}
use Rattle.pcj_algebra.specs.declared.pattern.Pattern.{Pattern}
use Rattle.pcj_algebra.specs.declared.triple_pattern.TriplePattern.{TriplePattern}
use Rattle.pcj_expr.specs.declared.expr.Expr.{Expr}
use Rattle.pcj_grammar.specs.declared.lexeme.Lexeme.{Lexeme}
use Rattle.pcj_grammar.specs.declared.terminal.Terminal.{Terminal}
use Rattle.pcj_grammar.specs.declared.terminal.Terminal.TheVariants as t
use Rattle.pcj_grammar.specs.Grammar.{Form, word, name, maybe, many, ◌▹◌, Derives, is, by, one_after, left, right, without, with_it, end, again}
use Rattle.pcj_grammar.specs.Grammar as g
use Rattle.pcj_translate.specs.declared.content.Content.{Content}
use Rattle.pcj_translate.specs.Term.{Scope}
use Rattle.pcj_translate.specs.Adding.{ends_block, is_value, block_form, IsPastBlock, AddsBlock, behind_one, behind_dot, behind_dot_by, is_dot}
use Rattle.pcj_translate.specs.Testing.{ReadsInner}
use Rattle.pcj_translate.specs.Group.{with_triples, with_block, with_group, with_condition, closed, united, others_form, unions_form, group_by, others_by, unions_by}
use Rattle.pcj_translate.proofs.BlocksRead.{block_begins}
use Rattle.pcj_translate.specs.Grouping.{nothing, is_union, begins_union, is_brace, begins_brace, is_other, begins_other, IsWithinGroup, IsWithinOthers, IsWithinUnions, joint_form, joint_by, IsWithinJoint, ReadsGroup, ReadsJoint, ReadsBlock, ReadsOther}

-- ---- blocks

pub block_done : (scope : Scope) (before : Content) (x z : List Lexeme) (triples : List TriplePattern) → AddsBlock scope x z [] triples → ReadsBlock scope before x z (with_triples before triples)
block_done scope before x z triples adds y without past =
    let done = adds y without past in
    (done.0, ap (λ (ts : List TriplePattern). with_triples before ts) done.1)
block_done scope before x z triples adds y (with_it b) past =
    let done = adds y (with_it b) past in
    (done.0, ap (λ (ts : List TriplePattern). with_triples before ts) done.1)

-- ---- groups that UNION joins

abbrev pub UnionsLeft : Scope → ℕ → List Lexeme → List Lexeme → Option Pattern → Type 0
UnionsLeft scope n x r now = (y : List Lexeme) (d : Derives joint_form x y) → begins_union y ≡ false → IsWithinJoint n d → (e : Derives unions_form r y) × IsWithinUnions n e × (unions_by scope now e ≡ joint_by scope d)

pub first_union : (scope : Scope) (n : ℕ) (x r : List Lexeme) (now : Option Pattern) → ReadsGroup scope n x r now → UnionsLeft scope n x r now
first_union scope n x r now reads y (one_after {y = w} group more) past within =
    let done = reads w group within.0 in
    subst (λ (v : List Lexeme). (e : Derives unions_form v y) × IsWithinUnions n e × (unions_by scope now e ≡ unions_by scope (group_by scope group) more)) (sym done.0)
    (more, within.1, ap (λ (first : Option Pattern). unions_by scope first more) done.1)

union_by : (scope : Scope) (n : ℕ) (c : Lexeme) (r r2 y : List Lexeme) (mid next all : Option Pattern) (e : Derives unions_form (c ∷ r) y) → c.terminal ≡ t.Union → begins_union y ≡ false → IsWithinUnions n e → ReadsGroup scope n r r2 next → unions_by scope mid e ≡ all →
    (f : Derives unions_form r2 y) × IsWithinUnions n f × (unions_by scope (united mid next) f ≡ all)
union_by scope n c r r2 y mid next all end at past within reads whole = let odd = ap is_union at in absurd cc
union_by scope n c r r2 y mid next all (again {y = w} (one_after (is q) group) more) at past within reads whole =
    let done = reads w group within.0 in
    subst (λ (v : List Lexeme). (f : Derives unions_form v y) × IsWithinUnions n f × (unions_by scope (united mid next) f ≡ all)) (sym done.0)
    (more, within.1, ap (λ (last : Option Pattern). unions_by scope (united mid last) more) done.1 ∙ whole)

pub next_union : (scope : Scope) (n : ℕ) (x r r2 : List Lexeme) (c : Lexeme) (mid next : Option Pattern) → c.terminal ≡ t.Union → UnionsLeft scope n x (c ∷ r) mid → ReadsGroup scope n r r2 next → UnionsLeft scope n x r2 (united mid next)
next_union scope n x r r2 c mid next at stands reads y d past within =
    let so_far = stands y d past within in
    union_by scope n c r r2 y mid next (joint_by scope d) so_far.0 at past so_far.1 reads so_far.2

last_union_by : (scope : Scope) (n : ℕ) (r y : List Lexeme) (now all : Option Pattern) (e : Derives unions_form r y) → begins_union r ≡ false → unions_by scope now e ≡ all → (r ≡ y) × (now ≡ all)
last_union_by scope n r y now all end none whole = (refl, whole)
last_union_by scope n r y now all (again (one_after (is q) a) more) none whole = let odd = ap is_union q in absurd cc

pub last_union : (scope : Scope) (n : ℕ) (x r : List Lexeme) (now : Option Pattern) → UnionsLeft scope n x r now → begins_union r ≡ false → ReadsJoint scope n x r now
last_union scope n x r now stands none y d past within =
    let so_far = stands y d past within in
    last_union_by scope n r y now (joint_by scope d) so_far.0 none so_far.2

-- ---- one part of a group

pub other_filter : (scope : Scope) (n : ℕ) (before : Content) (x z : List Lexeme) (e : Expr) → begins_brace x ≡ false → ReadsInner scope n (behind_one x) z e → ReadsOther scope n before x z (with_condition before e)
other_filter scope n before x z e none reads y (by (left (one_after (is q) (one_after p (one_after f c))))) past within =
    let done = reads y (one_after p (one_after f c)) within in
    (done.0, ap (λ (condition : Expr). with_condition before condition) done.1)
other_filter scope n before x z e none reads y (by (right (one_after (by (one_after (is q) b)) unions))) past within = let odd = ap is_brace q in absurd cc

pub other_joint : (scope : Scope) (n : ℕ) (before : Content) (x z : List Lexeme) (joint : Option Pattern) → begins_brace x ≡ true → ReadsJoint scope n x z joint → ReadsOther scope n before x z (with_group before joint)
other_joint scope n before x z joint at reads y (by (left (one_after (is q) i))) past within = let odd = ap is_brace q in absurd cc
other_joint scope n before x z joint at reads y (by (right (one_after group unions))) past within =
    let done = reads y (one_after group unions) past within in
    (done.0, ap (λ (found : Option Pattern). with_group before found) done.1)

-- ---- the parts of a group

pub past_others : (u w y : List Lexeme) → Derives others_form u w → Derives (word t.CloseBrace) w y → IsPastBlock u
past_others [] w y d c = tt
past_others (l ∷ u) w y end (is q) = ap ends_block q
past_others (l ∷ u) w y (again (one_after (by (left (one_after (is q) i))) b) more) c = ap ends_block q
past_others (l ∷ u) w y (again (one_after (by (right (one_after (by (one_after (is q) i)) unions))) b) more) c = ap ends_block q

-- a token that is no dot and no UNION
abbrev pub is_plain : Terminal → Bool
is_plain t.Dot = false
is_plain t.Union = false
is_plain _ = true

abbrev pub IsPlain : List Lexeme → Type 0
IsPlain [] = Unit {0}
IsPlain (l ∷ x) = is_plain l.terminal ≡ true

block_plain : (k : Terminal) → ends_block k ≡ true → is_plain k ≡ true
block_plain t.Filter e = refl
block_plain t.OpenBrace e = refl
block_plain t.CloseBrace e = refl
block_plain _ e = absurd cc

value_plain : (k : Terminal) → is_value k ≡ true → is_plain k ≡ true
value_plain t.Var e = refl
value_plain t.Iri e = refl
value_plain t.Namespace e = refl
value_plain t.Name e = refl
value_plain t.Integer e = refl
value_plain t.Text e = refl
value_plain _ e = absurd cc

pub plain_block : (u v : List Lexeme) → Derives block_form u v → IsPastBlock v → IsPlain u
plain_block [] v d past = tt
plain_block (l ∷ u) v without past = block_plain l.terminal past
plain_block (l ∷ u) v (with_it b) past = value_plain l.terminal (block_begins (l ∷ u) v b)

plain_no_dot : (k : Terminal) → is_plain k ≡ true → is_dot k ≡ false
plain_no_dot t.Dot e = absurd cc
plain_no_dot _ e = refl

plain_no_union : (k : Terminal) → is_plain k ≡ true → is_union k ≡ false
plain_no_union t.Union e = absurd cc
plain_no_union _ e = refl

behind_plain : (u : List Lexeme) → IsPlain u → behind_dot u ≡ u
behind_plain [] plain = refl
behind_plain (l ∷ u) plain = ap (λ (b : Bool). behind_dot_by b l u) (plain_no_dot l.terminal plain)

no_union_plain : (u : List Lexeme) → IsPlain u → begins_union u ≡ false
no_union_plain [] plain = refl
no_union_plain (l ∷ u) plain = plain_no_union l.terminal plain

pub behind_maybe : (u v : List Lexeme) → Derives (maybe (word t.Dot)) u v → IsPlain v → behind_dot u ≡ v
behind_maybe u v without plain = behind_plain u plain
behind_maybe u v (with_it (is {l = l} q)) plain = ap (λ (k : Terminal). behind_dot_by (is_dot k) l v) q

pub no_union_maybe : (u v : List Lexeme) → Derives (maybe (word t.Dot)) u v → IsPlain v → begins_union u ≡ false
no_union_maybe u v without plain = no_union_plain u plain
no_union_maybe u v (with_it (is q)) plain = ap is_union q

abbrev pub OthersLeft : Scope → ℕ → List Lexeme → List Lexeme → Content → Type 0
OthersLeft scope n x r now = (y : List Lexeme) (d : Derives (name g.Group) x y) → IsWithinGroup (suc n) d →
    (w : List Lexeme) × (e : Derives others_form r w) × Derives (word t.CloseBrace) w y × IsWithinOthers n e × (closed (others_by scope now e) ≡ group_by scope d)

pub first_part : (scope : Scope) (n : ℕ) (x r : List Lexeme) (now : Content) → ReadsBlock scope nothing (behind_one x) r now → OthersLeft scope n x r now
first_part scope n x r now reads y (by (one_after (is p) (one_after {y = u} b (one_after {y = w} others c)))) within =
    let done = reads u b (past_others u w y others c) in
    subst (λ (v : List Lexeme). (w : List Lexeme) × (e : Derives others_form v w) × Derives (word t.CloseBrace) w y × IsWithinOthers n e × (closed (others_by scope now e) ≡ closed (others_by scope (with_block scope nothing b) others))) (sym done.0)
    (w, others, c, within, ap (λ (content : Content). closed (others_by scope content others)) done.1)

part_by : (scope : Scope) (n : ℕ) (r r1 r3 w y : List Lexeme) (now mid after : Content) (all : Option Pattern) (e : Derives others_form r w) (c : Derives (word t.CloseBrace) w y) → begins_other r ≡ true → IsWithinOthers n e →
    ReadsOther scope n now r r1 mid → ReadsBlock scope mid (behind_dot r1) r3 after → closed (others_by scope now e) ≡ all →
    (w : List Lexeme) × (f : Derives others_form r3 w) × Derives (word t.CloseBrace) w y × IsWithinOthers n f × (closed (others_by scope after f) ≡ all)
part_by scope n r r1 r3 w y now mid after all end (is q) at within other block whole = let odd = ap is_other q in absurd cc
part_by scope n r r1 r3 w y now mid after all (again {y = u3} (one_after {y = u1} o (one_after {y = u2} d b)) more) c at within other block whole =
    let past = past_others u3 w y more c in
    let plain = plain_block u2 u3 b past in
    let first = other u1 o (no_union_maybe u1 u2 d plain) within.0 in
    let here = subst (λ (v : List Lexeme). ReadsBlock scope mid v r3 after) (ap behind_dot first.0 ∙ behind_maybe u1 u2 d plain) block in
    let second = here u3 b past in
    subst (λ (v : List Lexeme). (w : List Lexeme) × (f : Derives others_form v w) × Derives (word t.CloseBrace) w y × IsWithinOthers n f × (closed (others_by scope after f) ≡ all)) (sym second.0)
    (w, more, c, within.1, ap (λ (content : Content). closed (others_by scope content more)) (second.1 ∙ ap (λ (content : Content). with_block scope content b) first.1) ∙ whole)

pub next_part : (scope : Scope) (n : ℕ) (x r r1 r3 : List Lexeme) (now mid after : Content) → begins_other r ≡ true → OthersLeft scope n x r now → ReadsOther scope n now r r1 mid → ReadsBlock scope mid (behind_dot r1) r3 after → OthersLeft scope n x r3 after
next_part scope n x r r1 r3 now mid after at stands other block y d within =
    let (w, e, c, inside, whole) = stands y d within in
    part_by scope n r r1 r3 w y now mid after (group_by scope d) e c at inside other block whole

last_part_by : (scope : Scope) (n : ℕ) (r w y : List Lexeme) (now : Content) (all : Option Pattern) (e : Derives others_form r w) → Derives (word t.CloseBrace) w y → begins_other r ≡ false → closed (others_by scope now e) ≡ all → (behind_one r ≡ y) × (closed now ≡ all)
last_part_by scope n r w y now all end (is q) none whole = (refl, whole)
last_part_by scope n r w y now all (again (one_after (by (left (one_after (is q) i))) b) more) c none whole = let odd = ap is_other q in absurd cc
last_part_by scope n r w y now all (again (one_after (by (right (one_after (by (one_after (is q) i)) unions))) b) more) c none whole = let odd = ap is_other q in absurd cc

pub last_part : (scope : Scope) (n : ℕ) (x r : List Lexeme) (now : Content) → OthersLeft scope (n - 1) x r now → 0 < n → begins_other r ≡ false → ReadsGroup scope n x (behind_one r) (closed now)
last_part scope zero x r now stands some none y d within = absurd within
last_part scope (suc n) x r now stands some none y d within =
    let one_less : suc n - 1 ≡ n = omega arith in
    let (w, e, c, inside, whole) = subst (λ (m : ℕ). OthersLeft scope m x r now) one_less stands y d within in
    last_part_by scope n r w y now (group_by scope d) e c none whole
