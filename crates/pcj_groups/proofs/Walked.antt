-- What a walk over a group finds is what its derivation says, a part at a time.
use Rattle.std.proofs.Common.{◌≡◌, ℕ, zero, suc, ◌-◌, ◌<◌, true, false, List, [], ◌∷◌, length, take, filter, refl, ap, sym, subst, ◌∙◌, arith}
use Rattle.pcj_algebra.specs.declared.triple_pattern.TriplePattern.{TriplePattern}
use Rattle.pcj_grammar.specs.declared.lexeme.Lexeme.{Lexeme}
use Rattle.pcj_grammar.specs.declared.terminal.Terminal.TheVariants as t
use Rattle.pcj_grammar.specs.Grammar.{Form, word, name, maybe, many, ◌▹◌, Derives, is, by, one_after, left, right, without, with_it, end, again}
use Rattle.pcj_grammar.specs.Grammar as g
use Rattle.pcj_translate.specs.Term.{Scope}
use Rattle.pcj_translate.specs.Adding.{AddsBlock, behind_one, behind_dot}
use Rattle.pcj_translate.specs.Uses.{expr_uses}
use Rattle.pcj_translate.specs.Group.{others_form, unions_form}
use Rattle.pcj_translate.specs.Grouping.{is_union, begins_union, is_brace, begins_brace, is_other, begins_other, IsWithinGroup, IsWithinOthers, IsWithinUnions, joint_form, IsWithinJoint}
use Rattle.pcj_translate.proofs.GroupsRead.{past_others, plain_block, behind_maybe, no_union_maybe}
use Rattle.pcj_groups.specs.declared.findings.Findings.{Findings}
use Rattle.pcj_groups.specs.Finding.{nothing, with_triples, with_uses, with_group, with_union, closed, with_block, group_found, others_found, unions_found, joint_found, place_at, is_use}
use Rattle.pcj_groups.specs.Walking.{WalksGroup, WalksJoint, WalksBlock, WalksOther, SkipsInner}
use Rattle.pcj_groups.proofs.UsesTaken.{inner_in, taken_uses}

-- ---- blocks

pub block_walked : (scope : Scope) (old new : Findings) (x z : List Lexeme) (triples slice : List TriplePattern) → AddsBlock scope x z [] triples → new ≡ with_triples old slice → slice ≡ triples → WalksBlock scope x z old new
block_walked scope old new x z triples slice adds added same y d past =
    let done = adds y d past in
    (done.0, added ∙ ap (λ (ts : List TriplePattern). with_triples old ts) (same ∙ done.1))

-- ---- groups that UNION joins

abbrev pub UnionsLeft : Scope → ℕ → List Lexeme → List Lexeme → List (List ℕ) → Findings → Findings → Type 0
UnionsLeft scope n x r first old now = (y : List Lexeme) (d : Derives joint_form x y) → begins_union y ≡ false → IsWithinJoint n d → (e : Derives unions_form r y) × IsWithinUnions n e × (unions_found scope first now e ≡ joint_found scope old d)

pub first_union : (scope : Scope) (n : ℕ) (x r : List Lexeme) (old group : Findings) → WalksGroup scope n x r group → UnionsLeft scope n x r group.names old (with_group old group)
first_union scope n x r old group walks y (one_after {y = w} d more) past within =
    let done = walks w d within.0 in
    subst (λ (v : List Lexeme). (e : Derives unions_form v y) × IsWithinUnions n e × (unions_found scope group.names (with_group old group) e ≡ unions_found scope (group_found scope d).names (with_group old (group_found scope d)) more)) (sym done.0)
    (more, within.1, ap (λ (f : Findings). unions_found scope f.names (with_group old f) more) done.1)

union_by : (scope : Scope) (n : ℕ) (r r2 y : List Lexeme) (first : List (List ℕ)) (now group all : Findings) (e : Derives unions_form r y) → begins_union r ≡ true → begins_union y ≡ false → IsWithinUnions n e → WalksGroup scope n (behind_one r) r2 group → unions_found scope first now e ≡ all →
    (f : Derives unions_form r2 y) × IsWithinUnions n f × (unions_found scope first (with_union now first (place_at r) group) f ≡ all)
union_by scope n r r2 y first now group all end at past within walks whole = absurd cc
union_by scope n [] r2 y first now group all (again d more) at past within walks whole = absurd cc
union_by scope n (l ∷ r) r2 y first now group all (again {y = w} (one_after (is q) d) more) at past within walks whole =
    let done = walks w d within.0 in
    subst (λ (v : List Lexeme). (f : Derives unions_form v y) × IsWithinUnions n f × (unions_found scope first (with_union now first l.at group) f ≡ all)) (sym done.0)
    (more, within.1, ap (λ (last : Findings). unions_found scope first (with_union now first l.at last) more) done.1 ∙ whole)

pub next_union : (scope : Scope) (n : ℕ) (x r r2 : List Lexeme) (first : List (List ℕ)) (old now group : Findings) → begins_union r ≡ true → UnionsLeft scope n x r first old now → WalksGroup scope n (behind_one r) r2 group → UnionsLeft scope n x r2 first old (with_union now first (place_at r) group)
next_union scope n x r r2 first old now group at stands walks y d past within =
    let so_far = stands y d past within in
    union_by scope n r r2 y first now group (joint_found scope old d) so_far.0 at past so_far.1 walks so_far.2

last_union_by : (scope : Scope) (n : ℕ) (r y : List Lexeme) (first : List (List ℕ)) (now all : Findings) (e : Derives unions_form r y) → begins_union r ≡ false → unions_found scope first now e ≡ all → (r ≡ y) × (now ≡ all)
last_union_by scope n r y first now all end none whole = (refl, whole)
last_union_by scope n r y first now all (again (one_after (is q) a) more) none whole = let odd = ap is_union q in absurd cc

pub last_union : (scope : Scope) (n : ℕ) (x r : List Lexeme) (first : List (List ℕ)) (old now : Findings) → UnionsLeft scope n x r first old now → begins_union r ≡ false → WalksJoint scope n x r old now
last_union scope n x r first old now stands none y d past within =
    let so_far = stands y d past within in
    last_union_by scope n r y first now (joint_found scope old d) so_far.0 none so_far.2

-- ---- one part of a group

pub other_joint : (scope : Scope) (n : ℕ) (old new : Findings) (x z : List Lexeme) → begins_brace x ≡ true → WalksJoint scope n x z old new → WalksOther scope n x z old new
other_joint scope n old new x z at walks y (by (left (one_after (is q) i))) past within = let odd = ap is_brace q in absurd cc
other_joint scope n old new x z at walks y (by (right (one_after group unions))) past within = walks y (one_after group unions) past within

pub other_condition : (scope : Scope) (n : ℕ) (old new : Findings) (x z : List Lexeme) → begins_brace x ≡ false → SkipsInner n (behind_one x) z → new ≡ with_uses old (filter is_use (take (length (behind_one x) - length z) (behind_one x))) → WalksOther scope n x z old new
other_condition scope n old new x z none skips added y (by (left (one_after (is {x = w} q) (one_after p (one_after e c))))) past within =
    let done = skips y (one_after p (one_after e c)) within in
    (done, added ∙ ap (with_uses old) (ap (λ (v : List Lexeme). filter is_use (take (length w - length v) w)) done ∙ taken_uses w y (expr_uses e) (inner_in w y p e c)))
other_condition scope n old new x z none skips added y (by (right (one_after (by (one_after (is q) b)) unions))) past within = let odd = ap is_brace q in absurd cc

-- ---- the parts of a group

abbrev pub OthersLeft : Scope → ℕ → List Lexeme → List Lexeme → Findings → Type 0
OthersLeft scope n x r now = (y : List Lexeme) (d : Derives (name g.Group) x y) → IsWithinGroup (suc n) d →
    (w : List Lexeme) × (e : Derives others_form r w) × Derives (word t.CloseBrace) w y × IsWithinOthers n e × (closed scope (place_at x) (others_found scope now e) ≡ group_found scope d)

pub first_part : (scope : Scope) (n : ℕ) (x r : List Lexeme) (now : Findings) → WalksBlock scope (behind_one x) r nothing now → OthersLeft scope n x r now
first_part scope n x r now walks y (by (one_after (is {l = l} p) (one_after {y = u} b (one_after {y = w} others c)))) within =
    let done = walks u b (past_others u w y others c) in
    subst (λ (v : List Lexeme). (w : List Lexeme) × (e : Derives others_form v w) × Derives (word t.CloseBrace) w y × IsWithinOthers n e × (closed scope l.at (others_found scope now e) ≡ closed scope l.at (others_found scope (with_block scope nothing b) others))) (sym done.0)
    (w, others, c, within, ap (λ (found : Findings). closed scope l.at (others_found scope found others)) done.1)

part_by : (scope : Scope) (n : ℕ) (place : ℕ) (r r1 r3 w y : List Lexeme) (now mid after all : Findings) (e : Derives others_form r w) (c : Derives (word t.CloseBrace) w y) → begins_other r ≡ true → IsWithinOthers n e →
    WalksOther scope n r r1 now mid → WalksBlock scope (behind_dot r1) r3 mid after → closed scope place (others_found scope now e) ≡ all →
    (w : List Lexeme) × (f : Derives others_form r3 w) × Derives (word t.CloseBrace) w y × IsWithinOthers n f × (closed scope place (others_found scope after f) ≡ all)
part_by scope n place r r1 r3 w y now mid after all end (is q) at within other block whole = let odd = ap is_other q in absurd cc
part_by scope n place r r1 r3 w y now mid after all (again {y = u3} (one_after {y = u1} o (one_after {y = u2} d b)) more) c at within other block whole =
    let past = past_others u3 w y more c in
    let plain = plain_block u2 u3 b past in
    let first = other u1 o (no_union_maybe u1 u2 d plain) within.0 in
    let here = subst (λ (v : List Lexeme). WalksBlock scope v r3 mid after) (ap behind_dot first.0 ∙ behind_maybe u1 u2 d plain) block in
    let second = here u3 b past in
    subst (λ (v : List Lexeme). (w : List Lexeme) × (f : Derives others_form v w) × Derives (word t.CloseBrace) w y × IsWithinOthers n f × (closed scope place (others_found scope after f) ≡ all)) (sym second.0)
    (w, more, c, within.1, ap (λ (found : Findings). closed scope place (others_found scope found more)) (second.1 ∙ ap (λ (found : Findings). with_block scope found b) first.1) ∙ whole)

pub next_part : (scope : Scope) (n : ℕ) (x r r1 r3 : List Lexeme) (now mid after : Findings) → begins_other r ≡ true → OthersLeft scope n x r now → WalksOther scope n r r1 now mid → WalksBlock scope (behind_dot r1) r3 mid after → OthersLeft scope n x r3 after
next_part scope n x r r1 r3 now mid after at stands other block y d within =
    let (w, e, c, inside, whole) = stands y d within in
    part_by scope n (place_at x) r r1 r3 w y now mid after (group_found scope d) e c at inside other block whole

last_part_by : (scope : Scope) (n : ℕ) (place : ℕ) (r w y : List Lexeme) (now all : Findings) (e : Derives others_form r w) → Derives (word t.CloseBrace) w y → begins_other r ≡ false → closed scope place (others_found scope now e) ≡ all → (behind_one r ≡ y) × (closed scope place now ≡ all)
last_part_by scope n place r w y now all end (is q) none whole = (refl, whole)
last_part_by scope n place r w y now all (again (one_after (by (left (one_after (is q) i))) b) more) c none whole = let odd = ap is_other q in absurd cc
last_part_by scope n place r w y now all (again (one_after (by (right (one_after (by (one_after (is q) i)) unions))) b) more) c none whole = let odd = ap is_other q in absurd cc

pub last_part : (scope : Scope) (n : ℕ) (x r : List Lexeme) (now : Findings) → OthersLeft scope (n - 1) x r now → 0 < n → begins_other r ≡ false → WalksGroup scope n x (behind_one r) (closed scope (place_at x) now)
last_part scope zero x r now stands some none y d within = absurd within
last_part scope (suc n) x r now stands some none y d within =
    let one_less : suc n - 1 ≡ n = omega arith in
    let (w, e, c, inside, whole) = subst (λ (m : ℕ). OthersLeft scope m x r now) one_less stands y d within in
    last_part_by scope n (place_at x) r w y now (group_found scope d) e c none whole

-- ---- fewer tokens

pub union_fewer : (r : List Lexeme) → begins_union r ≡ true → length (behind_one r) < length r
union_fewer [] at = absurd cc
union_fewer (l ∷ r) at = omega arith

-- ---- with the reader's steps between them

pub union_first : (scope : Scope) (n : ℕ) (x r : List Lexeme) (old group new : Findings) → WalksGroup scope n x r group → new ≡ with_group old group → UnionsLeft scope n x r group.names old new
union_first scope n x r old group new walks added = subst (λ (f : Findings). UnionsLeft scope n x r group.names old f) (sym added) (first_union scope n x r old group walks)

pub union_step : (scope s : Scope) (n place : ℕ) (x r r1 r2 : List Lexeme) (first : List (List ℕ)) (old now group new : Findings) → begins_union r ≡ true → UnionsLeft scope n x r first old now → r1 ≡ behind_one r → place ≡ place_at r →
    WalksGroup s n r1 r2 group → s ≡ scope → new ≡ with_union now first place group → UnionsLeft scope n x r2 first old new
union_step scope s n place x r r1 r2 first old now group new at stands behind here walks same added =
    let scoped = subst (λ (q : Scope). WalksGroup q n r1 r2 group) same walks in
    let next = next_union scope n x r r2 first old now group at stands (subst (λ (v : List Lexeme). WalksGroup scope n v r2 group) behind scoped) in
    subst (λ (f : Findings). UnionsLeft scope n x r2 first old f) (sym (added ∙ ap (λ (p : ℕ). with_union now first p group) here)) next

pub part_first : (scope s : Scope) (n : ℕ) (x r0 r : List Lexeme) (start now : Findings) → WalksBlock s r0 r start now → s ≡ scope → r0 ≡ behind_one x → start ≡ nothing → OthersLeft scope n x r now
part_first scope s n x r0 r start now block same behind empty =
    let scoped = subst (λ (q : Scope). WalksBlock q r0 r start now) same block in
    let fresh = subst (λ (f : Findings). WalksBlock scope r0 r f now) empty scoped in
    first_part scope n x r now (subst (λ (v : List Lexeme). WalksBlock scope v r nothing now) behind fresh)

pub part_step : (scope s1 s2 : Scope) (n : ℕ) (x r r1 r2 r3 : List Lexeme) (now mid after : Findings) → begins_other r ≡ true → OthersLeft scope n x r now → WalksOther s1 n r r1 now mid → s1 ≡ scope → r2 ≡ behind_dot r1 →
    WalksBlock s2 r2 r3 mid after → s2 ≡ scope → OthersLeft scope n x r3 after
part_step scope s1 s2 n x r r1 r2 r3 now mid after at stands other same behind block same_block =
    let scoped = subst (λ (q : Scope). WalksOther q n r r1 now mid) same other in
    let scoped_block = subst (λ (q : Scope). WalksBlock q r2 r3 mid after) same_block block in
    next_part scope n x r r1 r3 now mid after at stands scoped (subst (λ (v : List Lexeme). WalksBlock scope v r3 mid after) behind scoped_block)

pub group_done : (scope s : Scope) (n place : ℕ) (x r z : List Lexeme) (now new : Findings) → OthersLeft scope (n - 1) x r now → 0 < n → begins_other r ≡ false → z ≡ behind_one r → s ≡ scope → place ≡ place_at x → new ≡ closed s place now → WalksGroup scope n x z new
group_done scope s n place x r z now new stands some none behind same here ended =
    subst (λ (v : List Lexeme). WalksGroup scope n x v new) (sym behind)
    (subst (λ (f : Findings). WalksGroup scope n x (behind_one r) f) (sym (ended ∙ ap (λ (q : Scope). closed q place now) same ∙ ap (λ (p : ℕ). closed scope p now) here)) (last_part scope n x r now stands some none))
