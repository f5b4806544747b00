-- What reading a condition gives is what its derivation says.
use Rattle.std.proofs.Common.{◌≡◌, ℕ, zero, suc, ◌<◌, ◌≤◌, ◌-◌, length, arith, true, false, List, [], ◌∷◌, refl, ap, sym, subst, ◌∙◌}
use Rattle.pcj_expr.specs.declared.expr.Expr.{Expr}
use Rattle.pcj_expr.specs.declared.expr.Expr.TheVariants.{Or, And, Not}
use Rattle.pcj_grammar.specs.declared.lexeme.Lexeme.{Lexeme}
use Rattle.pcj_grammar.specs.declared.terminal.Terminal.{Terminal}
use Rattle.pcj_grammar.specs.declared.terminal.Terminal.TheVariants as t
use Rattle.pcj_grammar.specs.Grammar.{Form, word, name, maybe, many, ◌▹◌, ◌or◌, Derives, is, by, one_after, left, right, without, with_it, end, again}
use Rattle.pcj_grammar.specs.Grammar as g
use Rattle.pcj_translate.specs.Term.{Scope}
use Rattle.pcj_translate.specs.Filter.{expr_by, more_or, all_by, more_and, one_by}
use Rattle.pcj_translate.specs.Adding.{behind_one, is_value}
use Rattle.pcj_translate.proofs.BlocksRead.{value_begins}
use Rattle.pcj_translate.specs.Testing.{ends_test, IsPastTest, test_by, ReadsTest, ors_form, ands_form, inner_form, IsWithinExpr, IsWithinOr, IsWithinAll, IsWithinAnd, inner_by, is_and, begins_and, is_or, begins_or, ends_all, IsPastAll, ends_expr, IsPastExpr, ReadsInner, ReadsOne, ReadsAll, ReadsExpr, is_not, begins_not, is_paren, begins_paren}

-- ---- what follows what

all_ends_test : (k : Terminal) → ends_all k ≡ true → ends_test k ≡ true
all_ends_test t.Or e = refl
all_ends_test t.CloseParen e = refl
all_ends_test _ e = absurd cc

expr_ends_all : (k : Terminal) → ends_expr k ≡ true → ends_all k ≡ true
expr_ends_all t.CloseParen e = refl
expr_ends_all _ e = absurd cc

past_ands : (z y : List Lexeme) → Derives ands_form z y → IsPastAll y → IsPastTest z
past_ands [] y d past = tt
past_ands (l ∷ z) y end past = all_ends_test l.terminal past
past_ands (l ∷ z) y (again (one_after (is e) v) vs) past = ap ends_test e

past_ors : (z y : List Lexeme) → Derives ors_form z y → IsPastExpr y → IsPastAll z
past_ors [] y d past = tt
past_ors (l ∷ z) y end past = expr_ends_all l.terminal past
past_ors (l ∷ z) y (again (one_after (is e) v) vs) past = ap ends_all e

-- ---- the loop over `And`

abbrev pub AndsLeft : Scope → ℕ → List Lexeme → List Lexeme → Expr → Type 0
AndsLeft scope n x r now = (y : List Lexeme) (d : Derives (name g.All) x y) → IsPastAll y → IsWithinAll n d → (e : Derives ands_form r y) × IsWithinAnd n e × (more_and scope now e ≡ all_by scope d)

pub first_and : (scope : Scope) (n : ℕ) (x r : List Lexeme) (now : Expr) → ReadsOne scope n x r now → AndsLeft scope n x r now
first_and scope n x r now reads y (by (one_after {y = w} a more)) past within =
    let done = reads w a (past_ands w y more past) within.0 in
    subst (λ (v : List Lexeme). (e : Derives ands_form v y) × IsWithinAnd n e × (more_and scope now e ≡ more_and scope (one_by scope a) more)) (sym done.0)
    (more, within.1, ap (λ (first : Expr). more_and scope first more) done.1)

and_by : (scope : Scope) (n : ℕ) (c : Lexeme) (r r2 y : List Lexeme) (mid next all : Expr) (e : Derives ands_form (c ∷ r) y) → c.terminal ≡ t.And → IsPastAll y → IsWithinAnd n e → ReadsOne scope n r r2 next → more_and scope mid e ≡ all →
    (f : Derives ands_form r2 y) × IsWithinAnd n f × (more_and scope (And mid next) f ≡ all)
and_by scope n c r r2 y mid next all end at past within reads whole = let odd = ap ends_all at in absurd cc
and_by scope n c r r2 y mid next all (again {y = w} (one_after (is q) a) more) at past within reads whole =
    let done = reads w a (past_ands w y more past) within.0 in
    subst (λ (v : List Lexeme). (f : Derives ands_form v y) × IsWithinAnd n f × (more_and scope (And mid next) f ≡ all)) (sym done.0)
    (more, within.1, ap (λ (last : Expr). more_and scope (And mid last) more) done.1 ∙ whole)

pub next_and : (scope : Scope) (n : ℕ) (x r r2 : List Lexeme) (c : Lexeme) (mid next : Expr) → c.terminal ≡ t.And → AndsLeft scope n x (c ∷ r) mid → ReadsOne scope n r r2 next → AndsLeft scope n x r2 (And mid next)
next_and scope n x r r2 c mid next at stands reads y d past within =
    let so_far = stands y d past within in
    and_by scope n c r r2 y mid next (all_by scope d) so_far.0 at past so_far.1 reads so_far.2

last_and_by : (scope : Scope) (n : ℕ) (r y : List Lexeme) (now all : Expr) (e : Derives ands_form r y) → begins_and r ≡ false → more_and scope now e ≡ all → (r ≡ y) × (now ≡ all)
last_and_by scope n r y now all end none whole = (refl, whole)
last_and_by scope n r y now all (again (one_after (is q) a) more) none whole = let odd = ap is_and q in absurd cc

pub last_and : (scope : Scope) (n : ℕ) (x r : List Lexeme) (now : Expr) → AndsLeft scope n x r now → begins_and r ≡ false → ReadsAll scope n x r now
last_and scope n x r now stands none y d past within =
    let so_far = stands y d past within in
    last_and_by scope n r y now (all_by scope d) so_far.0 none so_far.2

-- ---- the loop over `Or`

abbrev pub OrsLeft : Scope → ℕ → List Lexeme → List Lexeme → Expr → Type 0
OrsLeft scope n x r now = (y : List Lexeme) (d : Derives (name g.Expr) x y) → IsPastExpr y → IsWithinExpr n d → (e : Derives ors_form r y) × IsWithinOr n e × (more_or scope now e ≡ expr_by scope d)

pub first_or : (scope : Scope) (n : ℕ) (x r : List Lexeme) (now : Expr) → ReadsAll scope n x r now → OrsLeft scope n x r now
first_or scope n x r now reads y (by (one_after {y = w} a more)) past within =
    let done = reads w a (past_ors w y more past) within.0 in
    subst (λ (v : List Lexeme). (e : Derives ors_form v y) × IsWithinOr n e × (more_or scope now e ≡ more_or scope (all_by scope a) more)) (sym done.0)
    (more, within.1, ap (λ (first : Expr). more_or scope first more) done.1)

or_by : (scope : Scope) (n : ℕ) (c : Lexeme) (r r2 y : List Lexeme) (mid next all : Expr) (e : Derives ors_form (c ∷ r) y) → c.terminal ≡ t.Or → IsPastExpr y → IsWithinOr n e → ReadsAll scope n r r2 next → more_or scope mid e ≡ all →
    (f : Derives ors_form r2 y) × IsWithinOr n f × (more_or scope (Or mid next) f ≡ all)
or_by scope n c r r2 y mid next all end at past within reads whole = let odd = ap ends_expr at in absurd cc
or_by scope n c r r2 y mid next all (again {y = w} (one_after (is q) a) more) at past within reads whole =
    let done = reads w a (past_ors w y more past) within.0 in
    subst (λ (v : List Lexeme). (f : Derives ors_form v y) × IsWithinOr n f × (more_or scope (Or mid next) f ≡ all)) (sym done.0)
    (more, within.1, ap (λ (last : Expr). more_or scope (Or mid last) more) done.1 ∙ whole)

pub next_or : (scope : Scope) (n : ℕ) (x r r2 : List Lexeme) (c : Lexeme) (mid next : Expr) → c.terminal ≡ t.Or → OrsLeft scope n x (c ∷ r) mid → ReadsAll scope n r r2 next → OrsLeft scope n x r2 (Or mid next)
next_or scope n x r r2 c mid next at stands reads y d past within =
    let so_far = stands y d past within in
    or_by scope n c r r2 y mid next (expr_by scope d) so_far.0 at past so_far.1 reads so_far.2

last_or_by : (scope : Scope) (n : ℕ) (r y : List Lexeme) (now all : Expr) (e : Derives ors_form r y) → begins_or r ≡ false → more_or scope now e ≡ all → (r ≡ y) × (now ≡ all)
last_or_by scope n r y now all end none whole = (refl, whole)
last_or_by scope n r y now all (again (one_after (is q) a) more) none whole = let odd = ap is_or q in absurd cc

pub last_or : (scope : Scope) (n : ℕ) (x r : List Lexeme) (now : Expr) → OrsLeft scope n x r now → begins_or r ≡ false → ReadsExpr scope n x r now
last_or scope n x r now stands none y d past within =
    let so_far = stands y d past within in
    last_or_by scope n r y now (expr_by scope d) so_far.0 none so_far.2

-- ---- one condition

pub behind_one_fewer : (x : List Lexeme) → length (behind_one x) ≤ length x
behind_one_fewer [] = omega arith
behind_one_fewer (l ∷ x) = omega arith

pub inner_none : (scope : Scope) (n : ℕ) (x z : List Lexeme) (e : Expr) → n ≡ 0 → ReadsInner scope n x z e
inner_none scope zero x z e none y d within = absurd within
inner_none scope (suc n) x z e none y d within = absurd cc

pub inner_done : (scope : Scope) (n : ℕ) (x r : List Lexeme) (e : Expr) → 0 < n → ReadsExpr scope (n - 1) (behind_one x) r e → ReadsInner scope n x (behind_one r) e
inner_done scope zero x r e some reads y d within = absurd within
inner_done scope (suc n) x r e some reads y (one_after (is p) (one_after f (is {l = c} q))) within =
    let one_less : n ≡ suc n - 1 = omega arith in
    let done = reads (c ∷ y) f (ap ends_expr q) (subst (λ (m : ℕ). IsWithinExpr m f) one_less within) in
    (ap behind_one done.0, done.1)

not_by : {x y : List Lexeme} (scope : Scope) (d : Derives (word t.Not) x y) {z : List Lexeme} (i : Derives inner_form y z) → one_by scope (by (left (one_after d i))) ≡ Not (inner_by scope i)
not_by scope d (one_after p (one_after e c)) = refl

group_by : {x y : List Lexeme} (scope : Scope) (i : Derives inner_form x y) → one_by scope (by (right (left i))) ≡ inner_by scope i
group_by scope (one_after p (one_after e c)) = refl

test_is : {x y : List Lexeme} (scope : Scope) (d : Derives (name g.Value ▹ name g.Op ▹ name g.Value) x y) → one_by scope (by (right (right d))) ≡ test_by scope d
test_is scope (one_after v (one_after o w)) = refl

not_begins_value : (l : Lexeme) → is_not l.terminal ≡ true → is_value l.terminal ≡ true → ⊥
not_begins_value l e f = by_kind l.terminal e f
  where
    by_kind : (k : Terminal) → is_not k ≡ true → is_value k ≡ true → ⊥
    by_kind t.Not e f = absurd cc
    by_kind _ e f = absurd cc

paren_begins_value : (l : Lexeme) → is_paren l.terminal ≡ true → is_value l.terminal ≡ true → ⊥
paren_begins_value l e f = by_kind l.terminal e f
  where
    by_kind : (k : Terminal) → is_paren k ≡ true → is_value k ≡ true → ⊥
    by_kind t.OpenParen e f = absurd cc
    by_kind _ e f = absurd cc

pub one_not : (scope : Scope) (n : ℕ) (x z : List Lexeme) (e : Expr) → begins_not x ≡ true → ReadsInner scope n (behind_one x) z e → ReadsOne scope n x z (Not e)
one_not scope n x z e at reads y (by (left (one_after (is {l = l} {x = r} q) i))) past within =
    let done = reads y i within in
    (done.0, ap (λ (inner : Expr). Not inner) done.1 ∙ sym (not_by scope (is {l = l} {x = r} q) i))
one_not scope n x z e at reads y (by (right (left (one_after (is q) i)))) past within = let odd = ap is_not q in absurd cc
one_not scope n [] z e at reads y (by (right (right (one_after v o)))) past within = absurd cc
one_not scope n (l ∷ x) z e at reads y (by (right (right (one_after {y = w} v o)))) past within = absurd (not_begins_value l at (value_begins (l ∷ x) w v))

pub one_group : (scope : Scope) (n : ℕ) (x z : List Lexeme) (e : Expr) → begins_paren x ≡ true → ReadsInner scope n x z e → ReadsOne scope n x z e
one_group scope n x z e at reads y (by (left (one_after (is q) i))) past within = let odd = ap is_paren q in absurd cc
one_group scope n x z e at reads y (by (right (left i))) past within =
    let done = reads y i within in
    (done.0, done.1 ∙ sym (group_by scope i))
one_group scope n [] z e at reads y (by (right (right (one_after v o)))) past within = absurd cc
one_group scope n (l ∷ x) z e at reads y (by (right (right (one_after {y = w} v o)))) past within = absurd (paren_begins_value l at (value_begins (l ∷ x) w v))

pub one_test : (scope : Scope) (n : ℕ) (x z : List Lexeme) (e : Expr) → begins_not x ≡ false → begins_paren x ≡ false → ReadsTest scope x z e → ReadsOne scope n x z e
one_test scope n x z e no_not no_paren reads y (by (left (one_after (is q) i))) past within = let odd = ap is_not q in absurd cc
one_test scope n x z e no_not no_paren reads y (by (right (left (one_after (is q) i)))) past within = let odd = ap is_paren q in absurd cc
one_test scope n x z e no_not no_paren reads y (by (right (right d))) past within =
    let done = reads y d past in
    (done.0, done.1 ∙ sym (test_is scope d))
