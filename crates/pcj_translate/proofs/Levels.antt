-- Braces and parentheses of derivations: a form closes what it opens, so that a group of a text within so many levels is within them.
use Rattle.std.proofs.Common.{◌≡◌, ℕ, zero, suc, ◌+◌, ◌-◌, Bool, true, false, not, List, refl, subst, arith}
use Rattle.std.proofs.lemmas.Bool.{and_parts, not-true}
use Rattle.pcj_grammar.specs.declared.lexeme.Lexeme.{Lexeme}
use Rattle.pcj_grammar.specs.declared.terminal.Terminal.{Terminal}
use Rattle.pcj_grammar.specs.declared.terminal.Terminal.TheVariants as t
use Rattle.pcj_grammar.specs.Grammar.{Name, Form, word, name, both, either, maybe, many, ◌▹◌, Derives, is, by, one_after, left, right, without, with_it, end, again, production}
use Rattle.pcj_grammar.specs.Grammar as g
use Rattle.pcj_grammar.specs.Text.{deeper, is_too_deep, stays_within}
use Rattle.pcj_translate.specs.Testing.{ors_form, ands_form, inner_form, IsWithinExpr, IsWithinOr, IsWithinAll, IsWithinAnd, IsWithinOne, IsWithinInner}
use Rattle.pcj_translate.specs.Group.{others_form, unions_form}
use Rattle.pcj_translate.specs.Grouping.{IsWithinGroup, IsWithinOthers, IsWithinOther, IsWithinUnions}

-- how many levels are open behind a form
abbrev pub level_after : Form → ℕ → ℕ
level_after (word w) k = deeper k w
level_after (name n) k = k
level_after (both f h) k = level_after h (level_after f k)
level_after (either f h) k = k
level_after (maybe f) k = k
level_after (many f) k = k

abbrev pub KeepsLevel : Form → Type 0
KeepsLevel f = (k : ℕ) → level_after f k ≡ k

-- what may be left out, or be again, closes what it opens
abbrev pub IsSteady : Form → Type 0
IsSteady (word w) = Unit {0}
IsSteady (name n) = Unit {0}
IsSteady (both f h) = IsSteady f × IsSteady h
IsSteady (either f h) = IsSteady f × IsSteady h × KeepsLevel f × KeepsLevel h
IsSteady (maybe f) = IsSteady f × KeepsLevel f
IsSteady (many f) = IsSteady f × KeepsLevel f

one_closed : (k : ℕ) → k + 1 - 1 ≡ k
one_closed k = omega arith

two_closed : (k : ℕ) → k + 1 + 1 - 1 - 1 ≡ k
two_closed k = omega arith

same_level : (k : ℕ) → k ≡ k
same_level k = refl

pub production_steady : (n : Name) → IsSteady (production n) × KeepsLevel (production n)
production_steady g.Query = ((((tt, (tt, tt)), same_level), (tt, ((tt, same_level), ((tt, (tt, same_level)), ((tt, same_level), (tt, ((tt, (tt, (tt, (tt, same_level)))), same_level))))))), same_level)
production_steady g.Item = ((tt, (tt, (tt, (tt, ((tt, same_level), ((tt, tt, same_level, same_level), (tt, (tt, (tt, tt)))))))), same_level, two_closed), same_level)
production_steady g.Func = ((tt, (tt, (tt, tt, same_level, same_level), same_level, same_level), same_level, same_level), same_level)
production_steady g.Group = ((tt, ((tt, same_level), (((tt, ((tt, same_level), (tt, same_level))), same_level), tt))), one_closed)
production_steady g.Other = (((tt, (tt, (tt, tt))), (tt, ((tt, tt), same_level)), one_closed, same_level), same_level)
production_steady g.Block = ((tt, ((tt, (tt, same_level)), same_level)), same_level)
production_steady g.Same = ((tt, (tt, (tt, ((tt, ((tt, tt), same_level)), same_level)))), same_level)
production_steady g.Verb = ((tt, (tt, tt, same_level, same_level), same_level, same_level), same_level)
production_steady g.Objects = ((tt, ((tt, tt), same_level)), same_level)
production_steady g.Value = ((tt, (tt, tt, same_level, same_level), same_level, same_level), same_level)
production_steady g.IriName = ((tt, (tt, tt, same_level, same_level), same_level, same_level), same_level)
production_steady g.Literal = ((tt, (tt, ((tt, (tt, tt), same_level, same_level), same_level)), same_level, same_level), same_level)
production_steady g.Expr = ((tt, ((tt, tt), same_level)), same_level)
production_steady g.All = ((tt, ((tt, tt), same_level)), same_level)
production_steady g.One = (((tt, (tt, (tt, tt))), ((tt, (tt, tt)), (tt, (tt, tt)), one_closed, same_level), one_closed, same_level), same_level)
production_steady g.Op = ((tt, (tt, (tt, (tt, (tt, tt, same_level, same_level), same_level, same_level), same_level, same_level), same_level, same_level), same_level, same_level), same_level)

-- a token at the front: it is not too deep, and the others stay within the levels behind it
pub word_stays : (w : Terminal) (k : ℕ) (x y : List Lexeme) → Derives (word w) x y → stays_within k x ≡ true → (is_too_deep k w ≡ false) × (stays_within (deeper k w) y ≡ true)
word_stays w k x y (is {l = l} q) within =
    subst (λ (v : Terminal). (is_too_deep k v ≡ false) × (stays_within (deeper k v) y ≡ true)) q (
      not-true (is_too_deep k l.terminal) (and_parts (not (is_too_deep k l.terminal)) (stays_within (deeper k l.terminal) y) within).0,
      (and_parts (not (is_too_deep k l.terminal)) (stays_within (deeper k l.terminal) y) within).1,
    )

pub stays : (f : Form) (k : ℕ) (x y : List Lexeme) → Derives f x y → IsSteady f → stays_within k x ≡ true → stays_within (level_after f k) y ≡ true
stays (word w) k x y (is q) steady within = (word_stays w k x y (is q) within).1
stays (name n) k x y (by d) steady within =
    subst (λ (j : ℕ). stays_within j y ≡ true) ((production_steady n).1 k) (stays (production n) k x y d (production_steady n).0 within)
stays (both f h) k x y (one_after {y = u} d e) steady within = stays h (level_after f k) u y e steady.1 (stays f k x u d steady.0 within)
stays (either f h) k x y (left d) steady within = subst (λ (j : ℕ). stays_within j y ≡ true) (steady.2 k) (stays f k x y d steady.0 within)
stays (either f h) k x y (right d) steady within = subst (λ (j : ℕ). stays_within j y ≡ true) (steady.3 k) (stays h k x y d steady.1 within)
stays (maybe f) k x y without steady within = within
stays (maybe f) k x y (with_it d) steady within = subst (λ (j : ℕ). stays_within j y ≡ true) (steady.1 k) (stays f k x y d steady.0 within)
stays (many f) k x y end steady within = within
stays (many f) k x y (again {y = u} d more) steady within =
    stays (many f) k u y more steady (subst (λ (j : ℕ). stays_within j u ≡ true) (steady.1 k) (stays f k x u d steady.0 within))

-- ---- conditions

not_full : (w : Terminal) (k : ℕ) → is_too_deep 64 w ≡ true → zero + k ≡ 64 → is_too_deep k w ≡ false → ⊥
not_full w k full sum free =
    let here : k ≡ 64 = omega (arith, sum) in
    apart (is_too_deep 64 w) full (subst (λ (j : ℕ). is_too_deep j w ≡ false) here free)
  where
    apart : (b : Bool) → b ≡ true → b ≡ false → ⊥
    apart true e f = absurd cc
    apart false e f = absurd cc

one_more : (n k : ℕ) → suc n + k ≡ 64 → n + (k + 1) ≡ 64
one_more n k sum = omega (arith, sum)

mutual
  pub within_inner : (n k : ℕ) (x y : List Lexeme) (d : Derives inner_form x y) → n + k ≡ 64 → stays_within k x ≡ true → IsWithinInner n d
  within_inner zero k x y (one_after {y = u} p rest) sum within = not_full t.OpenParen k refl sum (word_stays t.OpenParen k x u p within).0
  within_inner (suc n) k x y (one_after {y = u} p (one_after {y = v} e c)) sum within =
      within_expr n (k + 1) u v e (one_more n k sum) (word_stays t.OpenParen k x u p within).1

  pub within_expr : (n k : ℕ) (x y : List Lexeme) (d : Derives (name g.Expr) x y) → n + k ≡ 64 → stays_within k x ≡ true → IsWithinExpr n d
  within_expr n k x y (by (one_after {y = u} a more)) sum within =
      (within_all n k x u a sum within, within_ors n k u y more sum (stays (name g.All) k x u a tt within))

  within_ors : (n k : ℕ) (x y : List Lexeme) (d : Derives ors_form x y) → n + k ≡ 64 → stays_within k x ≡ true → IsWithinOr n d
  within_ors n k x y end sum within = tt
  within_ors n k x y (again {y = u} (one_after {y = v} w a) more) sum within =
      let behind = (word_stays t.Or k x v w within).1 in
      (within_all n k v u a sum behind, within_ors n k u y more sum (stays (name g.All) k v u a tt behind))

  within_all : (n k : ℕ) (x y : List Lexeme) (d : Derives (name g.All) x y) → n + k ≡ 64 → stays_within k x ≡ true → IsWithinAll n d
  within_all n k x y (by (one_after {y = u} a more)) sum within =
      (within_one n k x u a sum within, within_ands n k u y more sum (stays (name g.One) k x u a tt within))

  within_ands : (n k : ℕ) (x y : List Lexeme) (d : Derives ands_form x y) → n + k ≡ 64 → stays_within k x ≡ true → IsWithinAnd n d
  within_ands n k x y end sum within = tt
  within_ands n k x y (again {y = u} (one_after {y = v} w a) more) sum within =
      let behind = (word_stays t.And k x v w within).1 in
      (within_one n k v u a sum behind, within_ands n k u y more sum (stays (name g.One) k v u a tt behind))

  within_one : (n k : ℕ) (x y : List Lexeme) (d : Derives (name g.One) x y) → n + k ≡ 64 → stays_within k x ≡ true → IsWithinOne n d
  within_one n k x y (by (left (one_after {y = u} m d))) sum within = within_inner n k u y d sum (word_stays t.Not k x u m within).1
  within_one n k x y (by (right (left d))) sum within = within_inner n k x y d sum within
  within_one n k x y (by (right (right d))) sum within = tt

-- ---- groups

mutual
  pub within_group : (n k : ℕ) (x y : List Lexeme) (d : Derives (name g.Group) x y) → n + k ≡ 64 → stays_within k x ≡ true → IsWithinGroup n d
  within_group zero k x y (by (one_after {y = u} o rest)) sum within = not_full t.OpenBrace k refl sum (word_stays t.OpenBrace k x u o within).0
  within_group (suc n) k x y (by (one_after {y = u} o (one_after {y = v} b (one_after {y = w} others c)))) sum within =
      let behind = (word_stays t.OpenBrace k x u o within).1 in
      within_others n (k + 1) v w others (one_more n k sum) (stays (maybe (name g.Block)) (k + 1) u v b (tt, same_level) behind)

  within_others : (n k : ℕ) (x y : List Lexeme) (d : Derives others_form x y) → n + k ≡ 64 → stays_within k x ≡ true → IsWithinOthers n d
  within_others n k x y end sum within = tt
  within_others n k x y (again {y = u} (one_after {y = v} o (one_after {y = w} d b)) more) sum within =
      let past = stays (name g.Other) k x v o tt within in
      let dotted = stays (maybe (word t.Dot)) k v w d (tt, same_level) past in
      (within_other n k x v o sum within, within_others n k u y more sum (stays (maybe (name g.Block)) k w u b (tt, same_level) dotted))

  within_other : (n k : ℕ) (x y : List Lexeme) (d : Derives (name g.Other) x y) → n + k ≡ 64 → stays_within k x ≡ true → IsWithinOther n d
  within_other n k x y (by (left (one_after {y = u} f i))) sum within = within_inner n k u y i sum (word_stays t.Filter k x u f within).1
  within_other n k x y (by (right (one_after {y = u} group unions))) sum within =
      (within_group n k x u group sum within, within_unions n k u y unions sum (stays (name g.Group) k x u group tt within))

  within_unions : (n k : ℕ) (x y : List Lexeme) (d : Derives unions_form x y) → n + k ≡ 64 → stays_within k x ≡ true → IsWithinUnions n d
  within_unions n k x y end sum within = tt
  within_unions n k x y (again {y = u} (one_after {y = v} w group) more) sum within =
      let behind = (word_stays t.Union k x v w within).1 in
      (within_group n k v u group sum behind, within_unions n k u y more sum (stays (name g.Group) k v u group tt behind))

-- ---- queries

-- no more than so many braces and parentheses are open at once in the group of a query
abbrev pub IsWithinQuery : {x y : List Lexeme} → ℕ → Derives (name g.Query) x y → Type 0
IsWithinQuery n (by (one_after decls (one_after sel (one_after dis (one_after items (one_after wh (one_after group tail))))))) = IsWithinGroup n group

pub query_within : (x y : List Lexeme) (d : Derives (name g.Query) x y) → stays_within 0 x ≡ true → IsWithinQuery 64 d
query_within x y (by (one_after {y = x1} decls (one_after {y = x2} sel (one_after {y = x3} dis (one_after {y = x4} items (one_after {y = x5} wh (one_after {y = x6} group tail))))))) within =
    let steady = (production_steady g.Query).0 in
    let first = stays (many (word t.Prefix ▹ word t.Namespace ▹ word t.Iri)) 0 x x1 decls steady.0 within in
    let second = stays (word t.Select) 0 x1 x2 sel tt first in
    let third = stays (maybe (word t.Distinct)) 0 x2 x3 dis (tt, same_level) second in
    let fourth = stays (name g.Item ▹ many (name g.Item)) 0 x3 x4 items (tt, (tt, same_level)) third in
    within_group 64 0 x5 x6 group refl (stays (maybe (word t.Where)) 0 x4 x5 wh (tt, same_level) fourth)
